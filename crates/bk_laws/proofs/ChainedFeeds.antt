-- Feeds whose links follow each other are a chain.
use Rattle.std.proofs.Common.{◌≡◌, ◌⊎◌, ℕ, inl, inr, Bool, true, false, if◌then◌else◌, List, [], ◌∷◌, ◌++◌, Option, Some, None, refl, sym, ap, ◌∙◌, subst, ◌<◌, ◌^◌, length, arith}
use Rattle.std.specs.Prelude.{All, Contains, not}
use Rattle.std.specs.Str.{bytes_eq}
use Rattle.std.proofs.lemmas.List.Concat.{flat_map-cons}
use Rattle.std.proofs.lemmas.List.Elements.{All-cons, All-head, All-nil, All-tail, Contains-append_left, Contains-append_right, Contains-append_cases}
use Rattle.std.proofs.lemmas.Slice.Eq.{bytes_eq-Decides}
use Rattle.sha2.proofs.Facts256.{length-sha256}
use Rattle.bk_base.specs.declared.version.Version.{Version}
use Rattle.bk_base.specs.declared.version.Version.TheVariants as version
use Rattle.bk_base.specs.Feed.{genesis_of}
use Rattle.bk_report.specs.Proofs.{IsDigest, IsRow}
use Rattle.bk_results.specs.declared.status.Status.{Status}
use Rattle.bk_answer.specs.RunReport.{committee_in, later_frames, reach_of}
use Rattle.bk_answer.proofs.Counting.{few_named, few_places}
use Rattle.bk_base.specs.Genesis.{total_of}
use Rattle.bk_base.proofs.Accounts.{genesis_accounts, genesis_few}
use Rattle.bk_ledger.proofs.Growth.{state_long}
use Rattle.bk_ledger.specs.Naming.{named_by}
use Rattle.bk_report.specs.Leaves.{leaves_of}
use Rattle.bk_rules.specs.Fold.{state_after}
use Rattle.bk_rules.proofs.Folding.{length-receipts, total_below}
use Rattle.bk_tx.specs.Batches.{transactions_of}
use Rattle.bk_chain.specs.declared.verdict.Break.TheVariants as break
use Rattle.bk_chain.specs.Chain.{AllFollow, IsChainOf, break_of, is_short, same_version}
use Rattle.bk_chain.specs.Line.{Fits}
use Rattle.bk_chain.proofs.Results.{same_links}
use Rattle.bk_chain.specs.Chains.{AreChain, GoesOn}
use Rattle.bk_laws.specs.Binding.{HashCollision}
use Rattle.bk_laws.specs.Chained.{DigestsSuffice, LinksFit, IsLinked, Linked, feeds_in, hashed_in, links_in}
use Rattle.bk_laws.specs.Hashed.{hashed_for_state}
use Rattle.bk_laws.proofs.BindingHashes.{sha_bytes}
use Rattle.bk_laws.proofs.BindingRows.{accounts_bind}
use Rattle.bk_laws.proofs.BindingTrees.{root_digest}
use Rattle.bk_laws.proofs.Texts.{later_part}
use Rattle.bk_laws.proofs.Fitting.{opening_fits, rows_after_fit}

-- ---- where a link follows

no_break : (s t u : Bool) → (if not s then Some break.Version else (if t then Some break.Short else (if u then None else Some break.Opening))) ≡ None
    → (s ≡ true) × (t ≡ false) × (u ≡ true)
no_break true false true e = (refl, refl, refl)
no_break true false false e = absurd cc
no_break true true u e = absurd cc
no_break false t u e = absurd cc

one_version : (v w : Version) → same_version v w ≡ true → w ≡ v
one_version version.One version.One e = refl
one_version version.Two version.Two e = refl
one_version version.One version.Two e = absurd cc
one_version version.Two version.One e = absurd cc

not_short : (o : Option (List ℕ)) (s : Status) → s ≡ reach_of o → is_short s ≡ false → o ≡ None
not_short None s e f = refl
not_short (Some d) s e f = absurd (cc (sym (ap is_short e) ∙ f))

-- ---- collisions among more

wider : (xs ys : List (List ℕ)) → ((s : List ℕ) → Contains xs s → Contains ys s) → HashCollision xs → HashCollision ys
wider xs ys more c = record {
  one = c.one;
  other = c.other;
  among = (more c.one c.among.0, more c.other c.among.1);
  are_bytes = c.are_bytes;
  apart = c.apart;
  same_hash = c.same_hash;
}

abbrev own : Linked → List (List ℕ)
own l = hashed_for_state (genesis_of l.replayed.feed.frames) ++ hashed_for_state l.replayed.end.rows

later : (l : Linked) (more : List Linked) → HashCollision (hashed_in more) → HashCollision (hashed_in (l ∷ more))
later l more c =
    wider (hashed_in more) (hashed_in (l ∷ more))
    (λ s k. subst (λ (xs : List (List ℕ)). Contains xs s) (sym (flat_map-cons own l more)) (Contains-append_right (own l) (hashed_in more) s k)) c

-- of the accounts at the end of one and of the opening ones of the next
between : (l m : Linked) (more : List Linked) → HashCollision (hashed_for_state (genesis_of m.replayed.feed.frames) ++ hashed_for_state l.replayed.end.rows)
    → HashCollision (hashed_in (l ∷ m ∷ more))
between l m more c = wider (opening ++ closing) (hashed_in (l ∷ m ∷ more)) found c
  where
    opening : List (List ℕ)
    opening = hashed_for_state (genesis_of m.replayed.feed.frames)

    closing : List (List ℕ)
    closing = hashed_for_state l.replayed.end.rows

    all : hashed_in (l ∷ m ∷ more) ≡ own l ++ (own m ++ hashed_in more)
    all = flat_map-cons own l (m ∷ more) ∙ ap (λ (xs : List (List ℕ)). own l ++ xs) (flat_map-cons own m more)

    in_next : (s : List ℕ) → Contains opening s → Contains (own l ++ (own m ++ hashed_in more)) s
    in_next s k = Contains-append_right (own l) (own m ++ hashed_in more) s (Contains-append_left (own m) (hashed_in more) s (Contains-append_left opening (hashed_for_state m.replayed.end.rows) s k))

    in_one : (s : List ℕ) → Contains closing s → Contains (own l ++ (own m ++ hashed_in more)) s
    in_one s k = Contains-append_left (own l) (own m ++ hashed_in more) s (Contains-append_right (hashed_for_state (genesis_of l.replayed.feed.frames)) closing s k)

    found : (s : List ℕ) → Contains (opening ++ closing) s → Contains (hashed_in (l ∷ m ∷ more)) s
    found s k = subst (λ (xs : List (List ℕ)). Contains xs s) (sym all) (elim (Contains-append_cases opening closing s k) [
      | inl next ↦ in_next s next
      | inr here ↦ in_one s here
    ])

-- ---- the chain

closing_fits : (l : Linked) → IsLinked l → All IsRow l.replayed.end.rows
closing_fits l is = subst (All IsRow) (sym is.link.outcome.rows) (rows_after_fit l.replayed.feed l.replayed.end.ordered is.are_bytes is.good is.link.outcome.ordered).0

goes_on : (l m : Linked) → IsLinked l → IsLinked m → break_of l.link m.link ≡ None → genesis_of m.replayed.feed.frames ≡ l.replayed.end.rows → GoesOn l.replayed m.replayed
goes_on l m is other follows same =
    let parts = no_break (same_version l.link.version m.link.version) (is_short l.link.end) (bytes_eq m.link.opening l.link.closing) follows in
    record {
      version = sym other.link.version ∙ (one_version l.link.version m.link.version parts.0 ∙ is.link.version);
      whole = not_short l.replayed.end.ordered.payloads.missing l.link.end is.link.end parts.1;
      opening = same;
    }

same_rows : (l m : Linked) → IsLinked l → IsLinked m → break_of l.link m.link ≡ None
    → (genesis_of m.replayed.feed.frames ≡ l.replayed.end.rows) ⊎ HashCollision (hashed_for_state (genesis_of m.replayed.feed.frames) ++ hashed_for_state l.replayed.end.rows)
same_rows l m is other follows =
    let parts = no_break (same_version l.link.version m.link.version) (is_short l.link.end) (bytes_eq m.link.opening l.link.closing) follows in
    let digests : m.link.opening ≡ l.link.closing = (bytes_eq-Decides m.link.opening l.link.closing).0 parts.2 in
    accounts_bind (genesis_of m.replayed.feed.frames) l.replayed.end.rows (opening_fits m.replayed.feed other.are_bytes other.good) (closing_fits l is)
    (sym other.link.opening ∙ (digests ∙ is.link.closing))

chained : (linked : List Linked) → All IsLinked linked → AllFollow (links_in linked) → AreChain (feeds_in linked) ⊎ HashCollision (hashed_in linked)
chained [] all follow = inl tt
chained (l ∷ []) all follow = let is = All-head IsLinked l [] all in inl (is.good, is.link.outcome)
chained (l ∷ m ∷ more) all follow =
    let is = All-head IsLinked l (m ∷ more) all in
    let rest = All-tail IsLinked l (m ∷ more) all in
    let other = All-head IsLinked m more rest in
    joined (same_rows l m is other follow.0) (chained (m ∷ more) rest follow.1) is other
  where
    joined : (genesis_of m.replayed.feed.frames ≡ l.replayed.end.rows) ⊎ HashCollision (hashed_for_state (genesis_of m.replayed.feed.frames) ++ hashed_for_state l.replayed.end.rows)
        → AreChain (feeds_in (m ∷ more)) ⊎ HashCollision (hashed_in (m ∷ more)) → IsLinked l → IsLinked m → AreChain (feeds_in (l ∷ m ∷ more)) ⊎ HashCollision (hashed_in (l ∷ m ∷ more))
    joined (inr c) rest is other = inr (between l m more c)
    joined (inl same) (inr c) is other = inr (later l (m ∷ more) c)
    joined (inl same) (inl chain) is other = inl ((is.good, is.link.outcome), goes_on l m is other follow.0 same, chain)

-- ---- a link in a line

pub links_fit : LinksFit
links_fit feed reached v good link =
    let o = link.outcome in
    let txs = transactions_of reached.ordered.payloads.list in
    let opening = genesis_of feed.frames in
    let few : length txs < 2 ^ 31 = few_places feed.version (committee_in feed) feed.frames (later_frames feed) reached.ordered good.good (later_part feed.frames) o.ordered in
    let named : named_by txs < 2 ^ 29 = few_named feed.version (committee_in feed) feed.frames (later_frames feed) reached.ordered good.good (later_part feed.frames) o.ordered in
    let low : total_of (state_after feed.version txs opening) < 2 ^ 63 = total_below feed.version txs opening (genesis_accounts feed.version feed.frames good) in
    let counted : length reached.receipts ≡ length txs = ap length o.receipts ∙ length-receipts feed.version txs opening in
    let long : length reached.rows ≡ length (state_after feed.version txs opening) = ap length o.rows in
    let sum : total_of reached.rows ≡ total_of (state_after feed.version txs opening) = ap total_of o.rows in
    record {
      committee = subst IsDigest (sym link.committee) (record { sized = length-sha256 _; bytes = sha_bytes _ });
      opening = subst IsDigest (sym link.opening) (root_digest (leaves_of opening));
      closing = subst IsDigest (sym link.closing) (root_digest (leaves_of reached.rows));
      accounts = omega (arith, link.accounts, long, named, state_long feed.version txs opening, genesis_few feed.frames);
      money = omega (arith, link.money, low, sum);
      transactions = omega (arith, link.transactions, counted, few);
    }

-- ---- the links of a text

each_fits : (linked : List Linked) → All IsLinked linked → All Fits (links_in linked)
each_fits [] all = All-nil Fits
each_fits (l ∷ more) all =
    let is = All-head IsLinked l more all in
    All-cons Fits l.link (links_in more) (links_fit l.replayed.feed l.replayed.end l.link is.good is.link) (each_fits more (All-tail IsLinked l more all))

pub digests_suffice : DigestsSuffice
digests_suffice linked text c all lines good =
    let judged : IsChainOf good.links c = good.judged in
    let same = same_links good.links (links_in linked) good.are.fit (each_fits linked all) (sym good.are.lines ∙ lines) in
    chained linked all (subst AllFollow same judged.follow)
