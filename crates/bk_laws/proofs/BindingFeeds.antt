-- What the digest in a report's last line binds.
use Rattle.std.proofs.Common.{◌≡◌, ◌≢◌, ◌⊎◌, ℕ, suc, ◌*◌, inl, inr, List, [], ◌∷◌, ◌++◌, length, Some, refl, sym, ap, ◌∙◌, subst, append_assoc, arith, length-append}
use Rattle.std.specs.Prelude.{All, Contains, map, slice_get, codes}
use Rattle.std.proofs.lemmas.List.{append-nil}
use Rattle.std.proofs.lemmas.List.Concat.{flat_map-append, flat_map-cons}
use Rattle.std.proofs.lemmas.List.Elements.{All-weaker, Contains-append_left, Contains-append_right, Contains-append_cases}
use Rattle.hex.specs.Hex.{IsBytes, encode_lower, lower_digits, decode_of}
use Rattle.hex.proofs.HexLemmas.{length-encode_with, decode_of-encode_lower, decode_of-same}
use Rattle.bk_base.specs.declared.genesis.Row.{Row}
use Rattle.bk_base.specs.Feed.{FeedValue, genesis_of}
use Rattle.bk_base.specs.Genesis.{total_of}
use Rattle.bk_base.proofs.Accounts.{genesis_accounts}
use Rattle.bk_frames.proofs.OneReading.{one_feed}
use Rattle.bk_committee.specs.Payload.{CommitteeValue}
use Rattle.bk_cert.proofs.Lists.{none_in_nil, contains_cases}
use Rattle.bk_rules.specs.Rows.{IsLedger}
use Rattle.bk_rules.proofs.Folding.{ledger_kept_by_fold, ledger_of_accounts}
use Rattle.bk_report.specs.declared.line.Line.{Line}
use Rattle.bk_report.specs.declared.line.Line.TheVariants as line
use Rattle.bk_report.specs.Leaves.{leaves_of, state_of}
use Rattle.bk_report.specs.Lines.{line_text, text_of}
use Rattle.bk_report.specs.Proofs.{IsDigest, IsRow, IsGoodProof}
use Rattle.bk_report.specs.Report.{tx_lines, account_lines}
use Rattle.bk_report.specs.RunLines.{Reading, head_lines, order_lines, batches_lines, run_lines}
use Rattle.bk_tx.specs.Batches.{count_in, transactions_of}
use Rattle.bk_results.specs.declared.query.Query.TheVariants as query
use Rattle.bk_results.specs.declared.query.Reply.{Reply}
use Rattle.bk_results.specs.declared.query.Reply.TheVariants as reply
use Rattle.bk_results.specs.declared.status.Status.{Status}
use Rattle.bk_ask.specs.Asking.{Ending, IsReply, Replies}
use Rattle.bk_answer.specs.RunReport.{IsReport, Reads, committee_in}
use Rattle.bk_laws.specs.Binding.{HashCollision, ReportsState}
use Rattle.bk_laws.specs.Hashed.{hashed_for_state, hashed_for_proof}
use Rattle.bk_laws.proofs.BindingHashes.{split_same, split_back}
use Rattle.bk_laws.proofs.BindingTrees.{root_digest}
use Rattle.bk_laws.proofs.BindingRows.{accounts_bind, account_found}
use Rattle.bk_laws.proofs.Fitting.{accounts_fit}
use Rattle.bk_laws.proofs.Proving.{same_rows}
use Rattle.bk_laws.proofs.Replying.{one_index}

-- ---- the digest in a last line

hex_same : (d e : List ℕ) → IsDigest d → IsDigest e → encode_lower d ≡ encode_lower e → d ≡ e
hex_same d e one other h = decode_of-same (encode_lower d) d e (decode_of-encode_lower d one.bytes) (ap decode_of h ∙ decode_of-encode_lower e other.bytes)

-- two texts that end in a word, a space, something equally long and a line feed
last_same : (a b word x y : List ℕ) → length x ≡ length y → a ++ ((word ++ 32 ∷ x) ++ 10 ∷ []) ≡ b ++ ((word ++ 32 ∷ y) ++ 10 ∷ []) → x ≡ y
last_same a b word x y l e =
    let long : length ((word ++ 32 ∷ x) ++ 10 ∷ []) ≡ length ((word ++ 32 ∷ y) ++ 10 ∷ []) = omega (arith, length-append (word ++ 32 ∷ x) (10 ∷ []), length-append (word ++ 32 ∷ y) (10 ∷ []), length-append word (32 ∷ x), length-append word (32 ∷ y), l) in
    let one = split_back a b ((word ++ 32 ∷ x) ++ 10 ∷ []) ((word ++ 32 ∷ y) ++ 10 ∷ []) long e in
    let two = split_back (word ++ 32 ∷ x) (word ++ 32 ∷ y) (10 ∷ []) (10 ∷ []) refl one.1 in
    let three = split_same word word (32 ∷ x) (32 ∷ y) refl two.0 in
    cc three.1

hex_length : (d e : List ℕ) → IsDigest d → IsDigest e → length (encode_lower d) ≡ length (encode_lower e)
hex_length d e one other = length-encode_with lower_digits d ∙ ap (λ (n : ℕ). 2 * n) (one.sized ∙ sym other.sized) ∙ sym (length-encode_with lower_digits e)

text_end : (xs : List Line) (l : Line) → text_of (xs ++ l ∷ []) ≡ text_of xs ++ (line_text l ++ 10 ∷ [])
text_end xs l =
    flat_map-append (λ (x : Line). line_text x ++ 10 ∷ []) xs (l ∷ [])
    ∙ ap (λ (t : List ℕ). text_of xs ++ t) (flat_map-cons (λ (x : Line). line_text x ++ 10 ∷ []) l [] ∙ append-nil (line_text l ++ 10 ∷ []))

one_digest : (xs ys : List Line) (d e : List ℕ) → IsDigest d → IsDigest e → text_of (xs ++ line.State d ∷ []) ≡ text_of (ys ++ line.State e ∷ []) → d ≡ e
one_digest xs ys d e one other same =
    let ends : text_of xs ++ (line_text (line.State d) ++ 10 ∷ []) ≡ text_of ys ++ (line_text (line.State e) ++ 10 ∷ []) = sym (text_end xs (line.State d)) ∙ same ∙ text_end ys (line.State e) in
    hex_same d e one other (last_same (text_of xs) (text_of ys) (codes "state") (encode_lower d) (encode_lower e) (hex_length d e one other) ends)

-- ---- the report of a feed

-- the lines of a run end in that of the state
pub run_ends : (k : CommitteeValue) (frames : ℕ) (r : Reading) → (front : List Line) × (run_lines k frames r ≡ front ++ line.State (state_of r.rows) ∷ [])
run_ends k frames r =
    let head = head_lines k frames ++ order_lines r.rejected r.waiting r.ordered.anchors r.ordered.order ++ batches_lines (map count_in r.ordered.payloads.list) r.ordered.payloads.missing in
    let ledger = tx_lines 0 r.receipts ++ account_lines r.rows in
    let money = line.Money (total_of r.rows) ∷ [] in
    let state = line.State (state_of r.rows) ∷ [] in
    (head ++ (ledger ++ money), sym (append_assoc head (ledger ++ money) state ∙ ap (λ (t : List Line). head ++ t) (append_assoc ledger money state)))

pub reports_end : (bytes report : List ℕ) (status : Status) → IsReport bytes report status → (rows : List Row) × ReportsState bytes rows (state_of rows)
reports_end bytes report status h =
    let r = h.holds.reading in
    let ends = run_ends (committee_in h.feed) (length h.feed.frames) r in (
      r.rows,
      record {
        report = report;
        status = status;
        reported = h;
        rows_are = refl;
        ends = record { front = ends.0; is_digest = root_digest (leaves_of r.rows); text_is = h.holds.report ∙ ap text_of ends.1 };
      },
    )

module _ (bytes digest : List ℕ) (rows : List Row) (h : ReportsState bytes rows digest) where
  digest_is : digest ≡ state_of rows
  digest_is =
      let r = h.reported.holds.reading in
      let ends = run_ends (committee_in h.reported.feed) (length h.reported.feed.frames) r in
      one_digest h.ends.front ends.0 digest (state_of r.rows) h.ends.is_digest (root_digest (leaves_of r.rows)) (sym h.ends.text_is ∙ h.reported.holds.report ∙ ap text_of ends.1)
      ∙ ap state_of (sym h.rows_are)

  rows_fit : IsBytes bytes → All IsRow rows
  rows_fit are = subst (All IsRow) (sym h.rows_are) (accounts_fit h.reported.feed h.reported.holds.reading (subst IsBytes h.reported.spelled are) h.reported.good h.reported.holds.reads).0

  rows_rise : IsLedger rows
  rows_rise =
      let feed = h.reported.feed in
      let r = h.reported.holds.reading in
      subst IsLedger (sym (h.rows_are ∙ h.reported.holds.reads.rows))
      (ledger_kept_by_fold feed.version (transactions_of r.ordered.payloads.list) (genesis_of feed.frames) (ledger_of_accounts (genesis_of feed.frames) (genesis_accounts feed.version feed.frames h.reported.good)))

-- ---- the laws of states

pub states_bind : (bytes more digest : List ℕ) (rows others : List Row) → IsBytes bytes → IsBytes more → ReportsState bytes rows digest → ReportsState more others digest
    → (rows ≡ others) ⊎ HashCollision (hashed_for_state rows ++ hashed_for_state others)
states_bind bytes more digest rows others are also h g =
    accounts_bind rows others (rows_fit bytes digest rows h are) (rows_fit more digest others g also) (sym (digest_is bytes digest rows h) ∙ digest_is more digest others g)

-- the accounts of a reply are those of the report
replied_rows : (bytes digest text root : List ℕ) (rows : List Row) (answer : Reply) → ReportsState bytes rows digest → (g : IsReply bytes (query.State root) answer text) → rows ≡ g.holds.end.outcome.rows
replied_rows bytes digest text root rows answer h g =
    let one : g.feed ≡ h.reported.feed = one_feed g.feed h.reported.feed g.good h.reported.good (sym g.spelled ∙ h.reported.spelled) in
    h.rows_are ∙ same_rows g.feed g.holds.end.outcome h.reported.holds.reading g.holds.ending.outcome (subst (λ (f : FeedValue). Reads f h.reported.holds.reading) (sym one) h.reported.holds.reads)

-- a reply that is not the one of a wrong digest shows that it is right
right_root : (root text : List ℕ) (end : Ending) (answer : Reply) → Replies (query.State root) end answer text → answer ≢ reply.Wrong → root ≡ state_of end.outcome.rows
right_root root text end reply.Found h right = h.0.0
right_root root text end reply.Short h right = h.0.0
right_root root text end reply.Wrong h right = absurd (right refl)
right_root root text end reply.Absent h right = absurd h.0

pub good_states : (bytes digest text : List ℕ) (rows claimed : List Row) (answer : Reply) → IsBytes bytes → All IsRow claimed → ReportsState bytes rows digest
    → IsReply bytes (query.State (state_of claimed)) answer text → answer ≢ reply.Wrong → (rows ≡ claimed) ⊎ HashCollision (hashed_for_state rows ++ hashed_for_state claimed)
good_states bytes digest text rows claimed answer are fit h g right =
    let same = replied_rows bytes digest text (state_of claimed) rows answer h g in
    let root = right_root (state_of claimed) text g.holds.end answer g.holds.replies right in
    accounts_bind rows claimed (rows_fit bytes digest rows h are) fit (ap state_of same ∙ sym root)

-- ---- the laws of proofs

pub good_proofs : (bytes digest text : List ℕ) (rows : List Row) → IsBytes bytes → ReportsState bytes rows digest → (good : IsGoodProof (encode_lower digest) text)
    → Contains rows good.proof.account ⊎ HashCollision (hashed_for_state rows ++ hashed_for_proof good.proof)
good_proofs bytes digest text rows are h good =
    let p = good.proof in
    let state : p.state ≡ state_of rows = sym (hex_same digest p.state h.ends.is_digest good.valid.state good.root_is) ∙ digest_is bytes digest rows h in
    account_found rows p.account p.index p.size p.path (rows_fit bytes digest rows h are) good.valid.account
    (All-weaker IsDigest IsBytes (λ d is. is.bytes) p.path good.valid.path)
    (good.leads ∙ ap (λ (d : List ℕ). Some d) state)

found_at : (rows : List Row) (a : Row) → Contains rows a → (i : ℕ) × (slice_get rows i ≡ Some a)
found_at [] a h = absurd (none_in_nil a h)
found_at (r ∷ rows) a h = elim (contains_cases r rows a h) [
  | inl e ↦ (0, ap (λ (x : Row). Some x) e)
  | inr later ↦ let m = found_at rows a later in (suc m.0, m.1)
]

one_row : (rows : List Row) (a b : Row) → IsLedger rows → Contains rows a → Contains rows b → a.id ≡ b.id → a ≡ b
one_row rows a b ledger h g same =
    let one = found_at rows a h in
    let other = found_at rows b g in
    let index : one.0 ≡ other.0 = one_index rows one.0 other.0 a b ledger one.1 other.1 same in
    let found : Some a ≡ Some b = sym one.1 ∙ (ap (slice_get rows) index ∙ other.1) in
    cc

-- a collision among some strings is one among more
wider : (xs ys : List (List ℕ)) → ((s : List ℕ) → Contains xs s → Contains ys s) → HashCollision xs → HashCollision ys
wider xs ys more c = record {
  one = c.one;
  other = c.other;
  among = (more c.one c.among.0, more c.other c.among.1);
  are_bytes = c.are_bytes;
  apart = c.apart;
  same_hash = c.same_hash;
}

wider_left : (a b c : List (List ℕ)) → HashCollision (a ++ b) → HashCollision (a ++ b ++ c)
wider_left a b c = wider (a ++ b) (a ++ b ++ c) (λ s h. Contains-append_left (a ++ b) c s h)

wider_right : (a b c : List (List ℕ)) → HashCollision (a ++ c) → HashCollision (a ++ b ++ c)
wider_right a b c = wider (a ++ c) (a ++ b ++ c) (λ s h. elim (Contains-append_cases a c s h) [
  | inl first ↦ Contains-append_left (a ++ b) c s (Contains-append_left a b s first)
  | inr last ↦ Contains-append_right (a ++ b) c s last
])

pub one_proof : (bytes digest text words : List ℕ) (rows : List Row) → IsBytes bytes → ReportsState bytes rows digest → (one : IsGoodProof (encode_lower digest) text) (other : IsGoodProof (encode_lower digest) words)
    → one.proof.account.id ≡ other.proof.account.id → (one.proof.account ≡ other.proof.account) ⊎ HashCollision (hashed_for_state rows ++ hashed_for_proof one.proof ++ hashed_for_proof other.proof)
one_proof bytes digest text words rows are h one other same = elim (good_proofs bytes digest text rows are h one) [
  | inr c ↦ inr (wider_left (hashed_for_state rows) (hashed_for_proof one.proof) (hashed_for_proof other.proof) c)
  | inl first ↦ elim (good_proofs bytes digest words rows are h other) [
    | inr c ↦ inr (wider_right (hashed_for_state rows) (hashed_for_proof one.proof) (hashed_for_proof other.proof) c)
    | inl second ↦ inl (one_row rows one.proof.account other.proof.account (rows_rise bytes digest rows h) first second same)
  ]
]
