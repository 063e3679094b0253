-- A feed that has a report replies to each query in one way.
use Rattle.std.proofs.Common.{◌≡◌, ◌⊎◌, ℕ, zero, suc, List, [], ◌∷◌, length, get_or, Option, Some, None, Bool, true, false, true≢false, refl, sym, ap, subst, ◌∙◌, inl, inr, ⊎_elim, arith}
use Rattle.std.specs.Prelude.{slice_get}
use Rattle.std.specs.Str.{bytes_eq}
use Rattle.std.proofs.lemmas.Slice.Eq.{bytes_eq-Decides}
use Rattle.std.specs.List.{Contains}
use Rattle.std.proofs.lemmas.Bool.{cases_eq, cases_lt}
use Rattle.std.proofs.lemmas.Option.{slice_get_within}
use Rattle.bk_digest.specs.Tree.{path_of}
use Rattle.bk_base.specs.declared.genesis.Row.{Row}
use Rattle.bk_base.specs.Feed.{FeedValue, IsFeed, genesis_of, spelling}
use Rattle.bk_base.specs.Genesis.{ids_of}
use Rattle.bk_base.proofs.Accounts.{genesis_accounts}
use Rattle.bk_frames.proofs.OneReading.{one_feed}
use Rattle.bk_order.proofs.OneReading.{one_ordered}
use Rattle.bk_order.specs.Orders.{Ordered}
use Rattle.bk_committee.specs.Payload.{sizes_of}
use Rattle.bk_cert.specs.Node.{Node}
use Rattle.bk_commit.specs.Growth.{IsPartOf}
use Rattle.bk_commit.specs.Ordering.{IsCommitted}
use Rattle.bk_cert.proofs.Lists.{none_in_nil, contains_cases, contains_first, contains_later}
use Rattle.bk_rules.specs.declared.account.Account.{Account}
use Rattle.bk_rules.specs.declared.receipt.Receipt.{Receipt}
use Rattle.bk_rules.specs.Fold.{receipts_of, state_after}
use Rattle.bk_rules.specs.Rows.{IsLedger, account_at}
use Rattle.bk_rules.proofs.Finding.{rises_by_index}
use Rattle.bk_rules.proofs.Folding.{ledger_kept_by_fold, ledger_of_accounts}
use Rattle.bk_report.specs.Leaves.{leaves_of, state_of}
use Rattle.bk_report.specs.Lines.{text_of}
use Rattle.bk_report.specs.declared.line.Line.TheVariants as line
use Rattle.bk_report.specs.Proofs.{IsAbsent, IsProofOf, ProofValue, proof_text}
use Rattle.bk_tx.specs.Batches.{transactions_of}
use Rattle.bk_results.specs.declared.query.Query.{Query}
use Rattle.bk_results.specs.declared.query.Query.TheVariants as query
use Rattle.bk_results.specs.declared.query.Reply.{Reply}
use Rattle.bk_results.specs.declared.query.Reply.TheVariants as reply
use Rattle.bk_results.specs.declared.status.Status.{Status}
use Rattle.bk_answer.specs.Outcomes.{IsOutcomeOf, Outcome}
use Rattle.bk_ask.specs.Asking.{Ending, IsEndingOf, IsReply, IsShort, IsWhole, Replies, course_of, order_text}
use Rattle.bk_views.specs.Anchors.{rows_text}
use Rattle.bk_views.specs.Statement.{IsNowhere, account_at_end, entries, statement_text}
use Rattle.bk_views.specs.declared.entry.Entry.{Entry}
use Rattle.bk_views.proofs.OneRows.{one_rows}
use Rattle.bk_laws.proofs.AnchorRows.{rows_exist}
use Rattle.bk_answer.specs.RunReport.{IsReport, committee_in, later_frames}

-- ---- the one account of an id

id_at : (rows : List Row) (i : ℕ) (a : Row) → slice_get rows i ≡ Some a → get_or (ids_of rows) i 0 ≡ a.id
id_at [] i a e = absurd cc
id_at (r ∷ rows) zero a e = let same : r ≡ a = cc in ap (λ (x : Row). x.id) same
id_at (r ∷ rows) (suc i) a e = id_at rows i a e

length-ids : (rows : List Row) → length (ids_of rows) ≡ length rows
length-ids [] = refl
length-ids (r ∷ rows) = omega (arith, length-ids rows)

pub one_index : (rows : List Row) (i j : ℕ) (a b : Row) → IsLedger rows → slice_get rows i ≡ Some a → slice_get rows j ≡ Some b → a.id ≡ b.id → i ≡ j
one_index rows i j a b ledger e f same =
    let at_i = id_at rows i a e in
    let at_j = id_at rows j b f in
    let low_i = slice_get_within rows i a e in
    let low_j = slice_get_within rows j b f in
    let count = length-ids rows in
    ⊎_elim
    (λ lt. absurd (let rises = rises_by_index (ids_of rows) ledger.ascending i j lt (omega arith) in omega arith))
    (λ ge. ⊎_elim (λ lt. absurd (let rises = rises_by_index (ids_of rows) ledger.ascending j i lt (omega arith) in omega arith)) (λ le. omega arith) (cases_lt j i))
    (cases_lt i j)

one_proof : (rows : List Row) (id : ℕ) (p q : ProofValue) → IsLedger rows → IsProofOf rows id p → IsProofOf rows id q → p ≡ q
one_proof rows id p q ledger h g =
    let index : p.index ≡ q.index = one_index rows p.index q.index p.account q.account ledger h.found g.found (h.same_id ∙ sym g.same_id) in
    let found : Some p.account ≡ Some q.account = sym h.found ∙ (ap (slice_get rows) index ∙ g.found) in
    let account : p.account ≡ q.account = cc in
    let state : p.state ≡ q.state = h.state ∙ sym g.state in
    let size : p.size ≡ q.size = h.size ∙ sym g.size in
    let path : p.path ≡ q.path = h.path ∙ (ap (path_of (leaves_of rows)) index ∙ sym g.path) in
    λ i. record { state = state i; size = size i; index = index i; account = account i; path = path i }

-- ---- a reply is the one

found_in : (rows : List Row) (i : ℕ) (a : Row) → slice_get rows i ≡ Some a → Contains rows a
found_in [] i a e = absurd cc
found_in (r ∷ rows) zero a e = let same : r ≡ a = cc in subst (Contains (r ∷ rows)) same (contains_first r rows)
found_in (r ∷ rows) (suc i) a e = contains_later r rows a (found_in rows i a e)

-- an answer and its text
IsSame : Reply → List ℕ → Reply → List ℕ → Type 0
IsSame a t b u = (a ≡ b) × (t ≡ u)

some_not_none : {X : Type 0} (o : Option X) (x : X) → o ≡ Some x → o ≡ None → ⊥
some_not_none o x e f = absurd cc

-- the same end with its certificates in another list
abbrev with_certs : Ending → List Node → Ending
with_certs end certs = record { version = end.version; committee = end.committee; opening = end.opening; certs = certs; outcome = end.outcome }

some_missing : (end : Ending) → IsShort end → IsWhole end → ⊥
some_missing end short whole = some_not_none end.outcome.ordered.payloads.missing short.0 short.1 whole

one_reply : (asked : Query) (end : Ending) (certs : List Node) (a b : Reply) (t u : List ℕ) → IsPartOf end.certs certs → IsPartOf certs end.certs → IsLedger end.outcome.rows → Replies asked end a t → Replies asked (with_certs end certs) b u
    → IsSame a t b u
unfolding IsSame
one_reply query.Order end certs reply.Found reply.Found t u into from ledger h g = (refl, h ∙ sym g)
one_reply query.Order end certs reply.Found reply.Absent t u into from ledger h g = absurd g.0
one_reply query.Order end certs reply.Found reply.Short t u into from ledger h g = absurd g
one_reply query.Order end certs reply.Found reply.Wrong t u into from ledger h g = absurd g
one_reply query.Order end certs reply.Short b t u into from ledger h g = absurd h
one_reply query.Order end certs reply.Wrong b t u into from ledger h g = absurd h
one_reply query.Order end certs reply.Absent b t u into from ledger h g = absurd h.0
one_reply (query.Account id) end certs reply.Found reply.Found t u into from ledger h g =
    let found : Some h.0 ≡ Some g.0 = sym h.1 ∙ g.1 in
    let same : h.0 ≡ g.0 = cc in
    (refl, h.2 ∙ (ap (λ (a : Account). text_of (line.Account id a.balance a.seq ∷ [])) same ∙ sym g.2))
one_reply (query.Account id) end certs reply.Found reply.Absent t u into from ledger h g = absurd (some_not_none (account_at end.outcome.rows id) h.0 h.1 g.0)
one_reply (query.Account id) end certs reply.Absent reply.Found t u into from ledger h g = absurd (some_not_none (account_at end.outcome.rows id) g.0 g.1 h.0)
one_reply (query.Account id) end certs reply.Absent reply.Absent t u into from ledger h g = (refl, h.1 ∙ sym g.1)
one_reply (query.Account id) end certs reply.Found reply.Short t u into from ledger h g = absurd g
one_reply (query.Account id) end certs reply.Found reply.Wrong t u into from ledger h g = absurd g
one_reply (query.Account id) end certs reply.Absent reply.Short t u into from ledger h g = absurd g
one_reply (query.Account id) end certs reply.Absent reply.Wrong t u into from ledger h g = absurd g
one_reply (query.Account id) end certs reply.Short b t u into from ledger h g = absurd h
one_reply (query.Account id) end certs reply.Wrong b t u into from ledger h g = absurd h
one_reply (query.Receipt place) end certs reply.Found reply.Found t u into from ledger h g =
    let found : Some h.0 ≡ Some g.0 = sym h.1 ∙ g.1 in
    let same : h.0 ≡ g.0 = cc in
    (refl, h.2 ∙ (ap (λ (r : Receipt). text_of (line.Tx place r.status r.moved ∷ [])) same ∙ sym g.2))
one_reply (query.Receipt place) end certs reply.Found reply.Absent t u into from ledger h g = absurd (some_not_none (slice_get end.outcome.receipts place) h.0 h.1 g.0)
one_reply (query.Receipt place) end certs reply.Absent reply.Found t u into from ledger h g = absurd (some_not_none (slice_get end.outcome.receipts place) g.0 g.1 h.0)
one_reply (query.Receipt place) end certs reply.Absent reply.Absent t u into from ledger h g = (refl, h.1 ∙ sym g.1)
one_reply (query.Receipt place) end certs reply.Found reply.Short t u into from ledger h g = absurd g
one_reply (query.Receipt place) end certs reply.Found reply.Wrong t u into from ledger h g = absurd g
one_reply (query.Receipt place) end certs reply.Absent reply.Short t u into from ledger h g = absurd g
one_reply (query.Receipt place) end certs reply.Absent reply.Wrong t u into from ledger h g = absurd g
one_reply (query.Receipt place) end certs reply.Short b t u into from ledger h g = absurd h
one_reply (query.Receipt place) end certs reply.Wrong b t u into from ledger h g = absurd h
one_reply (query.Proof id) end certs reply.Found reply.Found t u into from ledger h g = (refl, h.2 ∙ (ap proof_text (one_proof end.outcome.rows id h.0 g.0 ledger h.1 g.1) ∙ sym g.2))
one_reply (query.Proof id) end certs reply.Found reply.Absent t u into from ledger h g = absurd (g.0 h.0.account (found_in end.outcome.rows h.0.index h.0.account h.1.found) h.1.same_id)
one_reply (query.Proof id) end certs reply.Absent reply.Found t u into from ledger h g = absurd (h.0 g.0.account (found_in end.outcome.rows g.0.index g.0.account g.1.found) g.1.same_id)
one_reply (query.Proof id) end certs reply.Absent reply.Absent t u into from ledger h g = (refl, h.1 ∙ sym g.1)
one_reply (query.Proof id) end certs reply.Found reply.Short t u into from ledger h g = absurd g
one_reply (query.Proof id) end certs reply.Found reply.Wrong t u into from ledger h g = absurd g
one_reply (query.Proof id) end certs reply.Absent reply.Short t u into from ledger h g = absurd g
one_reply (query.Proof id) end certs reply.Absent reply.Wrong t u into from ledger h g = absurd g
one_reply (query.Proof id) end certs reply.Short b t u into from ledger h g = absurd h
one_reply (query.Proof id) end certs reply.Wrong b t u into from ledger h g = absurd h
one_reply (query.State root) end certs reply.Found reply.Found t u into from ledger h g = (refl, h.0.1 ∙ sym g.0.1)
one_reply (query.State root) end certs reply.Found reply.Short t u into from ledger h g = absurd (some_not_none end.outcome.ordered.payloads.missing g.1.0 g.1.1 h.1)
one_reply (query.State root) end certs reply.Found reply.Wrong t u into from ledger h g = absurd (g.0 h.0.0)
one_reply (query.State root) end certs reply.Short reply.Found t u into from ledger h g = absurd (some_not_none end.outcome.ordered.payloads.missing h.1.0 h.1.1 g.1)
one_reply (query.State root) end certs reply.Short reply.Short t u into from ledger h g = (refl, h.0.1 ∙ sym g.0.1)
one_reply (query.State root) end certs reply.Short reply.Wrong t u into from ledger h g = absurd (g.0 h.0.0)
one_reply (query.State root) end certs reply.Wrong reply.Found t u into from ledger h g = absurd (h.0 g.0.0)
one_reply (query.State root) end certs reply.Wrong reply.Short t u into from ledger h g = absurd (h.0 g.0.0)
one_reply (query.State root) end certs reply.Wrong reply.Wrong t u into from ledger h g = (refl, h.1 ∙ sym g.1)
one_reply (query.State root) end certs reply.Found reply.Absent t u into from ledger h g = absurd g.0
one_reply (query.State root) end certs reply.Short reply.Absent t u into from ledger h g = absurd g.0
one_reply (query.State root) end certs reply.Wrong reply.Absent t u into from ledger h g = absurd g.0
one_reply (query.State root) end certs reply.Absent b t u into from ledger h g = absurd h.0
one_reply query.Anchors end certs reply.Found reply.Found t u into from ledger h g =
    (refl, h.2 ∙ (ap rows_text (one_rows (sizes_of end.committee) end.certs certs into from end.outcome.ordered.anchors h.0 g.0 h.1 g.1) ∙ sym g.2))
one_reply query.Anchors end certs reply.Found reply.Absent t u into from ledger h g = absurd g.0
one_reply query.Anchors end certs reply.Found reply.Short t u into from ledger h g = absurd g
one_reply query.Anchors end certs reply.Found reply.Wrong t u into from ledger h g = absurd g
one_reply query.Anchors end certs reply.Short b t u into from ledger h g = absurd h
one_reply query.Anchors end certs reply.Wrong b t u into from ledger h g = absurd h
one_reply query.Anchors end certs reply.Absent b t u into from ledger h g = absurd h.0
one_reply (query.Statement id) end certs reply.Found reply.Found t u into from ledger h g = (refl, h.0.1 ∙ sym g.0.1)
one_reply (query.Statement id) end certs reply.Found reply.Short t u into from ledger h g = absurd (some_missing end g.1 h.1)
one_reply (query.Statement id) end certs reply.Found reply.Wrong t u into from ledger h g = absurd g
one_reply (query.Statement id) end certs reply.Found reply.Absent t u into from ledger h g = absurd (h.0.0 g.0)
one_reply (query.Statement id) end certs reply.Short reply.Found t u into from ledger h g = absurd (some_missing end h.1 g.1)
one_reply (query.Statement id) end certs reply.Short reply.Short t u into from ledger h g = (refl, h.0.1 ∙ sym g.0.1)
one_reply (query.Statement id) end certs reply.Short reply.Wrong t u into from ledger h g = absurd g
one_reply (query.Statement id) end certs reply.Short reply.Absent t u into from ledger h g = absurd (h.0.0 g.0)
one_reply (query.Statement id) end certs reply.Wrong b t u into from ledger h g = absurd h
one_reply (query.Statement id) end certs reply.Absent reply.Found t u into from ledger h g = absurd (g.0.0 h.0)
one_reply (query.Statement id) end certs reply.Absent reply.Short t u into from ledger h g = absurd (g.0.0 h.0)
one_reply (query.Statement id) end certs reply.Absent reply.Wrong t u into from ledger h g = absurd g
one_reply (query.Statement id) end certs reply.Absent reply.Absent t u into from ledger h g = (refl, h.1 ∙ sym g.1)

-- ---- and there is one

SomeReply : Query → Ending → Type 0
SomeReply asked end = (a : Reply) × (text : List ℕ) × Replies asked end a text

account_reply : (id : ℕ) (end : Ending) (o : Option Account) → account_at end.outcome.rows id ≡ o → SomeReply (query.Account id) end
unfolding SomeReply
account_reply id end None e = (reply.Absent, [], (e, refl))
account_reply id end (Some a) e = (reply.Found, text_of (line.Account id a.balance a.seq ∷ []), (a, e, refl))

receipt_reply : (place : ℕ) (end : Ending) (o : Option Receipt) → slice_get end.outcome.receipts place ≡ o → SomeReply (query.Receipt place) end
unfolding SomeReply
receipt_reply place end None e = (reply.Absent, [], (e, refl))
receipt_reply place end (Some r) e = (reply.Found, text_of (line.Tx place r.status r.moved ∷ []), (r, e, refl))

-- the index of an id, or none has it
IsThere : List Row → ℕ → Type 0
IsThere rows id = (i : ℕ) × (a : Row) × (slice_get rows i ≡ Some a) × (a.id ≡ id)

there_or_absent : (rows : List Row) (id : ℕ) → IsThere rows id ⊎ IsAbsent rows id
unfolding IsThere
there_or_absent [] id = inr (λ r h e. none_in_nil r h)
there_or_absent (r ∷ rows) id = ⊎_elim
    (λ (e : r.id ≡ id). inl (0, r, refl, e))
    (λ n. ⊎_elim
    (λ (h : IsThere rows id). inl (later h))
    (λ (h : IsAbsent rows id). inr (λ s t e. ⊎_elim (λ (same : r ≡ s). n (ap (λ (x : Row). x.id) same ∙ e)) (λ (u : Contains rows s). h s u e) (contains_cases r rows s t)))
    (there_or_absent rows id))
    (cases_eq r.id id)
  where
    later : IsThere rows id → IsThere (r ∷ rows) id
    later h = (suc h.0, h.1, h.2, h.3)

proof_reply : (id : ℕ) (end : Ending) → SomeReply (query.Proof id) end
unfolding SomeReply IsThere
proof_reply id end = ⊎_elim
    (λ (h : IsThere end.outcome.rows id).
    let p : ProofValue = record { state = state_of end.outcome.rows; size = length end.outcome.rows; index = h.0; account = h.1; path = path_of (leaves_of end.outcome.rows) h.0 } in
    (reply.Found, proof_text p, (p, record { found = h.2; same_id = h.3; size = refl; path = refl; state = refl }, refl)))
    (λ (h : IsAbsent end.outcome.rows id). (reply.Absent, [], (h, refl)))
    (there_or_absent end.outcome.rows id)

-- a digest is that of the state or is not, and a batch is missing or is not
state_reply : (root : List ℕ) (end : Ending) (same : Bool) (missing : Option (List ℕ)) → bytes_eq root (state_of end.outcome.rows) ≡ same → end.outcome.ordered.payloads.missing ≡ missing → SomeReply (query.State root) end
unfolding SomeReply
state_reply root end true None e m = (reply.Found, text_of (line.StateGood ∷ []), (((bytes_eq-Decides root (state_of end.outcome.rows)).0 e, refl), m))
state_reply root end true (Some digest) e m = (reply.Short, text_of (line.StateGood ∷ []), (((bytes_eq-Decides root (state_of end.outcome.rows)).0 e, refl), (digest, m)))
state_reply root end false missing e m =
    (reply.Wrong, text_of (line.StateBad ∷ line.State (state_of end.outcome.rows) ∷ []), ((λ is. true≢false (sym ((bytes_eq-Decides root (state_of end.outcome.rows)).1 is) ∙ e)), refl))

-- an account is nowhere, or it has a statement
statement_reply : (id : ℕ) (end : Ending) (opening closing : Option Account) (list : List Entry) (missing : Option (List ℕ)) → account_at end.opening id ≡ opening → account_at_end (course_of end) id ≡ closing → entries (course_of end) id ≡ list
    → end.outcome.ordered.payloads.missing ≡ missing → SomeReply (query.Statement id) end
unfolding SomeReply
statement_reply id end opening closing list missing e f g m = by_parts opening closing list e f g
  where
    stands : (IsNowhere (course_of end) id → ⊥) → (o : Option (List ℕ)) → end.outcome.ordered.payloads.missing ≡ o → SomeReply (query.Statement id) end
    stands not None m = (reply.Found, statement_text (course_of end) id, ((not, refl), m))
    stands not (Some digest) m = (reply.Short, statement_text (course_of end) id, ((not, refl), (digest, m)))

    by_parts : (o p : Option Account) (xs : List Entry) → account_at end.opening id ≡ o → account_at_end (course_of end) id ≡ p → entries (course_of end) id ≡ xs → SomeReply (query.Statement id) end
    by_parts None None [] e f g = (reply.Absent, [], ((e, f, g), refl))
    by_parts (Some a) p xs e f g = stands (λ n. some_not_none (account_at end.opening id) a e n.0) missing m
    by_parts None (Some a) xs e f g = stands (λ n. some_not_none (account_at_end (course_of end) id) a f n.1) missing m
    by_parts None None (x ∷ xs) e f g = stands (λ n. let clash : x ∷ xs ≡ [] = sym g ∙ n.2 in absurd cc) missing m

some_reply : (asked : Query) (end : Ending) → IsCommitted (sizes_of end.committee) end.certs end.outcome.ordered.anchors → SomeReply asked end
unfolding SomeReply
some_reply query.Order end committed = (reply.Found, order_text end.outcome.ordered, refl)
some_reply (query.Account id) end committed = account_reply id end (account_at end.outcome.rows id) refl
some_reply (query.Receipt place) end committed = receipt_reply place end (slice_get end.outcome.receipts place) refl
some_reply (query.Proof id) end committed = proof_reply id end
some_reply (query.State root) end committed = state_reply root end (bytes_eq root (state_of end.outcome.rows)) end.outcome.ordered.payloads.missing refl refl
some_reply query.Anchors end committed = let rows = rows_exist (sizes_of end.committee) end.certs end.outcome.ordered.anchors committed in (reply.Found, rows_text rows.0, (rows.0, rows.1, refl))
some_reply (query.Statement id) end committed =
    statement_reply id end (account_at end.opening id) (account_at_end (course_of end) id) (entries (course_of end) id) end.outcome.ordered.payloads.missing refl refl refl refl

-- ---- of a feed

pub one_outcome : (feed : FeedValue) (x y : Outcome) → IsOutcomeOf feed x → IsOutcomeOf feed y → x ≡ y
one_outcome feed x y h g =
    let ordered : x.ordered ≡ y.ordered = one_ordered (committee_in feed) (later_frames feed) x.ordered y.ordered h.clear h.ordered g.ordered in
    let receipts : x.receipts ≡ y.receipts = h.receipts ∙ (ap (λ (o : Ordered). receipts_of feed.version (transactions_of o.payloads.list) (genesis_of feed.frames)) ordered ∙ sym g.receipts) in
    let rows : x.rows ≡ y.rows = h.rows ∙ (ap (λ (o : Ordered). state_after feed.version (transactions_of o.payloads.list) (genesis_of feed.frames)) ordered ∙ sym g.rows) in
    λ i. record { ordered = ordered i; receipts = receipts i; rows = rows i }

ledger_at_end : (feed : FeedValue) (end : Outcome) → IsFeed feed → IsOutcomeOf feed end → IsLedger end.rows
ledger_at_end feed end good h = subst IsLedger (sym h.rows)
    (ledger_kept_by_fold feed.version (transactions_of end.ordered.payloads.list) (genesis_of feed.frames) (ledger_of_accounts (genesis_of feed.frames) (genesis_accounts feed.version feed.frames good)))

-- a feed has one end but for the list of its certificates
same_end : (feed : FeedValue) (x y : Ending) → IsEndingOf feed x → IsEndingOf feed y → y ≡ with_certs x y.certs
same_end feed x y h g =
    let version : y.version ≡ x.version = g.version ∙ sym h.version in
    let committee : y.committee ≡ x.committee = g.committee ∙ sym h.committee in
    let opening : y.opening ≡ x.opening = g.opening ∙ sym h.opening in
    let outcome : y.outcome ≡ x.outcome = one_outcome feed y.outcome x.outcome g.outcome h.outcome in
    λ i. record { version = version i; committee = committee i; opening = opening i; certs = y.certs; outcome = outcome i }

ending_of_report : (bytes text : List ℕ) (status : Status) (h : IsReport bytes text status) → (end : Ending) × IsEndingOf h.feed end × IsCommitted (sizes_of end.committee) end.certs end.outcome.ordered.anchors
ending_of_report bytes text status h =
    let r = h.holds.reading in
    let reads = h.holds.reads in (
      record {
        version = h.feed.version;
        committee = committee_in h.feed;
        opening = genesis_of h.feed.frames;
        certs = reads.ordered.certs;
        outcome = record { ordered = r.ordered; receipts = r.receipts; rows = r.rows };
      },
      record {
        version = refl;
        committee = refl;
        opening = refl;
        certs = reads.ordered.are_certs;
        outcome = record { clear = h.holds.clear; ordered = reads.ordered; receipts = reads.receipts; rows = reads.rows };
      },
      reads.ordered.holds.committed,
    )

same_reply : (bytes : List ℕ) (asked : Query) (feed : FeedValue) (end : Ending) (a b : Reply) (t u : List ℕ) → IsFeed feed → bytes ≡ spelling feed → IsEndingOf feed end
    → Replies asked end a t → IsReply bytes asked b u → (a ≡ b) × (t ≡ u)
unfolding IsSame
same_reply bytes asked feed end a b t u good spelled is h g =
    let one : g.feed ≡ feed = one_feed g.feed feed g.good good (sym g.spelled ∙ spelled) in
    let other : IsEndingOf feed g.holds.end = subst (λ (f : FeedValue). IsEndingOf f g.holds.end) one g.holds.ending in
    one_reply asked end g.holds.end.certs a b t u
    (λ c there. other.certs.complete c (is.certs.sound c there))
    (λ c there. is.certs.complete c (other.certs.sound c there))
    (ledger_at_end feed end.outcome good is.outcome) h
    (subst (λ (x : Ending). Replies asked x b u) (same_end feed end g.holds.end is other) g.holds.replies)

pub exactly_one_reply : (bytes text : List ℕ) (status : Status) (asked : Query) → IsReport bytes text status
    → (answer : Reply) × (words : List ℕ) × IsReply bytes asked answer words
    × ((other : Reply) (others : List ℕ) → IsReply bytes asked other others → (answer ≡ other) × (words ≡ others))
unfolding SomeReply
exactly_one_reply bytes text status asked h =
    let end = ending_of_report bytes text status h in
    let it = some_reply asked end.0 end.2 in (
      it.0,
      it.1,
      record { feed = h.feed; good = h.good; spelled = h.spelled; holds = record { end = end.0; ending = end.1; replies = it.2 } },
      λ other others g. same_reply bytes asked h.feed end.0 it.0 other it.1 others h.good h.spelled end.1 it.2 g,
    )
