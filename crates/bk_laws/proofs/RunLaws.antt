-- The laws of the report of a run.
use Rattle.std.proofs.Common.{◌≡◌, ℕ, ◌+◌, List, [], ◌∷◌, ◌++◌, length, Option, Some, None, refl, sym, ap, subst, ◌∙◌, ⊎_elim, append_assoc}
use Rattle.std.specs.Prelude.{map}
use Rattle.std.specs.List.{Contains}
use Rattle.std.proofs.lemmas.List.Elements.{Contains-append_cases}
use Rattle.bk_frames.specs.declared.fault.FeedFault.{FeedFault}
use Rattle.bk_base.specs.Genesis.{total_of}
use Rattle.bk_base.specs.Feed.{FeedValue, IsFeed, spelling, genesis_of}
use Rattle.bk_frames.specs.FirstFault.{HasFault}
use Rattle.bk_base.proofs.Accounts.{genesis_accounts}
use Rattle.bk_frames.proofs.OneReading.{one_feed, one_fault, not_both}
use Rattle.bk_committee.specs.Payload.{CommitteeValue}
use Rattle.bk_cert.proofs.Lists.{none_in_nil, contains_cases, from_map}
use Rattle.bk_cert.specs.declared.place.CertRef.{CertRef}
use Rattle.bk_order.specs.declared.reject.Reject.{Reject}
use Rattle.bk_order.specs.declared.stop.Stop.{Stop}
use Rattle.bk_order.specs.declared.stop.Stop.TheVariants as stop
use Rattle.bk_order.specs.Intake.{first_later_frame}
use Rattle.bk_order.specs.Orders.{Ordered}
use Rattle.bk_order.specs.Stops.{IsStop}
use Rattle.bk_order.proofs.OneReading.{one_rejects, one_waiting, one_stop, no_stop, one_ordered}
use Rattle.bk_rules.specs.declared.receipt.Receipt.{Receipt}
use Rattle.bk_rules.specs.Fold.{state_after, receipts_of}
use Rattle.bk_rules.proofs.Folding.{total_kept_by_fold, ledger_of_accounts}
use Rattle.bk_results.specs.declared.fault.Fault.{Fault}
use Rattle.bk_results.specs.declared.fault.Fault.TheVariants as fault
use Rattle.bk_report.specs.declared.line.Line.{Line}
use Rattle.bk_report.specs.declared.line.Line.TheVariants as line
use Rattle.bk_results.specs.declared.status.Status.{Status}
use Rattle.bk_report.specs.Leaves.{state_of}
use Rattle.bk_report.specs.Lines.{text_of}
use Rattle.bk_tx.specs.Batches.{transactions_of, count_in}
use Rattle.bk_report.specs.Report.{batch_line, batch_lines, tx_lines, account_lines}
use Rattle.bk_report.specs.RunLines.{Reading, members_line, head_lines, reject_lines, waiting_lines, anchor_lines, cert_lines, missing_lines, order_lines, batches_lines, run_lines}
use Rattle.bk_answer.specs.RunReport.{committee_in, later_frames, HasNoStopIn, Reads, fault_of, reach_of, IsReportOf, IsReport, IsStopIn}
use Rattle.bk_laws.specs.RunLaws.{EndsWithMoney, Answer, ComesTo, faulty, stopped, reported}
use Rattle.bk_report.specs.private.Ending.{ending_lines}

-- ---- money

pub run_keeps_money : (feed : FeedValue) (r : Reading) → IsFeed feed → Reads feed r → total_of r.rows ≡ total_of (genesis_of feed.frames)
run_keeps_money feed r good reads =
    ap total_of reads.rows
    ∙ total_kept_by_fold feed.version (transactions_of r.ordered.payloads.list) (genesis_of feed.frames) (ledger_of_accounts (genesis_of feed.frames) (genesis_accounts feed.version feed.frames good))

-- no line of these is one of money
abbrev HaveNoMoney : List Line → Type 0
HaveNoMoney lines = (other : ℕ) → Contains lines (line.Money other) → ⊥

none_in_both : (xs ys : List Line) → HaveNoMoney xs → HaveNoMoney ys → HaveNoMoney (xs ++ ys)
none_in_both xs ys h g other c = ⊎_elim (h other) (g other) (Contains-append_cases xs ys (line.Money other) c)

none_in_more : (x : Line) (xs : List Line) → ((other : ℕ) → x ≡ line.Money other → ⊥) → HaveNoMoney xs → HaveNoMoney (x ∷ xs)
none_in_more x xs h g other c = ⊎_elim (h other) (g other) (contains_cases x xs (line.Money other) c)

none_in_none : HaveNoMoney []
none_in_none other c = none_in_nil (line.Money other) c

none_in_mapped : {X : Type 0} (f : X → Line) (xs : List X) → ((x : X) (other : ℕ) → f x ≡ line.Money other → ⊥) → HaveNoMoney (map f xs)
none_in_mapped f xs h other c = let m = from_map f xs (line.Money other) c in h m.0 other m.2

none_in_batch : (index : ℕ) (count : Option ℕ) (other : ℕ) → batch_line index count ≡ line.Money other → ⊥
none_in_batch index None other e = cc
none_in_batch index (Some count) other e = cc

none_in_batches : (index : ℕ) (counts : List (Option ℕ)) → HaveNoMoney (batch_lines index counts)
none_in_batches index [] = none_in_none
none_in_batches index (count ∷ more) = none_in_more (batch_line index count) (batch_lines (index + 1) more) (none_in_batch index count) (none_in_batches (index + 1) more)

none_in_txs : (place : ℕ) (receipts : List Receipt) → HaveNoMoney (tx_lines place receipts)
none_in_txs place [] = none_in_none
none_in_txs place (r ∷ more) = none_in_more (line.Tx place r.status r.moved) (tx_lines (place + 1) more) (λ other e. cc) (none_in_txs (place + 1) more)

none_in_missing : (missing : Option (List ℕ)) → HaveNoMoney (missing_lines missing)
none_in_missing None = none_in_none
none_in_missing (Some digest) = none_in_more (line.Missing digest) [] (λ other e. cc) none_in_none

-- the lines of transactions and accounts before those of the money and the state
abbrev some_ledger_lines : Reading → List Line
some_ledger_lines r = tx_lines 0 r.receipts ++ account_lines r.rows

-- the lines of a run before those
abbrev front_lines : CommitteeValue → ℕ → Reading → List Line
front_lines k frames r =
    head_lines k frames ++ order_lines r.rejected r.waiting r.ordered.anchors r.ordered.order
    ++ batches_lines (map count_in r.ordered.payloads.list) r.ordered.payloads.missing
    ++ some_ledger_lines r

lines_are : (k : CommitteeValue) (frames : ℕ) (r : Reading) → run_lines k frames r ≡ front_lines k frames r ++ ending_lines r.rows
lines_are k frames r = sym (append_assoc
    (head_lines k frames ++ order_lines r.rejected r.waiting r.ordered.anchors r.ordered.order ++ batches_lines (map count_in r.ordered.payloads.list) r.ordered.payloads.missing)
    (some_ledger_lines r) (ending_lines r.rows))

none_in_head : (k : CommitteeValue) (frames : ℕ) → HaveNoMoney (head_lines k frames)
none_in_head k frames = none_in_more (members_line k) (line.Frames frames ∷ []) (λ other e. cc) (none_in_more (line.Frames frames) [] (λ other e. cc) none_in_none)

none_in_order : (rejected : List Reject) (waiting anchors order : List CertRef) → HaveNoMoney (order_lines rejected waiting anchors order)
none_in_order rejected waiting anchors order =
    none_in_both (reject_lines rejected ++ waiting_lines waiting ++ anchor_lines anchors) (cert_lines order)
    (none_in_both (reject_lines rejected ++ waiting_lines waiting) (anchor_lines anchors)
    (none_in_both (reject_lines rejected) (waiting_lines waiting) (none_in_mapped _ rejected (λ r other e. cc)) (none_in_mapped _ waiting (λ p other e. cc)))
    (none_in_mapped _ anchors (λ p other e. cc)))
    (none_in_mapped _ order (λ p other e. cc))

none_in_all_batches : (counts : List (Option ℕ)) (missing : Option (List ℕ)) → HaveNoMoney (batches_lines counts missing)
none_in_all_batches counts missing = none_in_both (batch_lines 0 counts) (missing_lines missing) (none_in_batches 0 counts) (none_in_missing missing)

none_in_ledger : (r : Reading) → HaveNoMoney (some_ledger_lines r)
none_in_ledger r = none_in_both (tx_lines 0 r.receipts) (account_lines r.rows) (none_in_txs 0 r.receipts) (none_in_mapped _ r.rows (λ x other e. cc))

none_in_front : (k : CommitteeValue) (frames : ℕ) (r : Reading) → HaveNoMoney (front_lines k frames r)
none_in_front k frames r =
    let head = head_lines k frames in
    let order = order_lines r.rejected r.waiting r.ordered.anchors r.ordered.order in
    let batches = batches_lines (map count_in r.ordered.payloads.list) r.ordered.payloads.missing in
    none_in_both (head ++ order ++ batches) (some_ledger_lines r)
    (none_in_both (head ++ order) batches
    (none_in_both head order (none_in_head k frames) (none_in_order r.rejected r.waiting r.ordered.anchors r.ordered.order))
    (none_in_all_batches (map count_in r.ordered.payloads.list) r.ordered.payloads.missing))
    (none_in_ledger r)

ends_with_money : (k : CommitteeValue) (frames total : ℕ) (r : Reading) (text : List ℕ) → total_of r.rows ≡ total → text ≡ text_of (run_lines k frames r) → EndsWithMoney text total (state_of r.rows)
ends_with_money k frames total r text same e = record {
  front = front_lines k frames r;
  no_other = none_in_front k frames r;
  text_is = e ∙ ap text_of (lines_are k frames r) ∙ (λ i. text_of (front_lines k frames r ++ line.Money (same i) ∷ line.State (state_of r.rows) ∷ []));
}

pub money_line_is_genesis : (feed : FeedValue) (text : List ℕ) (answer : Status) → IsFeed feed → IsReport (spelling feed) text answer
    → (r : Reading) × Reads feed r × EndsWithMoney text (total_of (genesis_of feed.frames)) (state_of r.rows)
money_line_is_genesis feed text answer good h =
    let report : IsReportOf feed answer text = subst (λ (f : FeedValue). IsReportOf f answer text) (one_feed h.feed feed h.good good (sym h.spelled)) h.holds in
    let r = report.reading in
    (r, report.reads, ends_with_money (committee_in feed) (length feed.frames) (total_of (genesis_of feed.frames)) r text (run_keeps_money feed r good report.reads) report.report)

-- ---- uniqueness

-- the rules read one thing off the frames of a feed
one_reading : (feed : FeedValue) (r s : Reading) → HasNoStopIn feed → Reads feed r → Reads feed s → r ≡ s
one_reading feed r s none h g =
    let frames = later_frames feed in
    let k = committee_in feed in
    let rejected = one_rejects k first_later_frame frames r.rejected s.rejected h.rejected g.rejected in
    let waiting = one_waiting k frames r.waiting s.waiting h.waiting g.waiting in
    let ordered = one_ordered k frames r.ordered s.ordered none h.ordered g.ordered in
    let receipts : r.receipts ≡ s.receipts = h.receipts ∙ ap (λ (o : Ordered). receipts_of feed.version (transactions_of o.payloads.list) (genesis_of feed.frames)) ordered ∙ sym g.receipts in
    let rows : r.rows ≡ s.rows = h.rows ∙ ap (λ (o : Ordered). state_after feed.version (transactions_of o.payloads.list) (genesis_of feed.frames)) ordered ∙ sym g.rows in
    λ i. record { rejected = rejected i; waiting = waiting i; ordered = ordered i; receipts = receipts i; rows = rows i }

-- and so it has one report
one_report_of : (feed : FeedValue) (text other : List ℕ) (a b : Status) → IsReportOf feed a text → IsReportOf feed b other → reported text a ≡ reported other b
one_report_of feed text other a b h g =
    let same = one_reading feed h.reading g.reading h.clear h.reads g.reads in
    let texts : text ≡ other = h.report ∙ ap (λ (r : Reading). text_of (run_lines (committee_in feed) (length feed.frames) r)) same ∙ sym g.report in
    let answers : a ≡ b = h.status_is ∙ ap (λ (r : Reading). reach_of r.ordered.payloads.missing) same ∙ sym g.status_is in
    λ i. reported (texts i) (answers i)

-- a fault that is a stop of a feed
record IsFaultOf (feed : FeedValue) (found : Fault) : Type 0 where
  why : Stop
  is_stop : IsStop (committee_in feed) (later_frames feed) why
  fault_is : found ≡ fault_of why

as_stop : (feed : FeedValue) (found : Fault) → IsStopIn feed found → IsFaultOf feed found
as_stop feed (fault.Collision id) h = record { why = stop.Collision id; is_stop = h; fault_is = refl }
as_stop feed (fault.Equivocation round author first second) h = record { why = stop.Twins (record { round = round; author = author; first = first; second = second }); is_stop = h; fault_is = refl }
as_stop feed (fault.Feed found) h = absurd h
as_stop feed (fault.Unfinished place) h = absurd h
as_stop feed (fault.Write written) h = absurd h
as_stop feed fault.Memory h = absurd h

one_stop_in : (feed : FeedValue) (one other : Fault) → IsStopIn feed one → IsStopIn feed other → one ≡ other
one_stop_in feed one other h g =
    let x = as_stop feed one h in
    let y = as_stop feed other g in
    x.fault_is ∙ ap fault_of (one_stop (committee_in feed) (later_frames feed) x.why y.why x.is_stop y.is_stop) ∙ sym y.fault_is

no_stop_in : (feed : FeedValue) (found : Fault) → HasNoStopIn feed → IsStopIn feed found → ⊥
no_stop_in feed found none h = let x = as_stop feed found h in no_stop (committee_in feed) (later_frames feed) x.why none x.is_stop

no_fault_in : (bytes : List ℕ) (feed : FeedValue) (found : FeedFault) → IsFeed feed → bytes ≡ spelling feed → HasFault bytes found → ⊥
no_fault_in bytes feed found good spelled h = not_both feed found good (subst (λ (bs : List ℕ). HasFault bs found) spelled h)

pub one_answer : (bytes : List ℕ) (one other : Answer) → ComesTo bytes one → ComesTo bytes other → one ≡ other
one_answer bytes (faulty x) (faulty y) h g = ap faulty (one_fault bytes x y h g)
one_answer bytes (faulty x) (stopped y) h g = absurd (no_fault_in bytes g.feed x g.good g.spelled h)
one_answer bytes (faulty x) (reported text answer) h g = absurd (no_fault_in bytes g.feed x g.good g.spelled h)
one_answer bytes (stopped x) (faulty y) h g = absurd (no_fault_in bytes h.feed y h.good h.spelled g)
one_answer bytes (stopped x) (stopped y) h g =
    let same = one_feed h.feed g.feed h.good g.good (sym h.spelled ∙ g.spelled) in
    ap stopped (one_stop_in g.feed x y (subst (λ (f : FeedValue). IsStopIn f x) same h.holds) g.holds)
one_answer bytes (stopped x) (reported text answer) h g =
    let same = one_feed h.feed g.feed h.good g.good (sym h.spelled ∙ g.spelled) in
    absurd (no_stop_in g.feed x g.holds.clear (subst (λ (f : FeedValue). IsStopIn f x) same h.holds))
one_answer bytes (reported text answer) (faulty y) h g = absurd (no_fault_in bytes h.feed y h.good h.spelled g)
one_answer bytes (reported text answer) (stopped y) h g =
    let same = one_feed h.feed g.feed h.good g.good (sym h.spelled ∙ g.spelled) in
    absurd (no_stop_in g.feed y (subst HasNoStopIn same h.holds.clear) g.holds)
one_answer bytes (reported text answer) (reported other status) h g =
    let same = one_feed h.feed g.feed h.good g.good (sym h.spelled ∙ g.spelled) in
    one_report_of g.feed text other answer status (subst (λ (f : FeedValue). IsReportOf f answer text) same h.holds) g.holds
