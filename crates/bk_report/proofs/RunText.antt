-- The report of a run, from what is written of it.
use Rattle.std.proofs.Common.{◌≡◌, ℕ, List, ◌++◌, map, Option}
use Rattle.bk_committee.specs.Payload.{CommitteeValue}
use Rattle.bk_report.specs.Lines.{text_of}
use Rattle.bk_tx.specs.Batches.{count_in}
use Rattle.bk_report.specs.RunLines.{Reading, head_lines, order_lines, batches_lines, ledger_lines, run_lines}

-- where the counts and the missing digest are those of the ordered batches, the text is that of the report
pub run_text_is : (k : CommitteeValue) (frames : ℕ) (r : Reading) (counts : List (Option ℕ)) (missing : Option (List ℕ)) → counts ≡ map count_in r.ordered.payloads.list → missing ≡ r.ordered.payloads.missing
    → text_of (head_lines k frames ++ order_lines r.rejected r.waiting r.ordered.anchors r.ordered.order ++ batches_lines counts missing ++ ledger_lines r.receipts r.rows) ≡ text_of (run_lines k frames r)
run_text_is k frames r counts missing same none =
    λ j. text_of (head_lines k frames ++ order_lines r.rejected r.waiting r.ordered.anchors r.ordered.order ++ batches_lines (same j) (none j) ++ ledger_lines r.receipts r.rows)
