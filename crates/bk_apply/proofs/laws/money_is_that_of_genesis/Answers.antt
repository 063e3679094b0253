-- The lines before the last one, and that no transaction makes or loses money.
use Rattle.std.proofs.Common.{◌++◌, ◌∷◌, [], ℕ, List, ap, map}
use Rattle.bk_base.specs.declared.genesis.Row.{Row}
use Rattle.bk_base.specs.Feed.{genesis_of}
use Rattle.bk_base.proofs.Accounts.{genesis_accounts}
use Rattle.bk_report.specs.Report.{account_lines, batch_lines, tx_lines}
use Rattle.bk_report.specs.declared.line.Line.{Line}
use Rattle.bk_report.specs.declared.line.Line.TheVariants as line
use Rattle.bk_rules.specs.Fold.{receipts_of, state_after}
use Rattle.bk_rules.proofs.Folding.{total_kept_by_fold, ledger_of_accounts}
use Rattle.bk_tx.specs.Batches.{count_in, feed_transactions, payloads_of}
use Rattle.bk_apply.proofs.laws.money_is_that_of_genesis.Goals as goal

pub returns : goal.returns
returns c = λ feed good.
    let opening : List Row = genesis_of feed.frames in
    let rows : List Row = state_after feed.version (feed_transactions feed.frames) opening in
    let batches : List Line = batch_lines 0 (map count_in (payloads_of feed.frames)) in
    let txs : List Line = tx_lines 0 (receipts_of feed.version (feed_transactions feed.frames) opening) in
    let accounts : List Line = account_lines rows in
    let kept = total_kept_by_fold feed.version (feed_transactions feed.frames) opening (ledger_of_accounts opening (genesis_accounts feed.version feed.frames good)) in
    (batches ++ txs ++ accounts, ap (λ (m : ℕ). batches ++ txs ++ accounts ++ line.Money m ∷ []) kept)
