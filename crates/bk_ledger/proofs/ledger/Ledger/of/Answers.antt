use Rattle.std.proofs.Common.{◌∙◌}
use Rattle.bk_ledger.proofs.FeedSlices.{slices_room, slices_counts, slices_receipts, slices_rows}
use Rattle.bk_ledger.proofs.ledger.Ledger.of.Goals as goal

pub execute_read-requires-clause-room : goal.execute_read-requires-clause-room
execute_read-requires-clause-room g c = λ _ _. slices_room c.args.feed.now _ _ c.in_ok-ledger.ledger c.in_ok-payloads.ensures.feed (rw (← c.deref.ensures.value) at c.in_ok-payloads.ensures.payloads) c.in_ok-ledger.ensures.counts c.in_ok-ledger.ensures.receipts (c.in_ok-ledger.ensures.version ∙ c.version.ensures) c.in_ok-ledger.ensures.rows c.genesis.ensures.rows c.genesis.ensures.accounts

pub returns-clause-counts : goal.returns-clause-counts
returns-clause-counts g c = slices_counts c.args.feed.now _ _ c.in_ok-ledger.ledger c.in_ok-payloads.ensures.feed (rw (← c.deref.ensures.value) at c.in_ok-payloads.ensures.payloads) c.in_ok-ledger.ensures.counts c.in_ok-ledger.ensures.receipts (c.in_ok-ledger.ensures.version ∙ c.version.ensures) c.in_ok-ledger.ensures.rows c.genesis.ensures.rows c.genesis.ensures.accounts c.in_ok-ledger-2.ledger c.in_ok-ledger-2.ensures

pub returns-clause-receipts : goal.returns-clause-receipts
returns-clause-receipts g c = slices_receipts c.args.feed.now _ _ c.in_ok-ledger.ledger c.in_ok-payloads.ensures.feed (rw (← c.deref.ensures.value) at c.in_ok-payloads.ensures.payloads) c.in_ok-ledger.ensures.counts c.in_ok-ledger.ensures.receipts (c.in_ok-ledger.ensures.version ∙ c.version.ensures) c.in_ok-ledger.ensures.rows c.genesis.ensures.rows c.genesis.ensures.accounts c.in_ok-ledger-2.ledger c.in_ok-ledger-2.ensures

pub returns-clause-rows : goal.returns-clause-rows
returns-clause-rows g c = slices_rows c.args.feed.now _ _ c.in_ok-ledger.ledger c.in_ok-payloads.ensures.feed (rw (← c.deref.ensures.value) at c.in_ok-payloads.ensures.payloads) c.in_ok-ledger.ensures.counts c.in_ok-ledger.ensures.receipts (c.in_ok-ledger.ensures.version ∙ c.version.ensures) c.in_ok-ledger.ensures.rows c.genesis.ensures.rows c.genesis.ensures.accounts c.in_ok-ledger-2.ledger c.in_ok-ledger-2.ensures
