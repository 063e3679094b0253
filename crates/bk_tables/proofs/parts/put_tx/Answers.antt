use Rattle.std.proofs.Common.{sym, arith}
use Rattle.bk_report.proofs.Putting.{puts_as, puts_then}
use Rattle.bk_tables.specs.private.Walking.{row_by}
use Rattle.bk_tables.proofs.PostingTexts.{tx_texts}
use Rattle.bk_tables.proofs.parts.put_tx.Goals as goal

pub put_receivers-requires : goal.put_receivers-requires
put_receivers-requires g c = c.put_part.ensures.ready

pub put_guard-requires : goal.put_guard-requires
put_guard-requires g c = c.put_receivers.ensures.ready

pub returns : goal.returns
returns g c =
    puts_as 1200 _ (puts_then c.put_part.ensures (puts_then c.put_receivers.ensures c.put_guard.ensures)) (omega arith)
    (sym (tx_texts c.args.accounts.now (row_by c.args.spot c.args.state.now.rows) c.args.spot.receipt c.args.tx.now c.from.result c.from-2.result c.body-2.result.now c.body.result.now c.lone_guard-guard.result c.from.ensures c.from-2.ensures c.body-2.ensures c.body.ensures c.lone_guard-guard.ensures))
