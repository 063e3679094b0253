use denote.Param.Send.{given_sync, param_sync}
use Rattle.bk_answer.specs.Values.{closed_value}
use Rattle.bk_answer.proofs.Reports.{few_receipts}
use Rattle.bk_chain.proofs.Linked.{answers, rows_few}
use Rattle.bk_chain.proofs.linking.LinkTextAnswer.text.Goals as goal

pub link_closed-requires-sync-R : goal.link_closed-requires-sync-R
link_closed-requires-sync-R g c κs within = param_sync 0 g.row.R (given_sync 2 g.row.R c.requires.sync)

pub link_closed-requires-clause-rows : goal.link_closed-requires-clause-rows
link_closed-requires-clause-rows g c κs within = rows_few (closed_value c.args.closed.now) c.requires.closed

pub link_closed-requires-clause-receipts : goal.link_closed-requires-clause-receipts
link_closed-requires-clause-receipts g c κs within = few_receipts (closed_value c.args.closed.now) c.requires.closed

pub returns : goal.returns
returns g c = rw c.into_bytes.ensures.value (answers (closed_value c.args.closed.now) c.in_ok-link.link _ c.in_ok-link.ensures c.in_ok-text.ensures)
