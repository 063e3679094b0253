use denote.Param.Send.{given_sync, param_sync}
use Rattle.bk_answer.specs.Answers.{IsMadeOf}
use Rattle.bk_answer.specs.Values.{closed_value}
use Rattle.bk_summary.proofs.Summed.{answers}
use Rattle.bk_summary.proofs.writing.SummarizeTextAnswer.text.Goals as goal

pub summary_closed-requires-sync-R : goal.summary_closed-requires-sync-R
summary_closed-requires-sync-R g c κs within = param_sync 0 g.row.R (given_sync 2 g.row.R c.requires.sync)

pub returns : goal.returns
returns g c = rw c.into_bytes.ensures.value (answers (IsMadeOf (closed_value c.args.closed.now)) c.in_ok-summary.summary c.in_ok-summary.ensures c.end_of.result _ c.end_of.ensures c.in_ok-text.ensures)
