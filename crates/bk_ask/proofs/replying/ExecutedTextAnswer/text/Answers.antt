use denote.Param.Send.{given_sync, param_sync}
use Rattle.std.proofs.Common.{◌∙◌}
use Rattle.bk_answer.specs.Values.{closed_value}
use Rattle.bk_ask.proofs.ReplyAnswers.{replies, run_is}
use Rattle.bk_ask.proofs.replying.ExecutedTextAnswer.text.Goals as goal

pub reply_of-requires-sync-R : goal.reply_of-requires-sync-R
reply_of-requires-sync-R g c κs within = param_sync 0 g.row.R (given_sync 2 g.row.R c.requires.sync)

pub reply_of-requires-clause-executes : goal.reply_of-requires-clause-executes
reply_of-requires-clause-executes g c κs within = c.requires.ask

pub reply_of-requires-clause-open : goal.reply_of-requires-clause-open
reply_of-requires-clause-open g c κs within = c.requires.closed.1.1.order.works

pub reply_of-requires-clause-run : goal.reply_of-requires-clause-run
reply_of-requires-clause-run g c κs within = run_is c.requires.closed.0 (closed_value c.args.closed.now) c.requires.closed.1.1 c.requires.closed.1.0

pub returns : goal.returns
returns g c = replies c.args.self.now.query (closed_value c.args.closed.now) _ _ c.in_ok-reply.ensures (c.copied-missing.ensures ∙ c.missing.ensures)
