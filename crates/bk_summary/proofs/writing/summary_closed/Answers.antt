use Rattle.std.proofs.Common.{List, subst}
use Rattle.std.proofs.lemmas.Result.{IfOk-weaker}
use Rattle.bk_cert.specs.declared.place.CertRef.{CertRef}
use Rattle.bk_answer.specs.Values.{closed_value, order_value}
use Rattle.bk_summary.specs.private.Sums.{Sums}
use Rattle.bk_summary.proofs.Summed.{few_opening, summary_is}
use Rattle.bk_summary.proofs.writing.summary_closed.Goals as goal

pub rounds-rounds-requires : goal.rounds-rounds-requires
rounds-rounds-requires g c = (c.requires.closed.0, (c.requires.closed.1.0, c.requires.closed.1.1.order))

pub summary_of-requires-clause-committed : goal.summary_of-requires-clause-committed
summary_of-requires-clause-committed g c κs within = c.rounds-rounds.ensures.committed

pub summary_of-requires-clause-few : goal.summary_of-requires-clause-few
summary_of-requires-clause-few g c κs within = few_opening c.requires.closed.0 (order_value c.args.closed.now.order) c.requires.closed.1.1.order

pub returns : goal.returns
returns g c =
    IfOk-weaker c.summary_of.result _ _
    (λ s h feed made.
    summary_is feed (closed_value c.args.closed.now) c.rounds-rounds.result.now c.in_ok-waiting.waiting.items made.0 made.1 (c.rounds-rounds.ensures.rounds feed (made.0, made.1.order)) (c.in_ok-waiting.ensures feed (made.0, made.1.order)) s
    (subst (λ (w : List CertRef). Sums c.args.closed.now.order.intake.now c.rounds-rounds.result.now w c.args.closed.now.order.opening.now c.args.closed.now.ledger.now s) c.deref.ensures.value h))
    c.summary_of.ensures
