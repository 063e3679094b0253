use Rattle.std.proofs.lemmas.Bool.{false≢true}
use Rattle.bk_order.proofs.Ordering.{joined_none}
use Rattle.bk_order.proofs.intake.Intake.new.Goals as goal

pub invariant_of-result : goal.invariant_of-result
invariant_of-result c = λ open_. (
  joined_none c.args.committee c.in_ok-table.table.held c.in_ok-table.table.rounds c.in_ok-table.ensures.kept.certs c.in_ok-table.ensures.rounds,
  c.unsettled.ensures.followed c.in_ok-table.table.rounds.sizes c.in_ok-table.table.rounds.held c.in_ok-table.table.batches,
  λ e. absurd (false≢true e),
)

pub returns-clause-unordered : goal.returns-clause-unordered
returns-clause-unordered c = c.unsettled.ensures.nothing c.in_ok-table.table.batches
