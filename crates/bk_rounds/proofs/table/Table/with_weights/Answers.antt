use Rattle.std.proofs.Common.{◌≤◌, sym, subst}
use Rattle.bk_index.specs.Places.{number_of}
use Rattle.bk_committee.specs.Sizes.{Sizes, members}
use Rattle.bk_rounds.proofs.Empty.{whole_empty}
use Rattle.bk_rounds.proofs.table.Table.with_weights.Goals as goal

pub invariant_of-result : goal.invariant_of-result
invariant_of-result c = rw c.new-2.ensures.items (whole_empty c.in_ok-weights.weights c.new-3.result (number_of c.new-4.result) c.new-3.ensures.slots c.new-3.ensures.names c.new-4.ensures
    (subst (λ (z : Sizes). members z ≤ 128) (sym c.in_ok-weights.ensures) c.requires.few))
