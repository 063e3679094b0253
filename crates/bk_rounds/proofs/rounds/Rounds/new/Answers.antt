use Rattle.std.proofs.Common.{◌≤◌, ℕ, List, sum, sym, subst}
use Rattle.bk_committee.proofs.Grammar.{total_some}
use Rattle.bk_rounds.specs.Rounds.{RoundsValue, sizes_with}
use Rattle.bk_rounds.specs.private.Tally.{AreCounted}
use Rattle.bk_rounds.proofs.Tallied.{counted_empty}
use Rattle.bk_rounds.proofs.rounds.Rounds.new.Goals as goal

pub with_weights-requires-clause-heavy : goal.with_weights-requires-clause-heavy
with_weights-requires-clause-heavy c = subst (λ (ws : List ℕ). 1 ≤ sum ws) (sym c.weights.ensures.all) (total_some c.args.committee.now c.weights.ensures.committee)

pub invariant_of-result : goal.invariant_of-result
invariant_of-result c = subst (λ (t : RoundsValue). AreCounted t.sizes t.held c.new.result) (sym c.in_ok-table.ensures)
    (counted_empty (sizes_with c.weights.result.now) c.new.result c.new.ensures.none c.new.ensures.newest)
