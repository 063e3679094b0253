use Rattle.std.proofs.Common.{◌≡◌, ℕ, true, false, ltb, List, map, Some, None, refl, sym, ◌∙◌}
use Rattle.std.specs.List.{list_all}
use Rattle.std.proofs.lemmas.List.Folds.{list_all-map}
use Rattle.bk_committee.specs.Payload.{bad_weights}
use Rattle.bk_committee.specs.declared.bad.Bad.TheVariants as bad
use Rattle.bk_committee.proofs.Weights.{number}
use Rattle.bk_committee.proofs.reading.bad_weight.Goals as goal

passes : (pieces : List (List ℕ)) → list_all (λ (four : List ℕ). ltb 0 (number four)) pieces ≡ true → None ≡ bad_weights (map number pieces)
passes pieces e = rw (list_all-map (λ (w : ℕ). ltb 0 w) number pieces ∙ e) refl

fails : (pieces : List (List ℕ)) → list_all (λ (four : List ℕ). ltb 0 (number four)) pieces ≡ false → Some bad.Weight ≡ bad_weights (map number pieces)
fails pieces e = rw (list_all-map (λ (w : ℕ). ltb 0 w) number pieces ∙ e) refl

pub returns-then-are_above_zero : goal.returns-then-are_above_zero
returns-then-are_above_zero c = rw (← c.weight_bytes.ensures) (passes c.weight_bytes.result.now (sym c.are_above_zero.ensures ∙ c.if-are_above_zero.true))

pub returns-else-are_above_zero : goal.returns-else-are_above_zero
returns-else-are_above_zero c = rw (← c.weight_bytes.ensures) (fails c.weight_bytes.result.now (sym c.are_above_zero.ensures ∙ c.if-are_above_zero.false))
