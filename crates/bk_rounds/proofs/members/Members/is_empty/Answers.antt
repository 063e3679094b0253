use Rattle.std.proofs.Common.{◌≡◌, rules, subst}
use Rattle.std.proofs.lemmas.Bool.{eqb-true, eq-eqb}
use Rattle.bk_rounds.specs.Members.{Has}
use Rattle.bk_rounds.proofs.Bits.{has_none, empty_zero}
use Rattle.bk_rounds.proofs.members.Members.is_empty.Goals as goal

pub returns : goal.returns
returns c = rw (← c.self.view_is) (
  (λ yes y h. let zero : c.self.inside.bits ≡ 0 = eqb-true _ _ yes in has_none y (subst (λ s. Has s y) zero h)),
  (λ none. eq-eqb _ _ (empty_zero c.self.inside.bits (search rules) none)),
)
