use Rattle.bk_evidence.proofs.laws.clear_is_neither.Goals as goal

pub returns : goal.returns
returns c = λ held. (λ clear. (clear.no_collision, clear.no_twins), λ both. record { no_collision = both.0; no_twins = both.1 })
