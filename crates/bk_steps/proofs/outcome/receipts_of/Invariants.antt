use Rattle.std.proofs.Common.{◌≡◌, map, take}
use Rattle.bk_steps.specs.declared.stage.Stage.TheVariants.{Done}
use Rattle.bk_steps.proofs.outcome.receipts_of.Given as goal

abbrev pub invariant-loop-place : goal.invariant-loop-place
invariant-loop-place l = map (λ r. Done r) l.receipts.items ≡ take l.place l.stages
