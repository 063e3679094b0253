use Rattle.std.proofs.Common.{◌∙◌}
use Rattle.bk_script.proofs.Masks.{sealer_is}
use Rattle.bk_script.proofs.sealing.sealer.Goals as goal

pub returns-in-Ok : goal.returns-in-Ok
returns-in-Ok c = sealer_is c.in-Ok.committee c.deref.result.now (c.deref.ensures.value ∙ c.in_ok-payload.ensures) c.in-Ok.ensures.value
