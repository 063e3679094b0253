use Rattle.std.proofs.Common.{◌∙◌}
use Rattle.bk_script.proofs.Masks.{sealed_is}
use Rattle.bk_script.proofs.sealing.sealed.Goals as goal

pub returns : goal.returns
returns c = sealed_is c.args.sealer.now.keys c.args.header c.args.signers.now c.as_bytes.result.now c.in_ok-payload.payload.items c.in_ok-cert.cert c.requires.rule c.in_ok-cert.ensures.seal c.in_ok-cert.ensures.certificate (c.as_bytes.ensures.value ∙ c.mask.ensures.same) c.know_bytes.ensures c.in_ok-payload.ensures
