use Rattle.std.proofs.Common.{◌∙◌}
use Rattle.bk_certcheck.proofs.FoundOf.{certificates_flat, batches_flat, flat_whole}
use Rattle.bk_certcheck.specs.Frames.{certificate_in, batch_in}
use Rattle.bk_certcheck.proofs.finding.payloads_of.Goals as goal

pub returns-clause-certificates : goal.returns-clause-certificates
returns-clause-certificates c =
    c.loop-frame.invariant.0 ∙ flat_whole (λ x. certificate_in x.0 x.1.items) c.args.frames.now c.loop-frame.frame-index c.loop-frame-test.false ∙ certificates_flat c.args.frames.now

pub returns-clause-batches : goal.returns-clause-batches
returns-clause-batches c =
    c.loop-frame.invariant.1 ∙ flat_whole (λ x. batch_in x.0 x.1.items) c.args.frames.now c.loop-frame.frame-index c.loop-frame-test.false ∙ batches_flat c.args.frames.now
