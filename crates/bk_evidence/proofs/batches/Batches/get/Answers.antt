use Rattle.std.proofs.Common.{sym}
use Rattle.bk_evidence.proofs.Across.{digest_of}
use Rattle.bk_evidence.proofs.Naming.{named_at}
use Rattle.bk_evidence.proofs.Storing.{payload_found, payload_absent}
use Rattle.bk_evidence.proofs.batches.Batches.get.Goals as goal

pub returns-in_err-index : goal.returns-in_err-index
returns-in_err-index c = rw (c.from_residual.ensures, ← c.self.view_is)
    (payload_absent c.self.inside.stored c.args.digest.now (sym c.in_err-index.ensures))

pub payload_at-requires : goal.payload_at-requires
payload_at-requires c = rw c.as_slice.ensures
    (named_at digest_of c.self.inside.stored c.args.digest.now c.in_ok-index.index (sym c.in_ok-index.ensures)).0

pub returns : goal.returns
returns c = rw (← c.self.view_is)
    (payload_found c.self.inside.stored c.args.digest.now c.in_ok-index.index c.payload_at.result.now
    (sym c.in_ok-index.ensures) (λ d. rw c.as_slice.ensures at (c.payload_at.ensures d)))
