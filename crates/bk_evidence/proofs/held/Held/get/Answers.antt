use Rattle.std.proofs.Common.{ap, sym, ◌∙◌}
use Rattle.bk_cert.specs.Node.{Node}
use Rattle.bk_evidence.proofs.Naming.{named_at, named_none}
use Rattle.bk_evidence.proofs.Storing.{cert_absent, cert_found}
use Rattle.bk_evidence.proofs.held.Held.get.Goals as goal

pub returns-in_err-index-clause-first : goal.returns-in_err-index-clause-first
returns-in_err-index-clause-first c = rw (c.from_residual.ensures, ← c.self.view_is)
    (cert_absent c.self.inside.certs c.args.id.now (sym c.in_err-index.ensures))

pub returns-clause-first : goal.returns-clause-first
returns-clause-first c =
    let at = named_at (λ (d : Node). d.id) c.self.inside.certs c.args.id.now c.in_ok-index.index (sym c.in_ok-index.ensures) in
    rw (← c.self.view_is)
    (cert_found c.self.inside.certs c.args.id.now c.in_ok-index.index c.cert_at.result.now
    (sym c.in_ok-index.ensures) (λ (d : Node). rw c.as_slice.ensures at (c.cert_at.ensures d)))

pub returns-in_err-index-clause-none : goal.returns-in_err-index-clause-none
returns-in_err-index-clause-none c = rw (c.from_residual.ensures, ← c.self.view_is)
    (named_none (λ (d : Node). d.id) c.self.inside.certs c.args.id.now (sym c.in_err-index.ensures))

pub cert_at-requires : goal.cert_at-requires
cert_at-requires c = rw c.as_slice.ensures (named_at (λ (d : Node). d.id) c.self.inside.certs c.args.id.now c.in_ok-index.index (sym c.in_ok-index.ensures)).0

pub returns-clause-found : goal.returns-clause-found
returns-clause-found c =
    let at = named_at (λ (d : Node). d.id) c.self.inside.certs c.args.id.now c.in_ok-index.index (sym c.in_ok-index.ensures) in
    let here = rw c.as_slice.ensures at (λ (d : Node). c.cert_at.ensures d) in
    rw (← c.self.view_is)
    ((c.in_ok-index.index, at.0, sym (here c.cert_at.result.now)), ap (λ (n : Node). n.id) (here c.cert_at.result.now) ∙ at.1 c.cert_at.result.now)
