use Rattle.std.proofs.Common.{List, sym, subst}
use Rattle.std.specs.Prelude.{MatchOption}
use Rattle.bk_cert.specs.Node.{Node}
use Rattle.bk_evidence.specs.Twins.{IsEvidence, NoTwins}
use Rattle.bk_evidence.specs.private.Places.{evidence_in}
use Rattle.bk_evidence.proofs.Judging.{evidence_told}
use Rattle.bk_evidence.proofs.held.Held.evidence.Goals as goal

pub returns : goal.returns
returns c = rw (c.evidence.ensures, ← c.self.view_is)
    (subst (λ (xs : List Node). MatchOption (evidence_in xs c.self.inside.places c.self.inside.places.twins) (NoTwins c.self.inside.certs) (IsEvidence c.self.inside.certs))
    (sym c.as_slice.ensures) (evidence_told c.self.inside.certs c.self.inside.places c.self.invariant.1))
