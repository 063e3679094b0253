use Rattle.std.proofs.Common.{◌≡◌, ◌<◌, subst, ◌∙◌, length, take, get_or, arith}
use Rattle.std.proofs.lemmas.List.{get_or_default}
use Rattle.bk_cert.specs.Node.{Node}
use Rattle.bk_cert.specs.Place.{place_of}
use Rattle.bk_evidence.specs.Collisions.{id_cmp}
use Rattle.bk_evidence.specs.Twins.{IsIdAt}
use Rattle.bk_evidence.specs.private.Least.{IsLeastBy}
use Rattle.bk_evidence.proofs.held.note_last.Goals as goal

pub returns-in-Ok-clause-earlier : goal.returns-in-Ok-clause-earlier
returns-in-Ok-clause-earlier c = λ d.
    let low : c.args.at < length c.args.certs.now = omega (arith, c.requires.last) in
    let last : c.index-all-at.result ≡ get_or c.args.certs.now c.args.at d =
    rw c.as_slice-all.ensures at c.index-all-at.is ∙ get_or_default c.args.certs.now c.args.at c.index-all-at.result d low in
    subst (λ (n : Node). IsLeastBy id_cmp (IsIdAt (take c.args.at c.args.certs.now) (place_of n)) c.in-Ok.earlier) last
    (rw c.as_slice-all.ensures at c.in-Ok.ensures.earlier)
