use Rattle.std.proofs.Common.{ℕ, List, ap, sym, subst, ◌∙◌}
use Rattle.bk_cert.specs.Node.{Node}
use Rattle.bk_evidence.specs.Collisions.{IsAtMost}
use Rattle.bk_evidence.specs.Twins.{IsIdAt}
use Rattle.bk_evidence.proofs.Placing.{id_there, least_kept, none_kept}
use Rattle.bk_evidence.proofs.held.Held.at.Goals as goal

pub returns-in_err-index-clause-none : goal.returns-in_err-index-clause-none
returns-in_err-index-clause-none c = rw (c.from_residual.ensures, ← c.self.view_is)
    (none_kept c.self.inside.certs c.self.inside.places c.args.place c.self.invariant.1 (sym c.in_err-index.ensures))

pub cert_at-requires : goal.cert_at-requires
cert_at-requires c = rw c.as_slice.ensures (least_kept c.self.inside.certs c.self.inside.places c.args.place c.self.invariant.1 c.in_ok-index.index (sym c.in_ok-index.ensures)).0

pub returns-clause-found : goal.returns-clause-found
returns-clause-found c =
    let at = least_kept c.self.inside.certs c.self.inside.places c.args.place c.self.invariant.1 c.in_ok-index.index (sym c.in_ok-index.ensures) in
    let here = rw c.as_slice.ensures at (λ (d : Node). c.cert_at.ensures d) in
    rw (← c.self.view_is) (
      (c.in_ok-index.index, at.0, sym (here c.cert_at.result.now)),
      subst (IsIdAt c.self.inside.certs c.args.place) (id_there c.self.inside.certs c.in_ok-index.index c.cert_at.result.now at.0 ∙ ap (λ (n : Node). n.id) (sym (here c.cert_at.result.now))) at.1.0,
    )

pub returns-clause-least : goal.returns-clause-least
returns-clause-least c =
    let at = least_kept c.self.inside.certs c.self.inside.places c.args.place c.self.invariant.1 c.in_ok-index.index (sym c.in_ok-index.ensures) in
    let here = rw c.as_slice.ensures at (λ (d : Node). c.cert_at.ensures d) in
    rw (← c.self.view_is)
    (subst (λ (x : List ℕ). (id : List ℕ) → IsIdAt c.self.inside.certs c.args.place id → IsAtMost x id)
    (id_there c.self.inside.certs c.in_ok-index.index c.cert_at.result.now at.0 ∙ ap (λ (n : Node). n.id) (sym (here c.cert_at.result.now))) at.1.1)
