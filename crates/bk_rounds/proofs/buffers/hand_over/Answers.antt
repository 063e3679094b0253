use Rattle.std.proofs.Common.{◌≡◌, ◌↔◌, ◌++◌, ◌∙◌, List, sym, ap, subst}
use Rattle.std.specs.List.{Contains}
use Rattle.bk_cert.specs.declared.place.CertRef.{CertRef}
use Rattle.bk_rounds.proofs.buffers.hand_over.Goals as goal

pub returns-in-Ok-clause-same : goal.returns-in-Ok-clause-same
returns-in-Ok-clause-same c =
    let copy : c.extend_from_slice.new.self.items ≡ c.list.new.places.items =
    c.in-Ok.ensures.items ∙ (λ i. c.new-copy.ensures.items i ++ (c.deref.ensures.value i)) in
    λ a. subst (λ (xs : List CertRef). Contains xs a ↔ Contains c.args.places.now.items a) (sym copy) (c.list.ensures.same a)

pub returns-in-Err-clause-same : goal.returns-in-Err-clause-same
returns-in-Err-clause-same c = λ a.
    subst (λ (xs : List CertRef). Contains xs a ↔ Contains c.args.places.now.items a) (sym (ap (λ v. v.items) c.replace.ensures.value)) (c.list.ensures.same a)
