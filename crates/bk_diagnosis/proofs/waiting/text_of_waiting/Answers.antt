use Rattle.std.proofs.Common.{List, sym, subst}
use Rattle.std.specs.List.{Contains}
use Rattle.bk_cert.specs.declared.place.CertRef.{CertRef}
use Rattle.bk_rounds.specs.Admission.{WaitsAt}
use Rattle.bk_diagnosis.specs.private.Graph.{GraphValue}
use Rattle.bk_diagnosis.proofs.waiting.text_of_waiting.Goals as goal

pub push_waiting-requires : goal.push_waiting-requires
push_waiting-requires c a t =
    subst (λ (v : GraphValue). WaitsAt v.sizes v.certs a) (sym c.in_ok-graph.ensures)
    (c.in_ok-places.ensures.sound a (subst (λ (xs : List CertRef). Contains xs a) c.deref.ensures.value t))
