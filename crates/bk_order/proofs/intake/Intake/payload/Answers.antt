use Rattle.std.proofs.Common.{◌≡◌, ◌<◌, ◌∙◌, List, [], Some, length, get_or, sym, ap, subst}
use Rattle.std.specs.Prelude.{slice_get}
use Rattle.bk_evidence.specs.declared.batches.BatchRef.{BatchRef}
use Rattle.bk_evidence.specs.Batches.{batch_with}
use Rattle.bk_flatten.specs.Batches.{payload_at}
use Rattle.bk_order.proofs.Ordering.{found_low, get_mapped}
use Rattle.bk_order.proofs.intake.Intake.payload.Goals as goal

pub payload-requires : goal.payload-requires
payload-requires c =
    let d : BatchRef = record { index = 0 } in
    let open_ = ap (λ v. v.failed) c.self.view_is ∙ c.requires.open in
    let found : List BatchRef = c.self.inside.settled.list.found in
    let low = subst (λ v. c.args.place < length v.ordered.payloads.list) (sym c.self.view_is) c.requires.inside in
    let h = get_mapped (payload_at c.self.inside.table.batches) found c.args.place d low in
    subst (λ (bs : List BatchRef). (get_or bs c.args.place d).index < length c.self.inside.table.batches) (sym c.found.ensures)
    (found_low c.self.inside.table.batches c.self.inside.settled.list.digests found c.args.place d (c.self.invariant open_).1.found h.0)

pub returns : goal.returns
returns c =
    let d : BatchRef = record { index = 0 } in
    let found : List BatchRef = c.self.inside.settled.list.found in
    let low = subst (λ v. c.args.place < length v.ordered.payloads.list) (sym c.self.view_is) c.requires.inside in
    let h = get_mapped (payload_at c.self.inside.table.batches) found c.args.place d low in
    let at : payload_at c.self.inside.table.batches (get_or found c.args.place d) ≡ c.payload.result.now =
    ap (λ (bs : List BatchRef). payload_at c.self.inside.table.batches (get_or bs c.args.place d)) (sym c.found.ensures) ∙ sym (c.payload.ensures (batch_with [] [])) in
    subst (λ v. slice_get v.ordered.payloads.list c.args.place ≡ Some c.payload.result.now) c.self.view_is (h.1 ∙ ap Some at)
