use Rattle.std.proofs.Common.{◌≡◌, ◌<◌, ◌∙◌, ℕ, length, get_or, sym, ap, arith}
use Rattle.std.proofs.lemmas.Slice.Eq.{bytes_eq-Decides}
use Rattle.bk_rounds.specs.declared.slots.Slot.{Slot}
use Rattle.bk_rounds.proofs.Found.{id_read}
use Rattle.bk_rounds.proofs.rows.has_id.Goals as goal

pub returns : goal.returns
returns c = λ t.
    let k : ℕ = c.args.number in
    let s : Slot = c.index-slots-number.result in
    let low : k < length c.args.slots.now = omega (arith, c.if-number-slots.false) in
    let same : (get_or c.args.slots.now k s).id ≡ c.args.id.now = (bytes_eq-Decides (get_or c.args.slots.now k s).id c.args.id.now).0 (sym c.eq.ensures ∙ t) in
    (low, sym (id_read c.args.slots.now k s low c.index-slots-number.is) ∙ (ap (λ (x : Slot). x.id) c.index-slots-number.is ∙ same))
