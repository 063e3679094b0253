use Rattle.std.proofs.Common.{◌≡◌, ◌∙◌, ap, sym, true, false, is_some}
use Rattle.bk_script.specs.private.Places.{noted_at}
use Rattle.bk_script.proofs.Named.{noted_new, noted_again}
use Rattle.bk_script.proofs.names.note.Goals as goal

pub returns-clause-noted : goal.returns-clause-noted
returns-clause-noted c =
    let new : is_some (noted_at c.args.places.now c.args.name.items) ≡ false = ap (λ bs. is_some (noted_at c.args.places.now bs)) (sym c.as_slice.ensures.value) ∙ sym c.if-contains_key.ensures in
    noted_new c.args.name.items c.args.place c.args.places.now c.insert.new.self new c.in_ok-insert.ensures.updates

pub returns-then-contains_key-clause-noted : goal.returns-then-contains_key-clause-noted
returns-then-contains_key-clause-noted c =
    let there : is_some (noted_at c.args.places.now c.args.name.items) ≡ true = ap (λ bs. is_some (noted_at c.args.places.now bs)) (sym c.as_slice.ensures.value) ∙ sym c.if-contains_key.ensures in
    noted_again c.args.name.items c.args.place c.args.places.now there
