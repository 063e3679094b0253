use Rattle.std.proofs.Common.{◌∙◌, []}
use Rattle.std.proofs.lemmas.Result.{err_from_is_err_and}
use Rattle.std.proofs.lemmas.List.{get_or_default}
use Rattle.bk_script.specs.Judging.{with_ids}
use Rattle.bk_script.proofs.Sorted.{id_more, id_stops, ids_done}
use Rattle.bk_script.proofs.parts.parents_of.Goals as goal

pub loop-id-preserved : goal.loop-id-preserved
loop-id-preserved c =
    let same = c.id-item.is ∙ get_or_default c.args.ids.now c.loop-id.id-index c.id-item.result [] c.loop-id-test.true in
    id_more c.args.ids.now c.loop-id.parents.items c.put_id.new.ids.items c.loop-id.id-index c.id-item.result (with_ids [] c.args.ids.now) c.loop-id-test.true same c.in_ok-put_id.ensures c.loop-id.invariant

pub returns-in_err-put_id : goal.returns-in_err-put_id
returns-in_err-put_id c =
    let same = c.id-item.is ∙ get_or_default c.args.ids.now c.loop-id.id-index c.id-item.result [] c.loop-id-test.true in
    let p = err_from_is_err_and c.from_residual.result c.from_residual.ensures.1 in
    rw (p.1, p.2) (id_stops c.args.ids.now c.loop-id.parents.items c.loop-id.id-index c.id-item.result c.in_err-put_id.field-0.0 c.loop-id-test.true c.if-ids-gt128.false same c.in_err-put_id.ensures c.loop-id.invariant)

pub returns : goal.returns
returns c = ids_done c.args.ids.now c.loop-id.parents.items c.loop-id.id-index c.loop-id-test.false c.if-ids-gt128.false c.loop-id.invariant
