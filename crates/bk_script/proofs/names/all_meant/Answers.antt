use Rattle.std.proofs.Common.{map}
use Rattle.std.proofs.lemmas.Result.{err_from_is_err_and}
use Rattle.bk_script.specs.Words.{each_of}
use Rattle.bk_script.specs.Known.{meant_by}
use Rattle.bk_script.proofs.Each.{lent_more, lent_bad, lent_all}
use Rattle.bk_script.proofs.names.all_meant.Goals as goal

pub returns-in_err-meant_by : goal.returns-in_err-meant_by
returns-in_err-meant_by c =
    let p = err_from_is_err_and c.from_residual.result c.from_residual.ensures.1 in
    rw (p.1, p.2) (lent_bad (meant_by c.args.names.now) c.args.items.now c.loop-item.item-index _ c.loop-item.found.items c.in_err-meant_by.field-0.0 (each_of (meant_by c.args.names.now) (map (λ w. w.now) c.args.items.now)) c.loop-item-test.true c.in_err-meant_by.ensures c.loop-item.invariant)

pub loop-item-preserved : goal.loop-item-preserved
loop-item-preserved c =
    lent_more (meant_by c.args.names.now) c.args.items.now c.loop-item.item-index _ c.loop-item.found.items c.push.new.self.items c.in_ok-meant_by.field-0 (each_of (meant_by c.args.names.now) (map (λ w. w.now) c.args.items.now)) c.loop-item-test.true c.in_ok-meant_by.ensures c.in_ok-push.ensures.items c.loop-item.invariant

pub returns : goal.returns
returns c = lent_all (meant_by c.args.names.now) c.args.items.now c.loop-item.item-index c.loop-item.found.items (each_of (meant_by c.args.names.now) (map (λ w. w.now) c.args.items.now)) c.loop-item-test.false c.loop-item.invariant
