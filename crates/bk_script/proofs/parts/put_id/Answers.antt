use Rattle.std.proofs.Common.{◌<◌, ◌∙◌, [], arith, ap, sym, length}
use Rattle.std.specs.Ordering.{nat_cmp}
use Rattle.std.specs.Cmp.Lexicographic.{slice_cmp}
use Rattle.std.proofs.lemmas.List.{get_or_default}
use Rattle.bk_script.specs.Judging.{with_id}
use Rattle.bk_script.proofs.Sorted.{behind, again, before_one, last_one}
use Rattle.bk_script.proofs.parts.put_id.Goals as goal

pub returns-in-Less : goal.returns-in-Less
returns-in-Less c =
    let ids = c.loop-i.ids.items in
    let l : c.loop-i.i < length ids = omega (arith, c.loop-i-test.true, c.len-i-end.ensures, ap length c.loop-i.invariant.same) in
    let same = c.index.ensures ∙ get_or_default ids c.loop-i.i c.index.result.now [] l in
    let e = ap (slice_cmp nat_cmp c.args.id) (sym same) ∙ sym c.cmp.ensures ∙ c.in-Less.is in
    ap (λ xs. with_id xs c.args.id) (sym c.loop-i.invariant.same) ∙ before_one c.args.id ids c.insert.new.self.items c.loop-i.i l e c.in_ok-insert-in-Less.ensures.items c.loop-i.invariant.read

pub returns-in-Equal : goal.returns-in-Equal
returns-in-Equal c =
    let ids = c.loop-i.ids.items in
    let l : c.loop-i.i < length ids = omega (arith, c.loop-i-test.true, c.len-i-end.ensures, ap length c.loop-i.invariant.same) in
    let same = c.index.ensures ∙ get_or_default ids c.loop-i.i c.index.result.now [] l in
    let e = ap (slice_cmp nat_cmp c.args.id) (sym same) ∙ sym c.cmp.ensures ∙ c.in-Equal.is in
    ap (λ xs. with_id xs c.args.id) (sym c.loop-i.invariant.same) ∙ again c.args.id ids c.loop-i.i l e c.loop-i.invariant.read

pub loop-i-preserved : goal.loop-i-preserved
loop-i-preserved c =
    let ids = c.loop-i.ids.items in
    let l : c.loop-i.i < length ids = omega (arith, c.loop-i-test.true, c.len-i-end.ensures, ap length c.loop-i.invariant.same) in
    let same = c.index.ensures ∙ get_or_default ids c.loop-i.i c.index.result.now [] l in
    let e = ap (slice_cmp nat_cmp c.args.id) (sym same) ∙ sym c.cmp.ensures ∙ c.in-Greater.is in
    record { same = c.loop-i.invariant.same; read = behind c.args.id ids c.loop-i.i l e c.loop-i.invariant.read }

pub returns : goal.returns
returns c =
    let ids = c.loop-i.ids.items in
    ap (λ xs. with_id xs c.args.id) (sym c.loop-i.invariant.same)
    ∙ last_one c.args.id ids c.push.new.self.items c.loop-i.i (omega (arith, c.loop-i-test.false, c.len-i-end.ensures, ap length c.loop-i.invariant.same)) c.in_ok-push.ensures.items c.loop-i.invariant.read
