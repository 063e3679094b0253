use Rattle.std.proofs.Common.{arith, ap, sym, ◌∙◌, ◌<◌, length}
use Rattle.std.proofs.lemmas.List.{get_or_default}
use Rattle.bk_tx.specs.declared.declared.Declared.{Declared}
use Rattle.bk_tx.specs.Access.{no_declared}
use Rattle.bk_script.specs.Transactions.{declare}
use Rattle.bk_script.proofs.Declaring.{above, before_here, is_here, at_end}
use Rattle.bk_script.proofs.transactions.declare_one.Goals as goal

pub returns-then-id-there : goal.returns-then-id-there
returns-then-id-there c =
    let ds = c.loop-i.declared.items in
    let l : c.loop-i.i < length ds = omega (arith, c.loop-i-test.true, c.len-i-end.ensures, ap length c.loop-i.invariant.same) in
    let same = c.index.ensures ∙ get_or_default ds c.loop-i.i c.index.result.now no_declared l in
    before_here c.args.id c.args.writable ds c.insert.new.self.items c.loop-i.i l (rw (ap (λ (d : Declared). d.id) same) at c.if-id-there.true) c.in_ok-insert.ensures.items c.loop-i.invariant.read
    ∙ ap (declare c.args.id c.args.writable) c.loop-i.invariant.same

pub returns-then-id-there-2 : goal.returns-then-id-there-2
returns-then-id-there-2 c =
    let ds = c.loop-i.declared.items in
    let l : c.loop-i.i < length ds = omega (arith, c.loop-i-test.true, c.len-i-end.ensures, ap length c.loop-i.invariant.same) in
    let same = c.index.ensures ∙ get_or_default ds c.loop-i.i c.index.result.now no_declared l in
    is_here c.args.id c.args.writable ds c.loop-i.i l (c.if-id-there-2.true ∙ ap (λ (d : Declared). d.id) same) c.loop-i.invariant.read
    ∙ ap (declare c.args.id c.args.writable) c.loop-i.invariant.same

pub loop-i-preserved : goal.loop-i-preserved
loop-i-preserved c =
    let ds = c.loop-i.declared.items in
    let l : c.loop-i.i < length ds = omega (arith, c.loop-i-test.true, c.len-i-end.ensures, ap length c.loop-i.invariant.same) in
    let same = c.index.ensures ∙ get_or_default ds c.loop-i.i c.index.result.now no_declared l in
    record {
      same = c.loop-i.invariant.same;
      read = above c.args.id c.args.writable ds c.loop-i.i l (rw (ap (λ (d : Declared). d.id) same) at c.if-id-there.false) (λ e. c.if-id-there-2.false (e ∙ sym (ap (λ (d : Declared). d.id) same))) c.loop-i.invariant.read;
    }

pub returns : goal.returns
returns c =
    at_end c.args.id c.args.writable c.loop-i.declared.items c.push.new.self.items c.loop-i.i (omega (arith, c.loop-i-test.false, c.len-i-end.ensures, ap length c.loop-i.invariant.same)) c.in_ok-push.ensures.items c.loop-i.invariant.read
    ∙ ap (declare c.args.id c.args.writable) c.loop-i.invariant.same
