use Rattle.std.proofs.Common.{◌+◌, ◌∙◌, List, ℕ, [], ◌∷◌, ◌++◌, ap, refl, sym, arith, rules}
use Rattle.std.proofs.lemmas.List.{append-nil}
use Rattle.std.proofs.lemmas.Result.{err_from_is_err_and}
use Rattle.std.specs.Global.{Vec}
use Rattle.bk_base.specs.declared.kind.Kind.{Kind}
use Rattle.bk_frames.specs.declared.fault.FaultCode.TheVariants as code
use Rattle.bk_frames.specs.Cutting.{frames_in}
use Rattle.bk_frames.specs.private.Parts.{cut_of}
use Rattle.bk_frames.proofs.CutParts.{nothing_came, step_of, fails_of, taken, pushed_more, refused, fails_soon, fails_here, all_cut, memory_is_no_cut}
use Rattle.bk_frames.proofs.cutter.cut.Goals as goal

pub returns-in_err-at-clause-refused : goal.returns-in_err-at-clause-refused
returns-in_err-at-clause-refused c =
    let p = err_from_is_err_and c.from_residual.result c.from_residual.ensures.1 in
    let fails = fails_of (cut_of c.loop-at.part) c.loop-at.at c.args.piece.now c.in_err-at.field-0.0 c.in_err-at.ensures.err in
    let so_far = c.loop-at.invariant.cuts in
    rw (p.1, p.2) (fails_soon (cut_of c.args.part.now) c.loop-at.at c.args.piece.now c.args.out.now.items c.loop-at.out.items so_far.0 c.loop-at.part c.advance.new.part c.in_err-at.field-0.0 so_far.1 c.in_err-at.ensures.place so_far.2 fails)

pub returns-in_err-take_frame-clause-refused : goal.returns-in_err-take_frame-clause-refused
returns-in_err-take_frame-clause-refused c =
    let p = err_from_is_err_and c.from_residual-in_err-take_frame.result c.from_residual-in_err-take_frame.ensures.1 in
    let step = step_of (cut_of c.loop-at.part) (cut_of c.advance.new.part) c.loop-at.at c.in_ok-at.field-0 c.args.piece.now c.in_ok-at.ensures.cuts in
    let so_far = taken (cut_of c.args.part.now) (cut_of c.loop-at.part) (cut_of c.advance.new.part) c.loop-at.at c.in_ok-at.field-0 c.args.piece.now (frames_in c.loop-at.invariant.cuts.0) c.loop-at.invariant.cuts.2 step in
    rw (p.1, p.2)
    (fails_here (cut_of c.args.part.now) (c.loop-at.at + c.in_ok-at.field-0) c.args.piece.now c.args.out.now.items c.reserve.new.self.items c.loop-at.invariant.cuts.0 c.advance.new.part c.take_frame.new.part c.in_err-take_frame.field-0.0 (c.in_ok-reserve.ensures.items ∙ c.loop-at.invariant.cuts.1)
    c.in_err-take_frame.ensures.place so_far c.in_err-take_frame.ensures.err)

pub loop-at-preserved-in_ok-push : goal.loop-at-preserved-in_ok-push
loop-at-preserved-in_ok-push c =
    let step = step_of (cut_of c.loop-at.part) (cut_of c.advance.new.part) c.loop-at.at c.in_ok-at.field-0 c.args.piece.now c.in_ok-at.ensures.cuts in
    let so_far = taken (cut_of c.args.part.now) (cut_of c.loop-at.part) (cut_of c.advance.new.part) c.loop-at.at c.in_ok-at.field-0 c.args.piece.now (frames_in c.loop-at.invariant.cuts.0) c.loop-at.invariant.cuts.2 step in
    record {
      part = c.in_ok-take_frame.ensures.part;
      short = λ e. absurd (omega (arith, c.in_ok-take_frame.ensures.next));
      within = search rules;
      cuts = pushed_more (cut_of c.args.part.now) (cut_of c.advance.new.part) (cut_of c.take_frame.new.part) c.loop-at.at c.in_ok-at.field-0 c.args.piece.now c.args.out.now.items c.loop-at.out.items c.push.new.self.items c.loop-at.invariant.cuts.0 c.in_ok-take_frame.field-0 c.loop-at.invariant.cuts.1 so_far c.in_ok-take_frame.ensures.cuts (c.in_ok-push.ensures.items ∙ ap (λ (t : List (Kind × Vec ℕ)). t ++ c.in_ok-take_frame.field-0 ∷ []) c.in_ok-reserve.ensures.items);
    }

pub returns-in_err-push-clause-refused : goal.returns-in_err-push-clause-refused
returns-in_err-push-clause-refused c = absurd (omega (arith, c.in_err-push.ensures.full, c.in_ok-reserve.ensures.ok))

pub loop-at-preserved : goal.loop-at-preserved
loop-at-preserved c =
    let step = step_of (cut_of c.loop-at.part) (cut_of c.advance.new.part) c.loop-at.at c.in_ok-at.field-0 c.args.piece.now c.in_ok-at.ensures.cuts in
    record {
      part = c.in_ok-at.ensures.part;
      short = search rules;
      within = search rules;
      cuts = (c.loop-at.invariant.cuts.0, c.loop-at.invariant.cuts.1, taken (cut_of c.args.part.now) (cut_of c.loop-at.part) (cut_of c.advance.new.part) c.loop-at.at c.in_ok-at.field-0 c.args.piece.now (frames_in c.loop-at.invariant.cuts.0) c.loop-at.invariant.cuts.2 step);
    }

pub loop-at-init : goal.loop-at-init
loop-at-init c = record {
  part = c.requires.part;
  short = c.requires.short;
  within = search rules;
  cuts = ([], sym (append-nil c.args.out.now.items), nothing_came c.args.part.now c.requires.part);
}

pub returns-clause-cuts : goal.returns-clause-cuts
returns-clause-cuts c =
    (c.loop-at.invariant.cuts.0, c.loop-at.invariant.cuts.1, all_cut (cut_of c.args.part.now) (cut_of c.loop-at.part) c.loop-at.at c.args.piece.now (frames_in c.loop-at.invariant.cuts.0) c.loop-at-test.false c.loop-at.invariant.cuts.2)

pub returns-in_err-reserve-clause-refused : goal.returns-in_err-reserve-clause-refused
returns-in_err-reserve-clause-refused c =
    let p = err_from_is_err_and c.from_residual-in_err-reserve.result c.from_residual-in_err-reserve.ensures.1 in
    let step = step_of (cut_of c.loop-at.part) (cut_of c.advance.new.part) c.loop-at.at c.in_ok-at.field-0 c.args.piece.now c.in_ok-at.ensures.cuts in
    let so_far = taken (cut_of c.args.part.now) (cut_of c.loop-at.part) (cut_of c.advance.new.part) c.loop-at.at c.in_ok-at.field-0 c.args.piece.now (frames_in c.loop-at.invariant.cuts.0) c.loop-at.invariant.cuts.2 step in
    rw (p.1, p.2)
    (refused (cut_of c.args.part.now) (c.loop-at.at + c.in_ok-at.field-0) c.args.piece.now c.args.out.now.items c.reserve.new.self.items c.loop-at.invariant.cuts.0 c.advance.new.part c.advance.new.part code.Memory (c.in_err-reserve.ensures.items ∙ c.loop-at.invariant.cuts.1)
    (refl, refl) so_far memory_is_no_cut c.in-Some.ensures.begun)
