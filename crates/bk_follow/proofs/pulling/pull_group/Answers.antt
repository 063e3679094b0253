use Rattle.std.proofs.Common.{◌≡◌, ℕ, zero, suc, ◌<◌, refl, arith}
use Rattle.std.proofs.lemmas.Result.{err_from_is_err_and}
use Rattle.bk_frames.proofs.Devices.{ends_not_at}
use Rattle.bk_follow.proofs.Groups.{none_so_far, piece_more, group_ends, source_ends, group_refused, can_pull_next}
use Rattle.bk_follow.proofs.pulling.pull_group.Goals as goal

not_zero : (n : ℕ) → ¬ (n ≡ 0) → 0 < n
not_zero zero h = absurd (h refl)
not_zero (suc n) h = omega arith

pub pieces-init : goal.pieces-init
pieces-init g c = record {
  pulls = none_so_far (g.S.Source.state c.args.source.now) c.args.frames.now.items c.args.cutter.now c.requires.sound c.requires.pulled;
  some = c.requires.some;
  few = c.requires.few;
}

pub pull_frames-requires-clause-pulled : goal.pull_frames-requires-clause-pulled
pull_frames-requires-clause-pulled g c = can_pull_next (g.S.Source.state c.args.source.now) (g.S.Source.state c.pieces.source) c.args.frames.now.items c.pieces.frames.items c.args.cutter.now c.pieces.cutter c.pieces.invariant.pulls

pub returns-in_err-count : goal.returns-in_err-count
returns-in_err-count g c =
    let p = err_from_is_err_and c.from_residual.result c.from_residual.ensures.1 in
    rw (p.1, p.2) (group_refused (g.S.Source.state c.args.source.now) (g.S.Source.state c.pieces.source) (g.S.Source.state c.pull_frames.new.source) c.args.frames.now.items c.pieces.frames.items c.args.cutter.now c.pieces.cutter _ c.pieces.invariant.pulls c.in_err-count.ensures.refused)

pub returns-then-count-eq0 : goal.returns-then-count-eq0
returns-then-count-eq0 g c =
    source_ends (g.S.Source.state c.args.source.now) (g.S.Source.state c.pieces.source) (g.S.Source.state c.pull_frames.new.source) c.args.frames.now.items c.pieces.frames.items c.pull_frames.new.frames.items c.args.cutter.now c.pieces.cutter c.pull_frames.new.cutter c.in_ok-count.count c.pieces.invariant.pulls
    c.in_ok-count.ensures.cuts c.in_ok-count.ensures.pulls c.if-count-eq0.true (λ start bytes frames p before. c.in_ok-count.ensures.all c.if-count-eq0.true start bytes frames p before)

pub returns-then-are_enough : goal.returns-then-are_enough
returns-then-are_enough g c =
    group_ends (g.S.Source.state c.args.source.now) (g.S.Source.state c.pieces.source) (g.S.Source.state c.pull_frames.new.source) c.args.frames.now.items c.pieces.frames.items c.pull_frames.new.frames.items c.args.cutter.now c.pieces.cutter c.pull_frames.new.cutter c.in_ok-count.count c.pieces.invariant.pulls
    c.in_ok-count.ensures.cuts c.in_ok-count.ensures.pulls (c.in_ok-count.ensures.nearer (not_zero c.in_ok-count.count c.if-count-eq0.false))
    (ends_not_at c.in_ok-count.count (g.S.Source.state c.pieces.source) (g.S.Source.state c.pull_frames.new.source) c.in_ok-count.ensures.ends (not_zero c.in_ok-count.count c.if-count-eq0.false))

pub pieces-preserved : goal.pieces-preserved
pieces-preserved g c = record {
  pulls = piece_more (g.S.Source.state c.args.source.now) (g.S.Source.state c.pieces.source) (g.S.Source.state c.pull_frames.new.source) c.args.frames.now.items c.pieces.frames.items c.pull_frames.new.frames.items c.args.cutter.now c.pieces.cutter c.pull_frames.new.cutter c.in_ok-count.count c.pieces.invariant.pulls
      c.in_ok-count.ensures.cuts c.in_ok-count.ensures.pulls (c.in_ok-count.ensures.nearer (not_zero c.in_ok-count.count c.if-count-eq0.false))
      (ends_not_at c.in_ok-count.count (g.S.Source.state c.pieces.source) (g.S.Source.state c.pull_frames.new.source) c.in_ok-count.ensures.ends (not_zero c.in_ok-count.count c.if-count-eq0.false));
  some = omega (arith, c.pull_frames.auto.piece, c.pieces.invariant.some);
  few = omega (arith, c.pull_frames.auto.piece, c.pieces.invariant.few);
}
