use Rattle.std.proofs.Common.{◌∙◌, arith, length, length-take, refl, ◌-◌, take, drop}
use Rattle.std.proofs.lemmas.List.{take_rest}
use Rattle.bk_frames.proofs.Devices.{ends_not_yet, gives_none}
use Rattle.bk_claim.proofs.Findings.{ends_given, found_given, piece_is_same, pulled_on}
use Rattle.bk_claim.proofs.comparing.compare_pieces.Goals as goal

pub returns-then-count-eq0-clause-given : goal.returns-then-count-eq0-clause-given
returns-then-count-eq0-clause-given g c =
    ends_given (g.S.Source.state c.args.claimed.now) (g.S.Source.state c.pieces.claimed) (g.S.Source.state c.pull.new.self)
    c.args.right.now c.pull.new.buf c.pieces.at c.in_ok-count.count c.found_at_end.result c.pieces.invariant.same c.pieces.invariant.goes_on c.in_ok-count.ensures.bytes
    (omega (arith, c.pieces.invariant.some, c.pull.auto.buf)) c.if-count-eq0.true c.found_at_end.ensures.found

pub pieces-init : goal.pieces-init
pieces-init g c = record {
  works = refl;
  some = c.requires.some;
  inside = omega arith;
  same = gives_none (g.S.Source.state c.args.claimed.now);
  goes_on = ends_not_yet (g.S.Source.state c.args.claimed.now);
}

pub pieces-preserved : goal.pieces-preserved
pieces-preserved g c =
    let right = c.args.right.now in
    let same = c.common-same.ensures in
    let a = g.S.Source.state c.args.claimed.now in
    let b = g.S.Source.state c.pieces.claimed in
    let d = g.S.Source.state c.pull.new.self in
    let next = piece_is_same a b d right (take (length right - c.pieces.at) (drop c.pieces.at right)) c.pull.new.buf c.pieces.at c.common-same.result c.in_ok-count.count
    c.pieces.invariant.inside (take_rest right c.pieces.at) c.pieces.invariant.same c.in_ok-count.ensures.bytes.0 c.in_ok-count.ensures.bound
    same.one same.other c.if-same-count.false same.same in
    record {
      works = c.in_ok-count.ensures.count ∙ c.pieces.invariant.works;
      some = omega (arith, c.pieces.invariant.some, c.pull.auto.buf);
      inside = next.0;
      same = next.1;
      goes_on = pulled_on a b d c.in_ok-count.count c.pull.new.buf c.pieces.invariant.goes_on c.in_ok-count.ensures.bytes (omega (arith, c.pieces.invariant.some, c.pull.auto.buf)) (omega (arith, c.if-count-eq0.false));
    }

pub returns-then-same-count-clause-given : goal.returns-then-same-count-clause-given
returns-then-same-count-clause-given g c =
    let right = c.args.right.now in
    let same = c.common-same.ensures in
    found_given (g.S.Source.state c.args.claimed.now) (g.S.Source.state c.pieces.claimed) (g.S.Source.state c.pull.new.self) (g.S.Source.state c.claimed_line.new.claimed)
    right (take (length right - c.pieces.at) (drop c.pieces.at right)) c.pull.new.buf c.pieces.at c.common-same.result c.in_ok-count.count c.in_ok-line.line
    c.pieces.invariant.inside (take_rest right c.pieces.at) c.pieces.invariant.same c.pieces.invariant.goes_on c.in_ok-count.ensures.bytes (omega (arith, c.pieces.invariant.some, c.pull.auto.buf)) c.in_ok-count.ensures.bound
    same.one c.if-same-count.true same.same (same.differ (omega (arith, length-take c.in_ok-count.count c.pull.new.buf, c.in_ok-count.ensures.bound, c.if-same-count.true))) c.in_ok-line.ensures.given
