use Rattle.std.proofs.Common.{◌∙◌, arith, refl, take}
use Rattle.bk_frames.proofs.Devices.{ends_not_yet}
use Rattle.bk_claim.proofs.Findings.{led_end, led_first, led_on, led_whole, pulled_on}
use Rattle.bk_claim.proofs.comparing.finish_line.Goals as goal

pub returns-then-count-eq0-clause-given : goal.returns-then-count-eq0-clause-given
returns-then-count-eq0-clause-given g c =
    led_end (g.S.Source.state c.args.claimed.now) (g.S.Source.state c.pieces.claimed) (g.S.Source.state c.pull.new.self)
    c.args.line.now.items c.pieces.line.items c.pull.new.buf c.in_ok-count.count c.pieces.invariant.given c.pieces.invariant.goes_on c.in_ok-count.ensures.bytes
    (omega (arith, c.pieces.invariant.some, c.pull.auto.buf)) c.if-count-eq0.true c.pieces.invariant.short

pub returns-then-branch-clause-given : goal.returns-then-branch-clause-given
returns-then-branch-clause-given g c =
    led_whole (g.S.Source.state c.args.claimed.now) (g.S.Source.state c.pieces.claimed) (g.S.Source.state c.pull.new.self)
    c.args.line.now.items c.pieces.line.items c.put_line.new.line.items (take c.in_ok-count.count c.pull.new.buf) c.in_ok-put_line.field-0 c.pieces.invariant.given
    (pulled_on (g.S.Source.state c.args.claimed.now) (g.S.Source.state c.pieces.claimed) (g.S.Source.state c.pull.new.self) c.in_ok-count.count c.pull.new.buf c.pieces.invariant.goes_on c.in_ok-count.ensures.bytes (omega (arith, c.pieces.invariant.some, c.pull.auto.buf)) (omega (arith, c.if-count-eq0.false)))
    c.in_ok-count.ensures.bytes.0 c.in_ok-put_line.ensures.line c.if-branch.true

pub pieces-init : goal.pieces-init
pieces-init g c = record {
  works = refl;
  some = c.requires.some;
  short = c.requires.short;
  given = led_first (g.S.Source.state c.args.claimed.now) c.args.line.now.items;
  goes_on = ends_not_yet (g.S.Source.state c.args.claimed.now);
}

pub pieces-preserved : goal.pieces-preserved
pieces-preserved g c =
    let a = g.S.Source.state c.args.claimed.now in
    let b = g.S.Source.state c.pieces.claimed in
    let d = g.S.Source.state c.pull.new.self in
    let came = take c.in_ok-count.count c.pull.new.buf in
    record {
      works = c.in_ok-count.ensures.count ∙ c.pieces.invariant.works;
      some = omega (arith, c.pieces.invariant.some, c.pull.auto.buf);
      short = c.put_line.ensures.short;
      given = led_on a b d c.args.line.now.items c.pieces.line.items c.put_line.new.line.items came c.in_ok-put_line.field-0 c.pieces.invariant.given c.in_ok-count.ensures.bytes.0 c.in_ok-put_line.ensures.line c.if-branch.false;
      goes_on = pulled_on a b d c.in_ok-count.count c.pull.new.buf c.pieces.invariant.goes_on c.in_ok-count.ensures.bytes (omega (arith, c.pieces.invariant.some, c.pull.auto.buf)) (omega (arith, c.if-count-eq0.false));
    }
