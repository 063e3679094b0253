use Rattle.std.proofs.Common.{rules, arith, ◌<◌, length}
use Rattle.bk_script.proofs.WholeTexts.{gives_still, read_all, read_ended, read_enough, read_past}
use Rattle.bk_script.proofs.reading.read_text.Goals as goal

pub returns-then-count-eq0-clause-text : goal.returns-then-count-eq0-clause-text
returns-then-count-eq0-clause-text g c =
    let some : 0 < length c.pull.new.buf = search rules in (
      search rules,
      c.loop-text.invariant.within,
      read_all (g.S.Source.state c.args.source.now).bytes (g.S.Source.state c.loop-text.source).bytes (g.S.Source.state c.pull.new.self).bytes c.loop-text.text.items c.pull.new.buf c.in_ok-count.count c.args.most c.loop-text.invariant.gave.known (c.in_ok-count.ensures.bytes.0.known, c.in_ok-count.ensures.bytes.1) c.if-count-eq0.true some c.loop-text.invariant.within,
      gives_still (g.S.Source.state c.args.source.now) (g.S.Source.state c.loop-text.source) (g.S.Source.state c.pull.new.self) c.loop-text.text.items c.pull.new.buf c.in_ok-count.count c.loop-text.invariant.gave c.in_ok-count.ensures.bytes.0 c.if-count-eq0.true,
      read_ended c.args.most (g.S.Source.state c.args.source.now) (g.S.Source.state c.loop-text.source) (g.S.Source.state c.pull.new.self) c.loop-text.text.items c.in_ok-count.count (length c.pull.new.buf) (omega (arith, c.loop-text-test.true, c.len.ensures)) c.loop-text.invariant.goes_on c.in_ok-count.ensures.bytes.2 c.if-count-eq0.true some,
    )

pub returns-clause-text : goal.returns-clause-text
returns-clause-text g c = (
  c.loop-text.invariant.sound,
  c.loop-text.invariant.within,
  read_enough (g.S.Source.state c.args.source.now).bytes (g.S.Source.state c.loop-text.source).bytes c.loop-text.text.items c.args.most c.loop-text.invariant.gave.known (omega (arith, c.loop-text.invariant.within, c.loop-text-test.false)),
  c.loop-text.invariant.gave,
  read_past c.args.most (g.S.Source.state c.args.source.now) (g.S.Source.state c.loop-text.source) c.loop-text.text.items (omega (arith, c.loop-text-test.false)) c.loop-text.invariant.goes_on,
)
