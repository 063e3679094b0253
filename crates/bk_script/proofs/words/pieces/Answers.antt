use Rattle.std.proofs.Common.{arith, refl, map}
use Rattle.bk_script.proofs.Cuts.{ended, goes_on, last_piece}
use Rattle.bk_script.proofs.words.pieces.Goals as goal
use Rattle.bk_script.proofs.words.pieces.Goals.{then-text-end+in_ok-push, else-text-end}

pub loop-end-preserved : goal.loop-end-preserved
loop-end-preserved c =
    elim c.if-text-end.branch [
      | then-text-end+in_ok-push w ↦ rw (w.start-is, w.found-is) (record {
        start = omega arith;
        read = ended (λ p. p.now) c.loop-end.found.items w.push.new.self.items _ c.args.separator c.args.text.now c.loop-end.start c.loop-end.end c.loop-end.invariant.start c.loop-end-test.true w.if-text-end.true refl w.in_ok-push.ensures.items c.loop-end.invariant.read;
      })
      | else-text-end w ↦ rw (w.start-is, w.found-is) (record {
        start = omega (arith, c.loop-end.invariant.start);
        read = goes_on (map (λ p. p.now) c.loop-end.found.items) c.args.separator c.args.text.now c.loop-end.start c.loop-end.end c.loop-end.invariant.start c.loop-end-test.true w.if-text-end.false c.loop-end.invariant.read;
      })
    ]

pub returns : goal.returns
returns c = last_piece (λ p. p.now) c.loop-end.found.items c.push-2.new.self.items _ c.args.separator c.args.text.now c.loop-end.start c.loop-end.end c.loop-end.invariant.start c.loop-end-test.false refl c.in_ok-push-2.ensures.items c.loop-end.invariant.read
