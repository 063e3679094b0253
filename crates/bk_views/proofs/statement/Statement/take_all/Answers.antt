use Rattle.std.proofs.Common.{◌∙◌, arith}
use Rattle.bk_views.proofs.Reading.{text_low, text_next}
use Rattle.bk_views.proofs.statement.Statement.take_all.Goals as goal

pub loop-slice-preserved : goal.loop-slice-preserved
loop-slice-preserved c = record {
  id = c.in_ok-take_one.ensures.same ∙ c.loop-slice.invariant.id;
  place = omega (arith, c.in_ok-take_one.ensures.place, c.loop-slice.invariant.place);
  told = λ course run next told. c.in_ok-take_one.ensures.told course run
      (text_low course c.args.self.now.place c.loop-slice.slice-index c.loop-slice.self.place c.args.payload.now c.args.slices.now next c.loop-slice-test.true c.loop-slice.invariant.place)
      (text_next course c.args.self.now.place c.loop-slice.slice-index c.loop-slice.self.place c.args.payload.now c.args.slices.now _ next c.loop-slice-test.true c.loop-slice.invariant.place)
      (c.loop-slice.invariant.told course run next told);
}
