use Rattle.std.proofs.Common.{ℕ, List, subst}
use Rattle.bk_conflicts.specs.private.Trail.{IsRow}
use Rattle.bk_conflicts.proofs.Marks.{writer_some, writer_none}
use Rattle.bk_conflicts.proofs.trail.add_writer.Goals as goal

pub returns-in_ok-add_once : goal.returns-in_ok-add_once
returns-in_ok-add_once c = record {
  row = λ before row ws h m. subst (λ (xs : List ℕ). IsRow c.args.mark before xs c.add_once.new.stamp c.add_once.new.found.items) (writer_some c.args.writer ws row c.if-writer-ne-NONE.true h) (c.in_ok-add_once.ensures.row before row m);
  counted = c.in_ok-add_once.ensures.counted;
}

pub returns-else-writer-ne-NONE : goal.returns-else-writer-ne-NONE
returns-else-writer-ne-NONE c = record {
  row = λ before row ws h m. subst (λ (xs : List ℕ). IsRow c.args.mark before xs c.args.stamp.now c.args.found.now.items) (writer_none c.args.writer ws row c.if-writer-ne-NONE.false h) m;
  counted = c.requires.counted;
}
