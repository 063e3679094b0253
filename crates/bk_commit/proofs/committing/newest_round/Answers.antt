use Rattle.std.proofs.Common.{length, sym, ◌∙◌}
use Rattle.std.proofs.lemmas.Bool.{eqb-true}
use Rattle.bk_commit.proofs.Onward.{newest_empty, newest_get, some_items}
use Rattle.bk_commit.proofs.committing.newest_round.Goals as goal

pub returns-then-is_empty : goal.returns-then-is_empty
returns-then-is_empty c = sym (newest_empty c.args.anchors.now (eqb-true _ _ (sym c.is_empty.ensures ∙ c.if-is_empty.true)))

pub returns : goal.returns
returns c = sym (newest_get c.args.anchors.now _ (some_items (length c.args.anchors.now) (sym c.is_empty.ensures ∙ c.if-is_empty.false)))
