use Rattle.std.proofs.Common.{ℕ, List, subst, take_all}
use Rattle.std.specs.Prelude.{◌↔◌}
use Rattle.bk_rounds.specs.Members.{Has}
use Rattle.bk_picture.specs.private.Cells.{IsNamedIn}
use Rattle.bk_picture.proofs.Named.{named_next}
use Rattle.bk_picture.proofs.cells.named_of.Goals as goal

pub loop-id-preserved : goal.loop-id-preserved
loop-id-preserved c =
    named_next c.args.rounds.now.held c.args.round c.args.ids.now c.loop-id.id-index c.id-item.result c.id-item.result c.loop-id.named c.with_named-named.result c.loop-id-test.true c.id-item.is c.loop-id.invariant c.with_named-named.ensures

pub returns : goal.returns
returns c y = subst (λ (ids : List (List ℕ)). Has c.loop-id.named y ↔ IsNamedIn c.args.rounds.now.held c.args.round ids y) (take_all c.loop-id.id-index c.args.ids.now c.loop-id-test.false) (c.loop-id.invariant y)
