use Rattle.std.proofs.Common.{reverse, take}
use Rattle.bk_flatten.specs.Order.{IsOrder}
use Rattle.bk_flatten.proofs.flat.whole_order.Given as goal

abbrev pub invariant-loop-a : goal.invariant-loop-a
invariant-loop-a l = IsOrder l.rounds.sizes l.rounds.held (reverse (take l.a-index l.a-items)) l.flat
