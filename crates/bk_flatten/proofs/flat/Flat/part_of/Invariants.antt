use Rattle.std.proofs.Common.{◌≤◌, reverse}
use Rattle.bk_cert.specs.Place.{IsListed}
use Rattle.bk_flatten.specs.private.Part.{HasAbove, IsFresh}
use Rattle.bk_flatten.proofs.flat.Flat.part_of.Given as goal

abbrev pub invariant-loop-round : goal.invariant-loop-round
invariant-loop-round l = record {
  fresh : IsFresh l.rounds.sizes l.rounds.held l.fn.a l.self l.round l.fresh;
  high : l.round ≤ l.fn.a.round;
  listed : IsListed (reverse l.out.items);
  has : HasAbove l.rounds.sizes l.rounds.held l.fn.a l.self l.round l.out.items;
}

abbrev pub decreases-loop-round : goal.decreases-loop-round
decreases-loop-round l = l.round
