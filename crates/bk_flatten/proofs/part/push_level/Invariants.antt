use Rattle.std.proofs.Common.{◌≤◌, reverse}
use Rattle.bk_cert.specs.Place.{IsListed}
use Rattle.bk_flatten.specs.private.Part.{Gains, IsNewAt}
use Rattle.bk_flatten.proofs.part.push_level.Given as goal

abbrev pub invariant-loop-author : goal.invariant-loop-author
invariant-loop-author l = record {
  low : l.author ≤ 128;
  listed : IsListed (reverse l.out.items);
  gains : Gains l.fn.out.items l.out.items (IsNewAt l.fresh l.round l.author);
}

abbrev pub decreases-loop-author : goal.decreases-loop-author
decreases-loop-author l = l.author
