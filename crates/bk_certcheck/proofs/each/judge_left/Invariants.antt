use Rattle.std.proofs.Common.{◌≡◌, take, drop}
use Rattle.std.specs.List.{AllZip, flat_map}
use Rattle.bk_certcheck.specs.private.Stages.{own_tags, IsLastVerdict}
use Rattle.bk_certcheck.proofs.each.judge_left.Given as goal

abbrev pub invariant-loop-k : goal.invariant-loop-k
invariant-loop-k l = record {
  judged : AllZip (IsLastVerdict l.committee) (take l.k l.left) l.verdicts.items;
  rest : l.rest ≡ flat_map (own_tags l.committee) (drop l.k l.left);
}
