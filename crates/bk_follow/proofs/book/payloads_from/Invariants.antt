use Rattle.std.proofs.Common.{◌≡◌, ◌++◌, ◌≤◌, length, map, drop}
use Rattle.bk_follow.proofs.book.payloads_from.Given as goal

abbrev pub invariant-loop-index : goal.invariant-loop-index
invariant-loop-index l = record {
  both : map (λ p. p.now) l.payloads.items ++ drop l.index l.intake.ordered.payloads.list ≡ drop l.from l.intake.ordered.payloads.list;
  within : l.index ≤ length l.intake.ordered.payloads.list;
}
