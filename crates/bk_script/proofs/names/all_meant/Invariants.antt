use Rattle.std.proofs.Common.{◌≡◌, map, drop}
use Rattle.bk_script.specs.Words.{each_of}
use Rattle.bk_script.specs.Known.{meant_by}
use Rattle.bk_script.proofs.Each.{with_front}
use Rattle.bk_script.proofs.names.all_meant.Given as goal

abbrev pub invariant-loop-item : goal.invariant-loop-item
invariant-loop-item l = with_front l.found.items (each_of (meant_by l.names) (drop l.item-index (map (λ p. p.now) l.items))) ≡ each_of (meant_by l.names) (map (λ p. p.now) l.items)
