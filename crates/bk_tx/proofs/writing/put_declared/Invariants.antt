use Rattle.std.proofs.Common.{◌≡◌, ◌∷◌, ◌++◌, length, take}
use Rattle.std.specs.List.{flat_map}
use Rattle.bk_tx.specs.Spelling.{declared_text}
use Rattle.bk_tx.proofs.writing.put_declared.Given as goal

abbrev pub invariant-loop-k : goal.invariant-loop-k
invariant-loop-k l = l.out.items ≡ l.fn.out.items ++ length l.declared ∷ flat_map declared_text (take l.k l.declared)
