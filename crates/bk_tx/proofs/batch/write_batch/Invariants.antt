use Rattle.std.proofs.Common.{◌≡◌, ◌++◌, ℕ, length, map, take}
use Rattle.std.specs.Global.{Vec}
use Rattle.std.specs.List.{flat_map}
use Rattle.std.specs.Int.{w16, to_be_bytes}
use Rattle.bk_tx.specs.Spelling.{text_in_batch}
use Rattle.bk_tx.proofs.batch.write_batch.Given as goal

abbrev pub invariant-loop-text : goal.invariant-loop-text
invariant-loop-text l = l.out.items ≡ to_be_bytes w16 (length l.texts) ++ flat_map text_in_batch (map (λ (text : Vec ℕ). text.items) (take l.text-index l.texts))
