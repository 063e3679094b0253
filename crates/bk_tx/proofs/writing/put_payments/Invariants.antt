use Rattle.std.proofs.Common.{◌≡◌, ◌∷◌, ◌++◌, length, take}
use Rattle.std.specs.List.{flat_map}
use Rattle.bk_tx.specs.Spelling.{payment_text}
use Rattle.bk_tx.proofs.writing.put_payments.Given as goal

abbrev pub invariant-loop-p : goal.invariant-loop-p
invariant-loop-p l = l.out.items ≡ l.fn.out.items ++ length l.payments ∷ flat_map payment_text (take l.p-index l.payments)
