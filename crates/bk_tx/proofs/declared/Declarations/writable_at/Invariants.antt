use Rattle.std.proofs.Common.{◌≡◌, ℕ, ◌<◌, false, ◌&&◌, eqb, get_or}
use Rattle.bk_tx.proofs.declared.Declarations.writable_at.Given as goal

abbrev pub invariant-loop-k : goal.invariant-loop-k
invariant-loop-k l = (j : ℕ) → j < l.k → (get_or l.self-inside.writable j false && eqb (get_or l.self-inside.ids j 0) l.id) ≡ false
