-- What the code found in the words of a place and in a seat, said of the machine.
use Rattle.std.proofs.Common.{◌≡◌, ℕ, ◌<◌, ◌≤◌, List, length, get_or, true, false, None, is_some, subst, AllPairs}
use Rattle.bk_conflicts.specs.Words.{words_at}
use Rattle.bk_conflicts.specs.declared.words.WordRef.{WordRef}
use Rattle.bk_steps.specs.Machine.{MachineValue, no_word, seat_at, word_at}
use Rattle.bk_steps.specs.declared.seat.Seat.{Seat}
use Rattle.bk_steps.proofs.Ruled.{AllNoted, OneMissing, AreNoted}
use Rattle.bk_steps.proofs.Marked.{IsWritable}
use Rattle.bk_steps.proofs.Receipted.{OneLeft, AllMarked}

-- the words that the code has are those of the place, and its seat is the worker's
pub record AreThose (m : MachineValue) (w p : ℕ) (ws : List WordRef) (s : Seat) : Type 0 where
  pub words : ws ≡ words_at m.plan.ids m.plan.txs p
  pub seat : s ≡ seat_at m w

module _ (m : MachineValue) (w p : ℕ) (ws : List WordRef) (s : Seat) (a : AreThose m w p ws s) where
  pub missing_is : (k : ℕ) × (k < length ws) × (is_some (get_or s.read k None) ≡ false) → OneMissing m.plan p (seat_at m w).read
  missing_is h = subst (λ (t : List WordRef × Seat). (k : ℕ) × (k < length t.0) × (is_some (get_or t.1.read k None) ≡ false)) (λ i. (a.words i, a.seat i)) h

  pub noted_is : ((k : ℕ) → k < length ws → is_some (get_or s.read k None) ≡ true) → AllNoted m.plan p (seat_at m w).read
  noted_is h = subst (λ (t : List WordRef × Seat). (k : ℕ) → k < length t.0 → is_some (get_or t.1.read k None) ≡ true) (λ i. (a.words i, a.seat i)) h

  pub left_is : (k : ℕ) × (k < length ws) × ((get_or ws k no_word).writable ≡ true) × (get_or s.written k false ≡ false) → OneLeft m.plan p (seat_at m w)
  left_is h = subst (λ (t : List WordRef × Seat). (k : ℕ) × (k < length t.0) × ((get_or t.0 k no_word).writable ≡ true) × (get_or t.1.written k false ≡ false))
      (λ i. (a.words i, a.seat i)) h

  pub marked_is : ((k : ℕ) → k < length ws → (get_or ws k no_word).writable ≡ true → get_or s.written k false ≡ true) → AllMarked m.plan p (seat_at m w)
  marked_is h = subst (λ (t : List WordRef × Seat). (k : ℕ) → k < length t.0 → (get_or t.0 k no_word).writable ≡ true → get_or t.1.written k false ≡ true)
      (λ i. (a.words i, a.seat i)) h

  pub values_are : (values : List ℕ) → AreNoted s.read values → AreNoted (seat_at m w).read values
  values_are values h = subst (λ (t : Seat). AreNoted t.read values) a.seat h

  pub few_are : length ws ≤ 16 → length (words_at m.plan.ids m.plan.txs p) ≤ 16
  few_are h = subst (λ (t : List WordRef). length t ≤ 16) a.words h

  pub rise_is : AllPairs (λ (x y : WordRef). x.word < y.word) ws → AllPairs (λ (x y : WordRef). x.word < y.word) (words_at m.plan.ids m.plan.txs p)
  rise_is h = subst (AllPairs (λ (x y : WordRef). x.word < y.word)) a.words h

  pub writable_is : (x k : ℕ) → (k < length ws) × ((get_or ws k no_word).word ≡ x) × ((get_or ws k no_word).writable ≡ true)
      → (k < length (words_at m.plan.ids m.plan.txs p)) × (word_at m.plan p k ≡ x) × IsWritable m.plan p k
  writable_is x k h = subst (λ (t : List WordRef). (k < length t) × ((get_or t k no_word).word ≡ x) × ((get_or t k no_word).writable ≡ true)) a.words h
