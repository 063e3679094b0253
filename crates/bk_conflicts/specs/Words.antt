-- The words of a place: two of each slot, the balance and the sequence number of its account.
use Rattle.std.specs.Prelude.{ℕ, ◌+◌, ◌*◌, ◌==◌, List, [], ◌∷◌, Bool, Option, None, Some}
use Rattle.std.specs.List.{position, flat_map}
use Rattle.bk_tx.specs.declared.declared.Declared.{Declared}
use Rattle.bk_tx.specs.Transaction.{Transaction}
use Rattle.bk_conflicts.specs.Conflicts.{declared_at}
use Rattle.bk_conflicts.specs.declared.words.WordRef.{WordRef}

-- the slot of an account, if it has one: the index of its id
abbrev pub slot_of : List ℕ → ℕ → Option ℕ
slot_of slots id = position (λ (i : ℕ). i == id) slots

-- the two words of a slot, with the mode; an account without a slot has none
abbrev pub words_in : Bool → Option ℕ → List WordRef
words_in writable None = []
words_in writable (Some slot) = record { word = 2 * slot; writable = writable } ∷ record { word = 2 * slot + 1; writable = writable } ∷ []

-- the words of a declared account, each with its mode
abbrev pub words_of : List ℕ → Declared → List WordRef
words_of slots d = words_in d.writable (slot_of slots d.id)

-- the words of all accounts that a place declares
abbrev pub words_at : List ℕ → List (Option Transaction) → ℕ → List WordRef
words_at slots txs place = flat_map (words_of slots) (declared_at txs place)
