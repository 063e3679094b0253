-- What places access, by slot.
use Rattle.std.specs.Prelude.{ℕ, ◌<◌, ◌==◌, ◌&&◌, ◌||◌, List, [], ◌∷◌, Bool, Option, None, Some, AllPairs}
use Rattle.std.specs.List.{list_any, flat_map}
use Rattle.bk_tx.specs.declared.declared.Declared.{Declared}
use Rattle.bk_tx.specs.Transaction.{Transaction}
use Rattle.bk_conflicts.specs.Conflicts.{declared_at}
use Rattle.bk_conflicts.specs.Words.{slot_of}
use Rattle.bk_conflicts.specs.declared.words.Access.{Access}

-- the access to a slot, none where there is no slot
abbrev pub access_in : Bool → Option ℕ → List Access
access_in writable None = []
access_in writable (Some slot) = record { slot = slot; writable = writable } ∷ []

-- the slots that declared accounts have, each with its mode
abbrev pub accesses_of : List ℕ → List Declared → List Access
accesses_of slots declared = flat_map (λ (d : Declared). access_in d.writable (slot_of slots d.id)) declared

-- what each place accesses
abbrev pub Places : Type 0
Places = ℕ → List Access

-- what these transactions access
unfoldable pub places_of : List ℕ → List (Option Transaction) → Places
places_of slots txs place = accesses_of slots (declared_at txs place)

-- one of the accesses is of this slot
abbrev pub uses_in : List Access → ℕ → Bool
uses_in xs a = list_any (λ (x : Access). x.slot == a) xs

-- one of the accesses may write this slot
abbrev pub writes_in : List Access → ℕ → Bool
writes_in xs a = list_any (λ (x : Access). (x.slot == a) && x.writable) xs

-- place q accesses slot a
unfoldable pub uses : Places → ℕ → ℕ → Bool
uses t a q = uses_in (t q) a

-- place q may write slot a
unfoldable pub writes : Places → ℕ → ℕ → Bool
writes t a q = writes_in (t q) a

-- p and q both access slot a, at least one of them for writing
unfoldable pub clash_at : Places → ℕ → ℕ → ℕ → Bool
clash_at t a p q = (uses t a p && uses t a q) && (writes t a p || writes t a q)

-- the slots come in strictly ascending order
abbrev pub IsAscending : List Access → Type 0
IsAscending xs = AllPairs (λ (x y : Access). x.slot < y.slot) xs
