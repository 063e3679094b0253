-- The ids that were met, by number, and what is known of each.
use Rattle.std.specs.Prelude.{◌≡◌, ℕ, ◌<◌, ◌≤◌, Bool, List, Contains, Option, Some, length, slice_index_or}
use Rattle.std.specs.List.{position}
use Rattle.bk_index.specs.Finding.{has_key}
use Rattle.bk_rounds.specs.declared.slots.Slot.{Slot}
use Rattle.bk_rounds.specs.declared.names.Names.{Names}
use Rattle.bk_rounds.specs.private.Numbered.{id_of, round_of, author_of, cert_of, parents_of, row_of, is_marked, count_unmarked, IsInsideRows}

-- the parents of an admitted one, as members
abbrev pub set_of : List ℕ → ℕ → ℕ
set_of sets i = slice_index_or sets i 0

-- each number is that of its id, and of no other
pub record IsNumbering (slots : List Slot) (known : List ℕ → Option ℕ) : Type 0 where
  pub sound : (q : List ℕ) (k : ℕ) → known q ≡ Some k → (k < length slots) × (id_of slots k ≡ q)
  pub complete : (k : ℕ) → k < length slots → known (id_of slots k) ≡ Some k

-- a slot is that of an id
abbrev pub has_id : List ℕ → Slot → Bool
has_id = has_key (λ s. s.id)

-- the number of an id, where it has one
abbrev pub known_in : Names → List ℕ → Option ℕ
known_in n q = position (has_id q) n.slots

-- the lists are of one length, and each id has its number
pub record AreNames (n : Names) : Type 0 where
  pub marks : length n.marks.items ≡ length n.slots
  pub sets : length n.sets.items ≡ length n.slots
  pub rows : IsInsideRows (length n.slots) n.pending
  pub waiting : n.unmarked ≡ count_unmarked n.marks.items
  pub numbering : IsNumbering n.slots (known_in n)

-- they are names still, further ids may have numbers, and rows may have gained
pub record Grows (a b : Names) : Type 0 where
  pub names : AreNames b
  pub longer : length a.slots ≤ length b.slots
  pub id : (i : ℕ) → i < length a.slots → id_of b.slots i ≡ id_of a.slots i
  pub round : (i : ℕ) → round_of b.slots i ≡ round_of a.slots i
  pub author : (i : ℕ) → author_of b.slots i ≡ author_of a.slots i
  pub cert : (i : ℕ) → cert_of b.slots i ≡ cert_of a.slots i
  pub parents : (i : ℕ) → parents_of b.slots i ≡ parents_of a.slots i
  pub marked : (i : ℕ) → is_marked b.marks.items i ≡ is_marked a.marks.items i
  pub set : (i : ℕ) → i < length a.slots → set_of b.sets.items i ≡ set_of a.sets.items i
  pub kept : (m i : ℕ) → Contains (row_of a.pending m) i → Contains (row_of b.pending m) i

-- nothing but capacities changed
pub record AreSame (a b : Names) : Type 0 where
  pub slots : b.slots ≡ a.slots
  pub marks : b.marks.items ≡ a.marks.items
  pub pending : b.pending ≡ a.pending
  pub sets : b.sets.items ≡ a.sets.items
  pub unmarked : b.unmarked ≡ a.unmarked
