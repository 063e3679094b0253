-- Certificates by number: what never changes of them, and the marks and rows that do.
use Rattle.std.specs.Prelude.{◌≡◌, ◌≢◌, ℕ, zero, suc, ◌+◌, ◌-◌, ◌<◌, ◌≤◌, ◌^◌, ◌==◌, ◌&&◌, ◌||◌, ◌⊎◌, ◌↔◌, ◌++◌, not, Bool, true, false, List, [], ◌∷◌, Option, Some, None, map, length, All, Contains, count_by, sum_by, nat_le, slice_index_or}
use Rattle.std.specs.BTreeMap.{get}
use Rattle.std.specs.List.{list_all}
use Rattle.std.specs.Ordering.{nat_cmp}
use Rattle.bk_committee.specs.Sizes.{Sizes, members, total, quorum, weight}
use Rattle.bk_rounds.specs.declared.slots.Slot.{Slot}
use Rattle.bk_rounds.specs.declared.waking.Pending.{Pending}
use Rattle.bk_rounds.specs.declared.waking.Row.{Row}

-- the round, which is 0 where no certificate is held under the id
abbrev pub round_of : List Slot → ℕ → ℕ
round_of slots i = slice_index_or (map (λ s. s.round) slots) i 0

-- the author
abbrev pub author_of : List Slot → ℕ → ℕ
author_of slots i = slice_index_or (map (λ s. s.author) slots) i 0

-- the index of the certificate among those that were added
abbrev pub cert_of : List Slot → ℕ → ℕ
cert_of slots i = slice_index_or (map (λ s. s.cert) slots) i 0

-- the id
abbrev pub id_of : List Slot → ℕ → List ℕ
id_of slots i = slice_index_or (map (λ s. s.id) slots) i []

-- the parents, by number
abbrev pub parents_of : List Slot → ℕ → List ℕ
parents_of slots i = slice_index_or (map (λ s. s.parents.items) slots) i []

-- who is in a row; nobody where there is none
abbrev pub slots_in : Option Row → List ℕ
slots_in None = []
slots_in (Some row) = row.slots.items

-- who waits for this one
abbrev pub row_of : Pending → ℕ → List ℕ
row_of pending i = slots_in (get nat_cmp pending.rows i)

-- whether it is admitted
abbrev pub is_marked : List Bool → ℕ → Bool
is_marked marks i = slice_index_or marks i false

-- how many are not
abbrev pub count_unmarked : List Bool → ℕ
count_unmarked marks = count_by (λ b. not b) marks

-- each parent is a number that was given
abbrev pub IsInside : List Slot → Type 0
IsInside slots = (i p : ℕ) → Contains (parents_of slots i) p → p < length slots

-- and so is each that waits
abbrev pub IsInsideRows : ℕ → Pending → Type 0
IsInsideRows n pending = (m i : ℕ) → Contains (row_of pending m) i → i < n

-- the authors of these weigh a quorum
abbrev pub is_heavy_in : Sizes → List Slot → List ℕ → Bool
is_heavy_in z slots ps = nat_le (quorum z) (sum_by (λ p. weight z (author_of slots p)) ps)

-- admitted in this round
unfoldable pub IsAdmittedAt : Sizes → List Slot → ℕ → ℕ → Type 0
IsAdmittedAt z slots zero i = ⊥
IsAdmittedAt z slots (suc r) i =
    (round_of slots i ≡ r + 1) × (0 < r → is_heavy_in z slots (parents_of slots i) ≡ true)
    × (0 < r → (p : ℕ) → Contains (parents_of slots i) p → IsAdmittedAt z slots r p)

-- it is admitted, and of this round
abbrev pub is_right_in : List Slot → List Bool → ℕ → ℕ → Bool
is_right_in slots marks round p = is_marked marks p && (round_of slots p == round)

-- nothing is missing for its admission
abbrev pub is_ready_in : Sizes → List Slot → List Bool → ℕ → Bool
is_ready_in z slots marks i =
    (round_of slots i == 1)
    || (not (round_of slots i == 0) && (list_all
    (λ p. is_right_in slots marks (round_of slots i - 1) p) (parents_of slots i)
    && is_heavy_in z slots (parents_of slots i)))

-- what is marked is admitted
abbrev pub IsSound : Sizes → List Slot → List Bool → Type 0
IsSound z slots marks = (i : ℕ) → is_marked marks i ≡ true
    → IsAdmittedAt z slots (round_of slots i) i

-- who waits is in the row of each parent that is not marked
abbrev pub IsRegistered : List Slot → List Bool → Pending → Type 0
IsRegistered slots marks pending =
    (i p : ℕ) → Contains (parents_of slots i) p → is_marked marks i ≡ false
    → is_marked marks p ≡ false → Contains (row_of pending p) i

-- the rows but that of k stay, and nobody is in that of k
pub record IsTaken (pending after : Pending) (k : ℕ) : Type 0 where
  pub other : (m : ℕ) → m ≢ k → row_of after m ≡ row_of pending m
  pub taken : row_of after k ≡ []

-- the rows but that of p stay, and k is in that of p, too
pub record IsEntered (pending after : Pending) (p k : ℕ) : Type 0 where
  pub other : (m : ℕ) → m ≢ p → row_of after m ≡ row_of pending m
  pub here : row_of after p ≡ row_of pending p ++ k ∷ []

-- all in the rows afterwards are numbers, and who was in a row is there still
pub record KeepsRows (n : ℕ) (pending after : Pending) : Type 0 where
  pub rows : IsInsideRows n after
  pub kept : (m i : ℕ) → Contains (row_of pending m) i → Contains (row_of after m) i

-- marks stay, and what is marked anew is what the list gains
pub record Extends (old new : List Bool) (before after : List ℕ) : Type 0 where
  pub length : length new ≡ length old
  pub stay : (i : ℕ) → is_marked old i ≡ true → is_marked new i ≡ true
  pub more : List ℕ
  pub is : after ≡ before ++ more
  pub gained : (i : ℕ) → Contains more i ↔ ((is_marked new i ≡ true) × (is_marked old i ≡ false))

-- marked is exactly what is admitted
abbrev pub IsExact : Sizes → List Slot → List Bool → Type 0
IsExact z slots marks =
    (i : ℕ) → (is_marked marks i ≡ true) ↔ IsAdmittedAt z slots (round_of slots i) i

-- what is ready and not marked was ready before and is none of the woken, or a parent was marked
abbrev pub Covers : Sizes → List Slot → List Bool → List Bool → List ℕ → Type 0
Covers z slots old new woken = (i : ℕ) → is_ready_in z slots new i ≡ true → is_marked new i ≡ false
    → ((is_ready_in z slots old i ≡ true) × (Contains woken i → ⊥))
    ⊎ ((p : ℕ) × Contains (parents_of slots i) p × (is_marked new p ≡ true)
    × (is_marked old p ≡ false))

-- these are numbers, and what is marked of all of them is admitted
pub record CanWake (z : Sizes) (slots : List Slot) (marks : List Bool) (woken : List ℕ) : Type 0 where
  pub inside : All (λ k. k < length slots) woken
  pub parents : IsInside slots
  pub same : length marks ≡ length slots
  pub sound : IsSound z slots marks

-- the woken were marked where they were ready
pub record AreWoken (z : Sizes) (slots : List Slot) (old new : List Bool) (woken before after : List ℕ) : Type 0 where
  pub sound : IsSound z slots new
  pub more : Extends old new before after
  pub covers : Covers z slots old new woken

-- in the list from this index on
abbrev pub IsLeft : List ℕ → ℕ → ℕ → Type 0
IsLeft out next m = (j : ℕ) × (next ≤ j) × (j < length out) × (slice_index_or out j m ≡ m)

-- what is left to look after is marked, and whatever is ready and not marked waits for one of these
pub record IsSettling (z : Sizes) (slots : List Slot) (marks : List Bool) (pending : Pending) (out : List ℕ) (next : ℕ) : Type 0 where
  pub parents : IsInside slots
  pub same : length marks ≡ length slots
  pub sound : IsSound z slots marks
  pub inside : IsInsideRows (length slots) pending
  pub here : (m : ℕ) → Contains out m → (m < length slots) × (is_marked marks m ≡ true)
  pub registered : IsRegistered slots marks pending
  pub covered : (i : ℕ) → is_ready_in z slots marks i ≡ true → is_marked marks i ≡ false
      → (m : ℕ) × IsLeft out next m × Contains (row_of pending m) i

-- what the table always is: marked is what is admitted, and who waits is registered
pub record IsTable (z : Sizes) (slots : List Slot) (marks : List Bool) (pending : Pending) : Type 0 where
  pub same : length marks ≡ length slots
  pub inside : IsInside slots
  pub rows : IsInsideRows (length slots) pending
  pub exact : IsExact z slots marks
  pub registered : IsRegistered slots marks pending

-- sizes of 1 to 128 members, with the weight of all of them
pub record IsScale (z : Sizes) (all : ℕ) : Type 0 where
  pub some : 1 ≤ members z
  pub few : members z ≤ 128
  pub is : all ≡ total z
  pub heavy : 1 ≤ all
  pub light : all < 2 ^ 39
