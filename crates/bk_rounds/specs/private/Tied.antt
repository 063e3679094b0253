-- What is kept by number is what is held.
use Rattle.std.specs.Prelude.{◌≡◌, ℕ, ◌<◌, ◌≤◌, ◌↔◌, ◌⊎◌, All, true, false, List, Contains, Option, Some, length, map, slice_index_or}
use Rattle.bk_committee.specs.Sizes.{Sizes, members}
use Rattle.bk_cert.specs.Node.{Node}
use Rattle.bk_cert.specs.declared.place.CertRef.{CertRef}
use Rattle.bk_rounds.specs.declared.slots.Slot.{Slot}
use Rattle.bk_rounds.specs.declared.names.Names.{Names}
use Rattle.bk_cert.specs.Clear.{IsClear}
use Rattle.bk_rounds.specs.Admission.{AreFit, last_round}
use Rattle.bk_rounds.specs.Members.{Has}
use Rattle.bk_rounds.specs.private.Numbered.{id_of, round_of, author_of, cert_of, parents_of, is_marked, IsInside, IsTable}
use Rattle.bk_rounds.specs.private.Names.{set_of, AreNames}

-- the place of a number's certificate
abbrev pub place_at : List Slot → ℕ → CertRef
place_at slots i = record { round = round_of slots i; author = author_of slots i }

-- the certificate is at this index
abbrev pub IsAt : List Node → ℕ → Node → Type 0
IsAt held k c = (k < length held) × ((d : Node) → slice_index_or held k d ≡ c)

-- what is kept under the number is the certificate
pub record IsSlotOf (slots : List Slot) (i : ℕ) (c : Node) : Type 0 where
  pub id : c.id ≡ id_of slots i
  pub round : c.header.round ≡ round_of slots i
  pub author : c.header.author ≡ author_of slots i
  pub parents : c.header.parents ≡ map (id_of slots) (parents_of slots i)

-- each number with a round has its certificate, and each certificate its number
pub record IsTied (held : List Node) (slots : List Slot) : Type 0 where
  pub cert : (i : ℕ) → 0 < round_of slots i
      → (c : Node) × IsAt held (cert_of slots i) c × IsSlotOf slots i c
  pub slot : (c : Node) → Contains held c → (i : ℕ) × (i < length slots) × IsSlotOf slots i c

-- each place has the number of its certificate
pub record IsPlaced (slots : List Slot) (placed : CertRef → Option ℕ) : Type 0 where
  pub sound : (a : CertRef) (k : ℕ) → placed a ≡ Some k
      → (0 < round_of slots k) × (place_at slots k ≡ a)
  pub complete : (k : ℕ) → 0 < round_of slots k → placed (place_at slots k) ≡ Some k

-- the author of one of these
abbrev pub IsAuthorIn : List Slot → List ℕ → ℕ → Type 0
IsAuthorIn slots ps x = (p : ℕ) × Contains ps p × (author_of slots p ≡ x)

-- these are numbers, so are all parents, the authors of theirs are members, and each number has a set
pub record CanTell (slots : List Slot) (sets out : List ℕ) : Type 0 where
  pub inside : All (λ k. k < length slots) out
  pub parents : IsInside slots
  pub authors : (k p : ℕ) → Contains out k → Contains (parents_of slots k) p → author_of slots p < 128
  pub same : length sets ≡ length slots

-- the sets of these are given, the others stay, and the greatest round is known
pub record IsTold (slots : List Slot) (old new : List ℕ) (done : List ℕ) (top highest : ℕ) : Type 0 where
  pub here : (k : ℕ) → Contains done k → (x : ℕ) → Has (set_of new k) x ↔ IsAuthorIn slots (parents_of slots k) x
  pub other : (k : ℕ) → (Contains done k → ⊥) → set_of new k ≡ set_of old k
  pub highest_of : (k : ℕ) → Contains done k → round_of slots k ≤ highest
  pub more : top ≤ highest
  pub least : (m : ℕ) → top ≤ m → ((k : ℕ) → Contains done k → round_of slots k ≤ m) → highest ≤ m
  pub reached : (highest ≡ top) ⊎ ((k : ℕ) × Contains done k × (round_of slots k ≡ highest))

-- with each admitted one are the authors of its parents
abbrev pub AreSets : Names → Type 0
AreSets n = (i : ℕ) → is_marked n.marks.items i ≡ true → (x : ℕ)
    → Has (set_of n.sets.items i) x ↔ IsAuthorIn n.slots (parents_of n.slots i) x

-- what the table always is
pub record IsWhole (z : Sizes) (held : List Node) (n : Names) (numbered : CertRef → Option ℕ)
    (top : ℕ) : Type 0 where
  pub few : members z ≤ 128
  pub good : AreFit z held
  pub clear : IsClear held
  pub names : AreNames n
  pub table : IsTable z n.slots n.marks.items n.pending
  pub tied : IsTied held n.slots
  pub placed : IsPlaced n.slots numbered
  pub sets : AreSets n
  pub highest : (i : ℕ) → is_marked n.marks.items i ≡ true → round_of n.slots i ≤ top
  pub to_last : top ≤ last_round
  pub reached : 0 < top → (i : ℕ) × (is_marked n.marks.items i ≡ true)
      × (round_of n.slots i ≡ top)

-- an admitted certificate has this number and this place
pub record IsNumberAt (n : Names) (place : CertRef) (k : ℕ) : Type 0 where
  pub inside : k < length n.slots
  pub marked : is_marked n.marks.items k ≡ true
  pub place_is : place_at n.slots k ≡ place

-- a number below this one has this place, with a certificate that is not admitted
abbrev pub WaitsBelow : Names → ℕ → CertRef → Type 0
WaitsBelow n high a = (k : ℕ) × (k < high) × (0 < round_of n.slots k)
    × (is_marked n.marks.items k ≡ false) × (place_at n.slots k ≡ a)
