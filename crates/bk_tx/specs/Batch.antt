-- The parts of a payload that hold the texts of a batch.
use Rattle.std.specs.Prelude.{◌≡◌, ℕ, ◌+◌, ◌≤◌, List, [], ◌∷◌, length, map, take, drop}
use Rattle.bk_tx.specs.declared.batch.Slice.{Slice}

-- the slice ends within the payload
abbrev pub IsWithin : List ℕ → Slice → Type 0
IsWithin payload s = s.start + s.len ≤ length payload

-- the bytes that the slice marks
abbrev pub cut : List ℕ → Slice → List ℕ
cut payload s = take s.len (drop s.start payload)

-- the bytes that each slice marks
abbrev pub cuts : List ℕ → List Slice → List (List ℕ)
cuts payload slices = map (cut payload) slices

-- the first slice starts two bytes after this offset, and each further one two bytes after the end of the one before
abbrev pub FollowFrom : ℕ → List Slice → Type 0
FollowFrom at [] = Unit {0}
FollowFrom at (s ∷ slices) = (s.start ≡ at + 2) × FollowFrom (s.start + s.len) slices
