-- Which members of some rounds have a certificate in an order.
use Rattle.std.specs.Prelude.{◌≡◌, ℕ, ◌+◌, ◌<◌, ◌↔◌, List, length, slice_index_or, Contains}
use Rattle.bk_cert.specs.declared.place.CertRef.{CertRef}
use Rattle.bk_rounds.specs.Members.{Has}
use Rattle.bk_picture.specs.Picture.{at_place}

-- the member is in the set of this index
abbrev pub has_at : List ℕ → ℕ → ℕ → Type 0
has_at marks k x = Has (slice_index_or marks k 0) x

-- the set has the members of a round whose certificates are in an order
abbrev pub IsMark : List CertRef → ℕ → ℕ → Type 0
IsMark order round set = (x : ℕ) → x < 128 → Has set x ↔ Contains order (at_place round x)

-- a set for each of the rounds
pub record AreMarks (order : List CertRef) (from count : ℕ) (marks : List ℕ) : Type 0 where
  pub sized : length marks ≡ count
  pub marked : (k : ℕ) → k < count → IsMark order (from + k) (slice_index_or marks k 0)
