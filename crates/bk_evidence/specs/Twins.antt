-- Twins: two different ids of one round and author, and the evidence that is named of them.
use Rattle.std.specs.Prelude.{◌≡◌, ◌≢◌, ◌⊎◌, ℕ, List, Contains}
use Rattle.bk_cert.specs.Node.{Node}
use Rattle.bk_cert.specs.Place.{place_of, IsBefore}
use Rattle.bk_cert.specs.declared.place.CertRef.{CertRef}
use Rattle.bk_evidence.specs.Collisions.{IsBelow, IsAtMost}
use Rattle.bk_evidence.specs.declared.evidence.Evidence.{Evidence}

-- a certificate of this place has this id
pub record IsIdAt (held : List Node) (place : CertRef) (id : List ℕ) : Type 0 where
  pub cert : Node
  pub is_held : Contains held cert
  pub place_is : place_of cert ≡ place
  pub id_is : cert.id ≡ id

-- two different ids of one place
pub record AreTwins (held : List Node) (place : CertRef) (first second : List ℕ) : Type 0 where
  pub one : IsIdAt held place first
  pub two : IsIdAt held place second
  pub apart : first ≢ second

-- the place of the evidence
abbrev pub place_in : Evidence → CertRef
place_in e = record { round = e.round; author = e.author }

-- The least round with twins, in it the least author with twins, and of that place the two least
-- ids, the lesser first.
pub record IsEvidence (held : List Node) (e : Evidence) : Type 0 where
  pub twins : AreTwins held (place_in e) e.first e.second
  pub in_order : IsBelow e.first e.second
  pub least_place : (a : CertRef) (p q : List ℕ) → AreTwins held a p q
      → (place_in e ≡ a) ⊎ IsBefore (place_in e) a
  pub least_ids : (id : List ℕ) → IsIdAt held (place_in e) id
      → (id ≡ e.first) ⊎ IsAtMost e.second id

-- one place is of one id
abbrev pub NoTwins : List Node → Type 0
NoTwins held =
    (c d : Node) → Contains held c → Contains held d → place_of c ≡ place_of d → c.id ≡ d.id
