-- The least ids of each place, and the least place that has two.
use Rattle.std.specs.Prelude.{◌≡◌, ◌≢◌, ℕ, ◌<◌, List, [], Option, Some, None, cond, map, length, option_map, slice_index_or}
use Rattle.std.specs.BTreeMap.{get}
use Rattle.std.specs.Ordering.{is_eq}
use Rattle.bk_cert.specs.Node.{Node}
use Rattle.bk_cert.specs.Place.{place_cmp}
use Rattle.bk_cert.specs.declared.place.CertRef.{CertRef}
use Rattle.bk_index.specs.Places.{number_of}
use Rattle.bk_evidence.specs.Collisions.{id_cmp}
use Rattle.bk_evidence.specs.Twins.{IsIdAt, AreTwins}
use Rattle.bk_evidence.specs.declared.evidence.Evidence.{Evidence}
use Rattle.bk_evidence.specs.declared.places.LeastIds.{LeastIds}
use Rattle.bk_evidence.specs.declared.places.Places.{Places}
use Rattle.bk_evidence.specs.private.Least.{least_of, IsLeastBy}

-- these two ids
abbrev pub ids_with : List ℕ → Option (List ℕ) → LeastIds
ids_with least second = record { least = least; second = second }

-- an id without twins
abbrev pub lone_id : List ℕ → LeastIds
lone_id id = ids_with id None

-- the two least ids, the lesser first
abbrev pub two_ids : List ℕ → List ℕ → LeastIds
two_ids least second = ids_with least (Some second)

-- the second id, where there is one
abbrev pub second_in : LeastIds → Option (List ℕ)
second_in l = l.second

-- the two least that have the property; nothing where none has it
abbrev pub AreLeastIds : (List ℕ → Type 0) → Option LeastIds → Type 0
AreLeastIds P None = (id : List ℕ) → P id → ⊥
AreLeastIds P (Some l) =
    IsLeastBy id_cmp P (Some l.least) × IsLeastBy id_cmp (λ id. P id × (id ≢ l.least)) (second_in l)

-- the id of the certificate at an index
abbrev pub id_at : List Node → ℕ → List ℕ
id_at held k = slice_index_or (map (λ (c : Node). c.id) held) k []

-- The least ids of a place: the index of a certificate with the least, and the second. A place
-- without an id has neither.
abbrev pub AreIdsOf : List Node → CertRef → Option ℕ → Option (List ℕ) → Type 0
AreIdsOf held a None second = (second ≡ None) × AreLeastIds (IsIdAt held a) None
AreIdsOf held a (Some k) second =
    (k < length held) × AreLeastIds (IsIdAt held a) (Some (ids_with (id_at held k) second))

-- the index of a certificate with the least id of a place
abbrev pub first_at : Places → CertRef → Option ℕ
first_at p a = number_of p.firsts a

-- the second id of a place
abbrev pub second_at : Places → CertRef → Option (List ℕ)
second_at p a = get place_cmp p.seconds a

-- the least ids of a place
abbrev pub ids_at : List Node → Places → CertRef → Option LeastIds
ids_at held p a = option_map (λ k. ids_with (id_at held k) (second_at p a)) (first_at p a)

-- a place has this second id now
pub record HasSecond (old new : Places) (a : CertRef) (id : List ℕ) : Type 0 where
  pub firsts : (b : CertRef) → first_at new b ≡ first_at old b
  pub seconds : (b : CertRef) → second_at new b
      ≡ cond (is_eq (place_cmp a b)) (Some id) (second_at old b)
  pub twins : new.twins ≡ Some (least_of place_cmp old.twins a)

-- nothing is changed
pub record AreSamePlaces (old new : Places) : Type 0 where
  pub firsts : (b : CertRef) → first_at new b ≡ first_at old b
  pub seconds : (b : CertRef) → second_at new b ≡ second_at old b
  pub twins : new.twins ≡ old.twins

-- no place is kept
pub record IsEmptyPlaces (p : Places) : Type 0 where
  pub firsts : (a : CertRef) → first_at p a ≡ None
  pub seconds : p.seconds.entries ≡ []
  pub twins : p.twins ≡ None

-- two ids are of this place
abbrev pub HasTwins : List Node → CertRef → Type 0
HasTwins held a = (p : List ℕ) × (q : List ℕ) × AreTwins held a p q

-- the places of these certificates
pub record ArePlaces (held : List Node) (p : Places) : Type 0 where
  pub ids : (a : CertRef) → AreIdsOf held a (first_at p a) (second_at p a)
  pub twins : IsLeastBy place_cmp (HasTwins held) p.twins

-- the evidence of these parts
abbrev pub evidence_with : CertRef → List ℕ → List ℕ → Evidence
evidence_with a first second =
    record { round = a.round; author = a.author; first = first; second = second }

-- the evidence at a place with these ids
abbrev pub evidence_at : CertRef → Option LeastIds → Option Evidence
evidence_at a None = None
evidence_at a (Some l) = option_map (evidence_with a l.least) (second_in l)

-- the evidence at the least place with twins
abbrev pub evidence_in : List Node → Places → Option CertRef → Option Evidence
evidence_in held p None = None
evidence_in held p (Some a) = evidence_at a (ids_at held p a)
