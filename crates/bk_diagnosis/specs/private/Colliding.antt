-- Entries by name, an id or a digest, and those that are not the one that is found under their name.
use Rattle.std.specs.Prelude.{◌≡◌, ◌≢◌, ◌<◌, ◌⊎◌, ◌↔◌, ℕ, List, Some, IsSome, Contains, length, slice_index_or}
use Rattle.std.specs.BTreeMap.{BTreeMap, get}
use Rattle.bk_cert.specs.Node.{Node}
use Rattle.bk_evidence.specs.Batches.{Batch, payload_of}
use Rattle.bk_evidence.specs.Collisions.{id_cmp}

-- each id of these certificates has the index of one that has it
pub record HasEach (certs : List Node) (firsts : BTreeMap (List ℕ) ℕ) : Type 0 where
  pub inside : (id : List ℕ) (k : ℕ) → get id_cmp firsts id ≡ Some k
      → (k < length certs) × ((d : Node) → (slice_index_or certs k d).id ≡ id)
  pub each : (c : Node) → Contains certs c → IsSome (get id_cmp firsts c.id)

-- another certificate than this one is found under its id
pub record IsOtherCert (certs : List Node) (firsts : BTreeMap (List ℕ) ℕ) (c : Node) : Type 0 where
  pub index : ℕ
  pub found : get id_cmp firsts c.id ≡ Some index
  pub apart : slice_index_or certs index c ≢ c

-- another payload than this one is found under its digest
abbrev pub IsOtherBatch : List Batch → Batch → Type 0
IsOtherBatch batches b = payload_of batches b.digest ≢ Some b.payload

-- an entry with this name has P
abbrev pub HasSome : {E : Type 0} → (E → List ℕ) → (E → Type 0) → List E → List ℕ → Type 0
HasSome {E} name P entries id = (e : E) × Contains entries e × (name e ≡ id) × P e

-- the new names are the old ones, and those of the entries that have P
abbrev pub ListsSome : {E : Type 0} → (E → List ℕ) → (E → Type 0) → List E → List (List ℕ) → List (List ℕ) → Type 0
ListsSome name P entries old new = (id : List ℕ) → Contains new id ↔ (Contains old id ⊎ HasSome name P entries id)
