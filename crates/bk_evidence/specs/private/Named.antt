-- Batches of one digest.
use Rattle.std.specs.Prelude.{◌≡◌, ◌≢◌, ℕ, List, Contains, take}
use Rattle.bk_evidence.specs.Batches.{Batch}
use Rattle.bk_evidence.specs.Collisions.{CollidesBy}

-- a batch and another one that is held have the same digest
pub record HasOther (held : List Batch) (b : Batch) : Type 0 where
  pub other : Batch
  pub is_held : Contains held other
  pub same_digest : other.digest ≡ b.digest
  pub apart : other ≢ b

-- one digest has two payloads in the one list, in the other, or in the first batches of both
pub data CollidesWith (held more : List Batch) (count : ℕ) (digest : List ℕ) : Type 0 where
  in_held : CollidesBy (λ (b : Batch). b.digest) held digest → CollidesWith held more count digest
  in_more : CollidesBy (λ (b : Batch). b.digest) more digest → CollidesWith held more count digest
  across : (b : Batch) → Contains (take count more) b → b.digest ≡ digest → HasOther held b
      → CollidesWith held more count digest
