-- The batches that are held, each a payload under its digest.
use Rattle.std.specs.Prelude.{◌≡◌, ◌≢◌, ℕ, Bool, List, [], ◌∷◌, ◌++◌, Option, Contains, option_map}
use Rattle.std.specs.List.{find}
use Rattle.std.specs.Str.{bytes_eq}
use Rattle.bk_evidence.specs.Collisions.{IsCollisionBy}
use Rattle.bk_evidence.specs.declared.batches.BatchOffer.{BatchOffer}
use Rattle.bk_evidence.specs.declared.batches.BatchOffer.TheVariants as offer

-- a batch: its digest, and its payload
pub record Batch : Type 0 where
  pub digest : List ℕ
  pub payload : List ℕ

-- the batch of these parts
abbrev pub batch_with : List ℕ → List ℕ → Batch
batch_with digest payload = record { digest = digest; payload = payload }

-- the batch has this digest
abbrev pub has_digest : List ℕ → Batch → Bool
has_digest digest b = bytes_eq b.digest digest

-- the payload that is held under a digest: the one that was offered first
abbrev pub payload_of : List Batch → List ℕ → Option (List ℕ)
payload_of batches digest = option_map (λ (b : Batch). b.payload) (find (λ (b : Batch). bytes_eq b.digest digest) batches)

-- one digest is of one payload
abbrev pub AreApart : List Batch → Type 0
AreApart batches = (b c : Batch) → Contains batches b → Contains batches c → b.digest ≡ c.digest → b ≡ c

-- the least digest that has two payloads
abbrev pub IsBatchCollision : List Batch → List ℕ → Type 0
IsBatchCollision batches digest = IsCollisionBy (λ (b : Batch). b.digest) batches digest

-- what an offer of a batch answers where these are held
abbrev pub IsBatchOffer : List Batch → Batch → BatchOffer → Type 0
IsBatchOffer held b offer.New = (e : Batch) → Contains held e → e.digest ≢ b.digest
IsBatchOffer held b offer.Repeat = Contains held b
IsBatchOffer held b offer.Collision =
    (Contains held b → ⊥) × ((e : Batch) × Contains held e × (e.digest ≡ b.digest))

-- what is held after an offer: a repeat changes nothing
abbrev pub batches_after : List Batch → Batch → BatchOffer → List Batch
batches_after held b offer.New = held ++ b ∷ []
batches_after held b offer.Repeat = held
batches_after held b offer.Collision = held ++ b ∷ []
