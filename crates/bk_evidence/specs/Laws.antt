-- What the definitions of evidence say together.
use Rattle.std.specs.Prelude.{◌≡◌, ℕ, ◌↔◌, List, Contains}
use Rattle.bk_cert.specs.Node.{Node}
use Rattle.bk_cert.specs.Clear.{IsClear}
use Rattle.bk_evidence.specs.Batches.{Batch, AreApart, IsBatchCollision, IsBatchOffer}
use Rattle.bk_evidence.specs.Held.{IsCollision, IsOffer, NoCollision}
use Rattle.bk_evidence.specs.Twins.{IsEvidence, NoTwins}
use Rattle.bk_evidence.specs.declared.batches.BatchOffer.{BatchOffer}
use Rattle.bk_evidence.specs.declared.evidence.Evidence.{Evidence}
use Rattle.bk_evidence.specs.declared.offer.Offer.{Offer}

-- the lists have the same members, in whatever order and however often
pub record HaveSame {E : Type 0} (xs ys : List E) : Type 0 where
  pub into : (e : E) → Contains xs e → Contains ys e
  pub back : (e : E) → Contains ys e → Contains xs e

-- neither a collision nor twins is what admission asks for
abbrev pub ClearIsNeither : Type 0
ClearIsNeither = (held : List Node) → IsClear held ↔ (NoCollision held × NoTwins held)

-- an offer has one answer
abbrev pub OneAnswer : Type 0
OneAnswer =
    (held : List Node) (c : Node) (a b : Offer) → IsOffer held c a → IsOffer held c b → a ≡ b

-- and so has one of a batch
abbrev pub OneBatchAnswer : Type 0
OneBatchAnswer = (held : List Batch) (b : Batch) (x y : BatchOffer)
    → IsBatchOffer held b x → IsBatchOffer held b y → x ≡ y

-- at most one id and one digest is the collision
abbrev pub OneCollision : Type 0
OneCollision = ((held : List Node) (x y : List ℕ) → IsCollision held x → IsCollision held y → x ≡ y)
    × ((held : List Batch) (x y : List ℕ)
    → IsBatchCollision held x → IsBatchCollision held y → x ≡ y)

-- one pair of twins is the evidence
abbrev pub OneEvidence : Type 0
OneEvidence = (held : List Node) (x y : Evidence) → IsEvidence held x → IsEvidence held y → x ≡ y

-- the evidence is of what is held, and not of the order in which it came
abbrev pub EvidenceOfMembers : Type 0
EvidenceOfMembers = (xs ys : List Node) → HaveSame xs ys
    → ((e : Evidence) → IsEvidence xs e → IsEvidence ys e) × (NoTwins xs → NoTwins ys)

-- and so are the collisions
abbrev pub CollisionOfMembers : Type 0
CollisionOfMembers = ((xs ys : List Node) → HaveSame xs ys
    → ((id : List ℕ) → IsCollision xs id → IsCollision ys id) × (NoCollision xs → NoCollision ys))
    × ((xs ys : List Batch) → HaveSame xs ys
    → ((id : List ℕ) → IsBatchCollision xs id → IsBatchCollision ys id)
    × (AreApart xs → AreApart ys))
