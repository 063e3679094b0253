-- All evidence in the frames of a feed, whether something stops it or not: collisions, and places with several ids.
use Rattle.std.specs.Prelude.{◌≡◌, ℕ, List, [], ◌∷◌, ◌++◌, ◌↔◌, Contains, map}
use Rattle.std.specs.List.Sorted.{IsStrictlySortedBy}
use Rattle.bk_base.specs.Feed.{FeedValue}
use Rattle.bk_cert.specs.Node.{Node}
use Rattle.bk_cert.specs.Place.{Lists}
use Rattle.bk_cert.specs.declared.place.CertRef.{CertRef}
use Rattle.bk_evidence.specs.Batches.{Batch}
use Rattle.bk_evidence.specs.Collisions.{id_cmp}
use Rattle.bk_evidence.specs.Twins.{AreTwins, IsIdAt}
use Rattle.bk_order.specs.Frames.{OfHeld}
use Rattle.bk_order.specs.Stops.{CollidesIn}
use Rattle.bk_answer.specs.RunReport.{committee_in, later_frames}
use Rattle.bk_diagnosis.specs.declared.line.Line.{Line}
use Rattle.bk_diagnosis.specs.declared.line.Line.TheVariants as line

-- these are exactly the ids that have P, each once, ascending
pub record ListsIds (ids : List (List ℕ)) (P : List ℕ → Type 0) : Type 0 where
  pub ascending : IsStrictlySortedBy id_cmp ids
  pub exact : (id : List ℕ) → Contains ids id ↔ P id

-- two different ids are of this place
abbrev pub HasTwins : List Node → CertRef → Type 0
HasTwins certs a = (p : List ℕ) × (q : List ℕ) × AreTwins certs a p q

-- the line of two ids of a place
abbrev pub twins_line : CertRef → List ℕ → List ℕ → Line
twins_line a first second = line.Equivocation a.round a.author first second

-- the lines of a place: the least id with each of the others, ascending
pub record AreTwinLines (certs : List Node) (a : CertRef) (lines : List Line) : Type 0 where
  pub least : List ℕ
  pub others : List (List ℕ)
  pub listed : ListsIds (least ∷ others) (IsIdAt certs a)
  pub are : lines ≡ map (twins_line a least) others

-- the lines of these places, in their order
abbrev pub AreAllTwinLines : List Node → List CertRef → List Line → Type 0
AreAllTwinLines certs [] lines = lines ≡ []
AreAllTwinLines certs (a ∷ more) lines =
    (first : List Line) × (later : List Line) × AreTwinLines certs a first × AreAllTwinLines certs more later
    × (lines ≡ first ++ later)

-- of these certificates and batches: each id or digest that collides, and then the places with several ids
pub record IsAllEvidence (certs : List Node) (batches : List Batch) (lines : List Line) : Type 0 where
  pub colliding : List (List ℕ)
  pub collide : ListsIds colliding (CollidesIn certs batches)
  pub places : List CertRef
  pub listed : Lists places (HasTwins certs)
  pub twins : List Line
  pub are_twins : AreAllTwinLines certs places twins
  pub are : lines ≡ map line.Collision colliding ++ twins

-- the lines of all evidence in a feed
abbrev pub IsEvidenceIn : FeedValue → List Line → Type 0
IsEvidenceIn feed lines = OfHeld (committee_in feed) (later_frames feed) (λ certs batches. IsAllEvidence certs batches lines)
