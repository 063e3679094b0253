-- What keeps a certificate that waits from being admitted.
use Rattle.std.specs.Prelude.{◌≡◌, ◌≢◌, ℕ, ◌+◌, List, [], ◌∷◌, ◌++◌, Some, Contains}
use Rattle.bk_base.specs.Feed.{FeedValue}
use Rattle.bk_committee.specs.Payload.{sizes_of}
use Rattle.bk_committee.specs.Sizes.{Sizes, quorum}
use Rattle.bk_cert.specs.Node.{Node}
use Rattle.bk_cert.specs.Place.{place_of, Lists}
use Rattle.bk_cert.specs.declared.place.CertRef.{CertRef}
use Rattle.bk_rounds.specs.Admission.{IsAdmitted, IsWaiting, WaitsAt}
use Rattle.bk_rounds.specs.Votes.{WeighExactly}
use Rattle.bk_order.specs.Frames.{AreCerts, AreRejects}
use Rattle.bk_order.specs.Intake.{first_later_frame}
use Rattle.bk_order.specs.declared.reject.Reject.{Reject}
use Rattle.bk_answer.specs.RunReport.{HasNoStopIn, committee_in, later_frames}
use Rattle.bk_diagnosis.specs.declared.line.Line.{Line}
use Rattle.bk_diagnosis.specs.declared.line.Line.TheVariants as line

-- no certificate of these has this id
abbrev pub IsNowhere : List Node → List ℕ → Type 0
IsNowhere certs id = (d : Node) → Contains certs d → d.id ≢ id

-- nothing with this id is rejected
abbrev pub IsNotRejected : List Reject → List ℕ → Type 0
IsNotRejected rejects id = (r : Reject) → Contains rejects r → r.id ≢ Some id

-- the first with this id that is rejected
pub record IsFirstRejected (rejects : List Reject) (id : List ℕ) (r : Reject) : Type 0 where
  pub before : List Reject
  pub after : List Reject
  pub split : rejects ≡ before ++ r ∷ after
  pub id_is : r.id ≡ Some id
  pub first : IsNotRejected before id

-- The line of a parent that keeps a certificate from being admitted, and none of one that does not. These are the good
-- certificates, of which each id names one, and what is rejected, in the order of the frames.
pub data IsParentLine (z : Sizes) (certs : List Node) (rejects : List Reject) (c : Node) (p : List ℕ) : List Line → Type 0 where
  absent : IsNowhere certs p → IsNotRejected rejects p → IsParentLine z certs rejects c p (line.Absent p ∷ [])
  rejected : (r : Reject) → IsNowhere certs p → IsFirstRejected rejects p r
      → IsParentLine z certs rejects c p (line.Rejected p r.frame r.rule ∷ [])
  waits : (d : Node) → d.id ≡ p → IsWaiting z certs d
      → IsParentLine z certs rejects c p (line.ParentWaiting p d.header.round d.header.author ∷ [])
  other_round : (d : Node) → d.id ≡ p → IsAdmitted z certs d → d.header.round + 1 ≢ c.header.round
      → IsParentLine z certs rejects c p (line.ParentRound p d.header.round d.header.author ∷ [])
  fits : (d : Node) → d.id ≡ p → IsAdmitted z certs d → d.header.round + 1 ≡ c.header.round
      → IsParentLine z certs rejects c p []

-- the lines of these parents, in their order
abbrev pub AreParentLines : Sizes → List Node → List Reject → Node → List (List ℕ) → List Line → Type 0
AreParentLines z certs rejects c [] lines = lines ≡ []
AreParentLines z certs rejects c (p ∷ more) lines =
    (first : List Line) × (later : List Line) × IsParentLine z certs rejects c p first
    × AreParentLines z certs rejects c more later × (lines ≡ first ++ later)

-- a member made a parent of a certificate
abbrev pub MadeParent : List Node → Node → ℕ → Type 0
MadeParent certs c x = (d : Node) × Contains certs d × Contains c.header.parents d.id × (d.header.author ≡ x)

-- why a certificate waits: the lines of its parents, or where none of them keeps it what their authors weigh together
abbrev pub AreReasons : Sizes → List Node → List Reject → Node → List Line → Type 0
AreReasons z certs rejects c [] = ⊥
AreReasons z certs rejects c (l ∷ more) =
    (parents : List Line) × AreParentLines z certs rejects c c.header.parents parents × IsReason parents
  where
    IsReason : List Line → Type 0
    IsReason [] = (weight : ℕ) × WeighExactly z (MadeParent certs c) weight × (l ≡ line.Weight weight (quorum z)) × (more ≡ [])
    IsReason (first ∷ later) = l ∷ more ≡ first ∷ later

-- the lines of the certificates that wait at these places: of each what it is, and why it waits
abbrev pub AreWaitingLines : Sizes → List Node → List Reject → List CertRef → List Line → Type 0
AreWaitingLines z certs rejects [] lines = lines ≡ []
AreWaitingLines z certs rejects (a ∷ more) lines =
    (c : Node) × (reasons : List Line) × (later : List Line) × IsWaiting z certs c × (place_of c ≡ a)
    × AreReasons z certs rejects c reasons × AreWaitingLines z certs rejects more later
    × (lines ≡ line.Waiting a.round a.author c.id ∷ reasons ++ later)

-- nothing stops a feed, and these are the lines of all that waits, by round and author
pub record AreWaitingIn (feed : FeedValue) (lines : List Line) : Type 0 where
  pub clear : HasNoStopIn feed
  pub certs : List Node
  pub are_certs : AreCerts (committee_in feed) (later_frames feed) certs
  pub rejects : List Reject
  pub are_rejects : AreRejects (committee_in feed) first_later_frame (later_frames feed) rejects
  pub places : List CertRef
  pub listed : Lists places (WaitsAt (sizes_of (committee_in feed)) certs)
  pub are_lines : AreWaitingLines (sizes_of (committee_in feed)) certs rejects places lines
