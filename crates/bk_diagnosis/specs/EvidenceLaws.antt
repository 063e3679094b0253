-- What the lines of all evidence say together.
use Rattle.std.specs.Prelude.{◌≡◌, ◌⊎◌, ◌↔◌, ℕ, List, [], ◌∷◌, Contains}
use Rattle.bk_base.specs.Feed.{FeedValue, Frame}
use Rattle.bk_cert.specs.Node.{Node}
use Rattle.bk_cert.specs.declared.place.CertRef.{CertRef}
use Rattle.bk_evidence.specs.Batches.{Batch}
use Rattle.bk_evidence.specs.Twins.{AreTwins, place_in}
use Rattle.bk_order.specs.Stops.{CollidesIn, IsStop}
use Rattle.bk_order.specs.declared.stop.Stop.{Stop}
use Rattle.bk_order.specs.declared.stop.Stop.TheVariants as stop
use Rattle.bk_answer.specs.RunReport.{HasNoStopIn, committee_in, later_frames}
use Rattle.bk_diagnosis.specs.Evidence.{IsAllEvidence, IsEvidenceIn, twins_line}
use Rattle.bk_diagnosis.specs.declared.line.Line.{Line}
use Rattle.bk_diagnosis.specs.declared.line.Line.TheVariants as line

-- the line of a stop
abbrev pub stop_line : Stop → Line
stop_line (stop.Collision id) = line.Collision id
stop_line (stop.Twins e) = twins_line (place_in e) e.first e.second

-- a feed has evidence exactly where something stops it
abbrev pub EvidenceStopsFeed : Type 0
EvidenceStopsFeed = (feed : FeedValue) (lines : List Line) → IsEvidenceIn feed lines → (lines ≡ []) ↔ HasNoStopIn feed

-- where something stops a feed, its line is the first
abbrev pub FirstIsStop : Type 0
FirstIsStop = (feed : FeedValue) (lines : List Line) (s : Stop) → IsEvidenceIn feed lines
    → IsStop (committee_in feed) (later_frames feed) s → (more : List Line) × (lines ≡ stop_line s ∷ more)

-- what a line of evidence says
abbrev pub IsFact : List Node → List Batch → Line → Type 0
IsFact certs batches (line.Collision id) = CollidesIn certs batches id
IsFact certs batches (line.Equivocation round author first second) =
    AreTwins certs (record { round = round; author = author }) first second
IsFact certs batches other = ⊥

-- the id is the least of its place, or has a line with the least
abbrev pub IsShownBy : List Line → CertRef → List ℕ → List ℕ → Type 0
IsShownBy lines a least id = (id ≡ least) ⊎ Contains lines (twins_line a least id)

-- lines say what a line of evidence says: the collision itself, or the two ids by the least of their place
abbrev pub AreSaying : List Line → Line → Type 0
AreSaying lines (line.Collision id) = Contains lines (line.Collision id)
AreSaying lines (line.Equivocation round author first second) =
    (least : List ℕ) × IsShownBy lines (record { round = round; author = author }) least first
    × IsShownBy lines (record { round = round; author = author }) least second
AreSaying lines other = ⊥

-- each line says what holds, and whatever of this kind holds is said
abbrev pub EvidenceIsExact : Type 0
EvidenceIsExact = (certs : List Node) (batches : List Batch) (lines : List Line) → IsAllEvidence certs batches lines
    → ((l : Line) → Contains lines l → IsFact certs batches l) × ((l : Line) → IsFact certs batches l → AreSaying lines l)

-- what a line of a feed says is said of each larger feed with the same committee
abbrev pub EvidenceStays : Type 0
EvidenceStays = (feed larger : FeedValue) (lines more : List Line) → committee_in feed ≡ committee_in larger
    → ((f : Frame) → Contains (later_frames feed) f → Contains (later_frames larger) f)
    → IsEvidenceIn feed lines → IsEvidenceIn larger more → (l : Line) → Contains lines l → AreSaying more l

-- a feed has one list of evidence
abbrev pub OneListOfEvidence : Type 0
OneListOfEvidence = (feed : FeedValue) (xs ys : List Line) → IsEvidenceIn feed xs → IsEvidenceIn feed ys → xs ≡ ys
