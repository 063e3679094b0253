-- What a certificate that waits is judged by, and the lines that are made of it.
use Rattle.std.specs.Prelude.{◌≡◌, ◌==◌, ◌+◌, ℕ, List, [], ◌∷◌, ◌++◌, Contains, Option, Some, None, if◌then◌else◌}
use Rattle.bk_cert.specs.Node.{Node}
use Rattle.bk_cert.specs.Place.{Lists, place_of}
use Rattle.bk_cert.specs.declared.place.CertRef.{CertRef}
use Rattle.bk_committee.specs.Sizes.{Sizes}
use Rattle.bk_order.specs.Intake.{Taken}
use Rattle.bk_order.specs.declared.reject.Reject.{Reject}
use Rattle.bk_rounds.specs.Admission.{IsWaiting, WaitsAt}
use Rattle.bk_rounds.specs.Rounds.{RoundsValue}
use Rattle.bk_diagnosis.specs.Lines.{text_of}
use Rattle.bk_diagnosis.specs.Waiting.{AreParentLines, AreReasons, AreWaitingLines}
use Rattle.bk_diagnosis.specs.declared.line.Line.{Line}
use Rattle.bk_diagnosis.specs.declared.line.Line.TheVariants as line

-- the sizes of a committee, the good certificates, and what is rejected
pub record GraphValue : Type 0 where
  pub sizes : Sizes
  pub certs : List Node
  pub rejects : List Reject

-- those of what was taken
abbrev pub graph_of : RoundsValue → Taken → GraphValue
graph_of rounds taken = record { sizes = rounds.sizes; certs = rounds.held; rejects = taken.kept.rejected }

-- the line, if there is one
abbrev pub line_if : Option Line → List Line
line_if None = []
line_if (Some l) = l ∷ []

-- the line of an admitted parent, where the certificate that names it is not of the round after it
abbrev pub round_line : List ℕ → CertRef → ℕ → Option Line
round_line id place round = if place.round + 1 == round then None else Some (line.ParentRound id place.round place.author)

-- a member made one of these parents
abbrev pub MadeOneOf : List Node → List (List ℕ) → ℕ → Type 0
MadeOneOf certs parents x = (d : Node) × Contains certs d × Contains parents d.id × (d.header.author ≡ x)

-- the lines of these parents were added
abbrev pub HasParentLines : GraphValue → Node → List (List ℕ) → List Line → List Line → Type 0
HasParentLines g c parents old new =
    (found : List Line) × AreParentLines g.sizes g.certs g.rejects c parents found × (new ≡ old ++ found)

-- the lines that say why it waits were added
abbrev pub HasReasons : GraphValue → Node → List Line → List Line → Type 0
HasReasons g c old new =
    (reasons : List Line) × AreReasons g.sizes g.certs g.rejects c reasons × (new ≡ old ++ reasons)

-- the lines of the certificate that waits at a place
abbrev pub IsEntry : GraphValue → CertRef → List Line → Type 0
IsEntry g a entry =
    (c : Node) × (reasons : List Line) × IsWaiting g.sizes g.certs c × (place_of c ≡ a)
    × AreReasons g.sizes g.certs g.rejects c reasons × (entry ≡ line.Waiting a.round a.author c.id ∷ reasons)

-- the lines of the certificates that wait at these places were added to a text
abbrev pub AddsWaiting : GraphValue → List CertRef → List ℕ → List ℕ → Type 0
AddsWaiting g places old new =
    (lines : List Line) × AreWaitingLines g.sizes g.certs g.rejects places lines × (new ≡ old ++ text_of lines)

-- the lines of all that waits
abbrev pub AreLinesOf : GraphValue → List Line → Type 0
AreLinesOf g lines =
    (places : List CertRef) × Lists places (WaitsAt g.sizes g.certs) × AreWaitingLines g.sizes g.certs g.rejects places lines
