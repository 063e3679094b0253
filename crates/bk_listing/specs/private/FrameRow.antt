-- What the line of a frame says, and what is listed so far.
use Rattle.std.specs.Prelude.{◌≡◌, ℕ, ◌+◌, ◌<◌, Bool, true, false, List, [], ◌∷◌, ◌++◌, length, take, codes, Option, Some, None}
use Rattle.std.specs.List.{flat_map}
use Rattle.bk_base.specs.declared.version.Version.{Version}
use Rattle.bk_frames.specs.Device.{Device, Fails, Receives}
use Rattle.bk_frames.specs.Writing.{Writes}
use Rattle.bk_results.specs.declared.fault.Fault.{Fault}
use Rattle.bk_results.specs.declared.fault.Fault.TheVariants as fault
use Rattle.bk_results.specs.Devices.{IsUntouched}
use Rattle.bk_base.specs.Feed.{Frame, frame_text}
use Rattle.bk_committee.specs.Payload.{CommitteeValue, committee_of}
use Rattle.bk_certcheck.specs.declared.rule.Rule.{Rule}
use Rattle.bk_certcheck.specs.declared.rule.Rule.TheVariants as rule
use Rattle.bk_listing.specs.Listing.{AreWords, AreLinesFrom, IsListing, committee_words, genesis_words, cert_words, rule_words, batch_words}
use Rattle.bk_listing.specs.Forged.{IsFirstForgedOf}
use Rattle.bk_listing.specs.Rejects.{IsRejectedBy, IsRejectedCount}
use Rattle.bk_results.specs.declared.wrong_tag.WrongTag.{WrongTag}
use Rattle.bk_listing.specs.declared.rows.FrameRow.{FrameRow}
use Rattle.bk_listing.specs.declared.rows.FrameRow.TheVariants as shown
use Rattle.bk_listing.specs.declared.lines.Place.{Place}
use Rattle.bk_listing.specs.declared.lister.Lister.{Lister}

-- the words of a row
abbrev pub row_words : CommitteeValue → FrameRow → List ℕ
row_words k (shown.Committee digest) = committee_words k digest
row_words k (shown.Genesis digest accounts money) = genesis_words digest accounts money
row_words k shown.Malformed = codes "cert" ++ rule_words (Some rule.Shape)
row_words k (shown.Good row) = codes "cert" ++ cert_words row ++ rule_words None
row_words k (shown.Broken row r) = codes "cert" ++ cert_words row ++ rule_words (Some r)
row_words k (shown.Batch digest count) = batch_words digest (Some count)
row_words k (shown.Void digest) = batch_words digest None

-- the rule by which the frame of a row is rejected, if it is
abbrev pub row_rules : FrameRow → List Rule
row_rules (shown.Committee digest) = []
row_rules (shown.Genesis digest accounts money) = []
row_rules shown.Malformed = rule.Shape ∷ []
row_rules (shown.Good row) = []
row_rules (shown.Broken row r) = r ∷ []
row_rules (shown.Batch digest count) = []
row_rules (shown.Void digest) = []

-- the frame of a row is rejected
abbrev pub is_rejected : FrameRow → Bool
is_rejected (shown.Committee digest) = false
is_rejected (shown.Genesis digest accounts money) = false
is_rejected shown.Malformed = true
is_rejected (shown.Good row) = false
is_rejected (shown.Broken row r) = true
is_rejected (shown.Batch digest count) = false
is_rejected (shown.Void digest) = false

-- the frame of a row is a certificate that is rejected for its tags
abbrev pub is_forged : FrameRow → Bool
is_forged (shown.Broken row rule.Tag) = true
is_forged other = false

-- what was found of earlier frames, else what was found of those after so many
abbrev pub else_later : Option WrongTag → ℕ → Option WrongTag → Option WrongTag
else_later (Some first) count found = Some first
else_later None count None = None
else_later None count (Some found) = Some (record { frame = count + found.frame; signer = found.signer })

-- a row has the words of the frame, and the rule by which it is rejected
abbrev pub IsRow : CommitteeValue → Frame → FrameRow → Type 0
IsRow k f row =
    AreWords k f.kind f.payload (row_words k row) × IsRejectedBy k f.kind f.payload (row_rules row)

-- the place of the frame that follows these
pub record IsPlaceAfter (start : Place) (frames : List Frame) (place : Place) : Type 0 where
  pub index : place.index ≡ start.index + length frames
  pub offset : place.offset ≡ start.offset + length (flat_map frame_text frames)

-- the lines of these frames were put after a text
pub record PutsLines (k : CommitteeValue) (start place : Place) (frames : List Frame) (old new : List ℕ) : Type 0 where
  pub text : List ℕ
  pub put : new ≡ old ++ text
  pub lines : AreLinesFrom k start.index start.offset frames text
  pub after : IsPlaceAfter start frames place

-- the committee of these frames, once there is one of them
abbrev pub IsCommitteeOf : Version → List Frame → Option CommitteeValue → Type 0
IsCommitteeOf version [] committee = committee ≡ None
IsCommitteeOf version (first ∷ more) committee = committee ≡ Some (committee_of version first.payload)

-- this is the listing of frames, after which a lister stands
pub record HasListed (version : Version) (frames : List Frame) (text : List ℕ) (l : Lister) : Type 0 where
  pub listing : IsListing version frames text
  pub committee : IsCommitteeOf version frames l.committee
  pub index : l.place.index ≡ length frames
  pub offset : l.place.offset ≡ 4 + length (flat_map frame_text frames)
  pub rejected : IsRejectedCount version frames l.rejected
  pub forged : IsFirstForgedOf version frames l.forged

-- a committee is that of the first of these frames where none was known, and else stays
abbrev pub OpensBy : Version → List Frame → Option CommitteeValue → Option CommitteeValue → Type 0
OpensBy version frames (Some k) new = new ≡ Some k
OpensBy version frames None new = IsCommitteeOf version frames new

-- why lines did not go out whole after this many bytes: the sink failed, and exactly the first of their bytes are out; or
-- the count of bytes would not fit, and none are
abbrev pub PushFails : Fault → ℕ → List ℕ → Device → Device → Type 0
PushFails (fault.Write written) before lines old new =
    Fails old new × (part : ℕ) × (written ≡ before + part) × (part < length lines) × Receives old new (take part lines)
PushFails fault.Memory before lines old new = IsUntouched old new
PushFails other before lines old new = ⊥

-- these lines are those of the frames that follow those that were listed
abbrev pub GoesOn : Version → List Frame → Lister → Lister → List ℕ → Type 0
GoesOn version frames old new lines =
    (before : List Frame) (text : List ℕ) → HasListed version before text old
    → HasListed version (before ++ frames) (text ++ lines) new

-- frames were listed after those before them
abbrev pub ListsMore : Version → List Frame → Lister → Lister → Device → Device → Type 0
ListsMore version frames old new before after =
    (lines : List ℕ) × GoesOn version frames old new lines × Writes lines before after
    × (new.written ≡ old.written + length lines)

-- the listing goes on with these lines
abbrev pub AreNext : Version → List Frame → Lister → List ℕ → Type 0
AreNext version frames l lines =
    (before : List Frame) (text : List ℕ) → HasListed version before text l
    → IsListing version (before ++ frames) (text ++ lines)

-- why they were not: the sink failed in the lines that come next, or memory ran out and nothing more is out
abbrev pub MoreFails : Fault → Version → List Frame → Lister → Device → Device → Type 0
MoreFails (fault.Write written) version frames l before after =
    (lines : List ℕ) × AreNext version frames l lines × PushFails (fault.Write written) l.written lines before after
MoreFails fault.Memory version frames l before after = IsUntouched before after
MoreFails other version frames l before after = ⊥
