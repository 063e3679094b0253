-- The verdict on what somebody claims to be the report of a run.
use Rattle.std.specs.Prelude.{◌≡◌, ◌≢◌, ℕ, ◌+◌, ◌<◌, ◌⊎◌, Bool, ◌&&◌, ◌==◌, nat_lt, nat_le, if◌then◌else◌, List, ◌++◌, length, map, take, drop, count_by, slice_get, codes}
use Rattle.std.specs.List.{after_last, before_first}
use Rattle.bk_claim.specs.declared.verdict.ClaimStop.{ClaimStop}
use Rattle.bk_claim.specs.declared.verdict.ClaimStop.TheVariants as stop
use Rattle.bk_claim.specs.declared.verdict.Verdict.{Verdict}
use Rattle.bk_claim.specs.declared.verdict.Verdict.TheVariants as verdict
use Rattle.bk_answer.specs.RunReport.{IsReport, IsStopped, HasPlace}
use Rattle.bk_frames.specs.Device.{Device, Works, Fails, Gives, Ends, Receives, IfKnown, IsWhole, GaveAll}
use Rattle.bk_frames.specs.Pulling.{Refuses}
use Rattle.bk_results.specs.Devices.{IsUntouched}
use Rattle.bk_results.specs.Lines.{spaced}
use Rattle.bk_results.specs.declared.fault.Fault.{Fault}
use Rattle.bk_results.specs.declared.fault.Fault.TheVariants as fault
use Rattle.bk_results.specs.declared.status.Status.{Status}
use Rattle.bk_results.specs.declared.status.Status.TheVariants as status

-- ---- where two texts first differ

-- two texts first differ at byte i: their first i bytes are the same, and one of them ends there and the other does not,
-- or both go on with bytes that differ
abbrev pub FirstDiffer : List ℕ → List ℕ → ℕ → Type 0
FirstDiffer right claimed i = (take i right ≡ take i claimed) × (slice_get right i ≢ slice_get claimed i)

-- whether a byte is a line feed
abbrev pub ends_line : ℕ → Bool
ends_line b = b == 10

-- the number of the line of byte i: one more than the line feeds before it
abbrev pub line_number : List ℕ → ℕ → ℕ
line_number text i = count_by ends_line (take i text) + 1

-- the line of byte i without its line feed, which belongs to it: what comes after the last line feed before i, up to the
-- first line feed that is not before i
abbrev pub line_at : List ℕ → ℕ → List ℕ
line_at text i = after_last ends_line (take i text) ++ before_first ends_line (drop i text)

-- ---- the text of a verdict

-- what is shown of a text that first differs at i: words for the line there, or `end` where the text ends at i
abbrev pub words_or_end : List ℕ → ℕ → List ℕ → List ℕ
words_or_end text i words = if nat_lt i (length text) then words else codes "end"

-- a byte as it is shown, `?` where it is not one of 32 to 126
abbrev pub shown_byte : ℕ → ℕ
shown_byte b = if nat_le 32 b && nat_le b 126 then b else 63

-- what is shown of a line that is claimed: its first 200 bytes
abbrev pub shown : List ℕ → List ℕ
shown line = map shown_byte (take 200 line)

-- the three lines where a report and a claim first differ at i
abbrev pub difference : List ℕ → List ℕ → ℕ → List ℕ
difference right claimed i =
    codes "report differs at line" ++ spaced (line_number right i) ++ codes "\n"
    ++ codes "feed " ++ words_or_end right i (line_at right i) ++ codes "\n"
    ++ codes "claimed " ++ words_or_end claimed i (shown (line_at claimed i)) ++ codes "\n"

-- the line of a claim that is right
abbrev pub good : List ℕ
good = codes "report good\n"

-- the verdict on a claim, where this is the report and how far it goes, and the text of the verdict
abbrev pub ShowsVerdict : List ℕ → List ℕ → Status → Verdict → List ℕ → Type 0
ShowsVerdict right claimed end verdict.Good text = (claimed ≡ right) × (end ≡ status.Whole) × (text ≡ good)
ShowsVerdict right claimed end verdict.Short text = (claimed ≡ right) × (end ≡ status.Missing) × (text ≡ good)
ShowsVerdict right claimed end verdict.Differs text =
    (i : ℕ) × FirstDiffer right claimed i × (text ≡ difference right claimed i)

-- the verdict on a claim, where these bytes are those of a feed, and its text
pub record IsVerdict (feed claimed : List ℕ) (answer : Verdict) (text : List ℕ) : Type 0 where
  pub right : List ℕ
  pub end : Status
  pub report : IsReport feed right end
  pub shows : ShowsVerdict right claimed end answer text

-- the bytes of a feed have a report
abbrev pub HaveReport : List ℕ → Type 0
HaveReport feed = (right : List ℕ) × (end : Status) × IsReport feed right end

-- ---- what a call leaves

-- the feed, the claim and the sink of a check
pub record ClaimDevices : Type 0 where
  pub feed : Device
  pub claimed : Device
  pub sink : Device

-- these three
abbrev pub claim_devices : Device → Device → Device → ClaimDevices
claim_devices feed claimed sink = record { feed = feed; claimed = claimed; sink = sink }

-- a source gave bytes that show this: it holds of them and they are all; or the source did not end, and it holds however
-- they go on
abbrev pub GaveEnough : Device → Device → (List ℕ → Type 0) → Type 0
GaveEnough old new holds =
    (given : List ℕ) × Gives old new given
    × ((IsWhole old new given × holds given) ⊎ (Ends 0 old new × ((more : List ℕ) → holds (given ++ more))))

-- this holds of the bytes of the feed and of the claim, where both are known
abbrev pub IfBothKnown : ClaimDevices → (List ℕ → List ℕ → Type 0) → Type 0
IfBothKnown d holds = IfKnown d.feed (λ bytes. IfKnown d.claimed (λ claim. holds bytes claim))

-- so it does; and it holds of what was read: of the feed all, of the claim what shows the verdict: all, or so much that it
-- stands however the claim goes on
abbrev pub OfBoth : ClaimDevices → ClaimDevices → (List ℕ → List ℕ → Type 0) → Type 0
OfBoth old new holds =
    IfBothKnown old holds
    × GaveAll old.feed new.feed (λ bytes. GaveEnough old.claimed new.claimed (λ claim. holds bytes claim))

-- no call of any failed
abbrev pub AllWork : ClaimDevices → ClaimDevices → Type 0
AllWork old new = Works old.feed new.feed × Works old.claimed new.claimed × Works old.sink new.sink

-- the sink received exactly the text of the verdict
abbrev pub VerdictIsOut : Verdict → Device → Device → List ℕ → List ℕ → Type 0
VerdictIsOut answer old new feed claimed =
    (text : List ℕ) × IsVerdict feed claimed answer text × Receives old new text

-- the first bytes of the text of the verdict are out, and not all
abbrev pub PartOfVerdictIsOut : ℕ → Device → Device → List ℕ → List ℕ → Type 0
PartOfVerdictIsOut written old new feed claimed =
    (answer : Verdict) × (text : List ℕ) × IsVerdict feed claimed answer text × (written < length text)
    × Receives old new (take written text)

-- nothing is read of the claim, and nothing is written
abbrev pub OnlyFeedIsUsed : ClaimDevices → ClaimDevices → Type 0
OnlyFeedIsUsed old new = (new.claimed ≡ old.claimed) × IsUntouched old.sink new.sink

-- why there is no verdict, by the fault: the feed is refused or stopped, or a worker took a place and did not finish it,
-- and nothing is read of the claim; a call of the sink failed, and exactly the first bytes of the text are out; or memory
-- ran out. But for the sink's failure nothing is written
abbrev pub RunFailsBy : Fault → ClaimDevices → ClaimDevices → Type 0
RunFailsBy (fault.Feed found) old new = Refuses found old.feed new.feed × OnlyFeedIsUsed old new
RunFailsBy (fault.Unfinished place) old new =
    Works old.feed new.feed × OnlyFeedIsUsed old new × GaveAll old.feed new.feed (λ bytes. HasPlace bytes place)
RunFailsBy (fault.Write written) old new =
    Works old.feed new.feed × Works old.claimed new.claimed × Fails old.sink new.sink
    × OfBoth old new (PartOfVerdictIsOut written old.sink new.sink)
RunFailsBy fault.Memory old new =
    Works old.feed new.feed × Works old.claimed new.claimed × IsUntouched old.sink new.sink
RunFailsBy found old new =
    Works old.feed new.feed × OnlyFeedIsUsed old new × GaveAll old.feed new.feed (λ bytes. IsStopped bytes found)

-- why there is no verdict: so; or a call of the claim failed, after a feed that has a report, and nothing is written
abbrev pub ClaimFailsBy : ClaimStop → ClaimDevices → ClaimDevices → Type 0
ClaimFailsBy (stop.Run found) old new = RunFailsBy found old new
ClaimFailsBy stop.Unread old new =
    Works old.feed new.feed × Fails old.claimed new.claimed × IsUntouched old.sink new.sink
    × GaveAll old.feed new.feed HaveReport
