-- The job that compares two feeds: its first source, and its second, which is read after it.
use Rattle.std.specs.Prelude.{◌⊎◌, ℕ, ◌<◌, Bool, List, ◌++◌, Option, Some, None, IfSome, codes, length, take}
use Rattle.bk_frames.specs.Device.{Fails, Receives}
use Rattle.bk_base.specs.Feed.{FeedValue}
use Rattle.bk_order.specs.declared.stop.Stop.{Stop}
use Rattle.bk_follow.specs.Agreement.{HaveStop}
use Rattle.bk_results.specs.Devices.{AreFeed, IsUntouched}
use Rattle.bk_compare.specs.FeedAgreement.{BothGave, BothWork, ComparisonStops, FeedsCompared, FeedsDiffer, OfTheirFeeds, Sources, sources}
use Rattle.bk_compare.specs.declared.compared.Compared.{Compared}
use Rattle.bk_results.specs.declared.compare_stop.CompareStop.{CompareStop}
use Rattle.bk_results.specs.declared.differ.SetupPart.{SetupPart}
use Rattle.bk_results.specs.declared.differ.Agreed.{Agreed}
use Rattle.bk_results.specs.declared.differ.Differ.TheVariants as differ
use Rattle.bk_results.specs.declared.fault.Fault.{Fault}
use Rattle.bk_results.specs.declared.fault.Fault.TheVariants as replay
use Rattle.bk_results.specs.declared.flaw.Flaw.{Flaw}
use Rattle.bk_results.specs.Lines.{spaced}
use Rattle.bk_jobs.specs.Sources.{AreBroken, Inputs, JobDevices}
use Rattle.bk_jobs.specs.declared.job_end.JobEnd.{JobEnd}
use Rattle.bk_cli.specs.declared.exit.Exit.TheVariants as exit
use Rattle.bk_cli.specs.declared.job_fault.JobFault.{JobFault}
use Rattle.bk_cli.specs.declared.job_fault.JobFault.TheVariants as fault

-- this holds of what both sources give, where it is known
abbrev pub IfBothGive : Inputs → (List ℕ → List ℕ → Type 0) → Type 0
IfBothGive given holds = IfSome given.first (λ bytes. IfSome given.second (holds bytes))

-- both sources of a job
abbrev pub both_sources : JobDevices → Sources
both_sources d = sources d.first d.second

-- ---- the answer

-- the line of an answer: how many certificates, and how many places, the two orders have in common
abbrev pub agree_text : Agreed → List ℕ
agree_text a = codes "agree" ++ spaced a.certs ++ spaced a.places ++ codes "\n"

-- the first one, else the second
abbrev pub or_flaw : Option Flaw → Option Flaw → Option Flaw
or_flaw (Some found) other = Some found
or_flaw None other = other

-- the end of a comparison of two feeds that agree
abbrev pub compared_end : Compared → JobEnd
compared_end c = record {
  exit = exit.Whole;
  absent = None;
  remarks = record { first = c.first; second = c.second; forged = None };
  flaw = or_flaw c.first_flaw c.second_flaw;
}

-- ---- why there is none

-- the feeds agree, and the first bytes of the line are out, and not all
abbrev pub PartOfAgreementIsOut : Bool → ℕ → JobDevices → JobDevices → Type 0
PartOfAgreementIsOut strict written old new =
    (c : Compared) × BothGave (both_sources old) (both_sources new) (λ f g. FeedsCompared strict f g c)
    × (written < length (agree_text c.agreed)) × Receives old.out new.out (take written (agree_text c.agreed))

-- the feeds do not agree, and nothing is written
pub record DoNotAgree (e : CompareStop) (old new : JobDevices) : Type 0 where
  pub why : ComparisonStops e (both_sources old) (both_sources new)
  pub untouched : IsUntouched old.out new.out

-- why the line is not out though the feeds agree: a call of the output failed, and exactly its first bytes are out
abbrev pub AgreementFailsBy : Bool → Fault → JobDevices → JobDevices → Type 0
AgreementFailsBy strict (replay.Write written) old new =
    BothWork (both_sources old) (both_sources new) × Fails old.out new.out
    × PartOfAgreementIsOut strict written old new
AgreementFailsBy strict other old new = ⊥

-- why a comparison has no answer: the feeds do not agree, or the whole line is not out
abbrev pub CompareFailsBy : Bool → JobFault → JobDevices → JobDevices → Type 0
CompareFailsBy strict (fault.Replay e) old new = AgreementFailsBy strict e old new
CompareFailsBy strict (fault.Compared e) old new = DoNotAgree e old new
CompareFailsBy strict other old new = ⊥

-- ---- bytes to blame

-- the sources of a comparison are wrong: the first is no feed; the first is one, and the second is none; or both
-- are, and their setups differ
abbrev pub AreWrongTogether : Inputs → Type 0
AreWrongTogether given =
    IfSome given.first AreBroken ⊎ (IfSome given.first AreFeed × IfSome given.second AreBroken)
    ⊎ ((part : SetupPart) × IfBothGive given (λ bytes more. OfTheirFeeds bytes more (FeedsDiffer (differ.Setup part))))

-- two feeds have one setup, and a collision or twins stop the frames of both together
abbrev pub HaveSomeStop : FeedValue → FeedValue → Type 0
HaveSomeStop one other = (s : Stop) × HaveStop one other s

-- the sources of a comparison are feeds that are stopped together
abbrev pub AreStoppedTogether : Inputs → Type 0
AreStoppedTogether given =
    IfBothGive given (λ bytes more. OfTheirFeeds bytes more HaveSomeStop)
