-- What keeps a feed from counting whole.
use Rattle.std.specs.Prelude.{◌≡◌, ℕ, zero, suc, Bool, true, false, List, length, Option, Some, None}
use Rattle.bk_base.specs.Feed.{FeedValue}
use Rattle.bk_cert.specs.declared.place.CertRef.{CertRef}
use Rattle.bk_order.specs.Frames.{AreRejects}
use Rattle.bk_order.specs.Intake.{first_later_frame}
use Rattle.bk_order.specs.Orders.{Ordered, AreWaiting}
use Rattle.bk_order.specs.declared.reject.Reject.{Reject}
use Rattle.bk_results.specs.Devices.{AreFeedWith}
use Rattle.bk_results.specs.declared.flaw.Flaw.{Flaw}
use Rattle.bk_results.specs.declared.flaw.Flaw.TheVariants as flaw
use Rattle.bk_answer.specs.RunReport.{committee_in, later_frames, HasNoStopIn, IsOrderIn}
use Rattle.bk_answer.specs.declared.strict.Ended.{Ended}

-- the first that there is: a batch at which the order stops; frames that break a rule; certificates that wait; no
-- certificate in the order
abbrev pub first_flaw : Option (List ℕ) → ℕ → ℕ → ℕ → Option Flaw
first_flaw (Some digest) rejected waiting ordered = Some (flaw.Missing digest)
first_flaw None (suc rejected) waiting ordered = Some (flaw.Rejected (suc rejected))
first_flaw None zero (suc waiting) ordered = Some (flaw.Waiting (suc waiting))
first_flaw None zero zero zero = Some flaw.NothingOrdered
first_flaw None zero zero (suc ordered) = None

-- nothing stops a feed, and this is what keeps it from counting whole, if anything does
pub record IsFlawIn (feed : FeedValue) (found : Option Flaw) : Type 0 where
  pub clear : HasNoStopIn feed
  pub rejected : List Reject
  pub waiting : List CertRef
  pub ordered : Ordered
  pub are_rejected : AreRejects (committee_in feed) first_later_frame (later_frames feed) rejected
  pub are_waiting : AreWaiting (committee_in feed) (later_frames feed) waiting
  pub is_order : IsOrderIn feed ordered
  pub found_is : found ≡ first_flaw ordered.payloads.missing (length rejected) (length waiting) (length ordered.order)

-- bytes are the encoding of such a feed
abbrev pub IsFlaw : List ℕ → Option Flaw → Type 0
IsFlaw bytes found = AreFeedWith bytes (λ feed. IsFlawIn feed found)

-- the same, where it is asked for; where it is not, nothing is found
abbrev pub IsFlawIf : Bool → FeedValue → Option Flaw → Type 0
IsFlawIf true feed found = IsFlawIn feed found
IsFlawIf false feed found = found ≡ None

-- the text of an answer, with its end and what keeps the feed from counting whole
abbrev pub judged_text : {E : Type 0} → Bool → (FeedValue → E → List ℕ → Type 0) → FeedValue → Ended E → List ℕ → Type 0
judged_text strict text feed ended t = text feed ended.end t × IsFlawIf strict feed ended.flaw
