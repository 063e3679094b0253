-- What is out of a verdict.
use Rattle.std.proofs.Common.{◌≡◌, ◌∙◌, ℕ, ◌<◌, List, length, take, Option, Some, None, Ok, Err, refl, subst, sym}
use Rattle.std.specs.Prelude.{IfErr, IfOk, MatchOption}
use Rattle.std.specs.declared.result.Result.{Result}
use Rattle.std.proofs.lemmas.Option.{MatchOption-at_none, MatchOption-at_some}
use Rattle.bk_claim.proofs.Findings.{enough_known, enough_then, text_is}
use Rattle.bk_claim.specs.declared.comparing.Found.{Found}
use Rattle.bk_claim.specs.Claims.{ClaimFailsBy, GaveEnough, HaveReport, OfBoth, PartOfVerdictIsOut, ShowsVerdict, VerdictIsOut, claim_devices, good}
use Rattle.bk_claim.specs.declared.verdict.ClaimStop.{ClaimStop}
use Rattle.bk_claim.specs.declared.verdict.ClaimStop.TheVariants as stop
use Rattle.bk_claim.specs.declared.verdict.Verdict.{Verdict}
use Rattle.bk_claim.specs.declared.verdict.Verdict.TheVariants as verdict
use Rattle.bk_claim.specs.private.Finding.{IsFound, found_text}
use Rattle.bk_claim.specs.private.Judging.{JudgeFailsBy, PartOfShownIsOut, ShownIsOut}
use Rattle.bk_answer.specs.RunReport.{IsReport}
use Rattle.bk_frames.proofs.Devices.{gave_all, known_of}
use Rattle.bk_frames.specs.Device.{Device, GaveAll, IfKnown, Receives, Works}
use Rattle.bk_results.specs.Devices.{devices}
use Rattle.bk_results.specs.declared.fault.Fault.TheVariants as fault
use Rattle.bk_results.specs.declared.status.Status.{Status}
use Rattle.bk_results.specs.declared.status.Status.TheVariants as status

-- what was compared of a claim
abbrev pub IsCompared : Option Found → List ℕ → List ℕ → Type 0
IsCompared r right claim = MatchOption r (claim ≡ right) (λ f. IsFound right claim f)

-- they differ, and these are the three lines for it
pub differs_shown : (r : Option Found) (right claim : List ℕ) (end : Status) (found : Found) (text : List ℕ) → IsCompared r right claim → r ≡ Some found → text ≡ found_text right found
    → ShowsVerdict right claim end verdict.Differs text
differs_shown r right claim end found text compared is e =
    let here : IsFound right claim found = MatchOption-at_some (claim ≡ right) (λ f. IsFound right claim f) found is compared in
    (found.at, here.differ, e ∙ text_is right claim found here)

-- they are the same
pub same_shown : (r : Option Found) (right claim : List ℕ) (end : Status) (answer : Verdict) (text : List ℕ) → IsCompared r right claim → r ≡ None
    → ShowsVerdict right right end answer text → ShowsVerdict right claim end answer text
same_shown r right claim end answer text compared is shows =
    subst (λ (c : List ℕ). ShowsVerdict right c end answer text) (sym (MatchOption-at_none (claim ≡ right) (λ f. IsFound right claim f) is compared)) shows

-- the text is out
pub all_out : (a b : Device) (r : Option Found) (right : List ℕ) (end : Status) (answer : Verdict) (text : List ℕ) (old new : Device) → GaveEnough a b (IsCompared r right)
    → ((claim : List ℕ) → IsCompared r right claim → ShowsVerdict right claim end answer text) → Receives old new text → GaveEnough a b (ShownIsOut right end answer old new)
all_out a b r right end answer text old new given shows out =
    enough_then a b (IsCompared r right) (ShownIsOut right end answer old new) given (λ claim is. (text, shows claim is, out))

-- its first bytes are
pub part_out : (a b : Device) (r : Option Found) (right : List ℕ) (end : Status) (answer : Verdict) (text : List ℕ) (written : ℕ) (old new : Device) → GaveEnough a b (IsCompared r right)
    → ((claim : List ℕ) → IsCompared r right claim → ShowsVerdict right claim end answer text) → written < length text → Receives old new (take written text)
    → GaveEnough a b (PartOfShownIsOut right end written old new)
part_out a b r right end answer text written old new given shows short out =
    enough_then a b (IsCompared r right) (PartOfShownIsOut right end written old new) given (λ claim is. (answer, text, shows claim is, short, out))

-- the first bytes of the line of a claim that is right
pub part_of_good : (end : Status) (a b : Device) (r : Option Found) (right : List ℕ) (written : ℕ) (old new : Device) → GaveEnough a b (IsCompared r right) → r ≡ None
    → written < length good → Receives old new (take written good) → GaveEnough a b (PartOfShownIsOut right end written old new)
part_of_good status.Whole a b r right written old new given is short out =
    part_out a b r right status.Whole verdict.Good good written old new given (λ claim compared. same_shown r right claim status.Whole verdict.Good good compared is (refl, refl, refl)) short out
part_of_good status.Missing a b r right written old new given is short out =
    part_out a b r right status.Missing verdict.Short good written old new given (λ claim compared. same_shown r right claim status.Missing verdict.Short good compared is (refl, refl, refl)) short out

-- ---- of the feed and of the claim

-- what is shown beside the report of a feed is shown of the feed
of_both : (feed feed' claimed claimed' sink sink' : Device) (right : List ℕ) (end : Status) (P : List ℕ → Type 0) (Q : List ℕ → List ℕ → Type 0)
    → GaveAll feed feed' (λ bytes. IsReport bytes right end) → ((bytes claim : List ℕ) → IsReport bytes right end → P claim → Q bytes claim)
    → GaveEnough claimed claimed' P → OfBoth (claim_devices feed claimed sink) (claim_devices feed' claimed' sink') Q
of_both feed feed' claimed claimed' sink sink' right end P Q held f given = (
  known_of feed feed' (λ bytes. IfKnown claimed (Q bytes))
      (gave_all feed feed' (λ bytes. IsReport bytes right end) (λ bytes. IfKnown claimed (Q bytes)) held (λ bytes r. enough_known claimed claimed' (Q bytes) (enough_then claimed claimed' P (Q bytes) given (λ claim p. f bytes claim r p)))),
  gave_all feed feed' (λ bytes. IsReport bytes right end) (λ bytes. GaveEnough claimed claimed' (Q bytes)) held (λ bytes r. enough_then claimed claimed' P (Q bytes) given (λ claim p. f bytes claim r p)),
)

pub verdict_of_both : (result : Result Verdict ClaimStop) (feed feed' claimed claimed' sink sink' : Device) (right : List ℕ) (end : Status) → GaveAll feed feed' (λ bytes. IsReport bytes right end)
    → IfOk result (λ v. GaveEnough claimed claimed' (ShownIsOut right end v sink sink'))
    → IfOk result (λ v. OfBoth (claim_devices feed claimed sink) (claim_devices feed' claimed' sink') (VerdictIsOut v sink sink'))
verdict_of_both (Ok v) feed feed' claimed claimed' sink sink' right end held given =
    of_both feed feed' claimed claimed' sink sink' right end (ShownIsOut right end v sink sink') (VerdictIsOut v sink sink') held
    (λ bytes claim r p. (p.0, record { right = right; end = end; report = r; shows = p.1 }, p.2)) given
verdict_of_both (Err e) feed feed' claimed claimed' sink sink' right end held given = tt

pub stop_of_both : (result : Result Verdict ClaimStop) (feed feed' claimed claimed' sink sink' : Device) (right : List ℕ) (end : Status) → Works feed feed' → GaveAll feed feed' (λ bytes. IsReport bytes right end)
    → IfErr result (λ e. JudgeFailsBy right end e (devices claimed sink) (devices claimed' sink')) → IfErr result (λ e. ClaimFailsBy e (claim_devices feed claimed sink) (claim_devices feed' claimed' sink'))
stop_of_both (Ok v) feed feed' claimed claimed' sink sink' right end works held h = tt
stop_of_both (Err (stop.Run (fault.Write written))) feed feed' claimed claimed' sink sink' right end works held h = (
  works,
  h.0,
  h.1,
  of_both feed feed' claimed claimed' sink sink' right end (PartOfShownIsOut right end written sink sink') (PartOfVerdictIsOut written sink sink') held
      (λ bytes claim r p. (p.0, p.1, record { right = right; end = end; report = r; shows = p.2 }, p.3, p.4)) h.2,
)
stop_of_both (Err (stop.Run fault.Memory)) feed feed' claimed claimed' sink sink' right end works held h = (works, h.0, h.1)
stop_of_both (Err (stop.Run (fault.Feed found))) feed feed' claimed claimed' sink sink' right end works held h = absurd h
stop_of_both (Err (stop.Run (fault.Collision id))) feed feed' claimed claimed' sink sink' right end works held h = absurd h
stop_of_both (Err (stop.Run (fault.Equivocation round author first second))) feed feed' claimed claimed' sink sink' right end works held h = absurd h
stop_of_both (Err (stop.Run (fault.Unfinished place))) feed feed' claimed claimed' sink sink' right end works held h = absurd h
stop_of_both (Err stop.Unread) feed feed' claimed claimed' sink sink' right end works held h =
    (works, h.0, h.1, gave_all feed feed' (λ bytes. IsReport bytes right end) HaveReport held (λ bytes r. (right, end, r)))
