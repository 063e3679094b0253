-- What the definition of a verdict on a claimed report says.
use Rattle.std.specs.Prelude.{◌≡◌, ◌↔◌, List, ℕ}
use Rattle.bk_results.specs.declared.status.Status.{Status}
use Rattle.bk_answer.specs.RunReport.{IsReport}
use Rattle.bk_claim.specs.Claims.{IsVerdict}
use Rattle.bk_claim.specs.declared.verdict.Verdict.{Verdict}
use Rattle.bk_claim.specs.declared.verdict.Verdict.TheVariants as verdict

-- where bytes have a report, each claim has one verdict and one text of it
abbrev pub ExactlyOneVerdict : Type 0
ExactlyOneVerdict = (feed report claimed : List ℕ) (status : Status) → IsReport feed report status
    → (answer : Verdict) × (text : List ℕ) × IsVerdict feed claimed answer text
    × ((other : Verdict) (words : List ℕ) → IsVerdict feed claimed other words → (answer ≡ other) × (text ≡ words))

-- the verdict that a claim is right, also where the order stops at a missing batch
abbrev pub FindsGood : Verdict → Type 0
FindsGood verdict.Good = Unit {0}
FindsGood verdict.Short = Unit {0}
FindsGood verdict.Differs = ⊥

-- a claim is found good exactly where it is the report
abbrev pub GoodIsTheReport : Type 0
GoodIsTheReport = (feed report claimed text : List ℕ) (status : Status) (answer : Verdict) → IsReport feed report status
    → IsVerdict feed claimed answer text → FindsGood answer ↔ (claimed ≡ report)
