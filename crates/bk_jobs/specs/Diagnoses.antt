-- The jobs that say what is wrong with a feed.
use Rattle.std.specs.Prelude.{ℕ, Bool, List}
use Rattle.bk_base.specs.Feed.{FeedValue}
use Rattle.bk_diagnosis.specs.Answers.{ShowsLines}
use Rattle.bk_diagnosis.specs.Evidence.{IsEvidenceIn}
use Rattle.bk_diagnosis.specs.Missing.{AreMissingIn}
use Rattle.bk_diagnosis.specs.Waiting.{AreWaitingIn}
use Rattle.bk_cli.specs.declared.view.Diagnosis.{Diagnosis}
use Rattle.bk_cli.specs.declared.view.Diagnosis.TheVariants as sought

-- the text of what is wrong, and whether something is
abbrev pub diagnosis_text : Diagnosis → FeedValue → Bool → List ℕ → Type 0
diagnosis_text sought.Waiting = ShowsLines AreWaitingIn
diagnosis_text sought.Missing = ShowsLines AreMissingIn
diagnosis_text sought.Evidence = ShowsLines IsEvidenceIn
