-- How a job ends with `--strict`, which does not count a feed that falls short.
use Rattle.std.specs.Prelude.{◌≡◌, ℕ, Bool, true, false, List, ◌++◌, Option, Some, codes}
use Rattle.bk_frames.specs.Device.{Device}
use Rattle.bk_results.specs.Lines.{spaced}
use Rattle.bk_results.specs.declared.flaw.Flaw.{Flaw}
use Rattle.bk_results.specs.declared.flaw.Flaw.TheVariants as flaw
use Rattle.bk_cli.specs.FaultLines.{Reports}
use Rattle.bk_cli.specs.Pieces.{digits_of}
use Rattle.bk_cli.specs.declared.exit.Exit.{Exit}
use Rattle.bk_cli.specs.declared.exit.Exit.TheVariants as exit

-- an end after which a flaw counts: there is an answer, be it no, or that something is absent
abbrev pub is_judged : Exit → Bool
is_judged exit.Whole = true
is_judged exit.No = true
is_judged exit.Missing = true
is_judged other = false

-- what reports a flaw
abbrev pub flaw_text : Flaw → List ℕ
flaw_text (flaw.Missing digest) = codes "missing" ++ digits_of digest
flaw_text (flaw.Rejected frames) = codes "rejected" ++ spaced frames
flaw_text (flaw.Waiting certs) = codes "waiting" ++ spaced certs
flaw_text flaw.NothingOrdered = codes "nothing ordered"

-- its line, with its line feed
abbrev pub flaw_line : Flaw → List ℕ
flaw_line found = codes "strict: " ++ flaw_text found ++ codes "\n"

-- where an end is judged and the feed has a flaw, this is reported, and the last end says so; else the end stays, and nothing
-- is added
abbrev pub IsJudged : Bool → Option Flaw → Exit → Exit → Device → Device → Type 0
IsJudged true (Some found) end last err err' = (last ≡ exit.Flawed) × Reports (flaw_line found) err err'
IsJudged judged found end last err err' = (last ≡ end) × (err' ≡ err)
