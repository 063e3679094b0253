-- What the program reports of a file that it could not open.
use Rattle.std.specs.Prelude.{ℕ, Bool, List, ◌++◌, codes, if◌then◌else◌}
use Rattle.bk_results.specs.declared.script_fault.ScriptFault.TheVariants as text
use Rattle.bk_cli.specs.Files.{shown}
use Rattle.bk_cli.specs.FaultLines.{line_of}
use Rattle.bk_cli.specs.declared.job_fault.JobFault.TheVariants as fault
use Rattle.bk_cli.specs.declared.unopened.Unopened.{Unopened}
use Rattle.bk_cli.specs.declared.unopened.Unopened.TheVariants as reason

-- what is said of it, after its name
abbrev pub unopened_words : Unopened → List ℕ
unopened_words reason.Absent = codes ": there is no such file\n"
unopened_words reason.Denied = codes ": permission denied\n"
unopened_words reason.Other = codes ": it could not be opened\n"

-- the line of the fault and, in words, one more
abbrev pub told_unopened : Bool → List ℕ → Unopened → List ℕ
told_unopened verbose name why =
    if verbose then line_of (fault.Text text.Read) ++ (codes "bkreplay: " ++ (shown name ++ unopened_words why))
    else line_of (fault.Text text.Read)
