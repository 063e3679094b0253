-- How the program ends, by its words.
use Rattle.std.specs.Prelude.{◌≡◌, ◌≢◌, ◌⊎◌, ℕ, Bool, List, [], Option, Some, None, false, codes}
use Rattle.std.specs.Process.{exit_status}
use Rattle.std.specs.declared.io.ErrorKind.{ErrorKind}
use Rattle.std.specs.declared.io.ErrorKind.TheVariants as found
use Rattle.std.specs.declared.process.ExitCode.{ExitCode}
use Rattle.clap.specs.Words.{HasKind, Text, fault_of, kind_of, subcommand_of}
use Rattle.clap.specs.declared.error.Error.{Error}
use Rattle.clap.specs.declared.error.kind.ErrorKind.TheVariants as kind
use Rattle.bk_frames.specs.Device.{Device}
use Rattle.bk_results.specs.declared.fault.Fault.TheVariants as replay
use Rattle.bk_cli.specs.CommandLine.{IsLineOf, IsOfValues}
use Rattle.bk_cli.specs.Commands.{command_line}
use Rattle.bk_cli.specs.Exits.{exit_number, has_fault}
use Rattle.bk_cli.specs.FaultLines.{Reports, line_of}
use Rattle.bk_cli.specs.declared.exit.Exit.{Exit}
use Rattle.bk_cli.specs.declared.exit.Exit.TheVariants as exit
use Rattle.bk_cli.specs.declared.job_fault.JobFault.TheVariants as fault
use Rattle.bk_cli.specs.declared.parsing.Line.{Line}
use Rattle.bk_cli.specs.Words.{settled}
use Rattle.bk_jobs.specs.Openings.{Ran}
use Rattle.bk_jobs.specs.Reads.{IsLeft, Sight}
use Rattle.bk_jobs.specs.declared.inputs.Access.{Access}

-- where the words name no job: with Failed where memory ran out; with Whole after help and the version, or with Failed where
-- these could not be written; and with No where the words have a fault
pub record EndsByKind (e : Error) (end : Exit) : Type 0 where
  pub memory : kind_of e ≡ kind.OutOfMemory → end ≡ exit.Failed
  pub help : (kind_of e ≡ kind.DisplayHelp) ⊎ (kind_of e ≡ kind.DisplayVersion)
      → (end ≡ exit.Whole) ⊎ (end ≡ exit.Failed)
  pub mistake : kind_of e ≢ kind.OutOfMemory → kind_of e ≢ kind.DisplayHelp → kind_of e ≢ kind.DisplayVersion
      → end ≡ exit.No

-- one line says that memory ran out
abbrev pub SaysNoMemory : Device → Device → Type 0
SaysNoMemory err err' = Reports (line_of (fault.Replay replay.Memory)) err err'

-- one line says that nothing could be written
abbrev pub SaysUnwritten : Device → Device → Type 0
SaysUnwritten err err' = Reports (line_of (fault.Replay (replay.Write 0))) err err'

-- what is said of words that are no text
abbrev pub unread_words : List ℕ
unread_words = codes "error: a word of the command line is not UTF-8\n"

-- the words have no fault and are not answered, and the job that they name ran over the files that it names and standard input,
-- which it reads once at most, and left what it has no use for, reported as their notes say
pub record RanJob {N F I : Type 0} (s : Sight F I) (old new : Access N F I) (words : List Text) (said : Option Error) (end : Exit)
    (out out' err err' : Device) : Type 0 where
  pub line : Line
  pub asked : IsLineOf words line
  pub silent : said ≡ None
  pub left : IsLeft line.job old new
  pub ran : Ran s old new line.job line.strict line.notes.verbose end out out' err err'

-- the words have a fault, or ask for help or the version, or memory ran out: they are answered with that, which decides how the
-- program ends, no file is opened and standard input is left unread, nothing is written of an answer, and where it ends with Failed
-- one line says why
pub record RanNone (unread : Type 0) (words : List Text) (said : Option Error) (end : Exit) (out out' err err' : Device) : Type 0 where
  pub error : Error
  pub names : HasKind (fault_of command_line words) error ⊎ IsOfValues error (subcommand_of command_line words)
  pub answered : said ≡ Some error
  pub left : unread
  pub ends : EndsByKind error end
  pub unwritten : out' ≡ out
  pub quiet : has_fault end ≡ false → err' ≡ err
  pub memory : kind_of error ≡ kind.OutOfMemory → SaysNoMemory err err'
  pub unsaid : kind_of error ≢ kind.OutOfMemory → end ≡ exit.Failed → SaysUnwritten err err'

-- the one or the other
abbrev pub RanWords : {N F I : Type 0} → Sight F I → Access N F I → Access N F I
    → List Text → Option Error → Exit → Device → Device → Device → Device → Type 0
RanWords s old new words said end out out' err err' =
    RanJob s old new words said end out out' err err' ⊎ RanNone (new ≡ old) words said end out out' err err'

-- one line says why the words could not be read, with the status that goes with it: memory ran out, or a word is no text
pub record SaysUnread (why : ErrorKind) (end : Exit) (err err' : Device) : Type 0 where
  pub memory : why ≡ found.OutOfMemory → (end ≡ exit.Failed) × SaysNoMemory err err'
  pub word : why ≢ found.OutOfMemory → (end ≡ exit.No) × Reports unread_words err err'

-- the words could not be read, which is an error of a kind that there is: no file is opened and standard input is left unread, no
-- answer is written, and one line says why
pub record ReadNoWords (fails : ErrorKind → Type 0) (unread : Type 0) (said : Option Error) (end : Exit) (out out' err err' : Device) : Type 0 where
  pub why : ErrorKind
  pub is_so : fails why
  pub silent : said ≡ None
  pub left : unread
  pub unwritten : out' ≡ out
  pub said_so : SaysUnread why end err err'

-- the words that there are were read and are answered, from what can be read to what is left of that; or they cannot be read
abbrev pub RanProgram : {N F I : Type 0} → (List Text → Type 0) → (ErrorKind → Type 0) → Sight F I → Access N F I → Access N F I
    → Option Error → Exit → Device → Device → Device → Device → Type 0
RanProgram gives fails s old new said end out out' err err' =
    ((words : List Text) × gives words × RanWords s old new (settled words) said end out out' err err')
    ⊎ ReadNoWords fails (new ≡ old) said end out out' err err'

-- the status of the process is that of an end of which this holds
abbrev pub EndsWith : ExitCode → (Exit → Type 0) → Type 0
EndsWith code holds = (end : Exit) × (exit_status code ≡ exit_number end) × holds end
