-- The command line, and the job that its words ask for.
use Rattle.std.specs.Prelude.{◌≡◌, ◌≤◌, ◌<◌, ◌⊎◌, ◌^◌, ◌&&◌, ◌||◌, not, ℕ, Bool, List, [], ◌∷◌, Option, Some, None, String, true, false, codes, if◌then◌else◌, map, option_map, string_bytes, unwrap_or}
use Rattle.std.specs.Global.{Global}
use Rattle.std.specs.Str.Parse.{IsNumeral, digits_value, without_leading_plus}
use Rattle.hex.specs.Hex.{encode_lower}
use Rattle.clap.specs.Values.{kind_of}
use Rattle.clap.specs.declared.error.Error.{Error}
use Rattle.clap.specs.declared.error.kind.ErrorKind.TheVariants as kind
use Rattle.clap.specs.Words.{HasKind, Row, Text, fault_of, first_of, one_of, subcommand_of, takes}
use Rattle.bk_digest.specs.Digest.{IsHexDigest}
use Rattle.bk_results.specs.declared.query.Query.TheVariants as query
use Rattle.bk_cli.specs.Files.{names_input, reads_input_twice}
use Rattle.bk_cli.specs.Links.{AreLinksIn, LacksLinks}
use Rattle.bk_cli.specs.Windows.{WindowValue}
use Rattle.bk_cli.specs.declared.args.Args.{Args}
use Rattle.bk_cli.specs.declared.job.Job.{Job}
use Rattle.bk_cli.specs.declared.job.Job.TheVariants as job
use Rattle.bk_cli.specs.declared.parsing.Line.{Line}
use Rattle.bk_cli.specs.declared.view.Diagnosis.TheVariants as sought
use Rattle.bk_cli.specs.declared.view.Table.{Table}
use Rattle.bk_cli.specs.declared.view.Table.TheVariants as table
use Rattle.bk_cli.specs.declared.view.View.{View}
use Rattle.bk_cli.specs.declared.view.View.TheVariants as view
use Rattle.bk_cli.specs.declared.verb.TheConstants.{ALL}
use Rattle.bk_cli.specs.declared.verb.Verb.{Verb}
use Rattle.bk_cli.specs.declared.verb.Verb.TheVariants as verb
use Rattle.bk_cli.specs.Commands.{command_line, word_of}

-- ---- the values of arguments

-- an option without a value is given: its value is true
abbrev pub IsOn : Option Text → Bool → Type 0
IsOn None on = on ≡ false
IsOn (Some text) on = (text ≡ codes "true" → on ≡ true) × (text ≡ codes "false" → on ≡ false)

-- a number from 1 to the first is the value of an option: the second where there is none
abbrev pub IsChosenBy : ℕ → ℕ → Option Text → ℕ → Type 0
IsChosenBy most usual None n = n ≡ usual
IsChosenBy most usual (Some text) n =
    IsNumeral 10 (without_leading_plus text) → 1 ≤ digits_value 10 (without_leading_plus text)
    → digits_value 10 (without_leading_plus text) ≤ most
    → n ≡ digits_value 10 (without_leading_plus text)

-- a number below a limit is the value of an argument that is required
abbrev pub IsNumberBy : ℕ → Option Text → ℕ → Type 0
IsNumberBy limit None n = n ≡ 0
IsNumberBy limit (Some text) n =
    IsNumeral 10 (without_leading_plus text) → digits_value 10 (without_leading_plus text) < limit
    → n ≡ digits_value 10 (without_leading_plus text)

-- a number from the first to below a limit is the value of an option: none where it is left out
abbrev pub IsGivenBy : ℕ → ℕ → Option Text → Option ℕ → Type 0
IsGivenBy least limit None given = given ≡ None
IsGivenBy least limit (Some text) given =
    IsNumeral 10 (without_leading_plus text) → least ≤ digits_value 10 (without_leading_plus text)
    → digits_value 10 (without_leading_plus text) < limit
    → given ≡ Some (digits_value 10 (without_leading_plus text))

-- the text is the value of an argument that is required
abbrev pub IsTextIn : Option Text → Text → Type 0
IsTextIn value text = text ≡ unwrap_or value []

-- a digest is the value of ROOT: none where it is not 64 hexadecimal digits in lower case
abbrev pub IsDigestIn : Option Text → Option (List ℕ) → Type 0
IsDigestIn value None = IsHexDigest (unwrap_or value []) → ⊥
IsDigestIn value (Some digest) = IsTextIn value (encode_lower digest)

-- what is drawn is the values of `--from`, `--rounds` and `--links`: none where the last is none of its words
abbrev pub IsWindowIn : (Text → Option Text) → (Text → Option Text) → Option WindowValue → Type 0
IsWindowIn one first None = LacksLinks (first (codes "links"))
IsWindowIn one first (Some w) =
    IsChosenBy 1000000 1 (one (codes "from")) w.from × IsChosenBy 1000 40 (one (codes "rounds")) w.rounds
    × AreLinksIn (first (codes "links")) w.links

-- these are the values of the arguments: as one text by its name, as the parser reads it, and as it was first
pub record AreArgs (one first : Text → Option Text) (a : Args) : Type 0 where
  pub workers : IsGivenBy 1 65 (one (codes "workers")) a.workers
  pub id : IsNumberBy (2 ^ 64) (one (codes "ID")) a.id
  pub place : IsNumberBy (2 ^ 32) (one (codes "PLACE")) a.place
  pub account : IsGivenBy 0 (2 ^ 64) (one (codes "account")) a.account
  pub window : IsWindowIn one first a.window
  pub follow : IsOn (one (codes "follow")) a.follow
  pub wait : IsOn (one (codes "wait")) a.wait
  pub digest : IsDigestIn (first (codes "ROOT")) a.digest
  pub file : first (codes "FILE") ≡ option_map string_bytes a.file
  pub accounts : first (codes "accounts") ≡ option_map string_bytes a.accounts
  pub root : IsTextIn (first (codes "ROOT")) (string_bytes a.root)
  pub report : IsTextIn (first (codes "REPORT")) (string_bytes a.report)
  pub feed : IsTextIn (first (codes "FEED")) (string_bytes a.feed)
  pub events : IsTextIn (first (codes "EVENTS")) (string_bytes a.events)
  pub feed1 : IsTextIn (first (codes "FEED1")) (string_bytes a.feed1)
  pub feed2 : IsTextIn (first (codes "FEED2")) (string_bytes a.feed2)
  pub progress : IsOn (one (codes "progress")) a.notes.progress
  pub verbose : IsOn (one (codes "verbose")) a.notes.verbose
  pub strict : IsOn (one (codes "strict")) a.strict

-- ---- the job

-- how many threads execute
abbrev pub threads : Args → ℕ
threads a = unwrap_or a.workers 1

-- more would be waited for where no file can grow: without `--follow`, or where standard input is read
abbrev pub waits_in_vain : Args → Bool
waits_in_vain a = a.wait && (not a.follow || names_input (option_map string_bytes a.file))

-- all rows of a table
abbrev pub view_of : Table → View
view_of table.Transactions = view.Transactions
view_of table.Postings = view.Postings

-- the job of a table at the end of its feed: all rows, or those of a list of accounts
abbrev pub rows_job : Table → ℕ → Option (String Global) → Option (String Global) → Job
rows_job shown workers None file = job.Show workers (view_of shown) file
rows_job shown workers (Some accounts) file = job.Pick workers shown accounts file

-- the job of a table; there is none where it would wait in vain
abbrev pub table_job : Table → Args → Option Job
table_job shown a =
    if waits_in_vain a then None
    else if a.follow then Some (job.Follow (threads a) shown a.accounts a.wait a.file)
    else Some (rows_job shown (threads a) a.accounts a.file)

-- the job of a command with these values; there is none where a ROOT has to be a digest and is not, where the value of `--links` is
-- none of its words, and where a table would wait in vain. For `order`, `account`, `receipt`, `prove` and `anchors` no number of
-- threads is asked for: they execute on all processors
abbrev pub job_of : Verb → Args → Option Job
job_of verb.Run a = Some (job.Run (threads a) a.file)
job_of verb.Make a = Some (job.Make a.file)
job_of verb.Order a = Some (job.Ask 1 query.Order a.file)
job_of verb.Account a = Some (job.Ask 1 (query.Account a.id) a.file)
job_of verb.Receipt a = Some (job.Ask 1 (query.Receipt a.place) a.file)
job_of verb.Prove a = Some (job.Ask 1 (query.Proof a.id) a.file)
job_of verb.Frames a = Some (job.Frames a.file)
job_of verb.Summary a = Some (job.Summary (threads a) a.file)
job_of verb.Anchors a = Some (job.Ask 1 query.Anchors a.file)
job_of verb.Dag a = option_map (λ window. job.Dag window a.file) a.window
job_of verb.Statement a = Some (job.Ask (threads a) (query.Statement a.id) a.file)
job_of verb.Transactions a = table_job table.Transactions a
job_of verb.Postings a = table_job table.Postings a
job_of verb.Batches a = Some (job.Show 1 view.Batches a.file)
job_of verb.Waiting a = Some (job.Diagnose sought.Waiting a.file)
job_of verb.Missing a = Some (job.Diagnose sought.Missing a.file)
job_of verb.Evidence a = Some (job.Diagnose sought.Evidence a.file)
job_of verb.CheckProof a = Some (job.CheckProof a.root a.account a.file)
job_of verb.CheckState a = option_map (λ root. job.Ask (threads a) (query.State root) a.file) a.digest
job_of verb.CheckReport a = Some (job.CheckReport (threads a) a.report a.file)
job_of verb.Apply a = Some (job.Apply a.file)
job_of verb.Schedule a = Some (job.Schedule (unwrap_or a.workers 2) a.feed a.events)
job_of verb.Compare a = Some (job.Compare a.feed1 a.feed2)
job_of verb.Link a = Some (job.Show (threads a) view.Link a.file)
job_of verb.CheckChain a = Some (job.CheckChain a.file)

-- what a command line with this job and these values says
abbrev pub line_with : Args → Job → Line
line_with a j = record { job = j; notes = a.notes; strict = a.strict }

-- these are the values in the rows
abbrev pub AreArgsIn : List Row → Args → Type 0
AreArgsIn rows a = AreArgs (λ name. one_of name rows) (λ name. first_of name rows) a

-- the command that was found in the words, with its values, asks for this, or for no job
abbrev pub Asks : Option (Text × List Row) → Option Line → Type 0
Asks None made = ⊥
Asks (Some found) made =
    (v : Verb) × (a : Args) × (found.0 ≡ word_of v) × AreArgsIn found.1 a × (made ≡ option_map (line_with a) (job_of v a))

-- ---- standard input that is named twice

-- the words ask for a job that would read standard input in place of both of its files
abbrev pub NamesInputTwice : Option (Text × List Row) → Type 0
NamesInputTwice found = (l : Line) × Asks found (Some l) × (reads_input_twice l.job ≡ true)

-- ---- values that are refused together with their command

-- the error is that of words that ask for no job, or of standard input that is named twice, and the words have that fault
abbrev pub IsOfValues : Error → Option (Text × List Row) → Type 0
IsOfValues e found = (kind_of e ≡ kind.ValueValidation) × (Asks found None ⊎ NamesInputTwice found)

-- ---- what the words of a command line are read as

-- the line is what was found in the words, and reads standard input once at most
abbrev pub IsLineFor : Option (Text × List Row) → Line → Type 0
IsLineFor found l = Asks found (Some l) × (reads_input_twice l.job ≡ false)

-- the words have no fault, and this is their line
pub record IsLineOf (words : List Text) (l : Line) : Type 0 where
  pub whole : fault_of command_line words ≡ []
  pub asked : IsLineFor (subcommand_of command_line words) l

-- the words have the fault of this error; where the parser takes them, it is one of their values, or memory ran out
pub record IsRefusal (words : List Text) (e : Error) : Type 0 where
  pub named : HasKind (fault_of command_line words) e ⊎ IsOfValues e (subcommand_of command_line words)
  pub taken : takes command_line words ≡ true → (kind_of e ≡ kind.OutOfMemory) ⊎ IsOfValues e (subcommand_of command_line words)

-- ---- the words of the commands

-- the word is one of these
abbrev pub IsOneOf : List Text → Text → Type 0
IsOneOf [] word = ⊥
IsOneOf (x ∷ xs) word = (word ≡ x) ⊎ IsOneOf xs word

-- the words of all commands
abbrev pub all_words : List Text
all_words = map word_of ALL
