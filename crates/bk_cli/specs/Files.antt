-- The files that a job names, and the one that a fault of it is about.
use Rattle.std.specs.Prelude.{Bool, true, false, ◌&&◌, ◌||◌, List, ℕ, Option, Some, None, codes, if◌then◌else◌, map, nat_le, option_map, string_bytes, unwrap_or}
use Rattle.std.specs.Str.{bytes_eq}
use Rattle.bk_results.specs.declared.compare_stop.CompareStop.{CompareStop}
use Rattle.bk_results.specs.declared.compare_stop.CompareStop.TheVariants as compared
use Rattle.bk_results.specs.declared.differ.Differ.{Differ}
use Rattle.bk_results.specs.declared.differ.Differ.TheVariants as differ
use Rattle.bk_results.specs.declared.fault.Fault.{Fault}
use Rattle.bk_results.specs.declared.fault.Fault.TheVariants as replay
use Rattle.bk_results.specs.declared.script_fault.ScriptFault.{ScriptFault}
use Rattle.bk_results.specs.declared.script_fault.ScriptFault.TheVariants as text
use Rattle.bk_cli.specs.declared.about.FaultSubject.{FaultSubject}
use Rattle.bk_cli.specs.declared.about.FaultSubject.TheVariants as about
use Rattle.bk_cli.specs.declared.job.Job.{Job}
use Rattle.bk_cli.specs.declared.job.Job.TheVariants as job
use Rattle.bk_cli.specs.declared.job_fault.JobFault.{JobFault}
use Rattle.bk_cli.specs.declared.job_fault.JobFault.TheVariants as fault

-- the path of the first file that a job names
abbrev pub file_of : Job → Option (List ℕ)
file_of (job.Run workers file) = option_map string_bytes file
file_of (job.Make file) = option_map string_bytes file
file_of (job.CheckProof root account file) = option_map string_bytes file
file_of (job.Ask workers asked file) = option_map string_bytes file
file_of (job.CheckReport workers report file) = option_map string_bytes file
file_of (job.Frames file) = option_map string_bytes file
file_of (job.Summary workers file) = option_map string_bytes file
file_of (job.Dag window file) = option_map string_bytes file
file_of (job.Apply file) = option_map string_bytes file
file_of (job.Schedule workers feed events) = Some (string_bytes feed)
file_of (job.Compare first second) = Some (string_bytes first)
file_of (job.Show workers shown file) = option_map string_bytes file
file_of (job.Pick workers shown accounts file) = option_map string_bytes file
file_of (job.Follow workers shown accounts wait file) = option_map string_bytes file
file_of (job.Diagnose d file) = option_map string_bytes file
file_of (job.CheckChain file) = option_map string_bytes file

-- the path of the second
abbrev pub second_file_of : Job → Option (List ℕ)
second_file_of (job.CheckReport workers report file) = Some (string_bytes report)
second_file_of (job.Schedule workers feed events) = Some (string_bytes events)
second_file_of (job.Compare first second) = Some (string_bytes second)
second_file_of (job.Pick workers shown accounts file) = Some (string_bytes accounts)
second_file_of (job.Follow workers shown accounts wait file) = option_map string_bytes accounts
second_file_of other = None

-- ---- standard input

-- a path that stands for standard input
abbrev pub is_input : List ℕ → Bool
is_input path = bytes_eq path (codes "-")

-- the name of what is read: its path; and where there is none, or one that stands for it, standard input
abbrev pub input_name : Option (List ℕ) → List ℕ
input_name None = codes "standard input"
input_name (Some path) = if is_input path then codes "standard input" else path

-- a byte of it as a line shows it: `?` where it is not one of 32 to 126
abbrev pub shown_byte : ℕ → ℕ
shown_byte b = if nat_le 32 b && nat_le b 126 then b else 63

abbrev pub shown : List ℕ → List ℕ
shown name = map shown_byte name

-- standard input is read in place of a file: its path stands for it, or there is none
abbrev pub names_input : Option (List ℕ) → Bool
names_input path = unwrap_or (option_map is_input path) true

-- a job reads standard input in place of a file
abbrev pub reads_input : Job → Bool
reads_input j = names_input (file_of j) || unwrap_or (option_map is_input (second_file_of j)) false

-- a job reads standard input in place of both of its files
abbrev pub reads_input_twice : Job → Bool
reads_input_twice j = names_input (file_of j) && unwrap_or (option_map is_input (second_file_of j)) false

-- ---- what a fault is about

-- a job whose second file is a text beside a feed: a report which is checked, or a list of accounts
abbrev pub reads_beside : Job → Bool
reads_beside (job.CheckReport workers report file) = true
reads_beside (job.Pick workers shown accounts file) = true
reads_beside (job.Follow workers shown accounts wait file) = true
reads_beside other = false

-- a feed that was not replayed: a failed write is about the output
abbrev pub replay_about : Fault → FaultSubject
replay_about (replay.Write written) = about.Output
replay_about other = about.First

-- a text that was not read or answered; memory that runs out while a text beside a feed is read is said of the feed
abbrev pub text_about : Job → ScriptFault → FaultSubject
text_about j text.Read = if reads_beside j then about.Second else about.First
text_about j (text.Write written) = about.Output
text_about j other = about.First

-- two feeds: the setup of the second is not that of the first; both together hold a collision or twins
abbrev pub differ_about : Differ → FaultSubject
differ_about (differ.Collision id) = about.Both
differ_about (differ.Twins round author first second) = about.Both
differ_about other = about.Second

abbrev pub compare_about : CompareStop → FaultSubject
compare_about (compared.First e) = replay_about e
compare_about (compared.Second e) = about.Second
compare_about (compared.Differ e) = differ_about e

-- what a fault of a job is about
abbrev pub about_of : Job → JobFault → FaultSubject
about_of j (fault.Replay e) = replay_about e
about_of j (fault.Text e) = text_about j e
about_of j (fault.Events e) = about.Second
about_of j (fault.Accounts line) = about.Second
about_of j (fault.Links line) = about.First
about_of j (fault.Compared e) = compare_about e
about_of j (fault.AbsentAccount id missing) = about.First
about_of j (fault.AbsentPlace place missing) = about.First

-- its name: a path, standard input or output, or two feeds
abbrev pub name_of : Job → FaultSubject → List ℕ
name_of j about.First = input_name (file_of j)
name_of j about.Second = input_name (second_file_of j)
name_of j about.Both = codes "both feeds together"
name_of j about.Output = codes "standard output"
