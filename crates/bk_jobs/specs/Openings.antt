-- How a job ends whose files are opened first.
use Rattle.std.specs.Prelude.{◌≡◌, ◌⊎◌, ℕ, Bool, List, [], Option, Some, None, Result, true, false}
use Rattle.std.specs.declared.io.ErrorKind.{ErrorKind}
use Rattle.std.specs.declared.io.ErrorKind.TheVariants as kind
use Rattle.bk_frames.specs.Device.{Device}
use Rattle.bk_cli.specs.FaultLines.{Reports}
use Rattle.bk_cli.specs.Files.{file_of, is_input, reads_beside, second_file_of}
use Rattle.bk_cli.specs.Unopened.{told_unopened}
use Rattle.bk_cli.specs.declared.unopened.Unopened.{Unopened}
use Rattle.bk_cli.specs.declared.unopened.Unopened.TheVariants as reason
use Rattle.bk_cli.specs.declared.exit.Exit.{Exit}
use Rattle.bk_cli.specs.declared.exit.Exit.TheVariants as exit
use Rattle.bk_cli.specs.declared.job.Job.{Job}
use Rattle.bk_cli.specs.declared.job_fault.JobFault.{JobFault}
use Rattle.bk_jobs.specs.declared.inputs.Access.{Access}
use Rattle.bk_jobs.specs.Endings.{IsLast, IsTold}
use Rattle.bk_jobs.specs.Jobs.{JobEnds}
use Rattle.bk_jobs.specs.Reads.{IsFresh, IsLeftButFirst, IsLeftButSecond, Sight, first_device, input_device, second_device}
use Rattle.bk_jobs.specs.Sources.{JobDevices}
use Rattle.bk_jobs.specs.declared.job_end.JobEnd.{JobEnd}

-- how a job ran: what it came to, what was told of that, and how it ends at last, where its feed is judged
pub record RanSo (j : Job) (strict verbose : Bool) (last : Exit) (old new : JobDevices) (err err' : Device) : Type 0 where
  pub result : Result JobEnd JobFault
  pub between : Device
  pub ends : JobEnds j strict result old new
  pub told : IsTold j verbose result err between
  pub judged : IsLast strict result last between err'

-- what stands for the file of a path, by what files hold: standard input as it was, where the path stands for that; else a file of
-- it that is open, at its beginning
abbrev pub IsOf : Bool → (List ℕ → Option (List ℕ) → Type 0) → Option Device → List ℕ → Device → Type 0
IsOf true holds input path d = input ≡ Some d
IsOf false holds input path d = holds path d.bytes × IsFresh d

-- what stands for the first file of a job; where it names none it is standard input
abbrev pub IsFirst : (List ℕ → Option (List ℕ) → Type 0) → Option Device → Option (List ℕ) → Device → Type 0
IsFirst holds input (Some path) d = IsOf (is_input path) holds input path d
IsFirst holds input None d = input ≡ Some d

-- there is such a device
abbrev pub IsReady : (Device → Type 0) → Option Device → Type 0
IsReady such None = ⊥
IsReady such (Some d) = such d

-- what stands for the first file of a job, a file that is open or standard input, is ready to be read from its beginning on
abbrev pub IsFirstReady : {N F I : Type 0} → Sight F I → Access N F I → Job → Option Device → Type 0
IsFirstReady s old j d = IsReady (IsFirst s.holds (input_device s old) (file_of j)) d

-- what stands for the file of a path is ready so; where there is no path there is nothing
abbrev pub IsNamedReady : (List ℕ → Option (List ℕ) → Type 0) → Option Device → Option (List ℕ) → Option Device → Type 0
IsNamedReady holds input None d = d ≡ None
IsNamedReady holds input (Some path) d = IsReady (IsOf (is_input path) holds input path) d

-- what stands for the second file of a job is ready so, where the job names one
abbrev pub IsSecondReady : {N F I : Type 0} → Sight F I → Access N F I → Job → Option Device → Type 0
IsSecondReady s old j d = IsNamedReady s.holds (input_device s old) (second_file_of j) d

-- a device, where the job names a second file
abbrev pub if_named : Option (List ℕ) → Device → Option Device
if_named None d = None
if_named (Some path) d = Some d

-- the job ran so over its files, and left what it read them through. Where it names no second file, nothing stands for it
pub record RanOver {N F I : Type 0} (s : Sight F I) (before after : Access N F I) (j : Job) (strict verbose : Bool) (last : Exit)
    (out out' err err' : Device) : Type 0 where
  pub old : JobDevices
  pub new : JobDevices
  pub first : IsFirstReady s before j (Some old.first)
  pub second : IsSecondReady s before j (if_named (second_file_of j) old.second)
  pub nothing : second_file_of j ≡ None → old.second.bytes ≡ Some []
  pub first_left : first_device s after ≡ Some new.first
  pub second_left : second_device s after ≡ if_named (second_file_of j) new.second
  pub begins : old.out ≡ out
  pub ends : new.out ≡ out'
  pub ran : RanSo j strict verbose last old new err err'

-- a file of this path could not be opened, which is an error of this kind. The path does not stand for standard input
abbrev pub IsLacking : (List ℕ → ErrorKind → Type 0) → List ℕ → ErrorKind → Type 0
IsLacking lacks path found = (is_input path ≡ false) × lacks path found

-- the first file of a job has this path, and was not opened. A text beside a feed, where the job names one, is opened earlier, and
-- is ready; in other jobs nothing else was opened, and no standard input taken
pub record LacksFirst {N F I : Type 0} (s : Sight F I) (old new : Access N F I) (j : Job) (path : List ℕ) : Type 0 where
  pub names : file_of j ≡ Some path
  pub none : first_device s new ≡ None
  pub earlier : reads_beside j ≡ true → IsSecondReady s old j (second_device s new)
  pub alone : reads_beside j ≡ false → IsLeftButFirst old new

-- the second has this path, and was not opened. Where it is a text beside a feed nothing else was opened, and no standard input
-- taken; in other jobs the first file is opened earlier, and is ready
pub record LacksSecond {N F I : Type 0} (s : Sight F I) (old new : Access N F I) (j : Job) (path : List ℕ) : Type 0 where
  pub names : second_file_of j ≡ Some path
  pub none : second_device s new ≡ None
  pub earlier : reads_beside j ≡ false → IsFirstReady s old j (first_device s new)
  pub alone : reads_beside j ≡ true → IsLeftButSecond old new

-- a file of the job could not be opened
abbrev pub IsUnopened : {N F I : Type 0} → Sight F I → Access N F I → Access N F I → Job → List ℕ → ErrorKind → Type 0
IsUnopened s old new j path found = IsLacking s.lacks path found × (LacksFirst s old new j path ⊎ LacksSecond s old new j path)

-- why a file was not opened, by the kind of the system's error
abbrev pub reason_by : ErrorKind → Unopened
reason_by kind.NotFound = reason.Absent
reason_by kind.PermissionDenied = reason.Denied
reason_by _ = reason.Other

-- a file of the job could not be opened, which is reported; in words with its path and the reason
abbrev pub HasNoFile : {N F I : Type 0} → Sight F I → Access N F I → Access N F I → Job → Bool → Device → Device → Type 0
HasNoFile s old new j verbose err err' =
    (path : List ℕ) × (found : ErrorKind) × IsUnopened s old new j path found
    × Reports (told_unopened verbose path (reason_by found)) err err'

-- the job did not begin, for this reason, and wrote nothing
pub record BeganNot (why : Device → Device → Type 0) (end : Exit) (out out' err err' : Device) : Type 0 where
  pub failed : end ≡ exit.Failed
  pub untouched : out' ≡ out
  pub line : why err err'

-- the job ran, or did not begin, from what it can read to what it leaves of that
abbrev pub Ran : {N F I : Type 0} → Sight F I → Access N F I → Access N F I → Job → Bool → Bool
    → Exit → Device → Device → Device → Device → Type 0
Ran s old new j strict verbose end out out' err err' =
    RanOver s old new j strict verbose end out out' err err' ⊎ BeganNot (HasNoFile s old new j verbose) end out out' err err'
