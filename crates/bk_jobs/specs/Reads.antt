-- What a job can read, and what it reads that through.
use Rattle.std.specs.Prelude.{◌≡◌, ℕ, Bool, List, [], Option, Some, None, false, true, is_some, not, option_map}
use Rattle.std.specs.declared.io.ErrorKind.{ErrorKind}
use Rattle.bk_frames.specs.Device.{Device}
use Rattle.bk_cli.specs.Files.{file_of, is_input, reads_input, second_file_of}
use Rattle.bk_cli.specs.declared.job.Job.{Job}
use Rattle.bk_jobs.specs.declared.inputs.Access.{Access}
use Rattle.bk_jobs.specs.declared.inputs.Stream.{Stream}
use Rattle.bk_jobs.specs.declared.inputs.Stream.TheVariants as stream

-- how files and standard input are seen: what a file of a path holds from its beginning on, where that is known, and why one is not
-- opened; and a file and standard input as devices
pub record Sight (F I : Type 0) : Type 1 where
  pub holds : List ℕ → Option (List ℕ) → Type 0
  pub lacks : List ℕ → ErrorKind → Type 0
  pub file : F → Device
  pub input : I → Device

-- these four
abbrev pub sight : {F I : Type 0} → (List ℕ → Option (List ℕ) → Type 0) → (List ℕ → ErrorKind → Type 0) → (F → Device) → (I → Device) → Sight F I
sight holds lacks file input = record { holds = holds; lacks = lacks; file = file; input = input }

-- nothing was read of a device, and no call of it failed
pub record IsFresh (d : Device) : Type 0 where
  pub failures : d.failures ≡ 0
  pub given : d.may_have_given [] ≡ true
  pub ended : d.may_have_ended 0 ≡ true

-- what is read, as a device
abbrev pub device_of : {F I : Type 0} → (F → Device) → (I → Device) → Stream F I → Device
device_of file input (stream.File f) = file f
device_of file input (stream.Input i) = input i

-- standard input as a device, where it is there
abbrev pub input_device : {N F I : Type 0} → Sight F I → Access N F I → Option Device
input_device s a = option_map s.input a.input

-- what the first file is read through, or standard input in its place, as a device
abbrev pub first_device : {N F I : Type 0} → Sight F I → Access N F I → Option Device
first_device s a = option_map (device_of s.file s.input) a.first_read

-- what the second is read through, as a device
abbrev pub second_device : {N F I : Type 0} → Sight F I → Access N F I → Option Device
second_device s a = option_map (device_of s.file s.input) a.second_read

-- nothing is opened
abbrev pub unopened : {N F I : Type 0} → N → N → I → Access N F I
unopened first second input =
    record { first = Some first; second = Some second; input = Some input; first_read = None; second_read = None }

-- all that a job can read is there, and nothing is opened
pub record IsThere {N F I : Type 0} (a : Access N F I) : Type 0 where
  pub first : is_some a.first ≡ true
  pub second : is_some a.second ≡ true
  pub input : is_some a.input ≡ true
  pub first_read : a.first_read ≡ None
  pub second_read : a.second_read ≡ None

-- there is a path, and it does not stand for standard input
abbrev pub names_file : Option (List ℕ) → Bool
names_file None = false
names_file (Some path) = not (is_input path)

-- what the job has no use for is left as it is: what opens a first file, what opens a second, and standard input
pub record IsLeft {N F I : Type 0} (j : Job) (old new : Access N F I) : Type 0 where
  pub first : names_file (file_of j) ≡ false → new.first ≡ old.first
  pub second : names_file (second_file_of j) ≡ false → new.second ≡ old.second
  pub input : reads_input j ≡ false → new.input ≡ old.input

-- all is left as it was, but for what opens the first file
pub record IsLeftButFirst {N F I : Type 0} (old new : Access N F I) : Type 0 where
  pub second : new.second ≡ old.second
  pub input : new.input ≡ old.input
  pub first_read : new.first_read ≡ old.first_read
  pub second_read : new.second_read ≡ old.second_read

-- all is left as it was, but for what opens the second
pub record IsLeftButSecond {N F I : Type 0} (old new : Access N F I) : Type 0 where
  pub first : new.first ≡ old.first
  pub input : new.input ≡ old.input
  pub first_read : new.first_read ≡ old.first_read
  pub second_read : new.second_read ≡ old.second_read
