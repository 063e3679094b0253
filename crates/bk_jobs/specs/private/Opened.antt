-- How a job ends over the sources that it is given.
use Rattle.std.specs.Prelude.{◌≡◌, ◌⊎◌, ℕ, Bool, false, List, [], Option, Some, None, option_map, unwrap_or}
use Rattle.bk_frames.specs.Device.{Device}
use Rattle.bk_cli.specs.Files.{is_input, second_file_of}
use Rattle.bk_cli.specs.declared.exit.Exit.{Exit}
use Rattle.bk_cli.specs.declared.job.Job.{Job}
use Rattle.bk_jobs.specs.Openings.{RanSo}
use Rattle.bk_jobs.specs.Sources.{JobDevices}
use Rattle.bk_jobs.specs.declared.inputs.Access.{Access}

-- a second source went from here to there; or there is none, and nothing stands for it
abbrev pub IsSecondRead : Option Device → Option Device → Device → Device → Type 0
IsSecondRead before after old new =
    ((before ≡ Some old) × (after ≡ Some new)) ⊎ ((before ≡ None) × (after ≡ None) × (old.bytes ≡ Some []))

-- the job ran over sources that are ready, and left them so
pub record RanReady (first first' second second' : Option Device) (j : Job) (strict verbose : Bool) (last : Exit)
    (out out' err err' : Device) : Type 0 where
  pub old : JobDevices
  pub new : JobDevices
  pub first_old : first ≡ Some old.first
  pub first_new : first' ≡ Some new.first
  pub second_read : IsSecondRead second second' old.second new.second
  pub begins : old.out ≡ out
  pub ends : new.out ≡ out'
  pub ran : RanSo j strict verbose last old new err err'

-- only what is opened was read
pub record IsReadOnly {N F I : Type 0} (old new : Access N F I) : Type 0 where
  pub first : new.first ≡ old.first
  pub second : new.second ≡ old.second
  pub input : new.input ≡ old.input

-- standard input is read in place of the second file of a job
abbrev pub names_input_second : Job → Bool
names_input_second j = unwrap_or (option_map is_input (second_file_of j)) false
