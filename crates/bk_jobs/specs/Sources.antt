-- The sources and the sink of a job.
use Rattle.std.specs.Prelude.{ℕ, ◌+◌, ◌<◌, ◌^◌, List, Option}
use Rattle.bk_frames.specs.Device.{Device, Works}
use Rattle.bk_frames.specs.FirstFault.{HasFault}
use Rattle.bk_frames.specs.declared.fault.FeedFault.{FeedFault}
use Rattle.bk_results.specs.Devices.{Devices, devices}

-- the devices of a job: its sources, in the order of the files that it names, and standard output
pub record JobDevices : Type 0 where
  pub first : Device
  pub second : Device
  pub out : Device

-- these three
abbrev pub job_devices : Device → Device → Device → JobDevices
job_devices first second out = record { first = first; second = second; out = out }

-- the first source and standard output
abbrev pub first_devices : JobDevices → Devices
first_devices d = devices d.first d.out

-- a device can be used though one more of its calls has failed by then
abbrev pub CanBeUsedAgain : Device → Type 0
CanBeUsedAgain device = device.failures + 1 < 2 ^ 62

-- from one moment to a later one no call failed
abbrev pub AllWork : JobDevices → JobDevices → Type 0
AllWork old new = Works old.first new.first × Works old.second new.second × Works old.out new.out

-- what the sources of a job give, where it is known
pub record Inputs : Type 0 where
  pub first : Option (List ℕ)
  pub second : Option (List ℕ)

-- these two
abbrev pub inputs : Option (List ℕ) → Option (List ℕ) → Inputs
inputs first second = record { first = first; second = second }

-- what the sources among these devices give
abbrev pub inputs_of : JobDevices → Inputs
inputs_of d = inputs d.first.bytes d.second.bytes

-- the bytes have a fault of a feed
abbrev pub AreBroken : List ℕ → Type 0
AreBroken bytes = (found : FeedFault) × HasFault bytes found
