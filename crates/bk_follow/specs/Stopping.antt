-- Which faults are kept.
use Rattle.std.specs.Prelude.{Option, Some, None, Bool, true, false}
use Rattle.bk_results.specs.declared.fault.Fault.{Fault}
use Rattle.bk_results.specs.declared.fault.Fault.TheVariants as fault

-- the fault that is kept after a call that failed: none after a stop
abbrev pub kept_fault : Fault → Option Fault
kept_fault (fault.Feed found) = Some (fault.Feed found)
kept_fault (fault.Unfinished place) = Some (fault.Unfinished place)
kept_fault (fault.Write written) = Some (fault.Write written)
kept_fault fault.Memory = Some fault.Memory
kept_fault found = None

-- a fault that is a stop
abbrev pub stops : Fault → Bool
stops (fault.Feed found) = false
stops (fault.Unfinished place) = false
stops (fault.Write written) = false
stops fault.Memory = false
stops found = true
