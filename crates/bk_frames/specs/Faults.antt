-- The numbers of faults, and the text that reports one.
use Rattle.std.specs.Prelude.{ℕ, List, ◌++◌, codes, decimal}
use Rattle.bk_frames.specs.declared.fault.FaultCode.{FaultCode}
use Rattle.bk_frames.specs.declared.fault.FaultCode.TheVariants as code
use Rattle.bk_frames.specs.declared.fault.FeedFault.{FeedFault}

-- the number of what is wrong with a feed
abbrev pub code_number : FaultCode → ℕ
code_number code.Magic = 1
code_number code.Truncated = 2
code_number code.Kind = 3
code_number code.Length = 4
code_number code.Committee = 5
code_number code.Genesis = 6
code_number code.Extra = 7
code_number code.Read = 8
code_number code.Memory = 9

-- the text of a fault: its number and its offset
abbrev pub fault_text : FeedFault → List ℕ
fault_text fault = codes "feed fault " ++ decimal (code_number fault.code) ++ codes " at " ++ decimal fault.offset
