-- What can be wrong with a line of a script.
use Rattle.std.specs.Prelude.{ℕ}
use Rattle.bk_results.specs.declared.script_fault.ScriptCode.{ScriptCode}
use Rattle.bk_results.specs.declared.script_fault.ScriptCode.TheVariants as code

-- the number of what is wrong
abbrev pub code_number : ScriptCode → ℕ
code_number code.Word = 1
code_number code.Place = 2
code_number code.Number = 3
code_number code.Name = 4
code_number code.Range = 5
