-- How the report of a run ends.
use Rattle.std.specs.Prelude.{List, [], ◌∷◌}
use Rattle.bk_base.specs.declared.genesis.Row.{Row}
use Rattle.bk_base.specs.Genesis.{total_of}
use Rattle.bk_report.specs.declared.line.Line.{Line}
use Rattle.bk_report.specs.declared.line.Line.TheVariants as line
use Rattle.bk_report.specs.Leaves.{state_of}

-- all the money, and the digest of the state
abbrev pub ending_lines : List Row → List Line
ending_lines rows = line.Money (total_of rows) ∷ line.State (state_of rows) ∷ []
