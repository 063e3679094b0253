-- The lines of a diagnosis, and their text.
use Rattle.std.specs.Prelude.{ℕ, List, [], ◌∷◌, ◌++◌, codes}
use Rattle.std.specs.List.{flat_map}
use Rattle.hex.specs.Hex.{encode_lower}
use Rattle.bk_certcheck.specs.Rules.{rule_number}
use Rattle.bk_results.specs.Lines.{spaced}
use Rattle.bk_diagnosis.specs.declared.line.Line.{Line}
use Rattle.bk_diagnosis.specs.declared.line.Line.TheVariants as line

-- an id or a digest after a space, in hexadecimal digits
abbrev pub named : List ℕ → List ℕ
named id = 32 ∷ encode_lower id

-- the text of a line
abbrev pub line_text : Line → List ℕ
line_text (line.Waiting round author id) = codes "waiting" ++ spaced round ++ spaced author ++ named id
line_text (line.Absent id) = codes "parent" ++ named id ++ codes " absent"
line_text (line.Rejected id frame rule) =
    codes "parent" ++ named id ++ codes " rejected" ++ spaced frame ++ spaced (rule_number rule)
line_text (line.ParentWaiting id round author) =
    codes "parent" ++ named id ++ codes " waiting" ++ spaced round ++ spaced author
line_text (line.ParentRound id round author) =
    codes "parent" ++ named id ++ codes " round" ++ spaced round ++ spaced author
line_text (line.Weight weight quorum) = codes "parents weigh" ++ spaced weight ++ codes " of" ++ spaced quorum
line_text (line.Missing digest round author) = codes "missing" ++ named digest ++ spaced round ++ spaced author
line_text (line.Collision id) = codes "collision" ++ named id
line_text (line.Equivocation round author first second) =
    codes "equivocation" ++ spaced round ++ spaced author ++ named first ++ named second

-- the text of lines: each line after the one before it, with a line feed at its end
abbrev pub text_of : List Line → List ℕ
text_of lines = flat_map (λ (l : Line). line_text l ++ 10 ∷ []) lines
