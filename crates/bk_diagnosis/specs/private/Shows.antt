-- The text of lines that are not known, but what they are.
use Rattle.std.specs.Prelude.{◌≡◌, ℕ, List}
use Rattle.bk_diagnosis.specs.Lines.{text_of}
use Rattle.bk_diagnosis.specs.declared.line.Line.{Line}

-- a text is that of lines like this
abbrev pub HasText : (List Line → Type 0) → List ℕ → Type 0
HasText are text = (lines : List Line) × are lines × (text ≡ text_of lines)
