-- The text of a report that several threads make at once.
use Rattle.std.specs.Prelude.{◌≡◌, ℕ, ◌*◌, ◌≤◌, List, take, drop, length}
use Rattle.bk_report.specs.declared.line.Line.{Line}
use Rattle.bk_report.specs.Lines.{text_of}

-- a text is that of so many of these lines, from one of them on, or of those that are left
abbrev IsTextFrom : ℕ → List Line → ℕ → List ℕ → Type 0
IsTextFrom count lines start text = (text ≡ text_of (take count (drop start lines))) × (length text ≤ 96 * count)

-- the same of as many lines as one thread makes
abbrev pub IsPiece : List Line → ℕ → List ℕ → Type 0
IsPiece = IsTextFrom 16384

-- and of as many as are made at once
abbrev pub IsRound : List Line → ℕ → List ℕ → Type 0
IsRound = IsTextFrom 65536
