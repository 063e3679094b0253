-- The lines of a report or of a proof, and their text.
use Rattle.std.specs.Prelude.{ℕ, List, [], ◌∷◌, ◌++◌, codes}
use Rattle.std.specs.List.{flat_map}
use Rattle.hex.specs.Hex.{encode_lower}
use Rattle.bk_certcheck.specs.Rules.{rule_number}
use Rattle.bk_results.specs.Lines.{spaced}
use Rattle.bk_rules.specs.Numbers.{number_of}
use Rattle.bk_report.specs.declared.line.Line.{Line}
use Rattle.bk_report.specs.declared.line.Line.TheVariants as line

-- a word, a space and a digest in hexadecimal digits
abbrev pub hashed : List ℕ → List ℕ → List ℕ
hashed word digest = word ++ 32 ∷ encode_lower digest

-- the text of a line
abbrev pub line_text : Line → List ℕ
line_text (line.Members members faulty quorum) =
    codes "members" ++ spaced members ++ codes " faulty" ++ spaced faulty ++ codes " quorum" ++ spaced quorum
line_text (line.Frames count) = codes "frames" ++ spaced count
line_text (line.Reject frame rule) = codes "reject" ++ spaced frame ++ spaced (rule_number rule)
line_text (line.Waiting round author) = codes "waiting" ++ spaced round ++ spaced author
line_text (line.Anchor round author) = codes "anchor" ++ spaced round ++ spaced author
line_text (line.Cert round author) = codes "cert" ++ spaced round ++ spaced author
line_text (line.Batch index count) = codes "batch" ++ spaced index ++ spaced count
line_text (line.VoidBatch index) = codes "batch" ++ spaced index ++ codes " void"
line_text (line.Missing digest) = codes "missing" ++ 32 ∷ encode_lower digest
line_text (line.Tx place status moved) = codes "tx" ++ spaced place ++ spaced (number_of status) ++ spaced moved
line_text (line.Account id balance seq) = codes "account" ++ spaced id ++ spaced balance ++ spaced seq
line_text (line.Money total) = codes "money" ++ spaced total
line_text (line.State digest) = codes "state" ++ 32 ∷ encode_lower digest
line_text line.StateGood = codes "state good"
line_text line.StateBad = codes "state bad"
line_text (line.Size size) = codes "size" ++ spaced size
line_text (line.Index index) = codes "index" ++ spaced index
line_text (line.Path digest) = codes "path" ++ 32 ∷ encode_lower digest

-- the text of lines: each line after the one before it, with a line feed at its end
abbrev pub text_of : List Line → List ℕ
text_of lines = flat_map (λ (l : Line). line_text l ++ 10 ∷ []) lines
