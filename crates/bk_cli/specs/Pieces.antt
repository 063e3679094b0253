-- The pieces of a short line.
use Rattle.std.specs.Prelude.{ℕ, List, [], ◌∷◌, ◌++◌, length}
use Rattle.std.specs.List.{fold}
use Rattle.hex.specs.Hex.{encode_lower}
use Rattle.bk_results.specs.Lines.{spaced}
use Rattle.bk_cli.specs.declared.line.Piece.{Piece}
use Rattle.bk_cli.specs.declared.line.Piece.TheVariants as piece

-- a space and the digits of a digest
abbrev pub digits_of : List ℕ → List ℕ
digits_of digest = 32 ∷ encode_lower digest

-- the bytes of a piece
abbrev pub piece_text : Piece → List ℕ
piece_text (piece.Text text) = text.now
piece_text (piece.Number n) = spaced n
piece_text (piece.Digest digest) = digits_of digest.now

-- the pieces one after another
abbrev pub said : List Piece → List ℕ
said pieces = fold (λ (text : List ℕ) (p : Piece). text ++ piece_text p) [] pieces

-- as many bytes as a piece has at most
abbrev pub room : Piece → ℕ
room (piece.Text text) = length text.now
room (piece.Number n) = 21
room (piece.Digest digest) = 65
