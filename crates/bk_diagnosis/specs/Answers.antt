-- What a diagnosis writes of a feed.
use Rattle.std.specs.Prelude.{◌≡◌, ℕ, Bool, true, false, List, [], ◌∷◌}
use Rattle.bk_base.specs.Feed.{FeedValue}
use Rattle.bk_diagnosis.specs.declared.line.Line.{Line}
use Rattle.bk_diagnosis.specs.Lines.{text_of}

-- whether there is a line
abbrev pub are_some : List Line → Bool
are_some [] = false
are_some (l ∷ more) = true

-- the text of these lines, and whether there is one
pub record ShowsLines (are_lines : FeedValue → List Line → Type 0) (feed : FeedValue) (some : Bool) (text : List ℕ) : Type 0 where
  pub lines : List Line
  pub are : are_lines feed lines
  pub some_is : some ≡ are_some lines
  pub text_is : text ≡ text_of lines
