-- Where a line ends.
use Rattle.std.specs.Prelude.{◌≡◌, ℕ, ◌+◌, ◌-◌, ◌<◌, ◌≤◌, List, [], ◌∷◌, length, take, drop}
use Rattle.bk_script.specs.Listing.{ended_lines, lines_of}

-- the line of a text that begins at `start` ends here: with a line feed, or with the text
pub record IsLine (text : List ℕ) (start end : ℕ) : Type 0 where
  pub from : start ≤ end
  pub within : end ≤ length text
  pub lines : lines_of (drop start text) ≡ take (end - start) (drop start text) ∷ lines_of (drop (end + 1) text)
  pub ended : end < length text
      → ended_lines (drop start text) ≡ take (end - start) (drop start text) ∷ ended_lines (drop (end + 1) text)
  pub unended : end ≡ length text → ended_lines (drop start text) ≡ []
