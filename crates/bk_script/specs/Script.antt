-- What the text of a script makes: the bytes of a feed, or the first fault with its line.
use Rattle.std.specs.Prelude.{ℕ, ◌+◌, List, length, Option, Some, None, Result, Ok, Err}
use Rattle.bk_results.specs.declared.script_fault.ScriptCode.{ScriptCode}
use Rattle.bk_results.specs.declared.script_fault.ScriptCode.TheVariants as code
use Rattle.bk_script.specs.declared.making.TheConstants.{MOST_SCRIPT}
use Rattle.bk_script.specs.Known.{Known, nothing_known, closed}
use Rattle.bk_script.specs.Judging.{judged}
use Rattle.bk_script.specs.Feeds.{feed_text}
use Rattle.bk_script.specs.Listing.{lines_of, then_more, taken_within}

-- what is wrong with a line, and its number, counted from 1
pub record LineFault : Type 0 where
  pub line : ℕ
  pub code : ScriptCode

-- the same step of judging in a line of this number
abbrev pub in_line : ℕ → Result Known ScriptCode → Result Known LineFault
in_line n (Ok k) = Ok k
in_line n (Err found) = Err (record { line = n; code = found })

-- what is known after the line of this number, or what is wrong with it
abbrev pub judged_in : Known → ℕ → List ℕ → Result Known LineFault
judged_in k n line = in_line n (judged k line)

-- the fault of the line in which a text crosses its limit
abbrev pub too_long : ℕ → LineFault
too_long n = record { line = n; code = code.Range }

-- what is known after the lines of a text that may have this many bytes
abbrev pub known_within : Known → ℕ → List ℕ → Result Known LineFault
known_within k most text = taken_within judged_in too_long k most text

-- ---- the whole text

-- the feed of what is known; where no line named the members, this line is out of its place
abbrev pub feed_with : ℕ → Known → Option (List ℕ) → Result (List ℕ) LineFault
feed_with n k None = Err (record { line = n; code = code.Place })
feed_with n k (Some weights) = Ok (feed_text k.version weights k.accounts k.body)

-- the feed of what is known after this many lines, once an open batch is closed
abbrev pub feed_after : ℕ → Known → Result (List ℕ) LineFault
feed_after lines k = feed_with (lines + 1) (closed k) (closed k).weights

-- the feed of a text that may have this many bytes
unfoldable pub feed_within : ℕ → List ℕ → Result (List ℕ) LineFault
feed_within most text = then_more (known_within nothing_known most text) (λ k. feed_after (length (lines_of text)) k)

-- the feed of the text of a script
abbrev pub feed_of : List ℕ → Result (List ℕ) LineFault
feed_of text = feed_within MOST_SCRIPT text
