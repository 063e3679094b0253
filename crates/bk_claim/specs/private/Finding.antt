-- What comparing a claim with a report finds.
use Rattle.std.specs.Prelude.{◌≡◌, ℕ, ◌<◌, ◌≤◌, List, ◌++◌, length, map, take, Option, Some, None, MatchOption, codes}
use Rattle.std.specs.Global.{Vec}
use Rattle.std.specs.List.{after_last, before_first}
use Rattle.bk_claim.specs.Claims.{FirstDiffer, ends_line, line_at, line_number, shown_byte, words_or_end}
use Rattle.bk_claim.specs.declared.comparing.Found.{Found}
use Rattle.bk_claim.specs.declared.verdict.ClaimStop.{ClaimStop}
use Rattle.bk_claim.specs.declared.verdict.ClaimStop.TheVariants as stop
use Rattle.bk_frames.specs.Device.{Device, Works, Fails}
use Rattle.bk_results.specs.Lines.{spaced}
use Rattle.bk_results.specs.declared.fault.Fault.TheVariants as fault

-- the first 200 bytes of a line that begins so and goes on in these bytes
abbrev pub line_from : List ℕ → List ℕ → List ℕ
line_from front more = take 200 (front ++ before_first ends_line more)

-- the first 200 bytes of the line between bytes that come before and bytes that follow
abbrev pub line_between : List ℕ → List ℕ → List ℕ
line_between before more = line_from (after_last ends_line before) more

-- where a report and a claim first differ, and the first bytes of the claim's line there, none where it ends there
pub record IsFound (right claim : List ℕ) (found : Found) : Type 0 where
  pub differ : FirstDiffer right claim found.at
  pub line : MatchOption found.line (length claim ≤ found.at)
      (λ line. (found.at < length claim) × (line.items ≡ take 200 (line_at claim found.at)))

-- what is shown of it
abbrev pub found_words : Option (Vec ℕ) → List ℕ
found_words (Some line) = map shown_byte line.items
found_words None = codes "end"

-- the three lines for it
abbrev pub found_text : List ℕ → Found → List ℕ
found_text right found =
    codes "report differs at line" ++ spaced (line_number right found.at) ++ codes "\n"
    ++ codes "feed " ++ words_or_end right found.at (line_at right found.at) ++ codes "\n"
    ++ codes "claimed " ++ found_words found.line ++ codes "\n"

-- why a claim was not compared: a call of its source failed, or memory ran out
abbrev pub CompareStops : ClaimStop → Device → Device → Type 0
CompareStops stop.Unread old new = Fails old new
CompareStops (stop.Run found) old new = (found ≡ fault.Memory) × Works old new
