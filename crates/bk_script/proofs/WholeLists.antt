-- A text that is read whole, and the list that its lines make.
use Rattle.std.proofs.Common.{◌≡◌, ℕ, ◌+◌, ◌-◌, ◌==◌, ◌&&◌, nat_lt, false, List, length, take, drop, Result, Ok, Err}
use Rattle.bk_frames.specs.Device.{Device}
use Rattle.bk_script.specs.Listing.{HasList, HasNoList, Lists, listed_within}
use Rattle.bk_results.specs.declared.lines_fault.LinesFault.{LinesFault}
use Rattle.bk_results.specs.declared.lines_fault.LinesFault.TheVariants as fault
use Rattle.bk_script.specs.Answers.{HasRead}
use Rattle.bk_script.specs.private.LineEnds.{IsLine}
use Rattle.bk_script.specs.private.Listing.{HasNoText}
use Rattle.bk_script.proofs.ListLines.{HasTaken, one_stops, taken_of_read}
use Rattle.bk_script.proofs.WholeTexts.{of_read}

module _ {L : Type 0} (w : L → ℕ → List ℕ → Result L ℕ) (k : L) where
  -- a line has a fault
  pub list_stops : (most : ℕ) (a : L) (count start end : ℕ) (text : List ℕ) (e : LinesFault) → IsLine text start end → HasTaken w (λ n. n) most k a count start text
      → false ≡ (nat_lt most (length text) && end == length text) → Lists {A = Unit {0}} (λ _. k) (Err e) (w a (count + 1) (take (end - start) (drop start text)))
      → Lists {A = Unit {0}} (λ _. k) (Err e) (listed_within w k most text)
  list_stops most a count start end text (fault.Line line) is taken not bad = one_stops w (λ n. n) most k a count start end text is taken not line bad
  list_stops most a count start end text fault.Read is taken not bad = bad
  list_stops most a count start end text fault.Memory is taken not bad = bad

  -- ---- from a source

  pub text_lists : (old new : Device) (most : ℕ) (text : List ℕ) (made : L) → HasRead most old new text → listed_within w k most text ≡ Ok made
      → HasList most (listed_within w k most) made old new
  text_lists old new most text made read e = (read.0, of_read (listed_within w k most) (Ok made) most old new text read (λ bytes is. taken_of_read w (λ n. n) most k bytes text is) e)

  pub text_lists_none : (old new : Device) (b : L) (most : ℕ) (text : List ℕ) (e : LinesFault) → HasRead most old new text
      → Lists {A = Unit {0}} (λ _. b) (Err e) (listed_within w k most text) → HasNoList most (listed_within w k most) e old new
  text_lists_none old new b most text (fault.Line line) read h =
      (read.0, of_read (listed_within w k most) (Err line) most old new text read (λ bytes is. taken_of_read w (λ n. n) most k bytes text is) h)
  text_lists_none old new b most text fault.Read read h = absurd h
  text_lists_none old new b most text fault.Memory read h = read.0

  pub no_text : (old new : Device) (most : ℕ) (e : LinesFault) → HasNoText e old new → HasNoList most (listed_within w k most) e old new
  no_text old new most (fault.Line line) h = absurd h
  no_text old new most fault.Read h = h
  no_text old new most fault.Memory h = h
