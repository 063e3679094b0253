-- A list whose lines are taken in turn.
use Rattle.std.proofs.Common.{◌≡◌, ℕ, ◌+◌, ◌-◌, ◌<◌, ◌≤◌, ◌==◌, ◌&&◌, nat_le, nat_lt, Bool, true, false, if◌then◌else◌, List, length, take, drop, Result, Ok, Err, refl, sym, ap, ◌∙◌, arith}
use Rattle.std.proofs.lemmas.List.{take_all, take-take, length-take-le}
use Rattle.std.proofs.lemmas.Bool.Decides.{nat_tests}
use Rattle.bk_script.specs.Answers.{IsRead}
use Rattle.bk_script.specs.Listing.{ended_lines, lines_of, then_more, listed, crossing, taken_within}
use Rattle.bk_script.specs.private.LineEnds.{IsLine}
use Rattle.bk_script.proofs.TextLines.{ended_past, lines_past}

then_then : {A B C E : Type 0} (r : Result A E) (f : A → Result B E) (g : B → Result C E) → then_more (then_more r f) g ≡ then_more r (λ a. then_more (f a) g)
then_then (Ok a) f g = refl
then_then (Err e) f g = refl

module _ {L E : Type 0} (w : L → ℕ → List ℕ → Result L E) (too_long : ℕ → E) where
  -- what the rest of a text makes, whose first line has number `n`: of a text that crosses the limit in line `all`, if it
  -- is not short
  abbrev pub left : Bool → ℕ → L → ℕ → List ℕ → Result L E
  left short all a n text =
      if short then listed w a n (lines_of text) else then_more (listed w a n (ended_lines text)) (λ _. Err (too_long all))

  -- the lines before `start` are taken, so many
  abbrev pub HasTaken : ℕ → L → L → ℕ → ℕ → List ℕ → Type 0
  HasTaken most k a count start text =
      (count + length (lines_of (drop start text)) ≡ length (lines_of text))
      × (taken_within w too_long k most text ≡ left (nat_le (length text) most) (length (lines_of text)) a (count + 1) (drop start text))

  either_cut : (b : Bool) (most : ℕ) (k : L) (text : List ℕ) → length text ≤ most + 1
      → (if b then listed w k 1 (lines_of text) else crossing w too_long k (take (most + 1) text)) ≡ left b (length (lines_of text)) k 1 text
  either_cut true most k text few = refl
  either_cut false most k text few = ap (crossing w too_long k) (take_all (most + 1) text few)

  pub none_taken : (most : ℕ) (k : L) (text : List ℕ) → length text ≤ most + 1 → HasTaken most k k 0 0 text
  unfolding taken_within
  none_taken most k text few = (omega arith, either_cut (nat_le (length text) most) most k text few)

  -- a line decides what the rest makes
  decides : (short : Bool) (all : ℕ) (a : L) (n start end : ℕ) (text : List ℕ) → IsLine text start end → (short ≡ false → end < length text)
      → left short all a n (drop start text) ≡ then_more (w a n (take (end - start) (drop start text))) (λ b. left short all b (n + 1) (drop (end + 1) text))
  unfolding listed
  decides true all a n start end text is within = ap (listed w a n) is.lines
  decides false all a n start end text is within =
      let line = take (end - start) (drop start text) in
      ap (λ ls. then_more (listed w a n ls) (λ _. Err (too_long all))) (is.ended (within refl))
      ∙ then_then (w a n line) (λ b. listed w b (n + 1) (ended_lines (drop (end + 1) text))) (λ _. Err (too_long all))

  module _ (most : ℕ) (k a : L) (count start end : ℕ) (text : List ℕ) (is : IsLine text start end) (taken : HasTaken most k a count start text) where
    -- the line in which the text crosses the limit
    pub crosses_there : true ≡ (nat_lt most (length text) && end == length text) → taken_within w too_long k most text ≡ Err (too_long (count + 1))
    unfolding listed
    crosses_there crosses =
        let last : end ≡ length text = grind (arith, nat_tests) in
        let long : nat_le (length text) most ≡ false = grind (arith, nat_tests) in
        let all : length (lines_of text) ≡ count + 1 = omega (arith, taken.0, ap length is.lines, ap length (lines_past text (end + 1) (omega (arith, last)))) in
        taken.1 ∙ ap (λ b. left b (length (lines_of text)) a (count + 1) (drop start text)) long
        ∙ ap (λ ls. then_more (listed w a (count + 1) ls) (λ _. Err (too_long (length (lines_of text))))) (is.unended last)
        ∙ ap (λ n. Err (too_long n)) all

    module _ (not : false ≡ (nat_lt most (length text) && end == length text)) where
      goes_past : nat_le (length text) most ≡ false → end < length text
      goes_past long = let within = is.within in grind (arith, nat_tests)

      says : taken_within w too_long k most text ≡ then_more (w a (count + 1) (take (end - start) (drop start text))) (λ b. left (nat_le (length text) most) (length (lines_of text)) b (count + 1 + 1) (drop (end + 1) text))
      says = taken.1 ∙ decides (nat_le (length text) most) (length (lines_of text)) a (count + 1) start end text is goes_past

      -- a line without a fault
      pub one_taken : (b : L) → w a (count + 1) (take (end - start) (drop start text)) ≡ Ok b → HasTaken most k b (count + 1) (end + 1) text
      one_taken b good = (
        omega (arith, taken.0, ap length is.lines),
        says ∙ ap (λ r. then_more r (λ b. left (nat_le (length text) most) (length (lines_of text)) b (count + 1 + 1) (drop (end + 1) text))) good,
      )

      -- and one with a fault
      pub one_stops : (e : E) → w a (count + 1) (take (end - start) (drop start text)) ≡ Err e → taken_within w too_long k most text ≡ Err e
      one_stops e bad = says ∙ ap (λ r. then_more r (λ b. left (nat_le (length text) most) (length (lines_of text)) b (count + 1 + 1) (drop (end + 1) text))) bad

  -- all lines are taken
  module _ (most : ℕ) (k a : L) (count start : ℕ) (text : List ℕ) (past : length text ≤ start) (taken : HasTaken most k a count start text) where
    pub all_counted : count ≡ length (lines_of text)
    all_counted = omega (arith, taken.0, ap length (lines_past text start past))

    pub all_taken : length text ≤ most → taken_within w too_long k most text ≡ Ok a
    unfolding listed
    all_taken few =
        let short : nat_le (length text) most ≡ true = grind (arith, nat_tests) in
        taken.1 ∙ ap (λ b. left b (length (lines_of text)) a (count + 1) (drop start text)) short ∙ ap (listed w a (count + 1)) (lines_past text start past)

    pub all_cross : most < length text → taken_within w too_long k most text ≡ Err (too_long count)
    unfolding listed
    all_cross many =
        let long : nat_le (length text) most ≡ false = grind (arith, nat_tests) in
        taken.1 ∙ ap (λ b. left b (length (lines_of text)) a (count + 1) (drop start text)) long
        ∙ ap (λ ls. then_more (listed w a (count + 1) ls) (λ _. Err (too_long (length (lines_of text))))) (ended_past text start past)
        ∙ ap (λ n. Err (too_long n)) (sym all_counted)

  -- ---- the text that was read makes the list of all bytes

  cut_at : (b : Bool) (most : ℕ) (k : L) (bytes : List ℕ) → nat_le (length bytes) most ≡ b
      → taken_within w too_long k most (take (most + 1) bytes) ≡ taken_within w too_long k most bytes
  unfolding taken_within
  cut_at true most k bytes few =
      let short : length bytes ≤ most = grind (arith, nat_tests) in
      ap (taken_within w too_long k most) (take_all (most + 1) bytes (omega (arith, short)))
  cut_at false most k bytes many =
      let long : most < length bytes = grind (arith, nat_tests) in
      let whole : length (take (most + 1) bytes) ≡ most + 1 = length-take-le (most + 1) bytes (omega (arith, long)) in
      let cut : nat_le (length (take (most + 1) bytes)) most ≡ false = grind (arith, nat_tests) in
      ap (λ b. if b then listed w k 1 (lines_of (take (most + 1) bytes)) else crossing w too_long k (take (most + 1) (take (most + 1) bytes))) cut
      ∙ ap (crossing w too_long k) (take-take (most + 1) (most + 1) bytes (omega arith))
      ∙ ap (λ b. if b then listed w k 1 (lines_of bytes) else crossing w too_long k (take (most + 1) bytes)) (sym many)

  pub taken_of_read : (most : ℕ) (k : L) (bytes text : List ℕ) → IsRead most bytes text → taken_within w too_long k most text ≡ taken_within w too_long k most bytes
  unfolding IsRead
  taken_of_read most k bytes text is = ap (taken_within w too_long k most) is ∙ cut_at (nat_le (length bytes) most) most k bytes refl
