-- The lines of a text, and what they make, taken one after another: a list, or the first line with a fault.
use Rattle.std.specs.Prelude.{◌≡◌, ℕ, ◌+◌, ◌-◌, List, [], ◌∷◌, ◌++◌, length, take, nat_le, ◌==◌, if◌then◌else◌, Result, Ok, Err, slice_index_or}
use Rattle.bk_frames.specs.Device.{Device, Works, Fails}
use Rattle.bk_results.specs.Devices.{OfText}
use Rattle.bk_results.specs.declared.lines_fault.LinesFault.{LinesFault}
use Rattle.bk_results.specs.declared.lines_fault.LinesFault.TheVariants as fault
use Rattle.bk_script.specs.Words.{pieces}

-- ---- the lines of a text

-- the lines that a line feed ends
abbrev pub ended_lines : List ℕ → List (List ℕ)
ended_lines text = take (length (pieces 10 text) - 1) (pieces 10 text)

-- the bytes after the last line feed
abbrev pub last_line : List ℕ → List ℕ
last_line text = slice_index_or (pieces 10 text) (length (pieces 10 text) - 1) []

-- all lines: the last one may end with the text, where it has bytes
abbrev pub lines_of : List ℕ → List (List ℕ)
lines_of text = if length (last_line text) == 0 then ended_lines text else ended_lines text ++ last_line text ∷ []

-- ---- one line after another

-- what follows from what came before, unless a line has a fault
abbrev pub then_more : {A B E : Type 0} → Result A E → (A → Result B E) → Result B E
then_more (Ok before) next = next before
then_more (Err found) next = Err found

-- the list with what these lines add, where the first has this number; or the fault of the first line that has one
unfoldable pub listed : {L E : Type 0} → (L → ℕ → List ℕ → Result L E) → L → ℕ → List (List ℕ) → Result L E
listed with_line list n [] = Ok list
listed with_line list n (line ∷ lines) = then_more (with_line list n line) (λ more. listed with_line more (n + 1) lines)

-- a text that crosses the limit in its last line: this line has this fault, unless one that a line feed ends has one
abbrev pub crossing : {L E : Type 0} → (L → ℕ → List ℕ → Result L E) → (ℕ → E) → L → List ℕ → Result L E
crossing with_line too_long list text =
    then_more (listed with_line list 1 (ended_lines text)) (λ _. Err (too_long (length (lines_of text))))

-- the list of a text that may have this many bytes, onto one; of a text that is too long, these and one byte more are
-- looked at
unfoldable pub taken_within : {L E : Type 0} → (L → ℕ → List ℕ → Result L E) → (ℕ → E) → L → ℕ → List ℕ → Result L E
taken_within with_line too_long list most text =
    if nat_le (length text) most then listed with_line list 1 (lines_of text)
    else crossing with_line too_long list (take (most + 1) text)

-- the same, where the fault of a line is its number
abbrev pub listed_within : {L : Type 0} → (L → ℕ → List ℕ → Result L ℕ) → L → ℕ → List ℕ → Result L ℕ
listed_within with_line list most text = taken_within with_line (λ n. n) list most text

-- a function that uses no device and may be refused memory answers as defined: with this list, or with the line at fault
abbrev pub Lists : {A L : Type 0} → (A → L) → Result A LinesFault → Result L ℕ → Type 0
Lists view (Ok a) defined = defined ≡ Ok (view a)
Lists view (Err (fault.Line line)) defined = defined ≡ Err line
Lists view (Err fault.Read) defined = ⊥
Lists view (Err fault.Memory) defined = Unit {0}

-- no call of the source failed, and its text, which may have this many bytes, makes this list
abbrev pub HasList : {L : Type 0} → ℕ → (List ℕ → Result L ℕ) → L → Device → Device → Type 0
HasList most list_of list old new = Works old new × OfText most old new (λ text. list_of text ≡ Ok list)

-- why there is no list, by the fault: this is the first line of the text with a fault; a call of the source failed; or
-- memory ran out
abbrev pub HasNoList : {L : Type 0} → ℕ → (List ℕ → Result L ℕ) → LinesFault → Device → Device → Type 0
HasNoList most list_of (fault.Line line) old new = Works old new × OfText most old new (λ text. list_of text ≡ Err line)
HasNoList most list_of fault.Read old new = Fails old new
HasNoList most list_of fault.Memory old new = Works old new
