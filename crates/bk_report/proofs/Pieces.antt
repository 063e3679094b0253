-- Text that is put in pieces of many lines.
use Rattle.std.proofs.Common.{◌≡◌, ℕ, zero, suc, ◌+◌, ◌-◌, ◌*◌, ◌<◌, ◌≤◌, List, [], ◌∷◌, ◌++◌, length, get_or, take, drop, min, Some, refl, sym, ap, subst, ◌∙◌, length-append, arith, take-add}
use Rattle.std.specs.Prelude.{slice_get}
use Rattle.std.proofs.lemmas.List.{length-drop, length-map, drop-drop, take_min}
use Rattle.bk_base.specs.declared.genesis.Row.{Row}
use Rattle.bk_rules.specs.declared.receipt.Receipt.{Receipt}
use Rattle.bk_report.specs.declared.line.Line.{Line}
use Rattle.bk_report.specs.declared.line.Line.TheVariants as line
use Rattle.std.specs.Prelude.{codes}
use Rattle.std.proofs.lemmas.List.Concat.{flat_map-append, flat_map-cons}
use Rattle.bk_results.specs.Lines.{spaced}
use Rattle.bk_rules.specs.Numbers.{number_of}
use Rattle.bk_report.specs.Lines.{line_text, text_of}
use Rattle.bk_report.specs.Report.{tx_lines, account_lines}
use Rattle.bk_report.specs.RunLines.{rows_lines}
use Rattle.bk_report.specs.Pages.{Desk, Puts}
use Rattle.bk_report.specs.Sheets.{IsPiece, IsRound}
use Rattle.bk_report.proofs.Putting.{puts_as, puts_then}
use Rattle.bk_report.proofs.ReportLines.{length-tx_lines}
use Rattle.bk_report.proofs.LineGroups.{line_of_item, line_of_tx}

-- ---- the lines by their number

get_left : {A : Type 0} (xs ys : List A) (i : ℕ) → i < length xs → slice_get (xs ++ ys) i ≡ slice_get xs i
get_left [] ys i lt = absurd (omega arith)
get_left (x ∷ xs) ys zero lt = refl
get_left (x ∷ xs) ys (suc i) lt = get_left xs ys i (omega arith)

get_right : {A : Type 0} (xs ys : List A) (i : ℕ) → slice_get (xs ++ ys) (length xs + i) ≡ slice_get ys i
get_right [] ys i = let e : 0 + i ≡ i = omega arith in rw e refl
get_right (x ∷ xs) ys i = let e : suc (length xs) + i ≡ suc (length xs + i) = omega arith in rw e (get_right xs ys i)

get_from : {A : Type 0} (n : ℕ) (xs : List A) (i : ℕ) → slice_get (drop n xs) i ≡ slice_get xs (n + i)
get_from zero xs i = let e : zero + i ≡ i = omega arith in rw e refl
get_from (suc n) [] i = refl
get_from (suc n) (x ∷ xs) i = let e : suc n + i ≡ suc (n + i) = omega arith in rw e (get_from n xs i)

pub tx_at : (receipts : List Receipt) (rows : List Row) (i : ℕ) (d : Receipt) → i < length receipts → slice_get (rows_lines receipts rows) i ≡ Some (line.Tx i (get_or receipts i d).status (get_or receipts i d).moved)
tx_at receipts rows i d lt = get_left (tx_lines 0 receipts) (account_lines rows) i (omega (arith, length-tx_lines 0 receipts)) ∙ line_of_tx receipts i d lt

pub account_at : (receipts : List Receipt) (rows : List Row) (i : ℕ) (d : Row) → length receipts ≤ i → i < length receipts + length rows
    → slice_get (rows_lines receipts rows) i ≡ Some (line.Account (get_or rows (i - length receipts) d).id (get_or rows (i - length receipts) d).balance (get_or rows (i - length receipts) d).seq)
account_at receipts rows i d le lt =
    let j : ℕ = i - length receipts in
    let n : length (tx_lines 0 receipts) + (i - length receipts) ≡ i = omega (arith, length-tx_lines 0 receipts) in
    subst (λ (k : ℕ). slice_get (rows_lines receipts rows) k ≡ slice_get (account_lines rows) (i - length receipts)) n (get_right (tx_lines 0 receipts) (account_lines rows) (i - length receipts))
    ∙ line_of_item (λ (x : Row). line.Account x.id x.balance x.seq) rows (i - length receipts) d (omega arith)

pub length-rows_lines : (receipts : List Receipt) (rows : List Row) → length (rows_lines receipts rows) ≡ length receipts + length rows
length-rows_lines receipts rows = omega (arith, length-append (tx_lines 0 receipts) (account_lines rows), length-tx_lines 0 receipts, length-map rows (λ (x : Row). line.Account x.id x.balance x.seq))

-- the text of a line, by its number
pub tx_text : (receipts : List Receipt) (rows : List Row) (i : ℕ) (d r : Receipt) (two : ℕ) (l : Line) → i < length receipts → r ≡ get_or receipts i d → two ≡ number_of r.status → slice_get (rows_lines receipts rows) i ≡ Some l
    → codes "tx" ++ spaced i ++ spaced two ++ spaced r.moved ≡ line_text l
tx_text receipts rows i d r two l low is number e =
    let found : Some (line.Tx i r.status r.moved) ≡ Some l = ap (λ (x : Receipt). Some (line.Tx i x.status x.moved)) is ∙ sym (tx_at receipts rows i d low) ∙ e in
    let same : line.Tx i r.status r.moved ≡ l = cc in
    ap (λ (n : ℕ). codes "tx" ++ spaced i ++ spaced n ++ spaced r.moved) number ∙ ap line_text same

pub account_text : (receipts : List Receipt) (rows : List Row) (i : ℕ) (d : Row) (l : Line) → length receipts ≤ i → i < length receipts + length rows → slice_get (rows_lines receipts rows) i ≡ Some l
    → codes "account" ++ spaced (get_or rows (i - length receipts) d).id ++ spaced (get_or rows (i - length receipts) d).balance ++ spaced (get_or rows (i - length receipts) d).seq ≡ line_text l
account_text receipts rows i d l le lt e =
    let found : Some (line.Account (get_or rows (i - length receipts) d).id (get_or rows (i - length receipts) d).balance (get_or rows (i - length receipts) d).seq) ≡ Some l = sym (account_at receipts rows i d le lt) ∙ e in
    let same : line.Account (get_or rows (i - length receipts) d).id (get_or rows (i - length receipts) d).balance (get_or rows (i - length receipts) d).seq ≡ l = cc in
    ap line_text same

-- what is at an index, before what is there after it
from_here : {A : Type 0} (xs : List A) (k : ℕ) → k < length xs → (x : A) × (slice_get xs k ≡ Some x) × (drop k xs ≡ x ∷ drop (suc k) xs)
from_here [] k low = absurd (omega (arith, low))
from_here (x ∷ xs) zero low = (x, refl, refl)
from_here (x ∷ xs) (suc k) low = from_here xs k (omega (arith, low))

-- one line more before those from one on
line_before : (lines : List Line) (k n : ℕ) (old new : List ℕ) → k < length lines → old ≡ text_of (take n (drop (suc k) lines)) → ((l : Line) → slice_get lines k ≡ Some l → new ≡ (line_text l ++ 10 ∷ []) ++ old)
    → new ≡ text_of (take (suc n) (drop k lines))
line_before lines k n old new low before put =
    let here = from_here lines k low in
    put here.0 here.1
    ∙ ap (λ (t : List ℕ). (line_text here.0 ++ 10 ∷ []) ++ t) before
    ∙ sym (flat_map-cons (λ (l : Line). line_text l ++ 10 ∷ []) here.0 (take n (drop (suc k) lines)))
    ∙ ap (λ (ls : List Line). text_of (take (suc n) ls)) (sym here.2)

-- the last of so many lines, and those after it that are written
pub line_more : (lines : List Line) (start count done : ℕ) (old new : List ℕ) → done < count → start + count ≤ length lines → old ≡ text_of (take done (drop (start + (count - done)) lines))
    → ((l : Line) → slice_get lines (start + (count - 1 - done)) ≡ Some l → new ≡ (line_text l ++ 10 ∷ []) ++ old) → new ≡ text_of (take (done + 1) (drop (start + (count - (done + 1))) lines))
line_more lines start count done old new low within before put =
    let after : start + (count - done) ≡ suc (start + (count - 1 - done)) = omega arith in
    let here : start + (count - 1 - done) ≡ start + (count - (done + 1)) = omega arith in
    let more : suc done ≡ done + 1 = omega arith in
    line_before lines (start + (count - 1 - done)) done old new (omega arith) (before ∙ ap (λ (k : ℕ). text_of (take done (drop k lines))) after) put
    ∙ (λ i. text_of (take (more i) (drop (here i) lines)))

-- as many lines as are left are all of them
pub piece_min : (lines : List Line) (start n total : ℕ) → length lines ≡ total → text_of (take (min n (total - start)) (drop start lines)) ≡ text_of (take n (drop start lines))
piece_min lines start n total is =
    let left : total - start ≡ length (drop start lines) = omega (arith, length-drop start lines, is) in
    ap (λ (k : ℕ). text_of (take (min n k) (drop start lines))) left ∙ ap text_of (take_min n (drop start lines))

-- ---- pieces of lines

-- two pieces are one
pub two_pieces : (lines : List Line) (start m n : ℕ) → text_of (take m (drop start lines)) ++ text_of (take n (drop (start + m) lines)) ≡ text_of (take (m + n) (drop start lines))
two_pieces lines start m n =
    ap (λ (ls : List Line). text_of (take m (drop start lines)) ++ text_of (take n ls)) (sym (drop-drop m start lines))
    ∙ sym (flat_map-append (λ (l : Line). line_text l ++ 10 ∷ []) (take m (drop start lines)) (take n (drop m (drop start lines))))
    ∙ ap text_of (sym (take-add m n (drop start lines)))

-- and four are a round
pub four_pieces : (lines : List Line) (start : ℕ) (a b c d : List ℕ) → IsPiece lines start a → IsPiece lines (start + 16384) b → IsPiece lines (start + 32768) c → IsPiece lines (start + 49152) d → IsRound lines start (a ++ b ++ c ++ d)
four_pieces lines start a b c d (ea, sa) (eb, sb) (ec, sc) (ed, sd) = (
  (λ i. ea i ++ eb i ++ ec i ++ ed i) ∙ ap (λ (t : List ℕ). t ++ text_of (take 16384 (drop (start + 32768) lines)) ++ text_of (take 16384 (drop (start + 49152) lines))) (two_pieces lines start 16384 16384)
      ∙ ap (λ (t : List ℕ). t ++ text_of (take 16384 (drop (start + 49152) lines))) (two_pieces lines start 32768 16384) ∙ two_pieces lines start 49152 16384,
  omega (arith, sa, sb, sc, sd, length-append a b, length-append (a ++ b) c, length-append (a ++ b ++ c) d),
)

-- a round is put after the lines before it
pub round_put : {p q r : Desk} {m : ℕ} (most : ℕ) (lines : List Line) (n k : ℕ) → Puts p q m (text_of (take n lines)) → Puts q r (96 * 65536) (text_of (take 65536 (drop n lines))) → m + 96 * 65536 ≤ most → n + 65536 ≡ k
    → Puts p r most (text_of (take k lines))
round_put {p} {q} {r} {m} most lines n k before put few next =
    puts_as most (text_of (take k lines)) (puts_then before put) few (sym (flat_map-append (λ (l : Line). line_text l ++ 10 ∷ []) (take n lines) (take 65536 (drop n lines))) ∙ ap text_of (sym (take-add n 65536 lines)) ∙ ap (λ (j : ℕ). text_of (take j lines)) next)

-- a round from a line whose number is written in another way
pub round_at : (lines : List Line) (m n : ℕ) (text : List ℕ) → m ≡ n → IsRound lines m text → IsRound lines n text
round_at lines m n text same = subst (λ (k : ℕ). IsRound lines k text) same
