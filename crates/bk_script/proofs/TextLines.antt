-- The lines of a text, one after another.
use Rattle.std.proofs.Common.{◌≡◌, ℕ, zero, suc, ◌+◌, ◌-◌, ◌<◌, ◌≤◌, ◌==◌, List, [], ◌∷◌, ◌++◌, length, get_or, take, drop, Bool, true, false, refl, sym, ap, ◌∙◌, arith, if◌then◌else◌, append_assoc, length-append, length-drop}
use Rattle.std.proofs.Math.ListN.{drop_of_length-le}
use Rattle.std.proofs.lemmas.List.{at_drop_all, get_or_at, take_all, take_at}
use Rattle.std.proofs.lemmas.Bool.{eq-eqb, ne_eqb}
use Rattle.bk_script.specs.Words.{pieces, pieces_after}
use Rattle.bk_script.specs.Listing.{ended_lines, last_line, lines_of}
use Rattle.bk_script.specs.private.LineEnds.{IsLine}
use Rattle.bk_script.proofs.Cuts.{piece_step}

-- ---- the line that begins a text

-- there is one piece at least
some_either : (b : Bool) (front : List ℕ) (ps qs : List (List ℕ)) → 0 < length qs → 0 < length (if b then front ∷ ps else qs)
some_either true front ps qs h = omega arith
some_either false front ps qs h = h

pieces_some : (sep : ℕ) (front text : List ℕ) → 0 < length (pieces_after sep front text)
unfolding pieces_after
pieces_some sep front [] = omega arith
pieces_some sep front (c ∷ text) = some_either (c == sep) front (pieces_after sep [] text) (pieces_after sep (front ++ c ∷ []) text) (pieces_some sep (front ++ c ∷ []) text)

cons_either : (b : Bool) (line last : List ℕ) (lines : List (List ℕ)) → (if b then line ∷ lines else line ∷ (lines ++ last ∷ [])) ≡ line ∷ (if b then lines else lines ++ last ∷ [])
cons_either true line last lines = refl
cons_either false line last lines = refl

-- a line that a line feed ends
module _ (text line rest : List ℕ) (cut : pieces 10 text ≡ line ∷ pieces 10 rest) where
  one_more : length (line ∷ pieces 10 rest) - 1 ≡ suc (length (pieces 10 rest) - 1)
  one_more = omega (arith, pieces_some 10 [] rest)

  ended_first : ended_lines text ≡ line ∷ ended_lines rest
  ended_first = ap (λ (ps : List (List ℕ)). take (length ps - 1) ps) cut ∙ ap (λ n. take n (line ∷ pieces 10 rest)) one_more

  last_same : last_line text ≡ last_line rest
  last_same = ap (λ (ps : List (List ℕ)). get_or ps (length ps - 1) []) cut ∙ ap (λ n. get_or (line ∷ pieces 10 rest) n []) one_more

  lines_first : lines_of text ≡ line ∷ lines_of rest
  lines_first =
      (λ i. if length (last_same i) == 0 then ended_first i else ended_first i ++ last_same i ∷ [])
      ∙ cons_either (length (last_line rest) == 0) line (last_line rest) (ended_lines rest)

-- a line that ends with the text
module _ (text line : List ℕ) (cut : pieces 10 text ≡ line ∷ []) where
  ended_none : ended_lines text ≡ []
  ended_none = ap (λ (ps : List (List ℕ)). take (length ps - 1) ps) cut

  last_only : last_line text ≡ line
  last_only = ap (λ (ps : List (List ℕ)). get_or ps (length ps - 1) []) cut

  line_only : (length line ≡ 0 → ⊥) → lines_of text ≡ line ∷ []
  line_only some =
      (λ i. if length (last_only i) == 0 then ended_none i else ended_none i ++ last_only i ∷ [])
      ∙ ap (λ b. if b then [] else line ∷ []) (ne_eqb (length line) 0 some)

-- after the end of a text there are none
pub ended_past : (text : List ℕ) (start : ℕ) → length text ≤ start → ended_lines (drop start text) ≡ []
unfolding pieces_after
ended_past text start l = ap ended_lines (drop_of_length-le text l)

pub lines_past : (text : List ℕ) (start : ℕ) → length text ≤ start → lines_of (drop start text) ≡ []
unfolding pieces_after
lines_past text start l = ap lines_of (drop_of_length-le text l)

-- ---- where it ends

-- the line goes on at `end`
abbrev pub GoesOn : List ℕ → ℕ → ℕ → Type 0
GoesOn text start end = pieces_after 10 (take (end - start) (drop start text)) (drop end text) ≡ pieces 10 (drop start text)

pub goes_from : (text : List ℕ) (start : ℕ) → GoesOn text start start
goes_from text start = let none : start - start ≡ 0 = omega arith in ap (λ n. pieces_after 10 (take n (drop start text)) (drop start text)) none

pub line_ends : (text : List ℕ) (start end : ℕ) → start ≤ end → end < length text → get_or text end 0 ≡ 10 → GoesOn text start end → IsLine text start end
line_ends text start end h l e on =
    let line = take (end - start) (drop start text) in
    let rest = drop (end + 1) text in
    let cut : pieces 10 (drop start text) ≡ line ∷ pieces 10 rest =
    sym on ∙ piece_step 10 text start end h l
    ∙ ap (λ b. if b then line ∷ pieces_after 10 [] rest else pieces_after 10 (take (end + 1 - start) (drop start text)) rest) (eq-eqb (get_or text end 0) 10 e) in
    record {
      from = h;
      within = omega (arith, l);
      lines = lines_first (drop start text) line rest cut;
      ended = λ _. ended_first (drop start text) line rest cut;
      unended = λ same. absurd (omega (arith, same, l));
    }

pub text_ends : (text : List ℕ) (start end : ℕ) → start < length text → length text ≤ end → GoesOn text start end → IsLine text start (length text)
unfolding pieces_after
text_ends text start end some l on =
    let line = take (length text - start) (drop start text) in
    let whole : take (end - start) (drop start text) ≡ drop start text = take_all (end - start) (drop start text) (omega (arith, l, length-drop start text)) in
    let same : line ≡ drop start text = take_all (length text - start) (drop start text) (omega (arith, length-drop start text)) in
    let past : pieces_after 10 (take (end - start) (drop start text)) (drop end text) ≡ take (end - start) (drop start text) ∷ [] = at_drop_all (pieces_after 10 (take (end - start) (drop start text))) text end l in
    let cut : pieces 10 (drop start text) ≡ line ∷ [] = sym on ∙ past ∙ ap (λ p. p ∷ []) (whole ∙ sym same) in
    record {
      from = omega (arith, some);
      within = omega arith;
      lines = line_only (drop start text) line cut (λ none. absurd (omega (arith, none, some, ap length same, length-drop start text)))
          ∙ ap (λ ls. line ∷ ls) (sym (lines_past text (length text + 1) (omega arith)));
      ended = λ less. absurd (omega (arith, less));
      unended = λ _. ended_none (drop start text) line cut;
    }

-- ---- all lines that a line feed ends

-- the front of a list that goes past its first part
take_behind : {X : Type 0} (xs ys : List X) (n : ℕ) → take (length xs + n) (xs ++ ys) ≡ xs ++ take n ys
take_behind [] ys n = let e : zero + n ≡ n = omega arith in ap (λ m. take m ys) e
take_behind (x ∷ xs) ys n = let e : suc (length xs) + n ≡ suc (length xs + n) = omega arith in rw e (ap (λ t. x ∷ t) (take_behind xs ys n))

-- the piece that ends at a line feed, and the pieces after it
pub line_found : (text : List ℕ) (start end : ℕ) → start ≤ end → end < length text → get_or text end 0 ≡ 10
    → pieces_after 10 (take (end - start) (drop start text)) (drop end text) ≡ take (end - start) (drop start text) ∷ pieces_after 10 [] (drop (end + 1) text)
line_found text start end h l e =
    piece_step 10 text start end h l
    ∙ ap (λ b. if b then take (end - start) (drop start text) ∷ pieces_after 10 [] (drop (end + 1) text) else pieces_after 10 (take (end + 1 - start) (drop start text)) (drop (end + 1) text)) (eq-eqb (get_or text end 0) 10 e)

-- lines before this one, with what follows it, are the pieces of a text
pub next_line : (before : List (List ℕ)) (text : List ℕ) (start end : ℕ) → start ≤ end → end < length text → get_or text end 0 ≡ 10
    → before ++ pieces_after 10 (take (end - start) (drop start text)) (drop end text) ≡ pieces 10 text
    → (before ++ take (end - start) (drop start text) ∷ []) ++ pieces_after 10 (take (end + 1 - (end + 1)) (drop (end + 1) text)) (drop (end + 1) text) ≡ pieces 10 text
next_line before text start end h l e inv =
    let none : end + 1 - (end + 1) ≡ 0 = omega arith in
    ap (λ k. (before ++ take (end - start) (drop start text) ∷ []) ++ pieces_after 10 (take k (drop (end + 1) text)) (drop (end + 1) text)) none
    ∙ append_assoc before (take (end - start) (drop start text) ∷ []) (pieces_after 10 [] (drop (end + 1) text))
    ∙ ap (λ q. before ++ q) (sym (line_found text start end h l e))
    ∙ inv

-- the ended lines of a text begin with those before and this one
pub ended_begin : (before : List (List ℕ)) (text : List ℕ) (start end : ℕ) → start ≤ end → end < length text → get_or text end 0 ≡ 10
    → before ++ pieces_after 10 (take (end - start) (drop start text)) (drop end text) ≡ pieces 10 text
    → (more : List (List ℕ)) × (ended_lines text ≡ before ++ take (end - start) (drop start text) ∷ more)
ended_begin before text start end h l e inv =
    let line = take (end - start) (drop start text) in
    let rest = pieces_after 10 [] (drop (end + 1) text) in
    let all : before ++ line ∷ rest ≡ pieces 10 text = ap (λ q. before ++ q) (sym (line_found text start end h l e)) ∙ inv in
    let some = pieces_some 10 [] (drop (end + 1) text) in
    let many : length (before ++ line ∷ rest) - 1 ≡ length before + suc (length rest - 1) = omega (arith, some, length-append before (line ∷ rest)) in
    (take (length rest - 1) rest, ap (λ (ps : List (List ℕ)). take (length ps - 1) ps) (sym all) ∙ ap (λ n. take n (before ++ line ∷ rest)) many ∙ take_behind before (line ∷ rest) (suc (length rest - 1)))

-- at the end of a text its last piece is what was not ended
pub pieces_end : (before : List (List ℕ)) (text : List ℕ) (start end : ℕ) → length text ≤ end
    → before ++ pieces_after 10 (take (end - start) (drop start text)) (drop end text) ≡ pieces 10 text → before ++ drop start text ∷ [] ≡ pieces 10 text
unfolding pieces_after
pieces_end before text start end l inv =
    let whole : take (end - start) (drop start text) ≡ drop start text = take_all (end - start) (drop start text) (omega (arith, l, length-drop start text)) in
    let past : pieces_after 10 (take (end - start) (drop start text)) (drop end text) ≡ take (end - start) (drop start text) ∷ [] = at_drop_all (pieces_after 10 (take (end - start) (drop start text))) text end l in
    ap (λ p. before ++ p ∷ []) (sym whole) ∙ ap (λ q. before ++ q) (sym past) ∙ inv

-- all pieces but the last are the ended lines
pub ended_all : (before : List (List ℕ)) (text last : List ℕ) → before ++ last ∷ [] ≡ pieces 10 text → ended_lines text ≡ before
ended_all before text last all =
    let many : length (before ++ last ∷ []) - 1 ≡ length before = omega (arith, length-append before (last ∷ [])) in
    ap (λ (ps : List (List ℕ)). take (length ps - 1) ps) (sym all) ∙ ap (λ n. take n (before ++ last ∷ [])) many ∙ take_at before (last ∷ []) (length before) refl

-- and the last is what is after them
pub last_of_all : (before : List (List ℕ)) (text last : List ℕ) → before ++ last ∷ [] ≡ pieces 10 text → last_line text ≡ last
last_of_all before text last all =
    let many : length (before ++ last ∷ []) - 1 ≡ length before = omega (arith, length-append before (last ∷ [])) in
    ap (λ (ps : List (List ℕ)). get_or ps (length ps - 1) []) (sym all) ∙ ap (λ n. get_or (before ++ last ∷ []) n []) many ∙ get_or_at before last [] [] (length before) refl

-- bytes after the last line feed
pub rest_is : (text last : List ℕ) (end : ℕ) → last ≡ take (length text - end) (drop end text) → drop end text ≡ last_line text → last ≡ last_line text
rest_is text last end is rest = is ∙ take_all (length text - end) (drop end text) (omega (arith, length-drop end text)) ∙ rest

-- the line without a line feed
pub lines_one : (text last : List ℕ) (end : ℕ) → last ≡ take (length text - end) (drop end text) → drop end text ≡ last_line text → false ≡ (length last == 0)
    → lines_of text ≡ ended_lines text ++ last ∷ []
lines_one text last end is rest some =
    let same = rest_is text last end is rest in
    ap (λ b. if b then ended_lines text else ended_lines text ++ last_line text ∷ []) (ap (λ l. length l == 0) (sym same) ∙ sym some)
    ∙ ap (λ (l : List ℕ). ended_lines text ++ l ∷ []) (sym same)
