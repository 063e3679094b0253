-- The lines of a text, and what is put of them.
use Rattle.std.proofs.Common.{◌≡◌, ◌∙◌, ◌⊎◌, inl, inr, ℕ, suc, ◌+◌, ◌-◌, ◌<◌, ◌≤◌, min, Bool, true, false, not, cond, eqb, ltb, List, [], ◌∷◌, ◌++◌, length, take, drop, refl, sym, ap, arith, append_assoc, take-append-drop, length-take, length-drop}
use Rattle.std.specs.List.{after_last, before_first, position_or_len, suffix_len}
use Rattle.std.proofs.Math.Seq.{take-append-add}
use Rattle.std.proofs.lemmas.Bool.{cases_eq, cases_lt, cond-false, cond-true, eq-eqb, lt-ltb, ne_eqb}
use Rattle.std.proofs.lemmas.List.{take-append-le, take-take, take_all, take_rest, drop-append-le}
use Rattle.std.proofs.lemmas.List.Sums.{prefix_len-le-length}
use Rattle.bk_claim.specs.Claims.{ends_line, line_at}
use Rattle.bk_claim.specs.private.Finding.{line_from}

-- ---- the first n bytes of two texts

pub cut_front : (n : ℕ) (xs ys : List ℕ) → length xs ≤ n → take n (xs ++ ys) ≡ xs ++ take (n - length xs) ys
cut_front n xs ys fits =
    let whole : n ≡ length xs + (n - length xs) = omega arith in
    ap (λ (k : ℕ). take k (xs ++ ys)) whole ∙ take-append-add xs ys (n - length xs)

-- ---- the bytes before the first line feed of two texts

here : (b : Bool) (n m l : ℕ) → cond b (1 + n) 0 < suc l → (n < l → m ≡ n) → cond b (1 + m) 0 ≡ cond b (1 + n) 0
here true n m l low same = let below : n < l = omega (arith, low) in ap (λ (k : ℕ). 1 + k) (same below)
here false n m l low same = refl

on : (b : Bool) (n m l k : ℕ) → cond b (1 + n) 0 ≡ suc l → (n ≡ l → m ≡ l + k) → cond b (1 + m) 0 ≡ suc l + k
on true n m l k e more = let all : n ≡ l = omega (arith, e) in omega (arith, more all)
on false n m l k e more = absurd (omega (arith, e))

position_here : (p : ℕ → Bool) (xs ys : List ℕ) → position_or_len p xs < length xs → position_or_len p (xs ++ ys) ≡ position_or_len p xs
position_here p [] ys low = absurd (omega (arith, low))
position_here p (x ∷ xs) ys low =
    here (not (p x)) (position_or_len p xs) (position_or_len p (xs ++ ys)) (length xs) low (λ below. position_here p xs ys below)

position_on : (p : ℕ → Bool) (xs ys : List ℕ) → position_or_len p xs ≡ length xs → position_or_len p (xs ++ ys) ≡ length xs + position_or_len p ys
position_on p [] ys e = omega arith
position_on p (x ∷ xs) ys e =
    on (not (p x)) (position_or_len p xs) (position_or_len p (xs ++ ys)) (length xs) (position_or_len p ys) e (λ all. position_on p xs ys all)

pub before_here : (p : ℕ → Bool) (xs ys : List ℕ) → position_or_len p xs < length xs → before_first p (xs ++ ys) ≡ before_first p xs
before_here p xs ys low =
    let fits : position_or_len p xs ≤ length xs = omega (arith, low) in
    ap (λ (k : ℕ). take k (xs ++ ys)) (position_here p xs ys low) ∙ take-append-le (position_or_len p xs) xs ys fits

pub before_on : (p : ℕ → Bool) (xs ys : List ℕ) → position_or_len p xs ≡ length xs → before_first p (xs ++ ys) ≡ xs ++ before_first p ys
before_on p xs ys e =
    ap (λ (k : ℕ). take k (xs ++ ys)) (position_on p xs ys e) ∙ take-append-add xs ys (position_or_len p ys)

-- ---- what is put of a line

take_twice : (n m : ℕ) (xs : List ℕ) → take n (take m xs) ≡ take (min n m) xs
take_twice n m xs = by_order (cases_lt m n)
  where
    by_order : (m < n) ⊎ (n ≤ m) → take n (take m xs) ≡ take (min n m) xs
    by_order (inl low) =
        let short : length (take m xs) ≤ n = omega (arith, low, length-take m xs) in
        let least : min n m ≡ m = omega (arith, low) in
        take_all n (take m xs) short ∙ ap (λ (k : ℕ). take k xs) (sym least)
    by_order (inr low) =
        let least : min n m ≡ n = omega (arith, low) in
        take-take n m xs low ∙ ap (λ (k : ℕ). take k xs) (sym least)

room_stops : (room put : ℕ) (bytes more : List ℕ) → put ≡ min room (position_or_len ends_line bytes) → (put < length bytes) ⊎ (put ≡ room)
    → take room (before_first ends_line (bytes ++ more)) ≡ take put bytes
room_stops room put bytes more e stops = by_width (cases_lt (position_or_len ends_line bytes) (length bytes))
  where
    width : ℕ
    width = position_or_len ends_line bytes

    by_width : (position_or_len ends_line bytes < length bytes) ⊎ (length bytes ≤ position_or_len ends_line bytes) → take room (before_first ends_line (bytes ++ more)) ≡ take put bytes
    by_width (inl low) =
        ap (take room) (before_here ends_line bytes more low) ∙ take_twice room (position_or_len ends_line bytes) bytes
        ∙ ap (λ (k : ℕ). take k bytes) (sym e)
    by_width (inr high) =
        let most : position_or_len ends_line bytes ≤ length bytes = prefix_len-le-length (λ b. not (ends_line b)) bytes in
        let all : position_or_len ends_line bytes ≡ length bytes = omega (arith, most, high) in
        let full : (put ≡ room) × (room ≤ length bytes) = filled (position_or_len ends_line bytes) (length bytes) all e stops in
        ap (take room) (before_on ends_line bytes more all) ∙ take-append-le room bytes (before_first ends_line more) full.1
        ∙ ap (λ (k : ℕ). take k bytes) (sym full.0)
      where
        filled : (w l : ℕ) → w ≡ l → put ≡ min room w → (put < l) ⊎ (put ≡ room) → (put ≡ room) × (room ≤ l)
        filled w l same is (inl low) = (omega (arith, same, is, low), omega (arith, same, is, low))
        filled w l same is (inr full) = (full, omega (arith, same, is, full))

-- a line is whole where not all of the bytes were put, or no room is left
pub put_stops : (line bytes more : List ℕ) (room put : ℕ) → length line ≤ 200 → room ≡ 200 - length line → put ≡ min room (position_or_len ends_line bytes)
    → (put < length bytes) ⊎ (put ≡ room) → line_from line (bytes ++ more) ≡ line ++ take put bytes
put_stops line bytes more room put short is e stops =
    cut_front 200 line (before_first ends_line (bytes ++ more)) short
    ∙ ap (λ (k : ℕ). line ++ take k (before_first ends_line (bytes ++ more))) (sym is)
    ∙ ap (λ (t : List ℕ). line ++ t) (room_stops room put bytes more e stops)

-- and it goes on where all were put
pub put_goes_on : (line bytes more : List ℕ) (room put : ℕ) → put ≡ min room (position_or_len ends_line bytes) → length bytes ≤ put
    → line_from line (bytes ++ more) ≡ line_from (line ++ take put bytes) more
put_goes_on line bytes more room put e high =
    let most : position_or_len ends_line bytes ≤ length bytes = prefix_len-le-length (λ b. not (ends_line b)) bytes in
    let all : position_or_len ends_line bytes ≡ length bytes = omega (arith, most, high, e) in
    ap (λ (t : List ℕ). take 200 (line ++ t)) (before_on ends_line bytes more all)
    ∙ ap (take 200) (sym (append_assoc line bytes (before_first ends_line more)))
    ∙ ap (λ (t : List ℕ). line_from (line ++ t) more) (sym (take_all put bytes high))

-- ---- where a line begins

start_is : (text : List ℕ) (start : ℕ) → start + suffix_len (λ b. not (ends_line b)) text ≡ length text → start ≡ length text - suffix_len (λ b. not (ends_line b)) text
start_is text start e = omega (arith, e)

pub begun : (before : List ℕ) (start end : ℕ) → start + suffix_len (λ b. not (ends_line b)) before ≡ length before → end ≡ min (length before) (start + 200)
    → take (end - start) (drop start before) ≡ take 200 (after_last ends_line before)
begun before start end e is =
    cut ∙ ap (λ (k : ℕ). take 200 (drop k before)) (start_is before start e)
  where
    by_order : (start + 200 < length before) ⊎ (length before ≤ start + 200) → take (end - start) (drop start before) ≡ take 200 (drop start before)
    by_order (inl low) = let here : end - start ≡ 200 = omega (arith, low, is) in ap (λ (k : ℕ). take k (drop start before)) here
    by_order (inr high) =
        let all : length (drop start before) ≤ end - start = omega (arith, high, is, length-drop start before) in
        let short : length (drop start before) ≤ 200 = omega (arith, high, length-drop start before) in
        take_all (end - start) (drop start before) all ∙ sym (take_all 200 (drop start before) short)

    cut : take (end - start) (drop start before) ≡ take 200 (drop start before)
    cut = by_order (cases_lt (start + 200) (length before))

pub line_is : (text : List ℕ) (at start width : ℕ) → at ≤ length text → start + suffix_len (λ b. not (ends_line b)) (take at text) ≡ length (take at text)
    → width ≡ position_or_len ends_line (drop at text) → take (at + width - start) (drop start text) ≡ line_at text at
line_is text at start width inside e is =
    let low : start ≤ length (take at text) = omega (arith, e) in
    let front : length (drop start (take at text)) + width ≡ at + width - start = omega (arith, length-drop start (take at text), length-take at text, inside, low) in
    ap (λ (t : List ℕ). take (at + width - start) (drop start t)) (sym (take-append-drop at text))
    ∙ ap (take (at + width - start)) (drop-append-le start (take at text) (drop at text) low)
    ∙ ap (λ (k : ℕ). take k (drop start (take at text) ++ drop at text)) (sym front)
    ∙ take-append-add (drop start (take at text)) (drop at text) width
    ∙ ap (λ (k : ℕ). drop k (take at text) ++ take width (drop at text)) (start_is (take at text) start e)
    ∙ ap (λ (k : ℕ). after_last ends_line (take at text) ++ take k (drop at text)) is

-- the same of slices
pub line_there : (text : List ℕ) (at start width : ℕ) → at ≤ length text → start + suffix_len (λ b. not (ends_line b)) (take at text) ≡ length (take at text)
    → width ≡ position_or_len ends_line (take (length text - at) (drop at text)) → take (at + width - start) (drop start text) ≡ line_at text at
line_there text at start width inside e is =
    line_is text at start width inside e (is ∙ ap (position_or_len ends_line) (take_rest text at))

-- ---- what `put_line` returns

pub put_then : (line bytes more new : List ℕ) (len put : ℕ) → length line ≤ 200 → len ≡ length line → put ≡ min (200 - len) (position_or_len ends_line bytes)
    → put < length bytes → new ≡ line ++ take put bytes → line_from line (bytes ++ more) ≡ cond (ltb put (length bytes)) new (line_from new more)
put_then line bytes more new len put short is e low news =
    let room : 200 - len ≡ 200 - length line = omega (arith, is) in
    put_stops line bytes more (200 - len) put short room e (inl low) ∙ sym news
    ∙ sym (cond-true (ltb put (length bytes)) new (line_from new more) (lt-ltb put (length bytes) low))

pub put_else : (line bytes more new : List ℕ) (len put : ℕ) → length line ≤ 200 → len ≡ length line → put ≡ min (200 - len) (position_or_len ends_line bytes)
    → length bytes ≤ put → new ≡ line ++ take put bytes → line_from line (bytes ++ more) ≡ cond (eqb put (200 - len)) new (line_from new more)
put_else line bytes more new len put short is e high news = by_room (cases_eq put (200 - len))
  where
    by_room : (put ≡ 200 - len) ⊎ (put ≡ 200 - len → ⊥) → line_from line (bytes ++ more) ≡ cond (eqb put (200 - len)) new (line_from new more)
    by_room (inl full) =
        let room : 200 - len ≡ 200 - length line = omega (arith, is) in
        put_stops line bytes more (200 - len) put short room e (inr full) ∙ sym news
        ∙ sym (cond-true (eqb put (200 - len)) new (line_from new more) (eq-eqb put (200 - len) full))
    by_room (inr more_room) =
        put_goes_on line bytes more (200 - len) put e high ∙ ap (λ (t : List ℕ). line_from t more) (sym news)
        ∙ sym (cond-false (eqb put (200 - len)) new (line_from new more) (ne_eqb put (200 - len) more_room))
