-- Reading one word after another.
use Rattle.std.proofs.Common.{◌≡◌, ℕ, ◌+◌, ◌<◌, ◌≤◌, List, [], ◌∷◌, ◌++◌, length, get_or, drop, map, refl, sym, ap, ◌∙◌, Result, Ok, Err, append_assoc, arith, Bor, zero, suc}
use Rattle.std.proofs.lemmas.List.{at_drop_more, at_drop_all, append-nil}
use Rattle.bk_results.specs.declared.script_fault.ScriptCode.{ScriptCode}
use Rattle.bk_script.specs.Codes.{◌>>=◌}
use Rattle.bk_script.specs.Words.{each_of}

-- what was read before what follows
abbrev pub with_front : {A : Type 0} → List A → Result (List A) ScriptCode → Result (List A) ScriptCode
with_front before (Ok found) = Ok (before ++ found)
with_front before (Err e) = Err e

pub push_front : {A : Type 0} (before : List A) (x : A) (rest : Result (List A) ScriptCode)
    → with_front before (rest >>= (λ others. Ok (x ∷ others))) ≡ with_front (before ++ x ∷ []) rest
push_front before x (Ok others) = ap Ok (sym (append_assoc before (x ∷ []) others))
push_front before x (Err e) = refl

-- a word more
pub one_more : {A : Type 0} (read : List ℕ → Result A ScriptCode) (words : List (List ℕ)) (i : ℕ) (before after : List A) (x : A) (all : Result (List A) ScriptCode)
    → i < length words → read (get_or words i []) ≡ Ok x → after ≡ before ++ x ∷ []
    → with_front before (each_of read (drop i words)) ≡ all → with_front after (each_of read (drop (i + 1) words)) ≡ all
unfolding each_of
one_more read words i before after x all l e items inv =
    let rest = each_of read (drop (i + 1) words) in
    let step : each_of read (drop i words) ≡ (rest >>= (λ others. Ok (x ∷ others))) =
    at_drop_more (each_of read) words i [] l ∙ ap (λ r. r >>= (λ first. rest >>= (λ others. Ok (first ∷ others)))) e in
    ap (λ b. with_front b rest) items ∙ sym (push_front before x rest) ∙ ap (with_front before) (sym step) ∙ inv

-- the first that says nothing
pub one_bad : {A : Type 0} (read : List ℕ → Result A ScriptCode) (words : List (List ℕ)) (i : ℕ) (before : List A) (found : ScriptCode) (all : Result (List A) ScriptCode)
    → i < length words → read (get_or words i []) ≡ Err found → with_front before (each_of read (drop i words)) ≡ all → all ≡ Err found
unfolding each_of
one_bad read words i before found all l e inv =
    let rest = each_of read (drop (i + 1) words) in
    let step : each_of read (drop i words) ≡ Err found =
    at_drop_more (each_of read) words i [] l ∙ ap (λ r. r >>= (λ first. rest >>= (λ others. Ok (first ∷ others)))) e in
    sym inv ∙ ap (with_front before) step

-- the last was read
pub all_read : {A : Type 0} (read : List ℕ → Result A ScriptCode) (words : List (List ℕ)) (i : ℕ) (before : List A) (all : Result (List A) ScriptCode)
    → length words ≤ i → with_front before (each_of read (drop i words)) ≡ all → all ≡ Ok before
unfolding each_of
all_read read words i before all l inv =
    sym inv ∙ ap (with_front before) (at_drop_all (each_of read) words i l) ∙ ap Ok (append-nil before)

-- ---- the same where the words are lent

-- a lent word among the words
pub word_at : (words : List (Bor (List ℕ))) (i : ℕ) (d : Bor (List ℕ)) → i < length words → get_or (map (λ p. p.now) words) i [] ≡ (get_or words i d).now
word_at [] i d l = absurd (omega (arith, l))
word_at (w ∷ words) zero d l = refl
word_at (w ∷ words) (suc i) d l = word_at words i d (omega (arith, l))

-- as many as were lent
pub count : (words : List (Bor (List ℕ))) → length (map (λ p. p.now) words) ≡ length words
count [] = refl
count (w ∷ words) = ap suc (count words)

pub lent_more : {A : Type 0} (read : List ℕ → Result A ScriptCode) (words : List (Bor (List ℕ))) (i : ℕ) (d : Bor (List ℕ)) (before after : List A) (x : A) (all : Result (List A) ScriptCode)
    → i < length words → Ok x ≡ read (get_or words i d).now → after ≡ before ++ x ∷ []
    → with_front before (each_of read (drop i (map (λ p. p.now) words))) ≡ all → with_front after (each_of read (drop (i + 1) (map (λ p. p.now) words))) ≡ all
lent_more read words i d before after x all l e items inv =
    one_more read (map (λ p. p.now) words) i before after x all (omega (arith, count words, l)) (ap read (word_at words i d l) ∙ sym e) items inv

pub lent_bad : {A : Type 0} (read : List ℕ → Result A ScriptCode) (words : List (Bor (List ℕ))) (i : ℕ) (d : Bor (List ℕ)) (before : List A) (found : ScriptCode) (all : Result (List A) ScriptCode)
    → i < length words → Err found ≡ read (get_or words i d).now
    → with_front before (each_of read (drop i (map (λ p. p.now) words))) ≡ all → all ≡ Err found
lent_bad read words i d before found all l e inv =
    one_bad read (map (λ p. p.now) words) i before found all (omega (arith, count words, l)) (ap read (word_at words i d l) ∙ sym e) inv

pub lent_all : {A : Type 0} (read : List ℕ → Result A ScriptCode) (words : List (Bor (List ℕ))) (i : ℕ) (before : List A) (all : Result (List A) ScriptCode)
    → length words ≤ i → with_front before (each_of read (drop i (map (λ p. p.now) words))) ≡ all → all ≡ Ok before
lent_all read words i before all l inv = all_read read (map (λ p. p.now) words) i before all (omega (arith, count words, l)) inv

step_length : {A : Type 0} (r : Result A ScriptCode) (rest : Result (List A) ScriptCode) (n : ℕ) (xs : List A)
    → ((ys : List A) → rest ≡ Ok ys → length ys ≡ n) → (r >>= (λ first. rest >>= (λ others. Ok (first ∷ others)))) ≡ Ok xs → length xs ≡ suc n
step_length (Ok x) (Ok ys) n xs ih e = let s : x ∷ ys ≡ xs = cc in ap length (sym s) ∙ ap suc (ih ys refl)
step_length (Ok x) (Err f) n xs ih e = absurd cc
step_length (Err f) rest n xs ih e = absurd cc

-- each word gives one
pub each_length : {A : Type 0} (read : List ℕ → Result A ScriptCode) (words : List (List ℕ)) (xs : List A) → each_of read words ≡ Ok xs → length xs ≡ length words
unfolding each_of
each_length read [] xs e = let s : [] ≡ xs = cc in ap length (sym s)
each_length read (word ∷ words) xs e = step_length (read word) (each_of read words) (length words) xs (λ ys h. each_length read words ys h) e
