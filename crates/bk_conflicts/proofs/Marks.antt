-- What is found once, by stamps.
use Rattle.std.proofs.Common.{◌≡◌, ◌≢◌, ℕ, ◌+◌, ◌<◌, ◌≤◌, ◌==◌, ◌||◌, List, [], ◌∷◌, ◌++◌, length, get_or, set, Bool, true, false, refl, sym, ap, ◌∙◌, subst, arith, append_assoc, append-nil, length-set, get_or-set_same, get_or-set_other, eq-eqb, ne_eqb}
use mathlib.Core.Logic.{dite}
use native.Mathlib.Decide.{ℕ_discrete}
use Rattle.std.proofs.lemmas.List.Folds.{list_any-append}
use Rattle.std.proofs.lemmas.Bool.{or_left, or_right, both_ways, cond-true, cond-false}
use Rattle.bk_conflicts.specs.private.Trail.{none, WriterIs, has, with_once, all_once, IsMarked, IsRow}

pub has_push : (p x : ℕ) (xs : List ℕ) → has p (xs ++ x ∷ []) ≡ (has p xs || ((x == p) || false))
unfolding has
has_push p x xs = list_any-append (λ y. y == p) xs (x ∷ [])

push_self : (x : ℕ) (xs : List ℕ) → has x (xs ++ x ∷ []) ≡ true
push_self x xs = has_push x x xs ∙ or_right (has x xs) ((x == x) || false) (or_left (x == x) false (eq-eqb x x refl))

or_false : (b c : Bool) → c ≡ false → (b || (c || false)) ≡ b
or_false true c e = refl
or_false false true e = absurd (both_ways true e refl)
or_false false false e = refl

push_else : (p x : ℕ) (xs : List ℕ) → p ≢ x → has p (xs ++ x ∷ []) ≡ has p xs
push_else p x xs n = has_push p x xs ∙ or_false (has p xs) (x == p) (ne_eqb x p (λ e. n (sym e)))

-- found before
pub mark_known : (mark x : ℕ) (stamp found : List ℕ) → x < length stamp → IsMarked mark stamp found → get_or stamp x 0 ≡ mark → found ≡ with_once found x
mark_known mark x stamp found l h e = sym (cond-true (has x found) found (found ++ x ∷ []) (sym (h.marks x l) ∙ eq-eqb (get_or stamp x 0) mark e))

-- found now
pub mark_new : (mark x : ℕ) (stamp found : List ℕ) → x < length stamp → IsMarked mark stamp found → get_or stamp x 0 ≢ mark → IsMarked mark (set stamp x mark) (found ++ x ∷ []) × (found ++ x ∷ [] ≡ with_once found x)
mark_new mark x stamp found l h n = (
  record {
    marks = λ p m. dite (ℕ_discrete p x)
        (λ is. subst (λ (k : ℕ). (get_or (set stamp x mark) k 0 == mark) ≡ has k (found ++ x ∷ [])) (sym is) (eq-eqb _ _ (get_or-set_same stamp x mark 0 l) ∙ sym (push_self x found)))
        (λ other. ap (λ (k : ℕ). k == mark) (get_or-set_other stamp x p mark 0 other) ∙ (h.marks p (let e = length-set stamp x mark in omega arith) ∙ sym (push_else p x found other)));
    low = λ p m. dite (ℕ_discrete p x)
        (λ is. subst (λ (k : ℕ). get_or (set stamp x mark) k 0 ≤ mark) (sym is) (let e = get_or-set_same stamp x mark 0 l in omega arith))
        (λ other. let e = get_or-set_other stamp x p mark 0 other in let b = h.low p (let e = length-set stamp x mark in omega arith) in omega arith);
  },
  sym (cond-false (has x found) found (found ++ x ∷ []) (sym (h.marks x l) ∙ ne_eqb (get_or stamp x 0) mark n)),
)

-- a row in which a place is already
pub row_known : (mark x : ℕ) (before row stamp found : List ℕ) → x < length stamp → IsRow mark before row stamp found → get_or stamp x 0 ≡ mark → IsRow mark before (with_once row x) stamp found
row_known mark x before row stamp found l h e = subst (λ (xs : List ℕ). IsRow mark before xs stamp found) (mark_known mark x stamp row l h.marked e) h

-- and one to which it is added
pub row_new : (mark x : ℕ) (before row stamp found : List ℕ) → x < length stamp → IsRow mark before row stamp found → get_or stamp x 0 ≢ mark → IsRow mark before (with_once row x) (set stamp x mark) (found ++ x ∷ [])
row_new mark x before row stamp found l h n = let m = mark_new mark x stamp row l h.marked n in
    subst (λ (xs : List ℕ). IsRow mark before xs (set stamp x mark) (found ++ x ∷ [])) m.1 (record { lies = ap (λ (xs : List ℕ). xs ++ x ∷ []) h.lies ∙ append_assoc before row (x ∷ []); marked = m.0 })

-- a new mark: nothing was found
pub mark_none : (q : ℕ) (stamp : List ℕ) → ((p : ℕ) → p < length stamp → get_or stamp p 0 ≤ q) → IsMarked (q + 1) stamp []
unfolding has
mark_none q stamp low = record { marks = λ p l. ne_eqb (get_or stamp p 0) (q + 1) (λ e. let a = low p l in absurd (omega arith)); low = λ p l. let a = low p l in omega arith }

-- nor is there anything in a new row
pub row_none : (q : ℕ) (stamp before : List ℕ) → ((p : ℕ) → p < length stamp → get_or stamp p 0 ≤ q) → IsRow (q + 1) before [] stamp before
row_none q stamp before low = record { lies = sym (append-nil before); marked = mark_none q stamp low }

pub once_more : (xs ys zs : List ℕ) → all_once xs (ys ++ zs) ≡ all_once (all_once xs ys) zs
unfolding all_once
once_more xs [] zs = refl
once_more xs (y ∷ ys) zs = once_more (with_once xs y) ys zs

pub writer_some : (w : ℕ) (ws found : List ℕ) → w ≢ none → WriterIs w ws → with_once found w ≡ all_once found ws
unfolding all_once
writer_some w [] found n h = absurd (n h)
writer_some w (x ∷ xs) found n h = ap (with_once found) h.0 ∙ (rest xs h.2)
  where
    rest : (ys : List ℕ) → ys ≡ [] → with_once found x ≡ all_once (with_once found x) ys
    rest [] e = refl
    rest (y ∷ ys) e = absurd (let f : y ∷ ys ≡ [] = e in cc)

pub writer_none : (w : ℕ) (ws found : List ℕ) → w ≡ none → WriterIs w ws → found ≡ all_once found ws
unfolding all_once
writer_none w [] found e h = refl
writer_none w (x ∷ xs) found e h = absurd (h.1 e)
