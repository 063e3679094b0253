-- Which pieces are empty, one piece after another.
use Rattle.std.proofs.Common.{◌≡◌, ℕ, ◌+◌, ◌<◌, ◌≤◌, ◌==◌, ◌&&◌, true, false, List, [], length, get_or, drop, map, sym, ap, ◌∙◌, arith, Bor}
use Rattle.std.specs.Prelude.{not}
use Rattle.std.proofs.lemmas.List.{at_drop_more, at_drop_all}
use Rattle.bk_script.proofs.Each.{word_at, count}
use Rattle.bk_script.specs.Words.{are_filled}

pub lent_filled : (items : List (Bor (List ℕ))) (i : ℕ) (d : Bor (List ℕ)) → i < length items → false ≡ (length (get_or items i d).now == 0)
    → are_filled (drop i (map (λ p. p.now) items)) ≡ are_filled (map (λ p. p.now) items)
    → are_filled (drop (i + 1) (map (λ p. p.now) items)) ≡ are_filled (map (λ p. p.now) items)
lent_filled items i d l e inv =
    let step = at_drop_more are_filled (map (λ p. p.now) items) i [] (omega (arith, count items, l))
    ∙ ap (λ x. not (length x == 0) && are_filled (drop (i + 1) (map (λ p. p.now) items))) (word_at items i d l) in
    sym (step ∙ ap (λ b. not b && are_filled (drop (i + 1) (map (λ p. p.now) items))) (sym e)) ∙ inv

pub lent_empty : (items : List (Bor (List ℕ))) (i : ℕ) (d : Bor (List ℕ)) → i < length items → true ≡ (length (get_or items i d).now == 0)
    → are_filled (drop i (map (λ p. p.now) items)) ≡ are_filled (map (λ p. p.now) items) → false ≡ are_filled (map (λ p. p.now) items)
lent_empty items i d l e inv =
    let step = at_drop_more are_filled (map (λ p. p.now) items) i [] (omega (arith, count items, l))
    ∙ ap (λ x. not (length x == 0) && are_filled (drop (i + 1) (map (λ p. p.now) items))) (word_at items i d l) in
    sym (step ∙ ap (λ b. not b && are_filled (drop (i + 1) (map (λ p. p.now) items))) (sym e)) ∙ inv

pub lent_all_filled : (items : List (Bor (List ℕ))) (i : ℕ) → length items ≤ i
    → are_filled (drop i (map (λ p. p.now) items)) ≡ are_filled (map (λ p. p.now) items) → true ≡ are_filled (map (λ p. p.now) items)
lent_all_filled items i l inv = sym (at_drop_all are_filled (map (λ p. p.now) items) i (omega (arith, count items, l))) ∙ inv
