-- Where the pass begins, and one row more.
use Rattle.std.proofs.Common.{◌≡◌, ℕ, suc, ◌+◌, ◌<◌, List, [], ◌∷◌, ◌++◌, length, get_or, replicate, sym, ap, ◌∙◌, subst, arith, length-append}
use mathlib.Core.Logic.{dite}
use native.Mathlib.Decide.{ℕ_discrete}
use Rattle.std.proofs.lemmas.List.{get_or_append_left, get_or-append-add, get_or-replicate, length-replicate}
use Rattle.bk_conflicts.specs.declared.trail.Reader.{Reader}
use Rattle.bk_conflicts.specs.declared.trail.Trail.{Trail}
use Rattle.bk_conflicts.specs.private.Accesses.{Places}
use Rattle.bk_conflicts.specs.private.Rows.{laid, IsRows}
use Rattle.bk_conflicts.specs.private.Trail.{none, newest_by, Linked, IsTrace, IsTrail, Stands, readers, last_writer}
use Rattle.bk_conflicts.proofs.Traces.{writer_low}

pub rows_none : {A : Type 0} (f : ℕ → List A) (start : List ℕ) (items : List A) → start ≡ 0 ∷ [] → items ≡ [] → IsRows f 0 start items
unfolding laid
rows_none f start items a b = record { long = ap length a; starts = λ q l. let e : 0 ≡ q = omega arith in subst (λ (k : ℕ). get_or start k 0 ≡ length (laid f k)) e (ap (λ (xs : List ℕ). get_or xs 0 0) a); all = b }

pub rows_more : {A : Type 0} (f : ℕ → List A) (n : ℕ) (start : List ℕ) (items row : List A) (end : ℕ) → IsRows f n start items → row ≡ f n → end ≡ length (items ++ row) → IsRows f (n + 1) (start ++ end ∷ []) (items ++ row)
unfolding laid
rows_more f n start items row end r e last =
    let whole : items ++ row ≡ laid f (suc n) = λ i. r.all i ++ e i in
    subst (λ (k : ℕ). IsRows f k (start ++ end ∷ []) (items ++ row)) (let z : suc n ≡ n + 1 = omega arith in z) (record {
      long = let a = length-append start (end ∷ []) in let b = r.long in omega arith;
      starts = λ q l. dite (ℕ_discrete q (suc n))
          (λ is. subst (λ (k : ℕ). get_or (start ++ end ∷ []) k 0 ≡ length (laid f k)) (sym is)
          (ap (λ (k : ℕ). get_or (start ++ end ∷ []) k 0) (let b = r.long in let z : suc n ≡ length start + 0 = omega arith in z) ∙ (get_or-append-add start (end ∷ []) 0 0 ∙ (last ∙ ap length whole))))
          (λ other. get_or_append_left start (end ∷ []) 0 q (let b = r.long in omega arith) ∙ r.starts q (omega arith));
      all = whole;
    })

nothing : (readers : List Reader) (last : ℕ) → last ≡ none → 0 < length readers → IsTrace readers last [] []
unfolding Linked
nothing readers last e some = let z : newest_by last ≡ 0 = omega arith in record { within = let y = z in omega arith; linked = z; writer = writer_low readers last z ∙ e }

at_slot : (n : ℕ) (last : List ℕ) → last ≡ replicate n none → (k : ℕ) → k < n → get_or last k 0 ≡ none
at_slot n last a k l = ap (λ (xs : List ℕ). get_or xs k 0) a ∙ get_or-replicate n k none 0 l

pub stands_none : (t : Places) (n : ℕ) (r : Trail) → r.last.items ≡ replicate n none → length r.readers.items ≡ 1 → Stands t 0 r
unfolding readers last_writer
stands_none t n r a b = λ k l. let m : k < n = let c = ap length a in let d : length (replicate {A = ℕ} n none) ≡ n = length-replicate n none in omega arith in
    nothing r.readers.items (get_or r.last.items k 0) (at_slot n r.last.items a k m) (omega arith)

pub trail_none : (n places : ℕ) (r : Trail) → r.last.items ≡ replicate n none → length r.readers.items ≡ 1 → IsTrail n places r
trail_none n places r a b = record {
  many = ap length a ∙ length-replicate n none;
  links = record { some = omega arith; back = λ i l m. absurd (omega arith); low = λ i l m. absurd (omega arith) };
  heads = λ k l. let e = at_slot n r.last.items a k l in omega arith;
  wrote = λ k l other. let e = at_slot n r.last.items a k l in let z : newest_by (get_or r.last.items k 0) ≡ 0 = omega arith in absurd (other (writer_low r.readers.items (get_or r.last.items k 0) z ∙ e));
}
