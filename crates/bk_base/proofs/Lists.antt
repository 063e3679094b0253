-- Reading the items of a list one after the other, as a loop does.
use Rattle.std.proofs.Common.{◌≡◌, ℕ, suc, ◌-◌, ◌+◌, ◌≤◌, ◌<◌, List, [], ◌∷◌, ◌++◌, Option, Some, None, refl, sym, ap, ◌∙◌, append_assoc, arith}
use Rattle.std.proofs.lemmas.List.{append-nil}
use Rattle.bk_base.specs.Numbers.{◌>>=◌, list_at}

-- what was read before, and what is still read
abbrev pub with_front : {A : Type 0} → List A → Option (List A × List ℕ) → Option (List A × List ℕ)
with_front front read = read >>= λ x. Some (front ++ x.0, x.1)

regroup : {A : Type 0} (front : List A) (n : A) (read : Option (List A × List ℕ)) → with_front front (read >>= λ x. Some (n ∷ x.0, x.1)) ≡ with_front (front ++ n ∷ []) read
regroup {A = A} front n (Some x) = ap (λ (ns : List A). Some (ns, x.1)) (sym (append_assoc front (n ∷ []) x.0))
regroup front n None = refl

-- one item more was found
pub list_goes_on : {A : Type 0} (item : List ℕ → Option (A × List ℕ)) (front : List A) (count i : ℕ) (bytes : List ℕ) (a : A) (after : List ℕ) (total : Option (List A × List ℕ))
    → i < count → Some (a, after) ≡ item bytes → with_front front (list_at item (count - i) bytes) ≡ total → with_front (front ++ a ∷ []) (list_at item (count - (i + 1)) after) ≡ total
unfolding list_at
list_goes_on item front count i bytes a after total lt h so_far =
    let k : count - i ≡ suc (count - (i + 1)) = omega arith in
    let one : with_front front (list_at item (count - i) bytes) ≡ with_front (front ++ a ∷ []) (list_at item (count - (i + 1)) after) = rw (k, ← h) (regroup front a (list_at item (count - (i + 1)) after)) in
    sym one ∙ so_far

-- an item was not found
pub list_ends : {A : Type 0} (item : List ℕ → Option (A × List ℕ)) (front : List A) (count i : ℕ) (bytes : List ℕ) (total : Option (List A × List ℕ))
    → i < count → None ≡ item bytes → with_front front (list_at item (count - i) bytes) ≡ total → None ≡ total
unfolding list_at
list_ends item front count i bytes total lt h so_far =
    let k : count - i ≡ suc (count - (i + 1)) = omega arith in
    let one : with_front front (list_at item (count - i) bytes) ≡ None = rw (k, ← h) refl in
    sym one ∙ so_far

-- all items were found
pub list_done : {A : Type 0} (item : List ℕ → Option (A × List ℕ)) (front : List A) (count i : ℕ) (bytes : List ℕ) (total : Option (List A × List ℕ))
    → count ≤ i → with_front front (list_at item (count - i) bytes) ≡ total → Some (front, bytes) ≡ total
unfolding list_at
list_done {A = A} item front count i bytes total le so_far =
    let k : count - i ≡ 0 = omega arith in
    let one : with_front front (list_at item (count - i) bytes) ≡ Some (front, bytes) = rw k (ap (λ (ns : List A). Some (ns, bytes)) (append-nil front)) in
    sym one ∙ so_far
