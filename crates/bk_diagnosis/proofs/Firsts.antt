-- The first with an id that is rejected.
use Rattle.std.proofs.Common.{◌≡◌, ℕ, ◌+◌, ◌-◌, ◌<◌, Bool, true, false, cond, List, [], ◌∷◌, length, drop, get_or, Option, Some, None, refl, sym, ap, subst, ◌∙◌, ⊎_elim, arith}
use Rattle.std.specs.Prelude.{IfSome, IfNone}
use Rattle.std.specs.BTreeMap.{BTreeMap, get}
use Rattle.std.specs.List.{Contains, find}
use Rattle.std.specs.Ordering.{is_eq}
use Rattle.std.specs.Cmp.Lexicographic.{texts_ties}
use Rattle.std.proofs.lemmas.Bool.{both_ways}
use Rattle.std.proofs.lemmas.List.{drop_more}
use Rattle.std.proofs.lemmas.Slice.Eq.{bytes_eq-Decides}
use Rattle.bk_cert.proofs.Lists.{none_in_nil, contains_cases}
use Rattle.bk_evidence.specs.Collisions.{id_cmp}
use Rattle.bk_order.specs.declared.reject.Reject.{Reject}
use Rattle.bk_diagnosis.specs.Waiting.{IsFirstRejected, IsNotRejected}
use Rattle.bk_diagnosis.specs.private.Rejects.{AreFirsts, has_id, is_id}

-- ---- tests

is_own : (id : List ℕ) (own : Option (List ℕ)) → is_id id own ≡ true → own ≡ Some id
is_own id None e = absurd cc
is_own id (Some own) e = ap Some ((bytes_eq-Decides own id).0 (texts_ties own id ∙ e))

same_id : (one other : List ℕ) → Some one ≡ Some other → one ≡ other
same_id one other e = cc

own_is : (id : List ℕ) (own : Option (List ℕ)) → own ≡ Some id → is_id id own ≡ true
own_is id None e = absurd cc
own_is id (Some own) e = sym (texts_ties own id) ∙ (bytes_eq-Decides own id).1 (same_id own id e)

-- ---- the first

same_reject : (x r : Reject) → Some x ≡ Some r → x ≡ r
same_reject x r e = cc

module _ (id : List ℕ) where
  pub first_of : (rejects : List Reject) (r : Reject) → find (has_id id) rejects ≡ Some r → IsFirstRejected rejects id r
  first_of [] r e = absurd cc
  first_of (x ∷ xs) r e = by_test (has_id id x) refl e (λ k. first_of xs r k)
    where
      later : has_id id x ≡ false → IsFirstRejected xs id r → IsFirstRejected (x ∷ xs) id r
      later t h = record {
        before = x ∷ h.before;
        after = h.after;
        split = ap (λ (rs : List Reject). x ∷ rs) h.split;
        id_is = h.id_is;
        first = λ q u own. ⊎_elim
            (λ (e : x ≡ q). both_ways (has_id id x) t (own_is id x.id (ap (λ (y : Reject). y.id) e ∙ own)))
            (λ (l : Contains h.before q). h.first q l own)
            (contains_cases x h.before q u);
      }

      here : has_id id x ≡ true → IsFirstRejected (x ∷ xs) id x
      here t = record { before = []; after = xs; split = refl; id_is = is_own id x.id t; first = λ q u own. none_in_nil q u }

      by_test : (b : Bool) → has_id id x ≡ b → cond b (Some x) (find (has_id id) xs) ≡ Some r → (find (has_id id) xs ≡ Some r → IsFirstRejected xs id r) → IsFirstRejected (x ∷ xs) id r
      by_test true t k go = subst (IsFirstRejected (x ∷ xs) id) (same_reject x r k) (here t)
      by_test false t k go = later t (go k)

  pub none_of : (rejects : List Reject) → find (has_id id) rejects ≡ None → IsNotRejected rejects id
  none_of [] e r u own = none_in_nil r u
  none_of (x ∷ xs) e r u own = by_test (has_id id x) refl e (λ k l. none_of xs k r l own)
    where
      by_test : (b : Bool) → has_id id x ≡ b → cond b (Some x) (find (has_id id) xs) ≡ None → (find (has_id id) xs ≡ None → Contains xs r → ⊥) → ⊥
      by_test true t k go = absurd cc
      by_test false t k go = ⊎_elim
          (λ (i : x ≡ r). both_ways (has_id id x) t (own_is id x.id (ap (λ (y : Reject). y.id) i ∙ own)))
          (λ (l : Contains xs r). go k l)
          (contains_cases x xs r u)

  pub some_rejected : (rejects : List Reject) (found : Option Reject) → found ≡ find (has_id id) rejects → IfSome found (IsFirstRejected rejects id)
  some_rejected rejects None e = tt
  some_rejected rejects (Some r) e = first_of rejects r (sym e)

  pub none_rejected : (rejects : List Reject) (found : Option Reject) → found ≡ find (has_id id) rejects → IfNone found (IsNotRejected rejects id)
  none_rejected rejects None e = none_of rejects (sym e)
  none_rejected rejects (Some r) e = tt

-- ---- one more, from the last one on

dropped : (rejects : List Reject) (k : ℕ) (r d : Reject) → k < length rejects → r ≡ get_or rejects (length rejects - 1 - k) d → drop (length rejects - (k + 1)) rejects ≡ r ∷ drop (length rejects - k) rejects
dropped rejects k r d low here =
    let index : length rejects - 1 - k ≡ length rejects - (k + 1) = omega arith in
    let next : length rejects - (k + 1) + 1 ≡ length rejects - k = omega arith in
    drop_more rejects (length rejects - (k + 1)) d (omega arith)
    ∙ (λ i. sym (here ∙ ap (λ (j : ℕ). get_or rejects j d) index) i ∷ drop (next i) rejects)

module _ (rejects : List Reject) (k : ℕ) (r d : Reject) (low : k < length rejects) (here : r ≡ get_or rejects (length rejects - 1 - k) d) (old : BTreeMap (List ℕ) Reject) (are : AreFirsts (drop (length rejects - k) rejects) old) where
  with_first : (own : Option (List ℕ)) → r.id ≡ own → (q : List ℕ) → cond (is_id q own) (Some r) (get id_cmp old q) ≡ find (has_id q) (drop (length rejects - (k + 1)) rejects)
  with_first own e q =
      (λ i. cond (is_id q (sym e i)) (Some r) (are q i)) ∙ ap (find (has_id q)) (sym (dropped rejects k r d low here))

  pub firsts_more : (id : List ℕ) (new : BTreeMap (List ℕ) Reject) → r.id ≡ Some id → ((q : List ℕ) → get id_cmp new q ≡ cond (is_eq (id_cmp id q)) (Some r) (get id_cmp old q))
      → AreFirsts (drop (length rejects - (k + 1)) rejects) new
  firsts_more id new e put q = put q ∙ with_first (Some id) e q

  pub firsts_same : r.id ≡ None → AreFirsts (drop (length rejects - (k + 1)) rejects) old
  firsts_same e q = with_first None e q
