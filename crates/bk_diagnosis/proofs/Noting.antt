-- Names that are listed, where entries are gone through.
use Rattle.std.proofs.Common.{◌≡◌, ◌⊎◌, ◌<◌, ◌+◌, ℕ, Bool, true, false, length, take, get_or, List, [], ◌∷◌, ◌++◌, sym, ap, subst, ◌∙◌, inl, inr, ⊎_elim}
use Rattle.std.specs.List.{Contains}
use Rattle.std.specs.Prelude.{◌↔◌}
use Rattle.std.proofs.lemmas.Bool.{true≢false}
use Rattle.std.proofs.lemmas.List.{take_more}
use Rattle.std.proofs.lemmas.List.Elements.{Contains-append_left, Contains-push, Contains-push_cases}
use Rattle.bk_diagnosis.specs.private.Colliding.{HasSome, ListsSome}

module _ {E : Type 0} (name : E → List ℕ) (P : E → Type 0) where
  some_more : (xs : List E) (x : E) (id : List ℕ) → HasSome name P xs id → HasSome name P (xs ++ x ∷ []) id
  some_more xs x id (e, there, is, p) = (e, Contains-append_left xs (x ∷ []) e there, is, p)

  some_less : (xs : List E) (x : E) (id : List ℕ) → HasSome name P (xs ++ x ∷ []) id → HasSome name P xs id ⊎ ((name x ≡ id) × P x)
  some_less xs x id (e, there, is, p) = ⊎_elim
      (λ (a : Contains xs e). inl (e, a, is, p))
      (λ (same : x ≡ e). inr (ap name same ∙ is, subst P (sym same) p))
      (Contains-push_cases xs x e there)

  -- the next one has P: its name is added
  pub lists_yes : (xs : List E) (x : E) (old mid new : List (List ℕ)) → ListsSome name P xs old mid → P x → new ≡ mid ++ name x ∷ []
      → ListsSome name P (xs ++ x ∷ []) old new
  lists_yes xs x old mid new h p e id = (
    λ t. ⊎_elim
        (λ (a : Contains mid id). ⊎_elim (λ (b : Contains old id). inl b) (λ (s : HasSome name P xs id). inr (some_more xs x id s)) ((h id).0 a))
        (λ (is : name x ≡ id). inr (x, Contains-push xs x, is, p))
        (Contains-push_cases mid (name x) id (subst (λ (ids : List (List ℕ)). Contains ids id) e t)),
    λ t. subst (λ (ids : List (List ℕ)). Contains ids id) (sym e) (⊎_elim
        (λ (b : Contains old id). Contains-append_left mid (name x ∷ []) id ((h id).1 (inl b)))
        (λ (s : HasSome name P (xs ++ x ∷ []) id). ⊎_elim
        (λ (low : HasSome name P xs id). Contains-append_left mid (name x ∷ []) id ((h id).1 (inr low)))
        (λ (last : (name x ≡ id) × P x). subst (Contains (mid ++ name x ∷ [])) last.0 (Contains-push mid (name x)))
        (some_less xs x id s))
        t),
  )

  -- it has not: nothing is added
  pub lists_no : (xs : List E) (x : E) (old mid : List (List ℕ)) → ListsSome name P xs old mid → (P x → ⊥)
      → ListsSome name P (xs ++ x ∷ []) old mid
  lists_no xs x old mid h none id = (
    λ t. ⊎_elim (λ (b : Contains old id). inl b) (λ (s : HasSome name P xs id). inr (some_more xs x id s)) ((h id).0 t),
    λ t. ⊎_elim
        (λ (b : Contains old id). (h id).1 (inl b))
        (λ (s : HasSome name P (xs ++ x ∷ []) id). ⊎_elim
        (λ (low : HasSome name P xs id). (h id).1 (inr low))
        (λ (last : (name x ≡ id) × P x). absurd (none last.1))
        (some_less xs x id s))
        t,
  )

  -- one more of a list that is gone through
  next_is : (list : List E) (i : ℕ) (x : E) → i < length list → x ≡ get_or list i x → take i list ++ x ∷ [] ≡ take (i + 1) list
  next_is list i x low is = ap (λ (y : E). take i list ++ y ∷ []) is ∙ sym (take_more list i x low)

  pub next_yes : (list : List E) (i : ℕ) (x : E) (old mid new : List (List ℕ)) → i < length list → x ≡ get_or list i x
      → ListsSome name P (take i list) old mid → P x → new ≡ mid ++ name x ∷ [] → ListsSome name P (take (i + 1) list) old new
  next_yes list i x old mid new low is h p e =
      subst (λ (xs : List E). ListsSome name P xs old new) (next_is list i x low is) (lists_yes (take i list) x old mid new h p e)

  pub next_no : (list : List E) (i : ℕ) (x : E) (old mid : List (List ℕ)) → i < length list → x ≡ get_or list i x
      → ListsSome name P (take i list) old mid → (P x → ⊥) → ListsSome name P (take (i + 1) list) old mid
  next_no list i x old mid low is h none =
      subst (λ (xs : List E). ListsSome name P xs old mid) (next_is list i x low is) (lists_no (take i list) x old mid h none)

-- a test that fails
pub fails : {P : Type 0} (r : Bool) → (r ≡ true) ↔ P → r ≡ false → P → ⊥
fails r h f p = true≢false (sym (h.1 p) ∙ f)
