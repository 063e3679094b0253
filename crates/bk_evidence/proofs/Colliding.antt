-- Collisions where one more entry is stored.
use Rattle.std.proofs.Common.{◌≡◌, ◌≢◌, ◌⊎◌, ℕ, List, [], ◌∷◌, ◌++◌, Option, Some, None, refl, sym, ap, subst, ◌∙◌, inl, inr, ⊎_elim, arith}
use Rattle.std.specs.Prelude.{MatchOption}
use Rattle.std.specs.List.{Contains}
use Rattle.std.proofs.lemmas.Cmp.{nat_list_cmp_total}
use Rattle.std.proofs.lemmas.Map.Lookups.{exact_bytes}
use Rattle.std.proofs.lemmas.List.Elements.{Contains-append_left, Contains-push, Contains-push_cases}
use Rattle.bk_evidence.specs.Collisions.{id_cmp, CollidesBy, IsCollisionBy, NoCollisionBy}
use Rattle.bk_evidence.specs.private.Least.{least_of, IsLeastBy}
use Rattle.bk_evidence.proofs.Lesser.{IsExactOrder, least_same, least_step}

pub id_order : IsExactOrder id_cmp
id_order = record { total = nat_list_cmp_total; exact = exact_bytes }

module _ {E : Type 0} (name : E → List ℕ) where
  -- an entry of the first list is also in the longer one
  pub collides_more : (xs ys : List E) → ((e : E) → Contains xs e → Contains ys e) → (id : List ℕ) → CollidesBy name xs id → CollidesBy name ys id
  collides_more xs ys more id h = record {
    one = h.one;
    other = h.other;
    has_one = more h.one h.has_one;
    has_other = more h.other h.has_other;
    names_one = h.names_one;
    names_other = h.names_other;
    apart = h.apart;
  }

  -- an entry that is held has this name
  abbrev pub HasName : List E → List ℕ → Type 0
  HasName xs id = (e : E) × Contains xs e × (name e ≡ id)

  -- what collides with one more entry collided before, or has that entry's name
  pub collides_less : (xs : List E) (x : E) (id : List ℕ) → CollidesBy name (xs ++ x ∷ []) id
      → CollidesBy name xs id ⊎ ((id ≡ name x) × HasName xs (name x))
  collides_less xs x id h = ⊎_elim
      (λ (a : Contains xs h.one). ⊎_elim
      (λ (b : Contains xs h.other). inl (record { one = h.one; other = h.other; has_one = a; has_other = b; names_one = h.names_one; names_other = h.names_other; apart = h.apart }))
      (λ (e : x ≡ h.other). let is : name x ≡ id = ap name e ∙ h.names_other in inr (sym is, (h.one, a, h.names_one ∙ sym is)))
      (Contains-push_cases xs x h.other h.has_other))
      (λ (e : x ≡ h.one). let is : name x ≡ id = ap name e ∙ h.names_one in ⊎_elim
      (λ (b : Contains xs h.other). inr (sym is, (h.other, b, h.names_other ∙ sym is)))
      (λ (f : x ≡ h.other). absurd (h.apart (sym e ∙ f)))
      (Contains-push_cases xs x h.other h.has_other))
      (Contains-push_cases xs x h.one h.has_one)

  push_more : (xs : List E) (x : E) (e : E) → Contains xs e → Contains (xs ++ x ∷ []) e
  push_more xs x e h = Contains-append_left xs (x ∷ []) e h

  -- an entry with a new name collides with nothing
  pub least_new : (xs : List E) (x : E) (o : Option (List ℕ)) → ((e : E) → Contains xs e → name e ≢ name x)
      → IsLeastBy id_cmp (CollidesBy name xs) o → IsLeastBy id_cmp (CollidesBy name (xs ++ x ∷ [])) o
  least_new xs x o new h = least_same id_order (CollidesBy name xs) (CollidesBy name (xs ++ x ∷ [])) o
      (collides_more xs (xs ++ x ∷ []) (push_more xs x))
      (λ id k. ⊎_elim (λ (old : CollidesBy name xs id). old) (λ (other : (id ≡ name x) × HasName xs (name x)). absurd (new other.1.0 other.1.1 other.1.2)) (collides_less xs x id k))
      h

  -- a further entry under a name that is held
  pub least_colliding : (xs : List E) (x : E) (o : Option (List ℕ)) → HasName xs (name x) → (Contains xs x → ⊥)
      → IsLeastBy id_cmp (CollidesBy name xs) o → IsLeastBy id_cmp (CollidesBy name (xs ++ x ∷ [])) (Some (least_of id_cmp o (name x)))
  least_colliding xs x o (e, there, is) absent h = least_step id_order (CollidesBy name xs) (CollidesBy name (xs ++ x ∷ [])) o (name x)
      (record { one = e; other = x; has_one = push_more xs x e there; has_other = Contains-push xs x; names_one = is; names_other = refl; apart = λ p. absent (subst (Contains xs) p there) })
      (collides_more xs (xs ++ x ∷ []) (push_more xs x))
      (λ id k. ⊎_elim (λ (old : CollidesBy name xs id). inl old) (λ (other : (id ≡ name x) × HasName xs (name x)). inr other.0) (collides_less xs x id k))
      h

  pub least_none : IsLeastBy id_cmp (CollidesBy name []) None
  least_none id h = let some = h.has_one.1 in absurd (omega arith)

  -- what is kept is the collision, or one name is of one entry
  pub told : ((c d : E) → name c ≡ name d → (c ≡ d) ⊎ (c ≢ d)) → (xs : List E) (o : Option (List ℕ))
      → IsLeastBy id_cmp (CollidesBy name xs) o → MatchOption o (NoCollisionBy name xs) (IsCollisionBy name xs)
  told same xs None h = λ c d a b e. ⊎_elim (λ (p : c ≡ d). p)
      (λ (apart : c ≢ d). absurd (h (name d) (record { one = c; other = d; has_one = a; has_other = b; names_one = e; names_other = refl; apart = apart })))
      (same c d e)
  told same xs (Some id) h = record { collides = h.0; least = h.1 }
