-- The least of what has a property, where one more comes to have it.
use Rattle.std.proofs.Common.{◌≡◌, ◌≢◌, ◌⊎◌, Option, Some, None, refl, sym, ap, subst, ◌∙◌, inl, inr, ⊎_elim, true≢false, false}
use Rattle.std.specs.Cmp.{IsTotalOrder}
use Rattle.std.specs.Ordering.{match_ordering, ordering_reverse, is_gt}
use Rattle.std.specs.declared.cmp.Ordering.{Ordering}
use Rattle.std.specs.declared.cmp.Ordering.TheVariants.{Less, Equal, Greater}
use Rattle.std.proofs.lemmas.Cmp.{tied_itself, upto}
use Rattle.bk_evidence.specs.private.Least.{least_of, lesser_of, IsLeastBy}

not_gt : (o : Ordering) → o ≢ Greater → is_gt o ≡ false
not_gt Less h = refl
not_gt Equal h = refl
not_gt Greater h = absurd (h refl)

not_greater : (o : Ordering) → is_gt o ≡ false → o ≢ Greater
not_greater Less h = λ e. cc
not_greater Equal h = λ e. cc
not_greater Greater h = absurd (true≢false h)

pub less_not_greater : (o : Ordering) → o ≡ Less → o ≢ Greater
less_not_greater o e = λ g. cc

pub equal_not_greater : (o : Ordering) → o ≡ Equal → o ≢ Greater
equal_not_greater o e = λ g. cc

less_not_equal : (o : Ordering) → o ≡ Less → o ≢ Equal
less_not_equal o e = λ g. cc

pub record IsExactOrder {K : Type 0} (R : K → K → Ordering) : Type 0 where
  pub total : IsTotalOrder R
  pub exact : (x y : K) → R x y ≡ Equal → x ≡ y

module _ {K : Type 0} {R : K → K → Ordering} (order : IsExactOrder R) where
  pub itself : (x : K) → R x x ≢ Greater
  itself x = equal_not_greater (R x x) (tied_itself order.total x)

  pub at_most_on : (x y z : K) → R x y ≢ Greater → R y z ≢ Greater → R x z ≢ Greater
  at_most_on x y z h k = not_greater (R x z) (upto order.total x y z (not_gt (R x y) h) (not_gt (R y z) k))

  pub flipped : (x y : K) → R x y ≡ Greater → R y x ≡ Less
  flipped x y e = order.total.antisymm y x ∙ ap ordering_reverse e

  pub less_apart : (x y : K) → R x y ≡ Less → x ≢ y
  less_apart x y e = λ (p : x ≡ y). less_not_equal (R x y) e (subst (λ z. R x z ≡ Equal) p (tied_itself order.total x))

  -- at most and not the same is less
  pub less_from : (x y : K) → R x y ≢ Greater → x ≢ y → R x y ≡ Less
  less_from x y h apart = by (R x y) refl
    where
      by : (o : Ordering) → R x y ≡ o → R x y ≡ Less
      by Less e = e
      by Equal e = absurd (apart (order.exact x y e))
      by Greater e = absurd (h e)

  -- each at most the other is the same
  pub both_at_most : (x y : K) → R x y ≢ Greater → R y x ≢ Greater → x ≡ y
  both_at_most x y h k = by (R x y) refl
    where
      by : (o : Ordering) → R x y ≡ o → x ≡ y
      by Less e = absurd (k (order.total.antisymm y x ∙ ap ordering_reverse e))
      by Equal e = order.exact x y e
      by Greater e = absurd (h e)

  pub same_or_not : (x y : K) → (x ≡ y) ⊎ (x ≢ y)
  same_or_not x y = by (R x y) refl
    where
      by : (o : Ordering) → R x y ≡ o → (x ≡ y) ⊎ (x ≢ y)
      by Less e = inr (less_apart x y e)
      by Equal e = inl (order.exact x y e)
      by Greater e = inr (λ p. less_apart y x (flipped x y e) (sym p))

  -- the same things have the property
  pub least_same : (P Q : K → Type 0) (o : Option K) → ((x : K) → P x → Q x) → ((x : K) → Q x → P x) → IsLeastBy R P o → IsLeastBy R Q o
  least_same P Q None more less h = λ y q. h y (less y q)
  least_same P Q (Some x) more less h = (more x h.0, λ y q. h.1 y (less y q))

  -- one more thing has it
  pub least_step : (P Q : K → Type 0) (o : Option K) (k : K) → Q k → ((x : K) → P x → Q x) → ((x : K) → Q x → P x ⊎ (x ≡ k))
      → IsLeastBy R P o → IsLeastBy R Q (Some (least_of R o k))
  least_step P Q None k here more less h = (here, λ y q. ⊎_elim (λ (p : P y). absurd (h y p)) (λ (e : y ≡ k). subst (λ z. R k z ≢ Greater) (sym e) (itself k)) (less y q))
  least_step P Q (Some x) k here more less h = by (R k x) refl
    where
      by : (o : Ordering) → R k x ≡ o → IsLeastBy R Q (Some (match_ordering o k x x))
      by Less e = (here, λ y q. ⊎_elim (λ (p : P y). at_most_on k x y (less_not_greater (R k x) e) (h.1 y p)) (λ (s : y ≡ k). subst (λ z. R k z ≢ Greater) (sym s) (itself k)) (less y q))
      by Equal e = (more x h.0, λ y q. ⊎_elim (λ (p : P y). h.1 y p) (λ (s : y ≡ k). subst (λ z. R x z ≢ Greater) (sym (s ∙ order.exact k x e)) (itself x)) (less y q))
      by Greater e = (more x h.0, λ y q. ⊎_elim (λ (p : P y). h.1 y p) (λ (s : y ≡ k). subst (λ z. R x z ≢ Greater) (sym s) (less_not_greater (R x k) (flipped k x e))) (less y q))

  -- what is least is one
  pub least_is_one : (P : K → Type 0) (x y : K) → IsLeastBy R P (Some x) → IsLeastBy R P (Some y) → x ≡ y
  least_is_one P x y h k = both_at_most x y (h.1 y k.0) (k.1 x h.0)

  -- the least of two properties
  pub least_both : (P Q : K → Type 0) (o p : Option K) → IsLeastBy R P o → IsLeastBy R Q p → IsLeastBy R (λ x. P x ⊎ Q x) (lesser_of R o p)
  least_both P Q None None h k = λ y. λ e. ⊎_elim (h y) (k y) e
  least_both P Q (Some x) None h k = (inl h.0, λ y e. ⊎_elim (h.1 y) (λ (q : Q y). absurd (k y q)) e)
  least_both P Q None (Some z) h k = (inr k.0, λ y e. ⊎_elim (λ (p : P y). absurd (h y p)) (k.1 y) e)
  least_both P Q (Some x) (Some z) h k = by (R z x) refl
    where
      by : (o : Ordering) → R z x ≡ o → IsLeastBy R (λ y. P y ⊎ Q y) (Some (match_ordering o z x x))
      by Less e = (inr k.0, λ y t. ⊎_elim (λ (p : P y). at_most_on z x y (less_not_greater (R z x) e) (h.1 y p)) (k.1 y) t)
      by Equal e = (inl h.0, λ y t. ⊎_elim (h.1 y) (λ (q : Q y). subst (λ w. R w y ≢ Greater) (order.exact z x e) (k.1 y q)) t)
      by Greater e = (inl h.0, λ y t. ⊎_elim (h.1 y) (λ (q : Q y). at_most_on x z y (less_not_greater (R x z) (flipped z x e)) (k.1 y q)) t)
