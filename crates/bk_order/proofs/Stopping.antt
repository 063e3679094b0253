-- The stop of what is held.
use Rattle.std.proofs.Common.{◌≡◌, ℕ, List, Option, Some, None, refl, sym, subst, ◌∙◌, ◌≢◌, ◌⊎◌, inl, inr, ⊎_elim}
use Rattle.std.specs.Prelude.{MatchOption}
use Rattle.bk_cert.specs.Node.{Node}
use Rattle.bk_evidence.specs.Batches.{Batch, AreApart, IsBatchCollision}
use Rattle.bk_evidence.specs.Collisions.{id_cmp, CollidesBy, IsCollisionBy, NoCollisionBy}
use Rattle.bk_evidence.specs.Held.{Collides, IsCollision, NoCollision}
use Rattle.bk_evidence.specs.private.Least.{IsLeastBy}
use Rattle.std.specs.Ordering.{match_ordering}
use Rattle.std.specs.declared.cmp.Ordering.{Ordering}
use Rattle.std.specs.declared.cmp.Ordering.TheVariants.{Less, Equal, Greater}
use Rattle.bk_evidence.proofs.Lesser.{at_most_on, flipped, less_not_greater}
use Rattle.bk_evidence.proofs.Colliding.{id_order}
use Rattle.bk_order.specs.Stops.{CollidesIn, IsLeastCollision}
use Rattle.bk_order.specs.private.Lesser.{lesser_of}

pub none_collides : {E : Type 0} (name : E → List ℕ) (held : List E) → NoCollisionBy name held → (id : List ℕ) → CollidesBy name held id → ⊥
none_collides name held none id c = c.apart (none c.one c.other c.has_one c.has_other (c.names_one ∙ sym c.names_other))

to_least : {E : Type 0} (name : E → List ℕ) (held : List E) (o : Option (List ℕ)) → MatchOption o (NoCollisionBy name held) (IsCollisionBy name held) → IsLeastBy id_cmp (CollidesBy name held) o
to_least name held None none = none_collides name held none
to_least name held (Some id) h = (h.collides, h.least)

module _ (P Q : List ℕ → Type 0) where
  both_least : (a b : Option (List ℕ)) → IsLeastBy id_cmp P a → IsLeastBy id_cmp Q b → IsLeastBy id_cmp (λ id. P id ⊎ Q id) (lesser_of a b)
  both_least None None h g = λ y. ⊎_elim (h y) (g y)
  both_least None (Some d) h g = (inr g.0, λ y. ⊎_elim (λ (p : P y). absurd (h y p)) (λ (q : Q y). g.1 y q))
  both_least (Some x) None h g = (inl h.0, λ y. ⊎_elim (λ (p : P y). h.1 y p) (λ (q : Q y). absurd (g y q)))
  both_least (Some x) (Some d) h g = by (id_cmp d x) refl
    where
      by : (o : Ordering) → id_cmp d x ≡ o → IsLeastBy id_cmp (λ id. P id ⊎ Q id) (Some (match_ordering o d x x))
      by Less e = (inr g.0, λ y. ⊎_elim (λ (p : P y). at_most_on id_order d x y (less_not_greater (id_cmp d x) e) (h.1 y p)) (λ (q : Q y). g.1 y q))
      by Equal e = (inl h.0, λ y. ⊎_elim (λ (p : P y). h.1 y p) (λ (q : Q y). subst (λ (z : List ℕ). id_cmp z y ≢ Greater) (id_order.exact d x e) (g.1 y q)))
      by Greater e = (inl h.0, λ y. ⊎_elim (λ (p : P y). h.1 y p) (λ (q : Q y). at_most_on id_order x d y (less_not_greater (id_cmp x d) (flipped id_order d x e)) (g.1 y q)))

pub least_told : (certs : List Node) (batches : List Batch) (a b : Option (List ℕ)) (id : List ℕ) → MatchOption a (NoCollision certs) (IsCollision certs) → MatchOption b (AreApart batches) (IsBatchCollision batches)
    → lesser_of a b ≡ Some id → IsLeastCollision certs batches id
least_told certs batches a b id h g e =
    let all = both_least (Collides certs) (CollidesBy (λ (x : Batch). x.digest) batches) a b (to_least (λ (c : Node). c.id) certs a h) (to_least (λ (x : Batch). x.digest) batches b g) in
    let least = subst (IsLeastBy id_cmp (CollidesIn certs batches)) e all in
    record { collides = least.0; least = least.1 }
