-- There is one answer, one collision and one evidence.
use Rattle.std.proofs.Common.{◌≡◌, ◌≢◌, ◌⊎◌, ℕ, List, refl, sym, ap, subst, ◌∙◌, inl, inr, ⊎_elim}
use Rattle.bk_cert.specs.Node.{Node}
use Rattle.bk_cert.proofs.Listed.{one_way}
use Rattle.bk_cert.specs.Place.{IsBefore}
use Rattle.bk_cert.specs.declared.place.CertRef.{CertRef}
use Rattle.bk_evidence.specs.Batches.{Batch, IsBatchOffer}
use Rattle.bk_evidence.specs.Collisions.{id_cmp, IsCollisionBy, IsAtMost}
use Rattle.bk_evidence.specs.Held.{IsOffer}
use Rattle.bk_evidence.specs.Twins.{IsIdAt, place_in, IsEvidence}
use Rattle.bk_evidence.specs.declared.batches.BatchOffer.{BatchOffer}
use Rattle.bk_evidence.specs.declared.batches.BatchOffer.TheVariants as batch
use Rattle.bk_evidence.specs.declared.evidence.Evidence.{Evidence}
use Rattle.bk_evidence.specs.declared.offer.Offer.{Offer}
use Rattle.bk_evidence.specs.declared.offer.Offer.TheVariants as offer
use Rattle.std.specs.declared.cmp.Ordering.TheVariants.{Greater}
use Rattle.bk_evidence.proofs.Lesser.{both_at_most, at_most_on, less_not_greater}
use Rattle.bk_evidence.proofs.Colliding.{id_order}

pub answer_is_one : (held : List Node) (c : Node) (a b : Offer) → IsOffer held c a → IsOffer held c b → a ≡ b
answer_is_one held c offer.New offer.New h k = refl
answer_is_one held c offer.New offer.Repeat h k = absurd (h.0 c k refl)
answer_is_one held c offer.New (offer.Twin y) h k = absurd (h.1 y k.1)
answer_is_one held c offer.New offer.Collision h k = absurd (h.0 k.1.0 k.1.1 k.1.2)
answer_is_one held c offer.Repeat offer.New h k = absurd (k.0 c h refl)
answer_is_one held c offer.Repeat offer.Repeat h k = refl
answer_is_one held c offer.Repeat (offer.Twin y) h k = absurd (k.0 c h refl)
answer_is_one held c offer.Repeat offer.Collision h k = absurd (k.0 h)
answer_is_one held c (offer.Twin x) offer.New h k = absurd (k.1 x h.1)
answer_is_one held c (offer.Twin x) offer.Repeat h k = absurd (h.0 c k refl)
answer_is_one held c (offer.Twin x) (offer.Twin y) h k = ap offer.Twin (both_at_most id_order x y (h.2 y k.1) (k.2 x h.1))
answer_is_one held c (offer.Twin x) offer.Collision h k = absurd (h.0 k.1.0 k.1.1 k.1.2)
answer_is_one held c offer.Collision offer.New h k = absurd (k.0 h.1.0 h.1.1 h.1.2)
answer_is_one held c offer.Collision offer.Repeat h k = absurd (h.0 k)
answer_is_one held c offer.Collision (offer.Twin y) h k = absurd (k.0 h.1.0 h.1.1 h.1.2)
answer_is_one held c offer.Collision offer.Collision h k = refl

pub batch_answer_is_one : (held : List Batch) (b : Batch) (x y : BatchOffer) → IsBatchOffer held b x → IsBatchOffer held b y → x ≡ y
batch_answer_is_one held b batch.New batch.New h k = refl
batch_answer_is_one held b batch.New batch.Repeat h k = absurd (h b k refl)
batch_answer_is_one held b batch.New batch.Collision h k = absurd (h k.1.0 k.1.1 k.1.2)
batch_answer_is_one held b batch.Repeat batch.New h k = absurd (k b h refl)
batch_answer_is_one held b batch.Repeat batch.Repeat h k = refl
batch_answer_is_one held b batch.Repeat batch.Collision h k = absurd (k.0 h)
batch_answer_is_one held b batch.Collision batch.New h k = absurd (k h.1.0 h.1.1 h.1.2)
batch_answer_is_one held b batch.Collision batch.Repeat h k = absurd (h.0 k)
batch_answer_is_one held b batch.Collision batch.Collision h k = refl

pub collision_is_one : {E : Type 0} (name : E → List ℕ) (held : List E) (x y : List ℕ) → IsCollisionBy name held x → IsCollisionBy name held y → x ≡ y
collision_is_one name held x y h k = both_at_most id_order x y (h.least y k.collides) (k.least x h.collides)

-- ---- the evidence

one_place : (a b : CertRef) → (a ≡ b) ⊎ IsBefore a b → (b ≡ a) ⊎ IsBefore b a → a ≡ b
one_place a b (inl e) k = e
one_place a b (inr h) (inl e) = sym e
one_place a b (inr h) (inr k) = absurd (one_way a b h k)

evidence_parts : (x y : Evidence) → place_in x ≡ place_in y → x.first ≡ y.first → x.second ≡ y.second → x ≡ y
evidence_parts x y p f s = λ i. record { round = (p i).round; author = (p i).author; first = f i; second = s i }

-- two ids of a place, the lesser first, below all its others
record AreTwoLeast (held : List Node) (a : CertRef) (p q : List ℕ) : Type 0 where
  one : IsIdAt held a p
  two : IsIdAt held a q
  in_order : id_cmp p q ≢ Greater
  apart : p ≢ q
  least : (id : List ℕ) → IsIdAt held a id → (id ≡ p) ⊎ IsAtMost q id

two_least : (held : List Node) (x : Evidence) → IsEvidence held x → AreTwoLeast held (place_in x) x.first x.second
two_least held x h = record { one = h.twins.one; two = h.twins.two; in_order = less_not_greater (id_cmp x.first x.second) h.in_order; apart = h.twins.apart; least = h.least_ids }

module _ (held : List Node) (a : CertRef) (p q r s : List ℕ) where
  one_first : AreTwoLeast held a p q → AreTwoLeast held a r s → p ≡ r
  one_first h k = ⊎_elim (λ (e : r ≡ p). sym e) (λ (high : IsAtMost q r). ⊎_elim (λ (e : p ≡ r). e)
      (λ (low : IsAtMost s p). both_at_most id_order p r (at_most_on id_order p q r h.in_order high) (at_most_on id_order r s p k.in_order low))
      (k.least p h.one)) (h.least r k.one)

  second_low : AreTwoLeast held a p q → AreTwoLeast held a r s → IsAtMost q s
  second_low h k = ⊎_elim (λ (e : s ≡ p). absurd (k.apart (sym (e ∙ one_first h k)))) (λ (high : IsAtMost q s). high) (h.least s k.two)

pub evidence_is_one : (held : List Node) (x y : Evidence) → IsEvidence held x → IsEvidence held y → x ≡ y
evidence_is_one held x y h k =
    let place : place_in x ≡ place_in y = one_place (place_in x) (place_in y) (h.least_place (place_in y) y.first y.second k.twins) (k.least_place (place_in x) x.first x.second h.twins) in
    let this = subst (λ (a : CertRef). AreTwoLeast held a x.first x.second) place (two_least held x h) in
    let that = two_least held y k in
    evidence_parts x y place
    (one_first held (place_in y) x.first x.second y.first y.second this that)
    (both_at_most id_order x.second y.second
    (second_low held (place_in y) x.first x.second y.first y.second this that) (second_low held (place_in y) y.first y.second x.first x.second that this))
