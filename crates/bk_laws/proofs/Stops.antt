-- What is held has a stop, or neither a collision nor twins.
use Rattle.std.proofs.Common.{◌≡◌, ◌≢◌, ◌⊎◌, ℕ, List, [], ◌∷◌, map, Option, Some, None, refl, sym, ap, subst, inl, inr, ⊎_elim}
use Rattle.std.specs.Prelude.{MatchOption}
use Rattle.std.specs.List.{Contains}
use Rattle.std.specs.declared.cmp.Ordering.{Ordering}
use Rattle.bk_cert.specs.Node.{Node}
use Rattle.bk_cert.proofs.Refs.{before_from_less}
use Rattle.bk_cert.proofs.Lists.{none_in_nil, contains_cases, contains_first, contains_later, in_map}
use Rattle.bk_cert.specs.Place.{place_of, place_cmp}
use Rattle.bk_cert.specs.declared.place.CertRef.{CertRef}
use Rattle.bk_evidence.specs.Batches.{Batch, AreApart, IsBatchCollision}
use Rattle.bk_evidence.specs.Collisions.{id_cmp, CollidesBy, IsCollisionBy, NoCollisionBy}
use Rattle.bk_evidence.specs.Held.{IsCollision, NoCollision}
use Rattle.bk_evidence.specs.Twins.{IsIdAt, IsEvidence, NoTwins}
use Rattle.bk_evidence.specs.declared.evidence.Evidence.{Evidence}
use Rattle.bk_evidence.specs.private.Least.{least_of, IsLeastBy}
use Rattle.bk_evidence.specs.private.Places.{ids_with, AreLeastIds, HasTwins, evidence_with}
use Rattle.bk_evidence.proofs.Lesser.{IsExactOrder, less_from, same_or_not, least_same, least_step}
use Rattle.bk_evidence.proofs.Colliding.{id_order, told}
use Rattle.bk_evidence.proofs.Payloads.{same_batch}
use Rattle.bk_evidence.proofs.Judging.{same_cert}
use Rattle.bk_evidence.proofs.Placing.{place_order, Others, twins_from, no_twins_from, no_twins_at}
use Rattle.bk_order.specs.Stops.{IsStopOf, AreClear}
use Rattle.bk_order.specs.declared.stop.Stop.{Stop}
use Rattle.bk_order.specs.declared.stop.Stop.TheVariants as stop
use Rattle.bk_order.proofs.Stopping.{least_told}
use Rattle.bk_laws.proofs.Deciding.{Decided, AnyIn, decided_both, decided_not, decided_as, decided_any}

-- ---- the least of a list that has a decided property

module _ {K : Type 0} {R : K → K → Ordering} (order : IsExactOrder R) (P : K → Type 0) (d : (x : K) → Decided (P x)) where
  -- an element of the list has it
  abbrev HasIn : List K → K → Type 0
  HasIn xs y = P y × Contains xs y

  has_later : (x : K) (xs : List K) (y : K) → HasIn xs y → HasIn (x ∷ xs) y
  has_later x xs y h = (h.0, contains_later x xs y h.1)

  has_cases : (x : K) (xs : List K) (y : K) → HasIn (x ∷ xs) y → HasIn xs y ⊎ (y ≡ x)
  has_cases x xs y h = ⊎_elim (λ (e : x ≡ y). inr (sym e)) (λ (t : Contains xs y). inl (h.0, t)) (contains_cases x xs y h.1)

  least_more : (x : K) (xs : List K) (o : Option K) → IsLeastBy R (HasIn xs) o → Decided (P x) → (r : Option K) × IsLeastBy R (HasIn (x ∷ xs)) r
  least_more x xs o h (inl p) = (Some (least_of R o x), least_step order (HasIn xs) (HasIn (x ∷ xs)) o x (p, contains_first x xs) (has_later x xs) (has_cases x xs) h)
  least_more x xs o h (inr n) = (
    o,
    least_same order (HasIn xs) (HasIn (x ∷ xs)) o (has_later x xs)
        (λ y q. ⊎_elim (λ (was : HasIn xs y). was) (λ (e : y ≡ x). absurd (n (subst P e q.0))) (has_cases x xs y q)) h,
  )

  least_in : (xs : List K) → (o : Option K) × IsLeastBy R (HasIn xs) o
  least_in [] = (None, λ y h. none_in_nil y h.1)
  least_in (x ∷ xs) = least_more x xs (least_in xs).0 (least_in xs).1 (d x)

  -- what has it is in the list
  pub least_found : (xs : List K) → ((y : K) → P y → Contains xs y) → (o : Option K) × IsLeastBy R P o
  least_found xs listed = ((least_in xs).0, least_same order (HasIn xs) P (least_in xs).0 (λ y h. h.0) (λ y p. (p, listed y p)) (least_in xs).1)

-- ---- collisions

module _ {E : Type 0} (name : E → List ℕ) (same : (c d : E) → Decided (c ≡ d)) (held : List E) where
  -- another entry that is held has this name
  abbrev Another : List ℕ → E → E → Type 0
  Another id c d = (name d ≡ id) × (c ≢ d)

  abbrev HasAnother : List ℕ → E → Type 0
  HasAnother id c = (name c ≡ id) × AnyIn (Another id c) held

  another_decided : (id : List ℕ) (c : E) → Decided (HasAnother id c)
  another_decided id c = decided_both (name c ≡ id) (AnyIn (Another id c) held) (same_or_not id_order (name c) id)
      (decided_any (Another id c) (λ d. decided_both (name d ≡ id) (c ≢ d) (same_or_not id_order (name d) id) (decided_not (c ≡ d) (same c d))) held)

  pub collides_decided : (id : List ℕ) → Decided (CollidesBy name held id)
  collides_decided id = decided_as (AnyIn (HasAnother id) held) (CollidesBy name held id)
      (λ h. record { one = h.0; other = h.2.1.0; has_one = h.1; has_other = h.2.1.1; names_one = h.2.0; names_other = h.2.1.2.0; apart = h.2.1.2.1 })
      (λ h. (h.one, h.has_one, (h.names_one, (h.other, h.has_other, (h.names_other, h.apart)))))
      (decided_any (HasAnother id) (another_decided id) held)

  least_colliding : (o : Option (List ℕ)) × IsLeastBy id_cmp (CollidesBy name held) o
  least_colliding = least_found id_order (CollidesBy name held) collides_decided (map name held) (λ id h. subst (Contains (map name held)) h.names_one (in_map name held h.one h.has_one))

  -- one name is of one entry, or there is a least name that is of two
  pub collision_or_none : (o : Option (List ℕ)) × MatchOption o (NoCollisionBy name held) (IsCollisionBy name held)
  collision_or_none = (least_colliding.0, told name (λ c d e. same c d) held least_colliding.0 least_colliding.1)

pub same_certs : (c d : Node) → Decided (c ≡ d)
same_certs c d = ⊎_elim (λ (e : c.id ≡ d.id). same_cert c d e) (λ (n : c.id ≢ d.id). inr (λ p. n (ap (λ (x : Node). x.id) p))) (same_or_not id_order c.id d.id)

pub same_batches : (b e : Batch) → Decided (b ≡ e)
same_batches b e = ⊎_elim (λ (s : b.digest ≡ e.digest). same_batch b e s) (λ (n : b.digest ≢ e.digest). inr (λ p. n (ap (λ (x : Batch). x.digest) p))) (same_or_not id_order b.digest e.digest)

-- ---- twins

module _ (held : List Node) where
  abbrev ids : List (List ℕ)
  ids = map (λ (c : Node). c.id) held

  module _ (a : CertRef) where
    abbrev Names : List ℕ → Node → Type 0
    Names id c = (place_of c ≡ a) × (c.id ≡ id)

    pub id_decided : (id : List ℕ) → Decided (IsIdAt held a id)
    id_decided id = decided_as (AnyIn (Names id) held) (IsIdAt held a id)
        (λ h. record { cert = h.0; is_held = h.1; place_is = h.2.0; id_is = h.2.1 })
        (λ h. (h.cert, h.is_held, (h.place_is, h.id_is)))
        (decided_any (Names id) (λ c. decided_both (place_of c ≡ a) (c.id ≡ id) (same_or_not place_order (place_of c) a) (same_or_not id_order c.id id)) held)

    id_listed : (id : List ℕ) → IsIdAt held a id → Contains ids id
    id_listed id h = subst (Contains ids) h.id_is (in_map (λ (c : Node). c.id) held h.cert h.is_held)

    -- there are ids of the place: the least, and the least of the others if there are others
    abbrev pub HasLeastIds : Type 0
    HasLeastIds = (p : List ℕ) × (s : Option (List ℕ)) × AreLeastIds (IsIdAt held a) (Some (ids_with p s))

    -- or there is none
    abbrev pub HasNoIds : Type 0
    HasNoIds = AreLeastIds (IsIdAt held a) None

    others_found : (p : List ℕ) → (o : Option (List ℕ)) × IsLeastBy id_cmp (Others (IsIdAt held a) p) o
    others_found p = least_found id_order (Others (IsIdAt held a) p)
        (λ id. decided_both (IsIdAt held a id) (id ≢ p) (id_decided id) (decided_not (id ≡ p) (same_or_not id_order id p))) ids (λ id h. id_listed id h.0)

    with_first : (o : Option (List ℕ)) → IsLeastBy id_cmp (IsIdAt held a) o → HasLeastIds ⊎ HasNoIds
    with_first None h = inr h
    with_first (Some p) h = inl (p, (others_found p).0, (h, (others_found p).1))

    first_found : (o : Option (List ℕ)) × IsLeastBy id_cmp (IsIdAt held a) o
    first_found = least_found id_order (IsIdAt held a) id_decided ids id_listed

    -- the two least ids of the place
    pub ids_found : HasLeastIds ⊎ HasNoIds
    ids_found = with_first first_found.0 first_found.1

    twins_by : (p : List ℕ) (s : Option (List ℕ)) → AreLeastIds (IsIdAt held a) (Some (ids_with p s)) → Decided (HasTwins held a)
    twins_by p None h = inr (no_twins_from held a (ids_with p None) refl h)
    twins_by p (Some s) h = inl (p, s, twins_from held a (ids_with p (Some s)) s refl h)

    pub twins_decided : Decided (HasTwins held a)
    twins_decided = ⊎_elim (λ (l : HasLeastIds). twins_by l.0 l.1 l.2) (λ (h : HasNoIds). inr (no_twins_at held a h)) ids_found

  -- the least place with twins
  pub twins_found : (t : Option CertRef) × IsLeastBy place_cmp (HasTwins held) t
  twins_found = least_found place_order (HasTwins held) twins_decided (map place_of held)
      (λ a h. subst (Contains (map place_of held)) h.2.one.place_is (in_map place_of held h.2.one.cert h.2.one.is_held))

  no_twins_of : ((a : CertRef) → HasTwins held a → ⊥) → NoTwins held
  no_twins_of none c d a b e = ⊎_elim (λ (p : c.id ≡ d.id). p)
      (λ (apart : c.id ≢ d.id). absurd (none (place_of d) (
        c.id,
        d.id,
        record {
          one = record { cert = c; is_held = a; place_is = e; id_is = refl };
          two = record { cert = d; is_held = b; place_is = refl; id_is = refl };
          apart = apart;
        },
      )))
      (same_or_not id_order c.id d.id)

  evidence_is : (a : CertRef) (p s : List ℕ) → IsLeastBy place_cmp (HasTwins held) (Some a) → AreLeastIds (IsIdAt held a) (Some (ids_with p (Some s)))
      → IsEvidence held (evidence_with a p s)
  evidence_is a p s least both =
      let second : IsLeastBy id_cmp (Others (IsIdAt held a) p) (Some s) = both.1 in
      let twins = twins_from held a (ids_with p (Some s)) s refl both in
      record {
        twins = twins;
        in_order = less_from id_order p s (both.0.1 s twins.two) twins.apart;
        least_place = λ b q r t. ⊎_elim (λ (same : a ≡ b). inl same) (λ (other : a ≢ b). inr (before_from_less a b (less_from place_order a b (least.1 b (q, r, t)) other))) (same_or_not place_order a b);
        least_ids = λ id h. ⊎_elim (λ (same : id ≡ p). inl same) (λ (other : id ≢ p). inr (second.1 id (h, other))) (same_or_not id_order id p);
      }

  abbrev pub EvidenceOrNone : Type 0
  EvidenceOrNone = ((e : Evidence) × IsEvidence held e) ⊎ NoTwins held

  evidence_at_second : (a : CertRef) → IsLeastBy place_cmp (HasTwins held) (Some a) → (p : List ℕ) (s : Option (List ℕ))
      → AreLeastIds (IsIdAt held a) (Some (ids_with p s)) → EvidenceOrNone
  evidence_at_second a least p None both = absurd (no_twins_from held a (ids_with p None) refl both least.0)
  evidence_at_second a least p (Some s) both = inl (evidence_with a p s, evidence_is a p s least both)

  evidence_at_place : (a : CertRef) → IsLeastBy place_cmp (HasTwins held) (Some a) → HasLeastIds a ⊎ HasNoIds a → EvidenceOrNone
  evidence_at_place a least found = ⊎_elim (λ (l : HasLeastIds a). evidence_at_second a least l.0 l.1 l.2)
      (λ (none : HasNoIds a). absurd (no_twins_at held a none least.0)) found

  evidence_by : (t : Option CertRef) → IsLeastBy place_cmp (HasTwins held) t → EvidenceOrNone
  evidence_by None none = inr (no_twins_of none)
  evidence_by (Some a) least = evidence_at_place a least (ids_found a)

  -- one place is of one id, or there is the evidence
  pub evidence_or_none : EvidenceOrNone
  evidence_or_none = evidence_by twins_found.0 twins_found.1

-- ---- both together

module _ (certs : List Node) (batches : List Batch) where
  abbrev pub StopOrNone : Type 0
  StopOrNone = ((s : Stop) × IsStopOf certs batches s) ⊎ AreClear certs batches

  without : NoCollision certs → AreApart batches → ((e : Evidence) × IsEvidence certs e) ⊎ NoTwins certs → StopOrNone
  without h g (inl (e, is)) = inl (stop.Twins e, (h, g, is))
  without h g (inr none) = inr (record { clear = record { no_collision = h; no_twins = none }; apart = g })

  stop_by : (a b : Option (List ℕ)) → MatchOption a (NoCollision certs) (IsCollision certs) → MatchOption b (AreApart batches) (IsBatchCollision batches) → StopOrNone
  stop_by None None h g = without h g (evidence_or_none certs)
  stop_by None (Some digest) h g = inl (stop.Collision digest, least_told certs batches None (Some digest) digest h g refl)
  stop_by (Some id) None h g = inl (stop.Collision id, least_told certs batches (Some id) None id h g refl)
  stop_by (Some id) (Some digest) h g = inl (stop.Collision (least_of id_cmp (Some id) digest), least_told certs batches (Some id) (Some digest) (least_of id_cmp (Some id) digest) h g refl)

  id_known : (o : Option (List ℕ)) × MatchOption o (NoCollision certs) (IsCollision certs)
  id_known = collision_or_none (λ (c : Node). c.id) same_certs certs

  digest_known : (o : Option (List ℕ)) × MatchOption o (AreApart batches) (IsBatchCollision batches)
  digest_known = collision_or_none (λ (b : Batch). b.digest) same_batches batches

-- every store of certificates and batches has a stop, or neither a collision nor twins
pub stop_or_none : (certs : List Node) (batches : List Batch) → ((s : Stop) × IsStopOf certs batches s) ⊎ AreClear certs batches
stop_or_none certs batches = stop_by certs batches (id_known certs batches).0 (digest_known certs batches).0 (id_known certs batches).1 (digest_known certs batches).1
