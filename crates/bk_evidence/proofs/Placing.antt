-- The least ids of each place, and the least place with twins, where one more certificate is stored.
use Rattle.std.proofs.Common.{◌≡◌, ◌≢◌, ◌⊎◌, ◌<◌, ℕ, true, false, cond, List, [], ◌∷◌, ◌++◌, length, map, get_or, Option, Some, None, refl, sym, ap, subst, ◌∙◌, inl, inr, ⊎_elim, arith}
use Rattle.std.specs.List.{Contains}
use Rattle.std.specs.Ordering.{match_ordering, is_eq}
use Rattle.std.proofs.lemmas.Cmp.{tied_itself}
use Rattle.std.proofs.lemmas.List.{length-append, length-map, map-append, get_or-map, get_or_append_left}
use Rattle.std.proofs.Math.Seq.{get_or-append_seam}
use Rattle.std.specs.declared.cmp.Ordering.{Ordering}
use Rattle.std.specs.declared.cmp.Ordering.TheVariants.{Less, Equal, Greater}
use Rattle.std.proofs.lemmas.List.Elements.{Contains-push, Contains-push_cases, Contains-append_left}
use Rattle.bk_cert.specs.Node.{Node}
use Rattle.bk_cert.proofs.Refs.{ref_total, exact_ref}
use Rattle.bk_cert.specs.Place.{place_of, place_cmp}
use Rattle.bk_cert.specs.declared.place.CertRef.{CertRef}
use Rattle.bk_evidence.specs.Collisions.{id_cmp}
use Rattle.bk_evidence.specs.Twins.{IsIdAt, AreTwins}
use Rattle.bk_evidence.specs.declared.places.LeastIds.{LeastIds}
use Rattle.bk_evidence.specs.declared.places.Places.{Places}
use Rattle.bk_evidence.specs.private.Least.{least_of, IsLeastBy}
use Rattle.bk_evidence.specs.private.Places.{ids_with, lone_id, two_ids, second_in, AreLeastIds, id_at, AreIdsOf, first_at, second_at, AreSamePlaces, HasTwins, ArePlaces}
use Rattle.bk_evidence.proofs.Lesser.{IsExactOrder, less_apart, flipped, same_or_not, least_same, least_step}
use Rattle.bk_evidence.proofs.Colliding.{id_order}

pub place_order : IsExactOrder place_cmp
place_order = record { total = ref_total; exact = exact_ref }

-- ---- the two least ids of one place, where one more id comes

abbrev pub Others : (List ℕ → Type 0) → List ℕ → List ℕ → Type 0
Others P least x = P x × (x ≢ least)

module _ (P Q : List ℕ → Type 0) (k : List ℕ) (here : Q k) (more : (x : List ℕ) → P x → Q x) (less : (x : List ℕ) → Q x → P x ⊎ (x ≡ k)) where
  pub first_id : ((x : List ℕ) → P x → ⊥) → AreLeastIds Q (Some (lone_id k))
  first_id none = (
    least_step id_order P Q None k here more less none,
    λ x q. ⊎_elim (λ (p : P x). none x p) (λ (e : x ≡ k). q.1 e) (less x q.0),
  )

  pub lesser_id : (a : List ℕ) → id_cmp k a ≡ Less → IsLeastBy id_cmp P (Some a) → AreLeastIds Q (Some (two_ids k a))
  lesser_id a e h = (
    subst (λ o. IsLeastBy id_cmp Q (Some (match_ordering o k a a))) e (least_step id_order P Q (Some a) k here more less h),
    (
      (more a h.0, λ s. less_apart id_order k a e (sym s)),
      λ x q. ⊎_elim (λ (p : P x). h.1 x p) (λ (s : x ≡ k). absurd (q.1 s)) (less x q.0),
    ),
  )

  pub greater_id : (l : LeastIds) → id_cmp k l.least ≡ Greater → AreLeastIds P (Some l) → AreLeastIds Q (Some (two_ids l.least (least_of id_cmp (second_in l) k)))
  greater_id l e h =
      let apart : k ≢ l.least = λ s. less_apart id_order l.least k (flipped id_order k l.least e) (sym s) in (
        subst (λ o. IsLeastBy id_cmp Q (Some (match_ordering o k l.least l.least))) e (least_step id_order P Q (Some l.least) k here more less h.0),
        least_step id_order (Others P l.least) (Others Q l.least) (second_in l) k (here, apart) (λ x p. (more x p.0, p.1))
            (λ x q. ⊎_elim (λ (p : P x). inl (p, q.1)) (λ (s : x ≡ k). inr s) (less x q.0)) h.1,
      )

pub ids_same : (P Q : List ℕ → Type 0) → ((x : List ℕ) → P x → Q x) → ((x : List ℕ) → Q x → P x) → (o : Option LeastIds) → AreLeastIds P o → AreLeastIds Q o
ids_same P Q more back None h = λ x q. h x (back x q)
ids_same P Q more back (Some l) h = (
  least_same id_order P Q (Some l.least) more back h.0,
  least_same id_order (Others P l.least) (Others Q l.least) (second_in l) (λ x p. (more x p.0, p.1)) (λ x q. (back x q.0, q.1)) h.1,
)

-- ---- the ids of a place, where one more certificate is stored

module _ (held : List Node) (c : Node) where
  pub id_more : (a : CertRef) (id : List ℕ) → IsIdAt held a id → IsIdAt (held ++ c ∷ []) a id
  id_more a id h = record { cert = h.cert; is_held = Contains-append_left held (c ∷ []) h.cert h.is_held; place_is = h.place_is; id_is = h.id_is }

  pub id_here : IsIdAt (held ++ c ∷ []) (place_of c) c.id
  id_here = record { cert = c; is_held = Contains-push held c; place_is = refl; id_is = refl }

  pub id_less : (a : CertRef) (id : List ℕ) → IsIdAt (held ++ c ∷ []) a id → IsIdAt held a id ⊎ ((place_of c ≡ a) × (id ≡ c.id))
  id_less a id h = ⊎_elim
      (λ (old : Contains held h.cert). inl (record { cert = h.cert; is_held = old; place_is = h.place_is; id_is = h.id_is }))
      (λ (e : c ≡ h.cert). inr (ap place_of e ∙ h.place_is, sym (ap (λ (d : Node). d.id) e ∙ h.id_is)))
      (Contains-push_cases held c h.cert h.is_held)

  twins_more : (a : CertRef) → HasTwins held a → HasTwins (held ++ c ∷ []) a
  twins_more a (p, q, t) = (p, q, record { one = id_more a p t.one; two = id_more a q t.two; apart = t.apart })

  -- elsewhere the ids are as they were
  id_elsewhere : (a : CertRef) → place_of c ≢ a → (id : List ℕ) → IsIdAt (held ++ c ∷ []) a id → IsIdAt held a id
  id_elsewhere a other id h = ⊎_elim (λ (old : IsIdAt held a id). old) (λ (new : (place_of c ≡ a) × (id ≡ c.id)). absurd (other new.0)) (id_less a id h)

  twins_elsewhere : (a : CertRef) → place_of c ≢ a → HasTwins (held ++ c ∷ []) a → HasTwins held a
  twins_elsewhere a other (p, q, t) = (p, q, record { one = id_elsewhere a other p t.one; two = id_elsewhere a other q t.two; apart = t.apart })

-- a place with a second id has twins
pub twins_from : (held : List Node) (a : CertRef) (l : LeastIds) (s : List ℕ) → second_in l ≡ Some s → AreLeastIds (IsIdAt held a) (Some l) → AreTwins held a l.least s
twins_from held a l s e h =
    let second : IsLeastBy id_cmp (Others (IsIdAt held a) l.least) (Some s) = subst (IsLeastBy id_cmp (Others (IsIdAt held a) l.least)) e h.1 in
    record { one = h.0.0; two = second.0.0; apart = λ p. second.0.1 (sym p) }

-- and one without has none
pub no_twins_from : (held : List Node) (a : CertRef) (l : LeastIds) → second_in l ≡ None → AreLeastIds (IsIdAt held a) (Some l) → HasTwins held a → ⊥
no_twins_from held a l e h (p, q, t) =
    let none : (x : List ℕ) → Others (IsIdAt held a) l.least x → ⊥ = subst (IsLeastBy id_cmp (Others (IsIdAt held a) l.least)) e h.1 in
    none p (t.one, λ (s : p ≡ l.least). none q (t.two, λ (r : q ≡ l.least). t.apart (s ∙ sym r)))

-- a place without ids has none
pub no_twins_at : (held : List Node) (a : CertRef) → AreLeastIds (IsIdAt held a) None → HasTwins held a → ⊥
no_twins_at held a h (p, q, t) = h p t.one

-- ---- the ids by index

module _ (held : List Node) (c : Node) where
  abbrev more : List Node
  more = held ++ c ∷ []

  abbrev here : CertRef
  here = place_of c

  last_low : length held < length more
  last_low = omega (arith, length-append held (c ∷ []))

  at_kept : (k : ℕ) → k < length held → id_at more k ≡ id_at held k
  at_kept k low = ap (λ ids. get_or ids k []) (map-append (λ (d : Node). d.id) held (c ∷ []))
      ∙ get_or_append_left (map (λ (d : Node). d.id) held) (c.id ∷ []) [] k (omega (arith, low, length-map held (λ (d : Node). d.id)))

  at_last : id_at more (length held) ≡ c.id
  at_last = get_or-map (λ (d : Node). d.id) more (length held) c [] last_low ∙ ap (λ (d : Node). d.id) (get_or-append_seam held c [] c)

  kept_low : (k : ℕ) → k < length held → k < length more
  kept_low k low = omega (arith, low, length-append held (c ∷ []))

  here_is : is_eq (place_cmp here here) ≡ true
  here_is = ap is_eq (tied_itself place_order.total here)

  -- ids that were least are so where the place has the same ids
  kept_elsewhere : (a : CertRef) → ((id : List ℕ) → IsIdAt more a id → IsIdAt held a id) → (o : Option ℕ) (s : Option (List ℕ)) → AreIdsOf held a o s → AreIdsOf more a o s
  kept_elsewhere a back None s h = (h.0, λ id t. h.1 id (back id t))
  kept_elsewhere a back (Some k) s h = (
    kept_low k h.0,
    subst (λ id. AreLeastIds (IsIdAt more a) (Some (ids_with id s))) (sym (at_kept k h.0))
        (ids_same (IsIdAt held a) (IsIdAt more a) (id_more held c a) back (Some (ids_with (id_at held k) s)) h.1),
  )

  less_here : (id : List ℕ) → IsIdAt more here id → IsIdAt held here id ⊎ (id ≡ c.id)
  less_here id h = ⊎_elim (λ (was : IsIdAt held here id). inl was) (λ (is : (here ≡ here) × (id ≡ c.id)). inr is.1) (id_less held c here id h)

  module _ (old new : Places) (before : ArePlaces held old) where
    -- ---- the place has an id of its own for the first time, or its ids change

    module _ (elsewhere : (b : CertRef) → is_eq (place_cmp here b) ≡ false → (first_at new b ≡ first_at old b) × (second_at new b ≡ second_at old b))
        (o : Option ℕ) (s : Option (List ℕ)) (first_is : first_at new here ≡ o) (second_is : second_at new here ≡ s) (now : AreIdsOf more here o s) where
      ids_elsewhere : (a : CertRef) → here ≢ a → is_eq (place_cmp here a) ≡ false → AreIdsOf more a (first_at new a) (second_at new a)
      ids_elsewhere a other e = subst (λ f. AreIdsOf more a f (second_at new a)) (sym (elsewhere a e).0)
          (subst (AreIdsOf more a (first_at old a)) (sym (elsewhere a e).1) (kept_elsewhere a (id_elsewhere held c a other) (first_at old a) (second_at old a) (before.ids a)))

      ids_here : AreIdsOf more here (first_at new here) (second_at new here)
      ids_here = subst (λ f. AreIdsOf more here f (second_at new here)) (sym first_is) (subst (AreIdsOf more here o) (sym second_is) now)

      ids_now : (a : CertRef) → AreIdsOf more a (first_at new a) (second_at new a)
      ids_now a = by (place_cmp here a) refl
        where
          by : (r : Ordering) → place_cmp here a ≡ r → AreIdsOf more a (first_at new a) (second_at new a)
          by Less e = ids_elsewhere a (less_apart place_order here a e) (ap is_eq e)
          by Equal e = subst (λ b. AreIdsOf more b (first_at new b) (second_at new b)) (place_order.exact here a e) ids_here
          by Greater e = ids_elsewhere a (λ p. less_apart place_order a here (flipped place_order here a e) (sym p)) (ap is_eq e)

    split : (a : CertRef) → HasTwins more a → HasTwins held a ⊎ (a ≡ here)
    split a h = ⊎_elim (λ (e : here ≡ a). inr (sym e)) (λ (other : here ≢ a). inl (twins_elsewhere held c a other h)) (same_or_not place_order here a)

    -- the place has no other id
    twins_lone : AreLeastIds (IsIdAt more here) (Some (lone_id c.id)) → new.twins ≡ old.twins → IsLeastBy place_cmp (HasTwins more) new.twins
    twins_lone lone e = subst (IsLeastBy place_cmp (HasTwins more)) (sym e)
        (least_same place_order (HasTwins held) (HasTwins more) old.twins (twins_more held c)
        (λ a h. ⊎_elim (λ (was : HasTwins held a). was) (λ (s : a ≡ here). absurd (no_twins_from more here (lone_id c.id) refl lone (subst (HasTwins more) s h))) (split a h)) before.twins)

    -- the place has two
    twins_two : (p q : List ℕ) → AreLeastIds (IsIdAt more here) (Some (two_ids p q)) → new.twins ≡ Some (least_of place_cmp old.twins here)
        → IsLeastBy place_cmp (HasTwins more) new.twins
    twins_two p q two e = subst (IsLeastBy place_cmp (HasTwins more)) (sym e)
        (least_step place_order (HasTwins held) (HasTwins more) old.twins here (p, q, twins_from more here (two_ids p q) q refl two) (twins_more held c) split before.twins)

    -- ---- one more certificate

    pub noted_first : first_at old here ≡ None → ((b : CertRef) → first_at new b ≡ cond (is_eq (place_cmp here b)) (Some (length held)) (first_at old b))
        → ((b : CertRef) → second_at new b ≡ second_at old b) → new.twins ≡ old.twins → ArePlaces more new
    noted_first none firsts seconds twins =
        let was : AreIdsOf held here None (second_at old here) = subst (λ o. AreIdsOf held here o (second_at old here)) none (before.ids here) in
        let lone : AreLeastIds (IsIdAt more here) (Some (lone_id c.id)) = first_id (IsIdAt held here) (IsIdAt more here) c.id (id_here held c) (id_more held c here) less_here was.1 in
        record {
          ids = ids_now (λ b e. (firsts b ∙ ap (λ x. cond x (Some (length held)) (first_at old b)) e, seconds b)) (Some (length held)) None
              (firsts here ∙ ap (λ x. cond x (Some (length held)) (first_at old here)) here_is) (seconds here ∙ was.0)
              (last_low, subst (λ id. AreLeastIds (IsIdAt more here) (Some (lone_id id))) (sym at_last) lone);
          twins = twins_lone lone twins;
        }

    pub noted_less : (k : ℕ) → first_at old here ≡ Some k → id_cmp c.id (id_at held k) ≡ Less
        → ((b : CertRef) → first_at new b ≡ cond (is_eq (place_cmp here b)) (Some (length held)) (first_at old b))
        → ((b : CertRef) → second_at new b ≡ cond (is_eq (place_cmp here b)) (Some (id_at held k)) (second_at old b))
        → new.twins ≡ Some (least_of place_cmp old.twins here) → ArePlaces more new
    noted_less k there e firsts seconds twins =
        let was : AreIdsOf held here (Some k) (second_at old here) = subst (λ o. AreIdsOf held here o (second_at old here)) there (before.ids here) in
        let two : AreLeastIds (IsIdAt more here) (Some (two_ids c.id (id_at held k))) =
        lesser_id (IsIdAt held here) (IsIdAt more here) c.id (id_here held c) (id_more held c here) less_here (id_at held k) e was.1.0 in
        record {
          ids = ids_now (λ b f. (firsts b ∙ ap (λ x. cond x (Some (length held)) (first_at old b)) f, seconds b ∙ ap (λ x. cond x (Some (id_at held k)) (second_at old b)) f))
              (Some (length held)) (Some (id_at held k))
              (firsts here ∙ ap (λ x. cond x (Some (length held)) (first_at old here)) here_is) (seconds here ∙ ap (λ x. cond x (Some (id_at held k)) (second_at old here)) here_is)
              (last_low, subst (λ id. AreLeastIds (IsIdAt more here) (Some (two_ids id (id_at held k)))) (sym at_last) two);
          twins = twins_two c.id (id_at held k) two twins;
        }

    pub noted_greater : (k : ℕ) → first_at old here ≡ Some k → id_cmp c.id (id_at held k) ≡ Greater
        → ((b : CertRef) → first_at new b ≡ first_at old b)
        → ((b : CertRef) → second_at new b ≡ cond (is_eq (place_cmp here b)) (Some (least_of id_cmp (second_at old here) c.id)) (second_at old b))
        → new.twins ≡ Some (least_of place_cmp old.twins here) → ArePlaces more new
    noted_greater k there e firsts seconds twins =
        let was : AreIdsOf held here (Some k) (second_at old here) = subst (λ o. AreIdsOf held here o (second_at old here)) there (before.ids here) in
        let second : List ℕ = least_of id_cmp (second_at old here) c.id in
        let two : AreLeastIds (IsIdAt more here) (Some (two_ids (id_at held k) (least_of id_cmp (second_at old here) c.id))) =
        greater_id (IsIdAt held here) (IsIdAt more here) c.id (id_here held c) (id_more held c here) less_here (ids_with (id_at held k) (second_at old here)) e was.1 in
        record {
          ids = ids_now (λ b f. (firsts b, seconds b ∙ ap (λ x. cond x (Some second) (second_at old b)) f)) (Some k) (Some second)
              (firsts here ∙ there) (seconds here ∙ ap (λ x. cond x (Some second) (second_at old here)) here_is)
              (kept_low k was.0, subst (λ id. AreLeastIds (IsIdAt more here) (Some (two_ids id second))) (sym (at_kept k was.0)) two);
          twins = twins_two (id_at held k) second two twins;
        }

    -- a header more under an id of the place
    pub noted_same : (k : ℕ) → first_at old here ≡ Some k → c.id ≡ id_at held k → AreSamePlaces old new → ArePlaces more new
    noted_same k there e same =
        let was : AreIdsOf held here (Some k) (second_at old here) = subst (λ o. AreIdsOf held here o (second_at old here)) there (before.ids here) in
        let back : (a : CertRef) (id : List ℕ) → IsIdAt more a id → IsIdAt held a id = λ a id h. ⊎_elim (λ (was : IsIdAt held a id). was)
        (λ (is : (here ≡ a) × (id ≡ c.id)). subst (λ b. IsIdAt held b id) is.0 (subst (IsIdAt held here) (sym (is.1 ∙ e)) was.1.0.0)) (id_less held c a id h) in
        record {
          ids = λ a. subst (λ f. AreIdsOf more a f (second_at new a)) (sym (same.firsts a))
              (subst (AreIdsOf more a (first_at old a)) (sym (same.seconds a)) (kept_elsewhere a (back a) (first_at old a) (second_at old a) (before.ids a)));
          twins = subst (IsLeastBy place_cmp (HasTwins more)) (sym same.twins) (least_same place_order (HasTwins held) (HasTwins more) old.twins (twins_more held c)
              (λ a h. (h.0, h.1, record { one = back a h.0 h.2.one; two = back a h.1 h.2.two; apart = h.2.apart })) before.twins);
        }

-- the least id of a place is at the index that is kept
pub least_kept : (held : List Node) (p : Places) (a : CertRef) → ArePlaces held p → (k : ℕ) → first_at p a ≡ Some k
    → (k < length held) × IsLeastBy id_cmp (IsIdAt held a) (Some (id_at held k))
least_kept held p a h k e = let was : AreIdsOf held a (Some k) (second_at p a) = subst (λ o. AreIdsOf held a o (second_at p a)) e (h.ids a) in (was.0, was.1.0)

-- a place without an index has no id
pub none_kept : (held : List Node) (p : Places) (a : CertRef) → ArePlaces held p → first_at p a ≡ None → IsLeastBy id_cmp (IsIdAt held a) None
none_kept held p a h e = let was : AreIdsOf held a None (second_at p a) = subst (λ o. AreIdsOf held a o (second_at p a)) e (h.ids a) in was.1

-- the id at an index is that of the certificate there
pub id_there : (held : List Node) (k : ℕ) (d : Node) → k < length held → id_at held k ≡ (get_or held k d).id
id_there held k d low = get_or-map (λ (c : Node). c.id) held k d [] low
