-- Lists with the same members have the same collisions and the same evidence.
use Rattle.std.proofs.Common.{◌≡◌, ◌+◌, ◌<◌, ℕ, List, [], ◌∷◌, ◌++◌, length, take, get_or, Option, Some, None, sym, ap, subst, ◌∙◌, ⊎_elim}
use Rattle.std.specs.Prelude.{MatchOption}
use Rattle.std.specs.List.{Contains}
use Rattle.std.proofs.lemmas.List.{take_more, append_assoc}
use Rattle.std.proofs.lemmas.List.Elements.{Contains-append_left, Contains-append_right, Contains-append_cases, Contains-push_cases}
use Rattle.bk_cert.specs.Node.{Node}
use Rattle.bk_cert.specs.declared.place.CertRef.{CertRef}
use Rattle.bk_evidence.specs.Collisions.{IsCollisionBy, NoCollisionBy}
use Rattle.bk_evidence.specs.Held.{IsOffer, held_after, IsCollision, NoCollision}
use Rattle.bk_evidence.specs.Laws.{HaveSame}
use Rattle.bk_evidence.specs.Twins.{IsIdAt, place_in, IsEvidence, NoTwins}
use Rattle.bk_evidence.specs.declared.evidence.Evidence.{Evidence}
use Rattle.bk_evidence.specs.declared.offer.Offer.{Offer}
use Rattle.bk_evidence.specs.declared.offer.Offer.TheVariants as offer
use Rattle.bk_evidence.proofs.Colliding.{collides_more}

module _ {E : Type 0} where
  pub same_itself : (xs : List E) → HaveSame xs xs
  same_itself xs = record { into = λ e h. h; back = λ e h. h }

  pub same_turned : (xs ys : List E) → HaveSame xs ys → HaveSame ys xs
  same_turned xs ys h = record { into = h.back; back = h.into }

  pub same_on : (xs ys zs : List E) → HaveSame xs ys → HaveSame ys zs → HaveSame xs zs
  same_on xs ys zs h k = record { into = λ e m. k.into e (h.into e m); back = λ e m. h.back e (k.back e m) }

  -- more members on both
  pub same_append : (xs ys more : List E) → HaveSame xs ys → HaveSame (xs ++ more) (ys ++ more)
  same_append xs ys more h = record {
    into = λ e m. ⊎_elim (λ (a : Contains xs e). Contains-append_left ys more e (h.into e a)) (λ (b : Contains more e). Contains-append_right ys more e b) (Contains-append_cases xs more e m);
    back = λ e m. ⊎_elim (λ (a : Contains ys e). Contains-append_left xs more e (h.back e a)) (λ (b : Contains more e). Contains-append_right xs more e b) (Contains-append_cases ys more e m);
  }

  -- a member once more
  pub same_repeat : (xs : List E) (x : E) → Contains xs x → HaveSame xs (xs ++ x ∷ [])
  same_repeat xs x h = record {
    into = λ e m. Contains-append_left xs (x ∷ []) e m;
    back = λ e m. ⊎_elim (λ (a : Contains xs e). a) (λ (s : x ≡ e). subst (Contains xs) s h) (Contains-push_cases xs x e m);
  }

  -- one more member of a list that is gone through
  pub same_more : (start list xs ys : List E) (i : ℕ) (x : E) → i < length list → x ≡ get_or list i x
      → HaveSame xs (start ++ take i list) → HaveSame ys (xs ++ x ∷ []) → HaveSame ys (start ++ take (i + 1) list)
  same_more start list xs ys i x low is h k =
      subst (HaveSame ys) (append_assoc start (take i list) (x ∷ []) ∙ ap (λ zs. start ++ zs) (ap (λ y. take i list ++ y ∷ []) is ∙ sym (take_more list i x low)))
      (same_on ys (xs ++ x ∷ []) ((start ++ take i list) ++ x ∷ []) k (same_append xs (start ++ take i list) (x ∷ []) h))

-- what is held after an offer is what was held and the certificate
pub same_after : (held : List Node) (c : Node) (o : Offer) → IsOffer held c o → HaveSame (held_after held c o) (held ++ c ∷ [])
same_after held c offer.New h = same_itself (held ++ c ∷ [])
same_after held c offer.Repeat h = same_repeat held c h
same_after held c (offer.Twin id) h = same_itself (held ++ c ∷ [])
same_after held c offer.Collision h = same_itself (held ++ c ∷ [])

module _ {E : Type 0} (name : E → List ℕ) (xs ys : List E) (same : HaveSame xs ys) where
  pub collision_same : (id : List ℕ) → IsCollisionBy name xs id → IsCollisionBy name ys id
  collision_same id h = record {
    collides = collides_more name xs ys same.into id h.collides;
    least = λ other k. h.least other (collides_more name ys xs same.back other k);
  }

  pub no_collision_same : NoCollisionBy name xs → NoCollisionBy name ys
  no_collision_same h = λ c d a b e. h c d (same.back c a) (same.back d b) e

module _ (xs ys : List Node) (same : HaveSame xs ys) where
  id_same : (a : CertRef) (id : List ℕ) → IsIdAt xs a id → IsIdAt ys a id
  id_same a id h = record { cert = h.cert; is_held = same.into h.cert h.is_held; place_is = h.place_is; id_is = h.id_is }

  id_back : (a : CertRef) (id : List ℕ) → IsIdAt ys a id → IsIdAt xs a id
  id_back a id h = record { cert = h.cert; is_held = same.back h.cert h.is_held; place_is = h.place_is; id_is = h.id_is }

  pub evidence_same : (e : Evidence) → IsEvidence xs e → IsEvidence ys e
  evidence_same e h = record {
    twins = record { one = id_same (place_in e) e.first h.twins.one; two = id_same (place_in e) e.second h.twins.two; apart = h.twins.apart };
    in_order = h.in_order;
    least_place = λ a p q t. h.least_place a p q (record { one = id_back a p t.one; two = id_back a q t.two; apart = t.apart });
    least_ids = λ id k. h.least_ids id (id_back (place_in e) id k);
  }

  pub no_twins_same : NoTwins xs → NoTwins ys
  no_twins_same h = λ c d a b e. h c d (same.back c a) (same.back d b) e

  pub evidence_for : (o : Option Evidence) → MatchOption o (NoTwins xs) (IsEvidence xs) → MatchOption o (NoTwins ys) (IsEvidence ys)
  evidence_for None h = no_twins_same h
  evidence_for (Some e) h = evidence_same e h

  pub collision_for : (o : Option (List ℕ)) → MatchOption o (NoCollision xs) (IsCollision xs) → MatchOption o (NoCollision ys) (IsCollision ys)
  collision_for None h = no_collision_same (λ (c : Node). c.id) xs ys same h
  collision_for (Some id) h = collision_same (λ (c : Node). c.id) xs ys same id h

-- what is held after an offer of a shared certificate
pub same_offered : (held new : List Node) (c shared : Node) (o : Offer) → shared ≡ c → IsOffer held shared o → new ≡ held_after held shared o → HaveSame new (held ++ c ∷ [])
same_offered held new c shared o e answer stored =
    subst (λ (d : Node). HaveSame new (held ++ d ∷ [])) e (subst (λ (zs : List Node). HaveSame zs (held ++ shared ∷ [])) (sym stored) (same_after held shared o answer))
