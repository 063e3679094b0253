-- A good certificate that is held, and the table of rounds beside it.
use Rattle.std.proofs.Common.{◌≡◌, ◌≢◌, ℕ, Bool, true, false, List, [], ◌∷◌, ◌++◌, refl, sym, ap, subst, ◌∙◌, ⊎_elim}
use Rattle.std.specs.List.{Contains}
use Rattle.std.proofs.lemmas.List.Elements.{Contains-append_left, Contains-push, Contains-push_cases}
use Rattle.bk_committee.specs.Payload.{CommitteeValue, IsCommittee, sizes_of}
use Rattle.bk_committee.specs.Sizes.{Sizes}
use Rattle.bk_cert.specs.Node.{Node}
use Rattle.bk_certcheck.specs.Verdicts.{IsGood}
use Rattle.bk_cert.specs.Place.{place_of}
use Rattle.bk_cert.specs.Clear.{IsClear}
use Rattle.bk_rounds.specs.Admission.{IsFit}
use Rattle.bk_rounds.specs.Rounds.{RoundsValue, rounds_with}
use Rattle.bk_rounds.proofs.Fit.{good_fits}
use Rattle.bk_commit.specs.Growth.{IsPartOf}
use Rattle.bk_evidence.specs.Held.{IsOffer, held_after}
use Rattle.bk_evidence.specs.declared.offer.Offer.{Offer}
use Rattle.bk_evidence.specs.declared.offer.Offer.TheVariants as offer
use Rattle.bk_order.specs.private.Joined.{IsJoined}
use Rattle.bk_order.specs.private.Tallies.{IsNewBy}

pub fit_here : (k : CommitteeValue) (z : Sizes) (bytes : List ℕ) (good shared : Node) → IsCommittee k → z ≡ sizes_of k → IsGood k bytes good → shared ≡ good → IsFit z shared
fit_here k z bytes good shared committee e is_good same =
    subst (λ (c : Node). IsFit z c) (sym same) (subst (λ (s : Sizes). IsFit s good) (sym e) (good_fits k bytes good committee is_good))

-- the front of a clear list is clear
pub clear_front : (held more : List Node) → IsClear (held ++ more) → IsClear held
clear_front held more h = record {
  no_collision = λ c d a b e. h.no_collision c d (Contains-append_left held more c a) (Contains-append_left held more d b) e;
  no_twins = λ c d a b e. h.no_twins c d (Contains-append_left held more c a) (Contains-append_left held more d b) e;
}

module _ (k : CommitteeValue) (held : List Node) (rounds : RoundsValue) (joined : IsJoined k held rounds) (cert shared : Node) (same : shared ≡ cert) where
  pub new_id : (o : Offer) → IsOffer held cert o → o ≡ offer.New → (c : Node) → Contains rounds.held c → c.id ≢ shared.id
  new_id o answer e c h q =
      let fresh : IsOffer held cert offer.New = subst (IsOffer held cert) e answer in
      fresh.0 c (joined.inside c h) (q ∙ ap (λ (x : Node). x.id) same)

  pub free_place : (o : Offer) → IsOffer held cert o → o ≡ offer.New → (c : Node) → Contains rounds.held c → place_of c ≢ place_of shared
  free_place o answer e c h q =
      let fresh : IsOffer held cert offer.New = subst (IsOffer held cert) e answer in
      fresh.1 c.id (record { cert = c; is_held = joined.inside c h; place_is = q ∙ ap place_of same; id_is = refl })

  -- both have one more
  pub joined_new : (o : Offer) (new : List Node) (more : RoundsValue) → o ≡ offer.New → new ≡ held_after held cert o
      → more ≡ rounds_with rounds.sizes (rounds.held ++ shared ∷ []) → IsJoined k new more
  joined_new o new more e stored added =
      let is : new ≡ held ++ cert ∷ [] = stored ∙ ap (held_after held cert) e in
      subst (λ (ns : List Node). IsJoined k ns more) (sym is) (subst (IsJoined k (held ++ cert ∷ [])) (sym added) (record {
        sizes = joined.sizes;
        inside = λ c h. ⊎_elim (λ (a : Contains rounds.held c). Contains-append_left held (cert ∷ []) c (joined.inside c a))
            (λ (s : shared ≡ c). subst (Contains (held ++ cert ∷ [])) (sym same ∙ s) (Contains-push held cert))
            (Contains-push_cases rounds.held shared c h);
        whole = λ clear c h. ⊎_elim (λ (a : Contains held c). Contains-append_left rounds.held (shared ∷ []) c (joined.whole (clear_front held (cert ∷ []) clear) c a))
            (λ (s : cert ≡ c). subst (Contains (rounds.held ++ shared ∷ [])) (same ∙ s) (Contains-push rounds.held shared))
            (Contains-push_cases held cert c h);
      }))

  pub grown_new : (more : RoundsValue) → more ≡ rounds_with rounds.sizes (rounds.held ++ shared ∷ []) → IsPartOf rounds.held more.held
  grown_new more added c h = subst (λ (r : RoundsValue). Contains r.held c) (sym added) (Contains-append_left rounds.held (shared ∷ []) c h)

  -- nothing is added: it was held, or now something is not clear
  pub joined_other : (o : Offer) (new : List Node) → (o ≡ offer.New → ⊥) → IsOffer held cert o → new ≡ held_after held cert o → IsJoined k new rounds
  joined_other offer.New new other answer stored = absurd (other refl)
  joined_other offer.Repeat new other answer stored = subst (λ (ns : List Node). IsJoined k ns rounds) (sym stored) joined
  joined_other (offer.Twin id) new other answer stored = subst (λ (ns : List Node). IsJoined k ns rounds) (sym stored) (record {
    sizes = joined.sizes;
    inside = λ c h. Contains-append_left held (cert ∷ []) c (joined.inside c h);
    whole = λ clear. absurd (
        let twin = answer.1 in
        answer.0 twin.cert twin.is_held (clear.no_twins twin.cert cert (Contains-append_left held (cert ∷ []) twin.cert twin.is_held) (Contains-push held cert) twin.place_is));
  })
  joined_other offer.Collision new other answer stored = subst (λ (ns : List Node). IsJoined k ns rounds) (sym stored) (record {
    sizes = joined.sizes;
    inside = λ c h. Contains-append_left held (cert ∷ []) c (joined.inside c h);
    whole = λ clear. absurd (
        let d : Node = answer.1.0 in
        let e : d ≡ cert = clear.no_collision d cert (Contains-append_left held (cert ∷ []) d answer.1.1) (Contains-push held cert) answer.1.2 in
        answer.0 (subst (Contains held) e answer.1.1));
  })

pub new_not_repeat : (o : Offer) → o ≡ offer.New → o ≡ offer.Repeat → ⊥
new_not_repeat o p q = let clash : offer.New ≡ offer.Repeat = sym p ∙ q in absurd cc

pub new_not_twin : (o : Offer) → o ≡ offer.New → (id : List ℕ) → o ≡ offer.Twin id → ⊥
new_not_twin o p id q = let clash : offer.New ≡ offer.Twin id = sym p ∙ q in absurd cc

pub new_not_collision : (o : Offer) → o ≡ offer.New → o ≡ offer.Collision → ⊥
new_not_collision o p q = let clash : offer.New ≡ offer.Collision = sym p ∙ q in absurd cc

-- ---- what is new

-- whether an offer says that the id is new
abbrev pub is_fresh : Offer → Bool
is_fresh offer.New = true
is_fresh offer.Repeat = false
is_fresh (offer.Twin id) = true
is_fresh offer.Collision = false

new_as_offered : (held : List Node) (c : Node) (o : Offer) → IsOffer held c o → IsNewBy (λ (d : Node). d.id) held c.id (is_fresh o)
new_as_offered held c offer.New h = h.0
new_as_offered held c offer.Repeat h = (c, h, refl)
new_as_offered held c (offer.Twin id) h = h.0
new_as_offered held c offer.Collision h = h.1

pub id_is_new : (held : List Node) (cert good : Node) (o : Offer) (new : Bool) → cert ≡ good → IsOffer held cert o → is_fresh o ≡ new → IsNewBy (λ (d : Node). d.id) held good.id new
id_is_new held cert good o new same answer e =
    subst (λ (p : Node × Bool). IsNewBy (λ (d : Node). d.id) held p.0.id p.1) (λ j. (same j, e j)) (new_as_offered held cert o answer)
