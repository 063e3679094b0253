-- The last round: of places one after another, and of all that is held.
use Rattle.std.proofs.Common.{◌≡◌, ℕ, ◌<◌, ◌≤◌, ⊎_elim, List, [], ◌∷◌, ◌++◌, max, refl, sym, ap, ◌∙◌, arith}
use Rattle.std.specs.List.{Contains}
use Rattle.std.proofs.lemmas.Bool.{cases_lt}
use Rattle.std.proofs.lemmas.List.Elements.{Contains-append_left, Contains-append_right, Contains-append_cases}
use Rattle.bk_committee.specs.Sizes.{Sizes}
use Rattle.bk_cert.specs.Node.{Node}
use Rattle.bk_cert.specs.Place.{Lists, place_of}
use Rattle.bk_cert.specs.declared.place.CertRef.{CertRef}
use Rattle.bk_cert.proofs.Lists.{none_in_nil, contains_cases, contains_first}
use Rattle.bk_rounds.specs.Admission.{IsAdmitted, IsPresent, WaitsAt}
use Rattle.bk_rounds.proofs.Admitted.{admitted_held}
use Rattle.bk_picture.specs.Picture.{IsLastRound}
use Rattle.bk_picture.specs.private.Last.{IsLatest}

-- ---- places

only_first : (a b : CertRef) → Contains (a ∷ []) b → a ≡ b
only_first a b t = ⊎_elim (λ e. e) (λ none. absurd (none_in_nil b none)) (contains_cases a [] b t)

highest_more : (xs : List CertRef) (a : CertRef) (old new : ℕ) → new ≡ max old a.round → IsLatest xs old
    → (b : CertRef) → Contains (xs ++ a ∷ []) b → b.round ≤ new
highest_more xs a old new e h b t = ⊎_elim
    (λ here. let low = h.highest b here in omega (arith, low, e))
    (λ new_one. let same : b.round ≡ a.round = ap (λ (c : CertRef). c.round) (sym (only_first a b new_one)) in
    omega (arith, same, e))
    (Contains-append_cases xs (a ∷ []) b t)

reached_more : (xs : List CertRef) (a : CertRef) (old new : ℕ) → new ≡ max old a.round → IsLatest xs old
    → 0 < new → (b : CertRef) × Contains (xs ++ a ∷ []) b × (b.round ≡ new)
reached_more xs a old new e h some = ⊎_elim
    (λ lt. (a, Contains-append_right xs (a ∷ []) a (contains_first a []), omega (arith, lt, e)))
    (λ ge. let old_one = h.reached (omega (arith, ge, e, some)) in
    let is : old_one.0.round ≡ old = old_one.2 in
    (old_one.0, Contains-append_left xs (a ∷ []) old_one.0 old_one.1, omega (arith, is, ge, e)))
    (cases_lt old a.round)

pub latest_more : (xs : List CertRef) (a : CertRef) (old new : ℕ) → new ≡ max old a.round → IsLatest xs old
    → IsLatest (xs ++ a ∷ []) new
latest_more xs a old new e h = record { highest = highest_more xs a old new e h; reached = reached_more xs a old new e h }

-- ---- all that is held

present_is_held : (z : Sizes) (held : List Node) (a : CertRef) (round : ℕ) → IsPresent z held a → a.round ≡ round
    → (c : Node) × Contains held c × (c.header.round ≡ round)
present_is_held z held a round (c, stands) e =
    (c, admitted_held z held c.header.round c stands.admitted, ap (λ (b : CertRef). b.round) stands.place ∙ e)

waiting_is_held : (z : Sizes) (held : List Node) (a : CertRef) (round : ℕ) → WaitsAt z held a → a.round ≡ round
    → (c : Node) × Contains held c × (c.header.round ≡ round)
waiting_is_held z held a round (c, waits, at) e = (c, waits.is_held, ap (λ (b : CertRef). b.round) at ∙ e)

module _ (z : Sizes) (held : List Node) (places : List CertRef) (top latest last : ℕ) (e : last ≡ max top latest)
    (below : (a : CertRef) → IsPresent z held a → a.round ≤ top) (waiting : Lists places (WaitsAt z held))
    (is : IsLatest places latest) where
  -- what is held is admitted or waits
  no_later : (c : Node) → Contains held c → last < c.header.round → ⊥
  no_later c there late =
      let absent : IsPresent z held (place_of c) → ⊥ =
      λ present. let low = below (place_of c) present in omega (arith, low, late, e) in
      let not_admitted : IsAdmitted z held c → ⊥ = λ admitted. absent (c, record { admitted = admitted; place = refl }) in
      let waits : WaitsAt z held (place_of c) = (c, record { is_held = there; not_admitted = not_admitted }, refl) in
      let low = is.highest (place_of c) (waiting.complete (place_of c) waits) in
      omega (arith, low, late, e)

  highest : (c : Node) → Contains held c → c.header.round ≤ last
  highest c there = ⊎_elim (λ late. absurd (no_later c there late)) (λ low. low) (cases_lt last c.header.round)

  reached : (0 < top → (a : CertRef) × IsPresent z held a × (a.round ≡ top))
      → 0 < last → (c : Node) × Contains held c × (c.header.round ≡ last)
  reached at_top some = ⊎_elim
      (λ lt. let last_one = is.reached (omega (arith, lt)) in
      waiting_is_held z held last_one.0 last (waiting.sound last_one.0 last_one.1)
      (let here : last_one.0.round ≡ latest = last_one.2 in omega (arith, here, lt, e)))
      (λ ge. let first = at_top (omega (arith, ge, e, some)) in
      present_is_held z held first.0 last first.1 (let here : first.0.round ≡ top = first.2 in omega (arith, here, ge, e)))
      (cases_lt top latest)

  pub last_of_both : (0 < top → (a : CertRef) × IsPresent z held a × (a.round ≡ top)) → IsLastRound held last
  last_of_both at_top = record { highest = highest; reached = reached at_top }
