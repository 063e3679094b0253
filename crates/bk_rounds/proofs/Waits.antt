-- What is held and not admitted.
use Rattle.std.proofs.Common.{◌≡◌, ℕ, ◌+◌, ◌<◌, ◌↔◌, false, List, [], ◌∷◌, ◌++◌, length, Option, refl, sym, ap, subst, ◌∙◌, ⊎_elim, arith}
use Rattle.std.specs.List.{Contains}
use Rattle.std.proofs.lemmas.Bool.{cases_lt, both_ways, false_from_ne_true}
use Rattle.std.proofs.lemmas.List.Elements.{Contains-push, Contains-push_cases, Contains-append_left}
use Rattle.bk_committee.specs.Sizes.{Sizes}
use Rattle.bk_cert.specs.Node.{Node}
use Rattle.bk_cert.specs.declared.place.CertRef.{CertRef}
use Rattle.bk_rounds.specs.declared.names.Names.{Names}
use Rattle.bk_cert.specs.Place.{place_of, IsListed, Lists}
use Rattle.bk_rounds.specs.Admission.{WaitsAt}
use Rattle.bk_rounds.specs.private.Numbered.{round_of, cert_of, is_marked, IsAdmittedAt}
use Rattle.bk_rounds.specs.private.Names.{known_in}
use Rattle.bk_rounds.specs.private.Tied.{IsWhole, WaitsBelow, place_at}
use Rattle.bk_cert.proofs.Refs.{same_place}
use Rattle.bk_cert.proofs.Lists.{none_in_nil}
use Rattle.bk_rounds.proofs.Admitted.{admitted_here}
use Rattle.bk_rounds.proofs.Tied.{held_at, number_up, number_down}

pub waits_none : (n : Names) (a : CertRef) → Contains [] a ↔ WaitsBelow n 0 a
waits_none n a = ((λ h. absurd (none_in_nil a h)), (λ h. absurd (omega (arith, h.1))))

pub waits_more : (n : Names) (places : List CertRef) (k : ℕ) (here : CertRef) → ((a : CertRef) → Contains places a ↔ WaitsBelow n k a) → 0 < round_of n.slots k
    → is_marked n.marks.items k ≡ false → place_at n.slots k ≡ here → (a : CertRef) → Contains (places ++ here ∷ []) a ↔ WaitsBelow n (k + 1) a
waits_more n places k here before some free is a = (
  (λ h. ⊎_elim
      (λ old. let w = (before a).0 old in (w.0, omega (arith, w.1), w.2, w.3, w.4))
      (λ new. (k, omega arith, some, free, is ∙ new))
      (Contains-push_cases places here a h)),
  (λ w. ⊎_elim
      (λ lt. Contains-append_left places (here ∷ []) a ((before a).1 (w.0, lt, w.2, w.3, w.4)))
      (λ ge. let e : w.0 ≡ k = omega (arith, ge, w.1) in
      subst (Contains (places ++ here ∷ [])) (sym is ∙ (ap (place_at n.slots) (sym e) ∙ w.4)) (Contains-push places here))
      (cases_lt w.0 k)),
)

pub waits_skip : (n : Names) (places : List CertRef) (k : ℕ) → ((a : CertRef) → Contains places a ↔ WaitsBelow n k a) → (0 < round_of n.slots k → is_marked n.marks.items k ≡ false → ⊥)
    → (a : CertRef) → Contains places a ↔ WaitsBelow n (k + 1) a
waits_skip n places k before none a = (
  (λ h. let w = (before a).0 h in (w.0, omega (arith, w.1), w.2, w.3, w.4)),
  (λ w. ⊎_elim
      (λ lt. (before a).1 (w.0, lt, w.2, w.3, w.4))
      (λ ge. let e : w.0 ≡ k = omega (arith, ge, w.1) in
      absurd (none (subst (λ (i : ℕ). 0 < round_of n.slots i) e w.2) (sym (ap (is_marked n.marks.items) e) ∙ w.3)))
      (cases_lt w.0 k)),
)

pub waits_all : (z : Sizes) (held : List Node) (n : Names) (placed : CertRef → Option ℕ) (top : ℕ) → IsWhole z held n placed top → (high : ℕ) → high ≡ length n.slots
    → (a : CertRef) → WaitsBelow n high a ↔ WaitsAt z held a
waits_all z held n placed top w high all a = (
  (λ (k, low, some, free, is).
      let (c, at, s) = w.tied.cert k some in (
        c,
        record {
          is_held = held_at held (cert_of n.slots k) c at;
          not_admitted = λ h. both_ways _ free ((w.table.exact k).1 (subst (λ (r : ℕ). IsAdmittedAt z n.slots r k) s.round
              (number_down z held n.slots (known_in n) w.names.numbering w.tied w.table.inside c.header.round k c s h)));
        },
        same_place (place_of c) (place_at n.slots k) s.round s.author ∙ is,
      )),
  (λ (c, waits, at).
      let (i, low, s) = w.tied.slot c waits.is_held in
      let from = (w.good c waits.is_held).from_one in (
        i,
        omega (arith, low, all),
        omega (arith, from, s.round),
        false_from_ne_true _ (λ m. waits.not_admitted (admitted_here z held (round_of n.slots i) c
            (number_up z held n.slots (known_in n) w.good w.clear w.names.numbering w.tied w.table.inside (round_of n.slots i) i ((w.table.exact i).0 m) c waits.is_held s))),
        same_place (place_at n.slots i) (place_of c) (sym s.round) (sym s.author) ∙ at,
      )),
)

pub waits_listed : (z : Sizes) (held : List Node) (n : Names) (placed : CertRef → Option ℕ) (top : ℕ) → IsWhole z held n placed top → (xs ys : List CertRef) → IsListed ys
    → ((a : CertRef) → Contains ys a ↔ Contains xs a) → ((a : CertRef) → Contains xs a ↔ WaitsBelow n (length n.slots) a) → Lists ys (WaitsAt z held)
waits_listed z held n placed top w xs ys listed same found = record {
  listed = listed;
  sound = λ a t. (waits_all z held n placed top w (length n.slots) refl a).0 ((found a).0 ((same a).0 t));
  complete = λ a h. (same a).1 ((found a).1 ((waits_all z held n placed top w (length n.slots) refl a).1 h));
}
