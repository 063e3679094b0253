-- A certificate waits exactly where a parent keeps it, or where its parents' authors weigh too little.
use Rattle.std.proofs.Common.{◌≡◌, ◌≢◌, ℕ, suc, ◌+◌, ◌-◌, ◌<◌, ◌≤◌, ◌⊎◌, inl, inr, true, false, List, [], ◌∷◌, ◌++◌, refl, sym, ap, subst, ◌∙◌, ⊎_elim, arith, eqb}
use Rattle.std.specs.Prelude.{◌↔◌}
use Rattle.std.specs.Cmp.{nat_eq_equiv}
use Rattle.std.specs.List.{Contains, list_any}
use Rattle.std.proofs.lemmas.Bool.{both_ways, cases_Bool, cases_lt, eqb-true}
use Rattle.std.proofs.lemmas.Map.Views.{Contains-from_any, list_any-from_Contains}
use Rattle.bk_cert.proofs.Lists.{none_in_nil, contains_cases, contains_first, contains_later}
use Rattle.bk_cert.specs.Clear.{IsClear}
use Rattle.bk_cert.specs.Node.{Node}
use Rattle.bk_committee.specs.Sizes.{Sizes, Weigh, quorum}
use Rattle.bk_order.specs.declared.reject.Reject.{Reject}
use Rattle.bk_rounds.specs.Admission.{IsAdmitted, IsAdmittedIn, IsWaiting}
use Rattle.bk_rounds.specs.Votes.{WeighExactly}
use Rattle.bk_rounds.proofs.Admitted.{IsParent, admitted_held, admitted_here, admitted_round, parent_named, parents_weigh}
use Rattle.bk_rounds.proofs.Tallied.{exactly_by, exactly_more, exactly_none}
use Rattle.bk_rounds.proofs.Weighed.{inside-le}
use Rattle.bk_diagnosis.specs.Laws.{IsLight, WaitsWhereKept}
use Rattle.bk_diagnosis.specs.Waiting.{AreParentLines, IsParentLine, MadeParent}
use Rattle.bk_diagnosis.specs.Waiting.IsParentLine.{absent, rejected, waits, other_round, fits}
use Rattle.bk_diagnosis.specs.private.Graph.{MadeOneOf}
use Rattle.bk_diagnosis.specs.declared.line.Line.{Line}

both_empty : (xs ys : List Line) → xs ++ ys ≡ [] → (xs ≡ []) × (ys ≡ [])
both_empty [] ys e = (refl, e)
both_empty (x ∷ xs) ys e = absurd cc

is_some : (l : Line) (ls : List Line) → l ∷ ls ≡ [] → ⊥
is_some l ls e = cc

-- ---- parents that keep nothing

-- the certificate with this id is admitted in the round before
abbrev Fits : Sizes → List Node → Node → List ℕ → Type 0
Fits z certs c p = (d : Node) × (d.id ≡ p) × IsAdmitted z certs d × (d.header.round + 1 ≡ c.header.round)

fit_of : (z : Sizes) (certs : List Node) (rejects : List Reject) (c : Node) (p : List ℕ) (lines : List Line) → IsParentLine z certs rejects c p lines → lines ≡ [] → Fits z certs c p
fit_of z certs rejects c p _ (absent nowhere none) e = absurd (is_some _ [] e)
fit_of z certs rejects c p _ (rejected r nowhere first) e = absurd (is_some _ [] e)
fit_of z certs rejects c p _ (waits d is w) e = absurd (is_some _ [] e)
fit_of z certs rejects c p _ (other_round d is a r) e = absurd (is_some _ [] e)
fit_of z certs rejects c p _ (fits d is a r) e = (d, is, a, r)

all_fit : (z : Sizes) (certs : List Node) (rejects : List Reject) (c : Node) (ps : List (List ℕ)) (lines : List Line) → AreParentLines z certs rejects c ps lines → lines ≡ [] → (p : List ℕ) → Contains ps p → Fits z certs c p
all_fit z certs rejects c [] lines h none p t = absurd (none_in_nil p t)
all_fit z certs rejects c (q ∷ ps) lines (first, later, here, rest, e) none p t =
    let empty = both_empty first later (sym e ∙ none) in
    ⊎_elim
    (λ (is : q ≡ p). subst (Fits z certs c) is (fit_of z certs rejects c q first here empty.0))
    (λ (more : Contains ps p). all_fit z certs rejects c ps later rest empty.1 p more)
    (contains_cases q ps p t)

module _ (z : Sizes) (certs : List Node) (clear : IsClear certs) where
  admitted_in : (d : Node) → IsAdmitted z certs d → Contains certs d
  admitted_in d a = admitted_held z certs d.header.round d a

  same_cert : (d e : Node) → Contains certs d → IsAdmitted z certs e → d.id ≡ e.id → d ≡ e
  same_cert d e t a is = clear.no_collision d e t (admitted_in e a) is

  no_line : (rejects : List Reject) (c : Node) (p : List ℕ) (lines : List Line) → IsParentLine z certs rejects c p lines → Fits z certs c p → lines ≡ []
  no_line rejects c p _ (absent nowhere none) (e, is, a, r) = absurd (nowhere e (admitted_in e a) is)
  no_line rejects c p _ (rejected reject nowhere first) (e, is, a, r) = absurd (nowhere e (admitted_in e a) is)
  no_line rejects c p _ (waits d own w) (e, is, a, r) = absurd (w.not_admitted (subst (IsAdmitted z certs) (sym (same_cert d e w.is_held a (own ∙ sym is))) a))
  no_line rejects c p _ (other_round d own b n) (e, is, a, r) =
      absurd (n (ap (λ (x : Node). x.header.round + 1) (same_cert d e (admitted_in d b) a (own ∙ sym is)) ∙ r))
  no_line rejects c p _ (fits d own b n) (e, is, a, r) = refl

  no_lines : (rejects : List Reject) (c : Node) (ps : List (List ℕ)) (lines : List Line) → AreParentLines z certs rejects c ps lines → ((p : List ℕ) → Contains ps p → Fits z certs c p) → lines ≡ []
  no_lines rejects c [] lines h each = h
  no_lines rejects c (q ∷ ps) lines (first, later, here, rest, e) each =
      e ∙ (λ i. no_line rejects c q first here (each q (contains_first q ps)) i ++ no_lines rejects c ps later rest (λ p t. each p (contains_later q ps p t)) i)

  -- ---- what their authors weigh

  fit_weigh : (c : Node) (ps : List (List ℕ)) → ((p : List ℕ) → Contains ps p → Fits z certs c p) → (weight : ℕ) × WeighExactly z (MadeOneOf certs ps) weight
  fit_weigh c [] each = (0, exactly_none z (MadeOneOf certs []) (λ x m. none_in_nil m.0.id m.2))
  fit_weigh c (q ∷ ps) each = with_one (fit_weigh c ps (λ p t. each p (contains_later q ps p t))) (each q (contains_first q ps))
    where
      more : (x : ℕ) → MadeOneOf certs ps x → MadeOneOf certs (q ∷ ps) x
      more x m = (m.0, m.1, contains_later q ps m.0.id m.2, m.3)

      this : (f : Fits z certs c q) → MadeOneOf certs (q ∷ ps) f.0.header.author
      this f = (f.0, admitted_in f.0 f.2, subst (Contains (q ∷ ps)) (sym f.1) (contains_first q ps), refl)

      less : (f : Fits z certs c q) (x : ℕ) → MadeOneOf certs (q ∷ ps) x → MadeOneOf certs ps x ⊎ (x ≡ f.0.header.author)
      less f x m = ⊎_elim
          (λ (is : q ≡ m.0.id). inr (sym m.3 ∙ ap (λ (d : Node). d.header.author) (same_cert m.0 f.0 m.1 f.2 (sym is ∙ sym f.1))))
          (λ (rest : Contains ps m.0.id). inl (m.0, m.1, rest, m.3))
          (contains_cases q ps m.0.id m.2)

      with_one : (weight : ℕ) × WeighExactly z (MadeOneOf certs ps) weight → (f : Fits z certs c q) → (weight : ℕ) × WeighExactly z (MadeOneOf certs (q ∷ ps)) weight
      with_one (weight, w) f = ⊎_elim
          (λ (there : list_any (eqb f.0.header.author) w.who ≡ true).
          let known = (w.lists f.0.header.author).0 (Contains-from_any eqb-true f.0.header.author w.who there) in (
            weight,
            exactly_by z (MadeOneOf certs ps) (MadeOneOf certs (q ∷ ps)) weight
                (λ x. (more x, (λ m. ⊎_elim (λ (o : MadeOneOf certs ps x). o) (λ (e : x ≡ f.0.header.author). subst (MadeOneOf certs ps) (sym e) known) (less f x m)))) w,
          ))
          (λ (new : list_any (eqb f.0.header.author) w.who ≡ false). (
            weight + _,
            exactly_more z (MadeOneOf certs ps) (MadeOneOf certs (q ∷ ps)) weight f.0.header.author
                (λ m. both_ways (list_any (eqb f.0.header.author) w.who) new (list_any-from_Contains nat_eq_equiv f.0.header.author w.who ((w.lists f.0.header.author).1 m)))
                (λ x. (less f x, ⊎_elim (more x) (λ (e : x ≡ f.0.header.author). subst (MadeOneOf certs (q ∷ ps)) (sym e) (this f)))) w,
          ))
          (cases_Bool (list_any (eqb f.0.header.author) w.who))

-- ---- both ways

admit : (z : Sizes) (certs : List Node) (r : ℕ) (c : Node) → Contains certs c → c.header.round ≡ r + 1 → ((p : List ℕ) → Contains c.header.parents p → (d : Node) × IsAdmittedIn z certs r d × (d.id ≡ p))
    → Weigh z (IsParent z certs r c) (quorum z) → IsAdmitted z certs c
unfolding IsAdmittedIn
admit z certs r c t e named weigh = admitted_here z certs (suc r) c (t, e, (λ low. named), (λ low. weigh))

one_less : (r n m : ℕ) → n + 1 ≡ m → m ≡ r + 1 → n ≡ r
one_less r n m e f = omega (arith, e, f)

module _ (z : Sizes) (certs : List Node) (rejects : List Reject) (c : Node) (clear : IsClear certs) (t : Contains certs c) (r : ℕ) (low : 0 < r) (round : c.header.round ≡ r + 1) where
  in_before : (d : Node) → IsAdmitted z certs d → d.header.round + 1 ≡ c.header.round → IsAdmittedIn z certs r d
  in_before d a e = subst (λ (n : ℕ). IsAdmittedIn z certs n d) (one_less r d.header.round c.header.round e round) a

  fits_named : IsAdmitted z certs c → (p : List ℕ) → Contains c.header.parents p → Fits z certs c p
  fits_named h p u =
      let (d, a, is) = parent_named z certs r c low round h p u in
      (d, is, admitted_here z certs r d a, ap (λ (n : ℕ). n + 1) (admitted_round z certs r d a) ∙ sym round)

  parent_fits : ((p : List ℕ) → Contains c.header.parents p → Fits z certs c p) → (x : ℕ) → MadeParent certs c x → IsParent z certs r c x
  parent_fits each x (d, u, named, e) =
      let (f, is, a, before) = each d.id named in
      let same : d ≡ f = same_cert z certs clear d f u a (sym is) in
      (d, subst (IsAdmittedIn z certs r) (sym same) (in_before f a before), e, named)

  parent_made : (x : ℕ) → IsParent z certs r c x → MadeParent certs c x
  parent_made x (d, a, e, named) = (d, admitted_held z certs r d a, named, e)

  light_waits : ((p : List ℕ) → Contains c.header.parents p → Fits z certs c p) → IsWaiting z certs c → IsLight z certs c
  light_waits each w = by_weight (fit_weigh z certs clear c c.header.parents each)
    where
      heavy : (weight : ℕ) → WeighExactly z (MadeParent certs c) weight → quorum z ≤ weight → ⊥
      heavy weight e enough = w.not_admitted (admit z certs r c t round
          (λ p u. let (d, is, a, before) = each p u in (d, in_before d a before, is))
          (record { who = e.who; apart = e.apart; each = λ x u. parent_fits each x ((e.lists x).0 u); enough = subst (λ (n : ℕ). quorum z ≤ n) e.is enough }))

      by_weight : (weight : ℕ) × WeighExactly z (MadeParent certs c) weight → IsLight z certs c
      by_weight (weight, e) = ⊎_elim
          (λ (less : weight < quorum z). (weight, e, less))
          (λ (enough : quorum z ≤ weight). absurd (heavy weight e enough))
          (cases_lt weight (quorum z))

  light_not : IsLight z certs c → IsAdmitted z certs c → ⊥
  light_not (weight, e, less) h =
      let w = parents_weigh z certs r c low round h in
      let most = inside-le z w.who e.who w.apart (λ x u. (e.lists x).1 (parent_made x (w.each x u))) in
      let enough = w.enough in
      let is = e.is in
      omega (arith, most, enough, is, less)

  kept_here : (lines : List Line) → AreParentLines z certs rejects c c.header.parents lines → IsWaiting z certs c ↔ ((lines ≢ []) ⊎ ((lines ≡ []) × IsLight z certs c))
  kept_here lines are = (
    to lines are,
    ⊎_elim
        (λ (some : lines ≢ []). record { is_held = t; not_admitted = λ h. some (no_lines z certs clear rejects c c.header.parents lines are (fits_named h)) })
        (λ (light : (lines ≡ []) × IsLight z certs c). record { is_held = t; not_admitted = light_not light.1 }),
  )
    where
      to : (ls : List Line) → AreParentLines z certs rejects c c.header.parents ls → IsWaiting z certs c → (ls ≢ []) ⊎ ((ls ≡ []) × IsLight z certs c)
      to [] a w = inr (refl, light_waits (all_fit z certs rejects c c.header.parents [] a refl) w)
      to (l ∷ ls) a w = inl (is_some l ls)

low_round : (n : ℕ) → 1 ≤ n → n ≢ 1 → 0 < n - 1
low_round n low not = omega (arith, low, not)

round_before : (n : ℕ) → 1 ≤ n → n ≡ (n - 1) + 1
round_before n low = omega (arith, low)

pub waits_kept : WaitsWhereKept
waits_kept z certs rejects c lines clear t fit late are =
    kept_here z certs rejects c clear t (c.header.round - 1) (low_round c.header.round fit.from_one late) (round_before c.header.round fit.from_one) lines are
