-- What keeps a certificate from being admitted, parent by parent.
use Rattle.std.proofs.Common.{◌≡◌, ℕ, ◌+◌, ◌<◌, ◌≤◌, Bool, true, false, cond, ◌⊎◌, inl, inr, List, [], ◌∷◌, ◌++◌, length, Option, Some, None, refl, sym, ap, subst, ◌∙◌, ⊎_elim, arith, append_assoc, length-append, eqb, take, get_or}
use Rattle.std.specs.Prelude.{◌↔◌, IfNone}
use Rattle.std.specs.List.{Contains}
use Rattle.std.proofs.lemmas.Bool.{both_ways, eq-eqb, eqb-true}
use Rattle.std.proofs.lemmas.List.{append-nil, take_more}
use Rattle.std.proofs.lemmas.List.Concat.{flat_map-append}
use Rattle.std.proofs.lemmas.List.Elements.{Contains-append_cases, Contains-append_left, Contains-append_right}
use Rattle.bk_cert.proofs.Lists.{none_in_nil, contains_cases, contains_first}
use Rattle.bk_cert.specs.Clear.{IsClear}
use Rattle.bk_cert.specs.Node.{Node}
use Rattle.bk_cert.specs.Place.{place_of}
use Rattle.bk_cert.specs.declared.place.CertRef.{CertRef}
use Rattle.bk_committee.specs.Sizes.{Sizes, members}
use Rattle.bk_evidence.specs.Twins.{IsIdAt}
use Rattle.bk_order.specs.declared.reject.Reject.{Reject}
use Rattle.bk_rounds.specs.Admission.{IsAdmitted, IsPresent, IsWaiting, StandsAt, WaitsAt}
use Rattle.bk_rounds.specs.Members.{Has, IsWeightOf}
use Rattle.bk_rounds.specs.Votes.{WeighExactly}
use Rattle.bk_rounds.proofs.Admitted.{admitted_held}
use Rattle.bk_diagnosis.specs.Lines.{line_text, text_of}
use Rattle.bk_diagnosis.specs.Waiting.{AreParentLines, AreReasons, AreWaitingLines, IsParentLine, MadeParent}
use Rattle.bk_diagnosis.specs.Waiting.IsParentLine.{waits, other_round, fits}
use Rattle.bk_diagnosis.specs.private.Graph.{GraphValue, HasParentLines, IsEntry, AddsWaiting, MadeOneOf, line_if, round_line}
use Rattle.bk_diagnosis.specs.declared.line.Line.{Line}
use Rattle.bk_diagnosis.specs.declared.line.Line.TheVariants as line

pub IfNone_then : {X : Type 0} (r : Option X) {P Q : Type 0} → IfNone r P → (P → Q) → IfNone r Q
IfNone_then None h f = f h
IfNone_then (Some x) h f = tt

-- ---- one certificate a place

module _ (z : Sizes) (certs : List Node) (clear : IsClear certs) where
  pub one_at : (c d : Node) → Contains certs c → Contains certs d → place_of c ≡ place_of d → c ≡ d
  one_at c d t u e = clear.no_collision c d t u (clear.no_twins c d t u e)

  -- what stands at the place of a certificate is the certificate
  pub admitted_at : (d e : Node) → Contains certs d → StandsAt z certs (place_of d) e → IsAdmitted z certs d
  admitted_at d e t h = subst (IsAdmitted z certs) (one_at e d (admitted_held z certs e.header.round e h.admitted) t h.place) h.admitted

  module _ (others : List Node) (same : (c : Node) → Contains others c ↔ Contains certs c) where
    -- what is found at a place where one waits is that one
    pub waits_there : (a : CertRef) (d : Node) → WaitsAt z certs a → Contains others d × IsIdAt others a d.id → IsWaiting z certs d × (place_of d ≡ a)
    waits_there a d w f =
        let t = (same d).0 f.0 in
        let at = f.1 in
        let place : place_of d ≡ a = ap place_of (sym (clear.no_collision at.cert d ((same at.cert).0 at.is_held) t at.id_is)) ∙ at.place_is in
        (subst (IsWaiting z certs) (one_at w.0 d w.1.is_held t (w.2 ∙ sym place)) w.1, place)

    -- and one is found
    pub waits_somewhere : (a : CertRef) → WaitsAt z certs a → ((id : List ℕ) → IsIdAt others a id → ⊥) → ⊥
    waits_somewhere a w none = none w.0.id (record { cert = w.0; is_held = (same w.0).1 w.1.is_held; place_is = w.2; id_is = refl })

-- ---- a parent

module _ (z : Sizes) (certs : List Node) (rejects : List Reject) (clear : IsClear certs) (c d : Node) (t : Contains certs d) where
  waits_here : (IsPresent z certs (place_of d) → ⊥) → IsParentLine z certs rejects c d.id (line.ParentWaiting d.id d.header.round d.header.author ∷ [])
  waits_here none = waits d refl (record { is_held = t; not_admitted = λ h. none (d, record { admitted = h; place = refl }) })

  pub line_waits : (id : List ℕ) (before author : ℕ) → id ≡ d.id → before ≡ d.header.round → author ≡ d.header.author
      → (IsPresent z certs (record { round = before; author = author }) → ⊥) → IsParentLine z certs rejects c d.id (line.ParentWaiting id before author ∷ [])
  line_waits id before author ei eb ea =
      subst (λ (y : List ℕ × ℕ × ℕ). (IsPresent z certs (record { round = y.1; author = y.2 }) → ⊥) → IsParentLine z certs rejects c d.id (line.ParentWaiting y.0 y.1 y.2 ∷ []))
      (λ j. (sym ei j, sym eb j, sym ea j)) waits_here

  stands_here : (e : Node) → StandsAt z certs (place_of d) e → IsParentLine z certs rejects c d.id (line_if (round_line d.id (place_of d) c.header.round))
  stands_here e h = by_test (eqb (d.header.round + 1) c.header.round) refl
    where
      by_test : (b : Bool) → eqb (d.header.round + 1) c.header.round ≡ b → IsParentLine z certs rejects c d.id (line_if (cond b None (Some (line.ParentRound d.id d.header.round d.header.author))))
      by_test true is = fits d refl (admitted_at z certs clear d e t h) (eqb-true (d.header.round + 1) c.header.round is)
      by_test false is = other_round d refl (admitted_at z certs clear d e t h) (λ k. both_ways (eqb (d.header.round + 1) c.header.round) is (eq-eqb (d.header.round + 1) c.header.round k))

  pub line_stands : (id : List ℕ) (before author round : ℕ) (e : Node) (found : Option Line) → id ≡ d.id → before ≡ d.header.round → author ≡ d.header.author → c.header.round ≡ round
      → StandsAt z certs (record { round = before; author = author }) e → found ≡ round_line id (record { round = before; author = author }) round → IsParentLine z certs rejects c d.id (line_if found)
  line_stands id before author round e found ei eb ea er =
      subst (λ (y : List ℕ × ℕ × ℕ × ℕ). StandsAt z certs (record { round = y.1; author = y.2 }) e → found ≡ round_line y.0 (record { round = y.1; author = y.2 }) y.3 → IsParentLine z certs rejects c d.id (line_if found))
      (λ j. (sym ei j, sym eb j, sym ea j, er j))
      (λ h f. subst (λ (l : Option Line). IsParentLine z certs rejects c d.id (line_if l)) (sym f) (stands_here e h))

-- ---- all parents

module _ (z : Sizes) (certs : List Node) (rejects : List Reject) (c : Node) where
  lines_more : (ps : List (List ℕ)) (p : List ℕ) (found one : List Line) → AreParentLines z certs rejects c ps found → IsParentLine z certs rejects c p one → AreParentLines z certs rejects c (ps ++ p ∷ []) (found ++ one)
  lines_more [] p found one h k = (one, [], k, refl, ap (λ (ls : List Line). ls ++ one) h ∙ sym (append-nil one))
  lines_more (q ∷ ps) p found one (first, later, here, rest, e) k =
      (first, later ++ one, here, lines_more ps p later one rest k, ap (λ (ls : List Line). ls ++ one) e ∙ append_assoc first later one)

pub parents_more : (g : GraphValue) (c : Node) (ps : List (List ℕ)) (p : List ℕ) (old now new one : List Line) → HasParentLines g c ps old now → IsParentLine g.sizes g.certs g.rejects c p one → new ≡ now ++ one
    → HasParentLines g c (ps ++ p ∷ []) old new
parents_more g c ps p old now new one (found, are, is) here e = (
  found ++ one,
  lines_more g.sizes g.certs g.rejects c ps p found one are here,
  e ∙ ap (λ (ls : List Line). ls ++ one) is ∙ append_assoc old found one,
)

-- ---- their authors

module _ (certs : List Node) (ps : List (List ℕ)) (p : List ℕ) where
  pub made_none : ((d : Node) → Contains certs d → d.id ≡ p → ⊥) → (x : ℕ) → MadeOneOf certs ps x ↔ MadeOneOf certs (ps ++ p ∷ []) x
  made_none none x = (
    (λ m. (m.0, m.1, Contains-append_left ps (p ∷ []) m.0.id m.2, m.3)),
    (λ m. ⊎_elim
        (λ (here : Contains ps m.0.id). (m.0, m.1, here, m.3))
        (λ (last : Contains (p ∷ []) m.0.id). absurd (⊎_elim (λ (e : p ≡ m.0.id). none m.0 m.1 (sym e)) (λ (nothing : Contains [] m.0.id). none_in_nil m.0.id nothing) (contains_cases p [] m.0.id last)))
        (Contains-append_cases ps (p ∷ []) m.0.id m.2)),
  )

  pub made_more : (d : Node) → ((c : Node) → Contains certs c → c.id ≡ d.id → c ≡ d) → Contains certs d → d.id ≡ p → (x : ℕ) → (MadeOneOf certs ps x ⊎ (x ≡ d.header.author)) ↔ MadeOneOf certs (ps ++ p ∷ []) x
  made_more d one t e x = (
    ⊎_elim
        (λ (m : MadeOneOf certs ps x). (m.0, m.1, Contains-append_left ps (p ∷ []) m.0.id m.2, m.3))
        (λ (is : x ≡ d.header.author). (d, t, Contains-append_right ps (p ∷ []) d.id (subst (λ (q : List ℕ). Contains (p ∷ []) q) (sym e) (contains_first p [])), sym is)),
    (λ m. ⊎_elim
        (λ (here : Contains ps m.0.id). inl (m.0, m.1, here, m.3))
        (λ (last : Contains (p ∷ []) m.0.id). inr (⊎_elim
        (λ (k : p ≡ m.0.id). sym m.3 ∙ ap (λ (n : Node). n.header.author) (one m.0 m.1 (sym k ∙ sym e)))
        (λ (nothing : Contains [] m.0.id). absurd (none_in_nil m.0.id nothing))
        (contains_cases p [] m.0.id last)))
        (Contains-append_cases ps (p ∷ []) m.0.id m.2)),
  )

-- ---- step by step

next_part : {X : Type 0} (xs : List X) (k : ℕ) (x d : X) → k < length xs → x ≡ get_or xs k d → take (k + 1) xs ≡ take k xs ++ x ∷ []
next_part xs k x d low here = take_more xs k d low ∙ ap (λ (y : _). take k xs ++ y ∷ []) (sym here)

pub parents_next : (g : GraphValue) (c : Node) (parents : List (List ℕ)) (k : ℕ) (p d : List ℕ) (old now new one : List Line) → k < length parents → p ≡ get_or parents k d → HasParentLines g c (take k parents) old now
    → IsParentLine g.sizes g.certs g.rejects c p one → new ≡ now ++ one → HasParentLines g c (take (k + 1) parents) old new
parents_next g c parents k p d old now new one low here h line e =
    subst (λ (ps : List (List ℕ)). HasParentLines g c ps old new) (sym (next_part parents k p d low here)) (parents_more g c (take k parents) p old now new one h line e)

module _ (certs : List Node) (parents : List (List ℕ)) (k : ℕ) (p default : List ℕ) (low : k < length parents) (here : p ≡ get_or parents k default) (old : ℕ) (are : (x : ℕ) → Has old x ↔ MadeOneOf certs (take k parents) x) where
  pub authors_same : ((d : Node) → Contains certs d → d.id ≡ p → ⊥) → (x : ℕ) → Has old x ↔ MadeOneOf certs (take (k + 1) parents) x
  authors_same none x = subst (λ (ps : List (List ℕ)). Has old x ↔ MadeOneOf certs ps x) (sym (next_part parents k p default low here)) (
    (λ h. (made_none certs (take k parents) p none x).0 ((are x).0 h)),
    (λ m. (are x).1 ((made_none certs (take k parents) p none x).1 m)),
  )

  pub authors_more : (d : Node) (new author : ℕ) → ((c : Node) → Contains certs c → c.id ≡ d.id → c ≡ d) → Contains certs d → d.id ≡ p → author ≡ d.header.author → ((y : ℕ) → Has new y ↔ (Has old y ⊎ (y ≡ author)))
      → (x : ℕ) → Has new x ↔ MadeOneOf certs (take (k + 1) parents) x
  authors_more d new author one t e is added x = subst (λ (ps : List (List ℕ)). Has new x ↔ MadeOneOf certs ps x) (sym (next_part parents k p default low here)) (
    (λ h. (made_more certs (take k parents) p d one t e x).0 (⊎_elim (λ (o : Has old x). inl ((are x).0 o)) (λ (n : x ≡ author). inr (n ∙ is)) ((added x).0 h))),
    (λ m. (added x).1 (⊎_elim (λ (o : MadeOneOf certs (take k parents) x). inl ((are x).1 o)) (λ (n : x ≡ d.header.author). inr (n ∙ sym is)) ((made_more certs (take k parents) p d one t e x).1 m))),
  )

pub author_low : (z : Sizes) (d : Node) (author : ℕ) → d.header.author < members z → members z ≤ 128 → author ≡ d.header.author → author < 128
author_low z d author low few e = omega (arith, low, few, e)

pub author_member : (z : Sizes) (d : Node) (x : ℕ) → d.header.author < members z → d.header.author ≡ x → x < members z
author_member z d x low e = omega (arith, low, e)

pub weighs_exactly : (z : Sizes) (certs : List Node) (c : Node) (parents : List (List ℕ)) (authors weight : ℕ) → parents ≡ c.header.parents → ((x : ℕ) → Has authors x ↔ MadeOneOf certs parents x)
    → IsWeightOf z authors weight → WeighExactly z (MadeParent certs c) weight
weighs_exactly z certs c parents authors weight e are w =
    subst (λ (ps : List (List ℕ)). ((x : ℕ) → Has authors x ↔ MadeOneOf certs ps x) → WeighExactly z (MadeParent certs c) weight) (sym e)
    (λ made. record { who = w.who; apart = w.apart; lists = λ x. ((λ t. (made x).0 ((w.lists x).0 t)), (λ m. (w.lists x).1 ((made x).1 m))); is = w.is }) are

-- ---- all that waits

module _ (z : Sizes) (certs : List Node) (rejects : List Reject) where
  waiting_more : (places : List CertRef) (a : CertRef) (lines reasons : List Line) (c : Node) → AreWaitingLines z certs rejects places lines → IsWaiting z certs c → place_of c ≡ a → AreReasons z certs rejects c reasons
      → AreWaitingLines z certs rejects (places ++ a ∷ []) (lines ++ line.Waiting a.round a.author c.id ∷ reasons)
  waiting_more [] a lines reasons c h w e why =
      (c, reasons, [], w, e, why, refl, ap (λ (ls : List Line). ls ++ line.Waiting a.round a.author c.id ∷ reasons) h ∙ ap (λ (ls : List Line). line.Waiting a.round a.author c.id ∷ ls) (sym (append-nil reasons)))
  waiting_more (b ∷ places) a lines reasons c (d, others, later, wd, ed, whyd, rest, is) w e why = (
    d,
    others,
    later ++ line.Waiting a.round a.author c.id ∷ reasons,
    wd,
    ed,
    whyd,
    waiting_more places a later reasons c rest w e why,
    ap (λ (ls : List Line). ls ++ line.Waiting a.round a.author c.id ∷ reasons) is
        ∙ ap (λ (ls : List Line). line.Waiting b.round b.author d.id ∷ ls) (append_assoc others later (line.Waiting a.round a.author c.id ∷ reasons)),
  )

pub adds_next : (g : GraphValue) (places : List CertRef) (k : ℕ) (a d : CertRef) (old now new : List ℕ) (entry : List Line) → k < length places → get_or places k d ≡ a → AddsWaiting g (take k places) old now
    → IsEntry g a entry → new ≡ now ++ text_of entry → AddsWaiting g (take (k + 1) places) old new
adds_next g places k a d old now new entry low here (lines, are, is) (c, reasons, w, e, why, made) added = (
  lines ++ entry,
  subst (λ (p : List CertRef × List Line). AreWaitingLines g.sizes g.certs g.rejects p.0 (lines ++ p.1))
      (λ j. (sym (next_part places k a d low (sym here)) j, sym made j))
      (waiting_more g.sizes g.certs g.rejects (take k places) a lines reasons c are w e why),
  added ∙ ap (λ (t : List ℕ). t ++ text_of entry) is
      ∙ append_assoc old (text_of lines) (text_of entry)
      ∙ ap (λ (t : List ℕ). old ++ t) (sym (flat_map-append (λ (l : Line). line_text l ++ 10 ∷ []) lines entry)),
)
