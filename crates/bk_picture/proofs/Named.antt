-- The parents that a certificate names, among the certificates that are held.
use Rattle.std.proofs.Common.{◌≡◌, ℕ, ◌+◌, ◌-◌, ◌<◌, ◌≤◌, ◌⊎◌, inl, inr, List, [], ◌∷◌, ◌++◌, length, Option, Some, None, true, refl, sym, ap, subst, ◌∙◌, ⊎_elim, arith, take, get_or}
use Rattle.std.specs.Prelude.{◌↔◌, IfSome}
use Rattle.std.specs.Option.{is_some}
use Rattle.std.specs.List.{Contains}
use Rattle.std.proofs.lemmas.Bool.{false≢true}
use Rattle.std.proofs.lemmas.List.{take_more}
use Rattle.std.proofs.lemmas.List.Elements.{Contains-append_cases, Contains-append_left, Contains-append_right}
use Rattle.bk_cert.proofs.Lists.{none_in_nil, contains_cases, contains_first}
use Rattle.bk_cert.specs.Clear.{IsClear}
use Rattle.bk_cert.specs.Node.{Node}
use Rattle.bk_cert.specs.Place.{place_of}
use Rattle.bk_cert.specs.declared.place.CertRef.{CertRef}
use Rattle.bk_committee.specs.Sizes.{Sizes, members}
use Rattle.bk_evidence.specs.Held.{IsNewId}
use Rattle.bk_evidence.specs.Twins.{IsIdAt}
use Rattle.bk_rounds.specs.Admission.{IsAdmitted, IsPresent}
use Rattle.bk_rounds.specs.Links.{Links}
use Rattle.bk_rounds.specs.Members.{Has}
use Rattle.bk_rounds.proofs.Admitted.{admitted_held, admitted_here, parent_named}
use Rattle.bk_picture.specs.Picture.{HoldSame, IsLinkIn, IsParentIn, NamesHeld, at_place, graph_with}
use Rattle.bk_picture.specs.private.Cells.{IsNamedIn}

-- the round and the member of a place
round_same : (a b : CertRef) → a ≡ b → a.round ≡ b.round
round_same a b e = ap (λ (c : CertRef). c.round) e

author_same : (a b : CertRef) → a ≡ b → a.author ≡ b.author
author_same a b e = ap (λ (c : CertRef). c.author) e

-- ---- the parents of an admitted certificate

-- a link is from one that is held to one that is held
link_named : (z : Sizes) (held : List Node) (a b : CertRef) → Links z held a b → NamesHeld held a b
link_named z held a b h = record {
  child = h.child;
  parent = h.parent;
  child_held = admitted_held z held h.child.header.round h.child h.child_at.admitted;
  child_at = h.child_at.place;
  parent_held = admitted_held z held h.parent.header.round h.parent h.parent_at.admitted;
  parent_at = h.parent_at.place;
  names = h.names;
}

module _ (held : List Node) (clear : IsClear held) where
  one_at : (c d : Node) → Contains held c → Contains held d → place_of c ≡ place_of d → c ≡ d
  one_at c d t u e = clear.no_collision c d t u (clear.no_twins c d t u e)

  -- the parents that an admitted certificate names are admitted
  named_link : (z : Sizes) (a : CertRef) (y : ℕ) → 1 < a.round → IsPresent z held a → NamesHeld held a (at_place (a.round - 1) y) → Links z held a (at_place (a.round - 1) y)
  named_link z a y high here h =
      let is : here.0 ≡ h.child = one_at here.0 h.child (admitted_held z held here.0.header.round here.0 here.1.admitted) h.child_held (here.1.place ∙ sym h.child_at) in
      let admitted : IsAdmitted z held h.child = subst (IsAdmitted z held) is here.1.admitted in
      let round = round_same (place_of h.child) a h.child_at in
      let d = parent_named z held (a.round - 1) h.child (omega (arith, high)) (omega (arith, round, high)) admitted h.parent.id h.names in
      let same : d.0 ≡ h.parent = clear.no_collision d.0 h.parent (admitted_held z held (a.round - 1) d.0 d.1) h.parent_held d.2 in
      record {
        child = h.child;
        parent = h.parent;
        child_at = record { admitted = admitted; place = h.child_at };
        parent_at = record { admitted = subst (IsAdmitted z held) same (admitted_here z held (a.round - 1) d.0 d.1); place = h.parent_at };
        names = h.names;
        before = omega (arith, high);
      }

  -- so those that are held are the admitted ones
  admitted_parents : (z : Sizes) (anchors order : List CertRef) (from : ℕ) (a : CertRef) → 1 ≤ from → IsPresent z held a → (y : ℕ) → IsLinkIn (graph_with z held anchors order) from a y ↔ IsParentIn (graph_with z held anchors order) from a y
  admitted_parents z anchors order from a first here y = (
    (λ h. (h.0, link_named z held a (at_place (a.round - 1) y) h.1)),
    (λ h. let shown = h.0 in (shown, named_link z a y (omega (arith, first, shown)) here h.1)),
  )

  pub parents_admitted : (z : Sizes) (anchors order : List CertRef) (from : ℕ) (a : CertRef) (linked : ℕ) → 1 ≤ from → IsPresent z held a → ((y : ℕ) → Has linked y ↔ IsLinkIn (graph_with z held anchors order) from a y)
      → (y : ℕ) → Has linked y ↔ IsParentIn (graph_with z held anchors order) from a y
  parents_admitted z anchors order from a linked first here are y = (
    (λ h. (admitted_parents z anchors order from a first here y).0 ((are y).0 h)),
    (λ h. (are y).1 ((admitted_parents z anchors order from a first here y).1 h)),
  )

  -- ---- the parents of a certificate that is held

  named_here : (a : CertRef) (d : Node) → Contains held d → place_of d ≡ a → (y : ℕ) → IsNamedIn held (a.round - 1) d.header.parents y ↔ NamesHeld held a (at_place (a.round - 1) y)
  named_here a d t at y = (
    (λ m. record { child = d; parent = m.0; child_held = t; child_at = at; parent_held = m.1; parent_at = m.2; names = m.3 }),
    (λ h. (h.parent, h.parent_held, h.parent_at, subst (λ (c : Node). Contains c.header.parents h.parent.id) (one_at h.child d h.child_held t (h.child_at ∙ sym at)) h.names)),
  )

  module _ (others : List Node) (same : HoldSame others held) where
    -- the certificate that is found at a place is of that place
    found_at : (a : CertRef) (d : Node) → Contains others d × IsIdAt others a d.id → Contains held d × (place_of d ≡ a)
    found_at a d f =
        let t = (same d).0 f.0 in
        let at = f.1 in
        (t, ap place_of (sym (clear.no_collision at.cert d ((same at.cert).0 at.is_held) t at.id_is)) ∙ at.place_is)

    pub named_all : (a : CertRef) (d : Node) → Contains others d × IsIdAt others a d.id → (ids : List (List ℕ)) → ids ≡ d.header.parents → (named : ℕ) → ((y : ℕ) → Has named y ↔ IsNamedIn held (a.round - 1) ids y)
        → (y : ℕ) → Has named y ↔ NamesHeld held a (at_place (a.round - 1) y)
    named_all a d f ids e named are y =
        let at = found_at a d f in
        let all = subst (λ (ps : List (List ℕ)). (x : ℕ) → Has named x ↔ IsNamedIn held (a.round - 1) ps x) e are in (
          (λ h. (named_here a d at.0 at.1 y).0 ((all y).0 h)),
          (λ h. (all y).1 ((named_here a d at.0 at.1 y).1 h)),
        )

    -- ---- one id more

    -- no certificate has the id
    pub none_added : (round set : ℕ) (id : List ℕ) → IsNewId others id → (y : ℕ) → Has set y ↔ (Has set y ⊎ IsIdAt held (at_place round y) id)
    none_added round set id new y = (
      (λ h. inl h),
      ⊎_elim (λ (h : Has set y). h) (λ (h : IsIdAt held (at_place round y) id). absurd (new h.cert ((same h.cert).1 h.is_held) h.id_is)),
    )

    -- the certificate with the id
    the_one : (id : List ℕ) (d : Node) → Contains others d × (d.id ≡ id) → (a : CertRef) (h : IsIdAt held a id) → place_of d ≡ a
    the_one id d f a h = ap place_of (clear.no_collision d h.cert ((same d).0 f.0) h.is_held (f.1 ∙ sym h.id_is)) ∙ h.place_is

    -- it is of another round
    pub other_added : (round set : ℕ) (id : List ℕ) (d : Node) → Contains others d × (d.id ≡ id) → (d.header.round ≡ round → ⊥) → (y : ℕ) → Has set y ↔ (Has set y ⊎ IsIdAt held (at_place round y) id)
    other_added round set id d f apart y = (
      (λ h. inl h),
      ⊎_elim (λ (h : Has set y). h) (λ (h : IsIdAt held (at_place round y) id). absurd (apart (round_same (place_of d) (at_place round y) (the_one id d f (at_place round y) h)))),
    )

    -- it is of this round
    pub one_added : (round set new author : ℕ) (id : List ℕ) (d : Node) → Contains others d × (d.id ≡ id) → d.header.round ≡ round → author ≡ d.header.author → ((y : ℕ) → Has new y ↔ (Has set y ⊎ (y ≡ author)))
        → (y : ℕ) → Has new y ↔ (Has set y ⊎ IsIdAt held (at_place round y) id)
    one_added round set new author id d f of is added y = (
      (λ h. ⊎_elim (λ (old : Has set y). inl old) (λ (e : y ≡ author). inr (here (e ∙ is))) ((added y).0 h)),
      (λ h. (added y).1 (⊎_elim (λ (old : Has set y). inl old) (λ (i : IsIdAt held (at_place round y) id). inr (sym (author_same (place_of d) (at_place round y) (the_one id d f (at_place round y) i)) ∙ sym is)) h)),
    )
      where
        here : y ≡ d.header.author → IsIdAt held (at_place round y) id
        here e = record { cert = d; is_held = (same d).0 f.0; place_is = λ j. record { round = of j; author = sym e j }; id_is = f.1 }

-- where the round before is not drawn, there is no parent
pub parents_unseen : (z : Sizes) (held : List Node) (anchors order : List CertRef) (from : ℕ) (a : CertRef) (linked : ℕ) → a.round ≤ from → ((y : ℕ) → Has linked y ↔ IsLinkIn (graph_with z held anchors order) from a y)
    → (y : ℕ) → Has linked y ↔ IsParentIn (graph_with z held anchors order) from a y
parents_unseen z held anchors order from a linked low are y = (
  (λ h. let shown = ((are y).0 h).0 in absurd (omega (arith, low, shown))),
  (λ h. let shown = h.0 in absurd (omega (arith, low, shown))),
)

-- what is known of a value that is there
pub if_there : {X : Type 0} (r : Option X) (P : X → Type 0) (Q : Type 0) → IfSome r P → is_some r ≡ true → ((x : X) → P x → Q) → Q
if_there None P Q h e f = absurd (false≢true e)
if_there (Some x) P Q h e f = f x h

-- where none is held at a place, none is named there
pub named_nowhere : (held others : List Node) → HoldSame others held → (a b : CertRef) → ((id : List ℕ) → IsIdAt others a id → ⊥) → NamesHeld held a b → ⊥
named_nowhere held others same a b none h = none h.child.id (record { cert = h.child; is_held = (same h.child).1 h.child_held; place_is = h.child_at; id_is = refl })

-- ---- id by id

pub named_none : (held : List Node) (round y : ℕ) → IsNamedIn held round [] y → ⊥
named_none held round y m = none_in_nil m.0.id m.3

named_more : (held : List Node) (round : ℕ) (ids : List (List ℕ)) (id : List ℕ) (y : ℕ) → (IsNamedIn held round ids y ⊎ IsIdAt held (at_place round y) id) ↔ IsNamedIn held round (ids ++ id ∷ []) y
named_more held round ids id y = (
  ⊎_elim
      (λ (m : IsNamedIn held round ids y). (m.0, m.1, m.2, Contains-append_left ids (id ∷ []) m.0.id m.3))
      (λ (h : IsIdAt held (at_place round y) id). (h.cert, h.is_held, h.place_is, Contains-append_right ids (id ∷ []) h.cert.id (subst (λ (q : List ℕ). Contains (id ∷ []) q) (sym h.id_is) (contains_first id [])))),
  (λ m. ⊎_elim
      (λ (here : Contains ids m.0.id). inl (m.0, m.1, m.2, here))
      (λ (last : Contains (id ∷ []) m.0.id). inr (record {
        cert = m.0;
        is_held = m.1;
        place_is = m.2;
        id_is = ⊎_elim (λ (e : id ≡ m.0.id). sym e) (λ (nothing : Contains [] m.0.id). absurd (none_in_nil m.0.id nothing)) (contains_cases id [] m.0.id last);
      }))
      (Contains-append_cases ids (id ∷ []) m.0.id m.3)),
)

pub named_next : (held : List Node) (round : ℕ) (ids : List (List ℕ)) (k : ℕ) (id default : List ℕ) (old new : ℕ) → k < length ids → id ≡ get_or ids k default → ((y : ℕ) → Has old y ↔ IsNamedIn held round (take k ids) y)
    → ((y : ℕ) → Has new y ↔ (Has old y ⊎ IsIdAt held (at_place round y) id)) → (y : ℕ) → Has new y ↔ IsNamedIn held round (take (k + 1) ids) y
named_next held round ids k id default old new low here are added y =
    let next : take (k + 1) ids ≡ take k ids ++ id ∷ [] = take_more ids k default low ∙ ap (λ (x : List ℕ). take k ids ++ x ∷ []) (sym here) in
    subst (λ (part : List (List ℕ)). Has new y ↔ IsNamedIn held round part y) (sym next) (
      (λ h. (named_more held round (take k ids) id y).0 (⊎_elim (λ (o : Has old y). inl ((are y).0 o)) (λ (i : IsIdAt held (at_place round y) id). inr i) ((added y).0 h))),
      (λ m. (added y).1 (⊎_elim (λ (o : IsNamedIn held round (take k ids) y). inl ((are y).1 o)) (λ (i : IsIdAt held (at_place round y) id). inr i) ((named_more held round (take k ids) id y).1 m))),
    )

-- an author is a member
pub author_low : (z : Sizes) (d : Node) (author count : ℕ) → d.header.author < members z → count ≡ members z → count ≤ 128 → author ≡ d.header.author → author < 128
author_low z d author count low all few e = omega (arith, low, all, few, e)
