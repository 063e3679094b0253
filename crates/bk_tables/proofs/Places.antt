-- With which anchor certificates were ordered.
use Rattle.std.proofs.Common.{◌≡◌, ℕ, zero, suc, ◌+◌, ◌<◌, ◌≤◌, List, [], ◌∷◌, ◌++◌, length, map, take, drop, get_or, refl, sym, ap, subst, ◌∙◌, ⊎_elim, arith}
use Rattle.std.specs.Prelude.{reverse}
use Rattle.std.specs.List.{Contains}
use Rattle.std.proofs.lemmas.List.{append_cancel_left, map-append, reverse-append, take-append-drop, take_more}
use Rattle.std.proofs.lemmas.List.Elements.{Contains-append_right, Contains-append_cases, Contains-get_or}
use Rattle.bk_committee.specs.Sizes.{Sizes}
use Rattle.bk_cert.specs.Node.{Node}
use Rattle.bk_cert.specs.declared.place.CertRef.{CertRef}
use Rattle.bk_cert.proofs.Lists.{none_in_nil, contains_cases, from_map}
use Rattle.bk_commit.specs.Ordering.{InHistory, IsCommitted, IsCommittedBack, IsWayBack, Leads}
use Rattle.bk_commit.proofs.Levels.{reached_round}
use Rattle.bk_commit.proofs.Settled.{in_reverse}
use Rattle.bk_flatten.specs.Order.{IsOrder}
use Rattle.bk_flatten.proofs.Extended.{order_has_history}
use Rattle.bk_flatten.proofs.Orders.{one_order_back}
use Rattle.bk_flatten.proofs.Whole.{anchor_way, reverse_push}
use Rattle.bk_tables.specs.Batches.{IsOrderedIn}
use Rattle.bk_tables.specs.private.Placing.{certs_of, placed_with}
use Rattle.bk_tables.specs.declared.placing.Placed.{Placed}

abbrev pub nobody : CertRef
nobody = record { round = 0; author = 0 }

-- ---- histories

walk_on : (z : Sizes) (held : List Node) (n : ℕ) (a b c : CertRef) → Leads z held n a b → InHistory z held b c → InHistory z held a c
walk_on z held zero a b c w v = subst (λ (q : CertRef). InHistory z held q c) (sym w) v
walk_on z held (suc n) a b c w v = let rest = walk_on z held n w.0 b c w.2 v in (suc rest.0, (w.0, w.1, rest.1))

through : (z : Sizes) (held : List Node) (a b c : CertRef) → InHistory z held a b → InHistory z held b c → InHistory z held a c
through z held a b c h k = walk_on z held h.0 a b c h.1 k

-- what is on the way back from an anchor is in its history
way_reached : (z : Sizes) (held : List Node) (a : CertRef) (ps : List CertRef) → IsWayBack z held a ps → (b : CertRef) → Contains ps b → InHistory z held a b
way_reached z held a [] way b t = absurd (none_in_nil b t)
way_reached z held a (p ∷ ps) way b t =
    let reached = way.0.earlier.reached in
    ⊎_elim
    (λ (same : p ≡ b). subst (InHistory z held a) same reached)
    (λ (later : Contains ps b). through z held a p b reached (way_reached z held p ps way.1 b later))
    (contains_cases p ps b t)

in_front : (z : Sizes) (held : List Node) (x : CertRef) (front : List CertRef) (a : CertRef) (rest : List CertRef) → IsWayBack z held x (front ++ a ∷ rest) → (b : CertRef) → Contains front b → InHistory z held b a
in_front z held x [] a rest way b t = absurd (none_in_nil b t)
in_front z held x (y ∷ front) a rest way b t = ⊎_elim
    (λ (same : y ≡ b). subst (λ (q : CertRef). InHistory z held q a) same (way_reached z held y (front ++ a ∷ rest) way.1 a (Contains-append_right front (a ∷ rest) a (here a rest))))
    (λ (later : Contains front b). in_front z held y front a rest way.1 b later)
    (contains_cases y front b t)
  where
    here : (a : CertRef) (rest : List CertRef) → Contains (a ∷ rest) a
    here a rest = Contains-get_or (a ∷ rest) 0 nobody (omega arith)

-- a committed anchor is in the history of the later ones
later_reach : (z : Sizes) (held : List Node) (front : List CertRef) (a : CertRef) (rest : List CertRef) → IsCommittedBack z held (front ++ a ∷ rest) → (b : CertRef) → Contains front b → InHistory z held b a
later_reach z held [] a rest settled b t = absurd (none_in_nil b t)
later_reach z held (y ∷ front) a rest settled b t = ⊎_elim
    (λ (same : y ≡ b). subst (λ (q : CertRef). InHistory z held q a) same (way_reached z held y (front ++ a ∷ rest) settled.1 a (Contains-append_right front (a ∷ rest) a (Contains-get_or (a ∷ rest) 0 nobody (omega arith)))))
    (λ (later : Contains front b). in_front z held y front a rest settled.1 b later)
    (contains_cases y front b t)

-- ---- the part of an anchor

-- what an anchor adds is in nobody of the histories of the anchors before it
apart : (z : Sizes) (held : List Node) (a : CertRef) (ps kept part : List CertRef) → IsWayBack z held a ps → IsOrder z held ps kept → IsOrder z held (a ∷ ps) (kept ++ part)
    → (b c : CertRef) → Contains ps b → Contains part c → InHistory z held b c → ⊥
apart z held a [] kept part way before order b c t u h = none_in_nil b t
apart z held a (p ∷ ps) kept part way before (front, more, first, lists, e) b c t u h =
    let same : front ≡ kept = one_order_back z held p ps front kept first before in
    let parts : part ≡ more = append_cancel_left kept part more (e ∙ ap (λ (xs : List CertRef). xs ++ more) same) in
    let new = (lists.sound c (subst (λ (xs : List CertRef). Contains xs c) parts u)).1 in
    new (⊎_elim
    (λ (is : p ≡ b). subst (λ (q : CertRef). InHistory z held q c) (sym is) h)
    (λ (later : Contains ps b). through z held p b c (way_reached z held p ps way.1 b later) h)
    (contains_cases p ps b t))

module _ (z : Sizes) (held : List Node) (anchors : List CertRef) (i : ℕ) (settled : IsCommitted z held anchors) (low : i < length anchors) where
  abbrev a : CertRef
  a = get_or anchors i nobody

  abbrev before : List CertRef
  before = take i anchors

  abbrev rest : List CertRef
  rest = drop (i + 1) anchors

  parts : anchors ≡ (before ++ a ∷ []) ++ rest
  parts = sym (take-append-drop (i + 1) anchors) ∙ ap (λ (xs : List CertRef). xs ++ rest) (take_more anchors i nobody low)

  way : IsWayBack z held a (reverse before)
  way = anchor_way z held anchors i nobody settled low

  back_is : reverse anchors ≡ reverse rest ++ a ∷ reverse before
  back_is = ap reverse parts ∙ reverse-append (before ++ a ∷ []) rest ∙ ap (λ (ys : List CertRef). reverse rest ++ ys) (reverse_push before a)

  -- anchors after it are of no smaller round
  not_before : (b : CertRef) → Contains rest b → a.round ≤ b.round
  not_before b t = reached_round z held b a (later_reach z held (reverse rest) a (reverse before) (subst (IsCommittedBack z held) back_is settled) b (in_reverse rest b t))

  -- what the anchor adds to the order was ordered with it
  pub added : (kept part : List CertRef) → IsOrder z held (reverse before) kept → IsOrder z held (a ∷ reverse before) (kept ++ part)
      → (c : CertRef) → Contains part c → IsOrderedIn z held anchors c a.round
  added kept part old new c t = record {
    anchor = a;
    committed = Contains-get_or anchors i nobody low;
    reached = (order_has_history z held a (reverse before) (kept ++ part) way new c).0 (Contains-append_right kept part c t);
    round_is = refl;
    first = λ b u h. ⊎_elim
        (λ (front : Contains (before ++ a ∷ []) b). ⊎_elim
        (λ (early : Contains before b). absurd (apart z held a (reverse before) kept part way old new b c (in_reverse before b early) t h))
        (λ (one : Contains (a ∷ []) b). ⊎_elim (λ (same : a ≡ b). let e = ap (λ (q : CertRef). q.round) same in omega (arith, e)) (λ (nothing : Contains [] b). absurd (none_in_nil b nothing)) (contains_cases a [] b one))
        (Contains-append_cases before (a ∷ []) b front))
        (λ (late : Contains rest b). not_before b late)
        (Contains-append_cases (before ++ a ∷ []) rest b (subst (λ (xs : List CertRef). Contains xs b) parts u));
  }

-- the certificates that are placed
pub certs_added : (old part : List CertRef) (placed : List Placed) (anchor : ℕ) → certs_of placed ≡ old → certs_of (placed ++ map (placed_with anchor) part) ≡ old ++ part
certs_added old part placed anchor e = map-append (λ (p : Placed). p.cert) placed (map (placed_with anchor) part) ∙ (λ i. e i ++ certs_with part i)
  where
    certs_with : (cs : List CertRef) → certs_of (map (placed_with anchor) cs) ≡ cs
    certs_with [] = refl
    certs_with (c ∷ cs) = ap (λ (ds : List CertRef). c ∷ ds) (certs_with cs)

-- the certificates of the anchors before one, each with its anchor
pub record HasPlaced (z : Sizes) (held : List Node) (anchors : List CertRef) (i : ℕ) (flat : List CertRef) (placed : List Placed) : Type 0 where
  pub order : IsOrder z held (reverse (take i anchors)) flat
  pub certs : certs_of placed ≡ flat
  pub each : (p : Placed) → Contains placed p → IsOrderedIn z held anchors p.cert p.anchor

pub more_placed : (z : Sizes) (held : List Node) (anchors : List CertRef) (i : ℕ) (flat flat' part : List CertRef) (placed : List Placed) → IsCommitted z held anchors → i < length anchors
    → HasPlaced z held anchors i flat placed → flat' ≡ flat ++ part → ((ps : List CertRef) → IsWayBack z held (get_or anchors i nobody) ps → IsOrder z held (get_or anchors i nobody ∷ ps) flat')
    → HasPlaced z held anchors (i + 1) flat' (placed ++ map (placed_with (get_or anchors i nobody).round) part)
more_placed z held anchors i flat flat' part placed settled low h e goes_on =
    let anchor : CertRef = get_or anchors i nobody in
    let new : IsOrder z held (anchor ∷ reverse (take i anchors)) flat' = goes_on (reverse (take i anchors)) (anchor_way z held anchors i nobody settled low) in
    record {
      order = subst (λ (ys : List CertRef). IsOrder z held ys flat') (sym (ap reverse (take_more anchors i nobody low) ∙ reverse_push (take i anchors) anchor)) new;
      certs = certs_added flat part placed anchor.round h.certs ∙ sym e;
      each = λ p t. ⊎_elim
          (λ (early : Contains placed p). h.each p early)
          (λ (late : Contains (map (placed_with anchor.round) part) p).
          let f = from_map (placed_with anchor.round) part p late in
          subst (λ (q : Placed). IsOrderedIn z held anchors q.cert q.anchor) f.2
          (added z held anchors i settled low flat part h.order (subst (IsOrder z held (anchor ∷ reverse (take i anchors))) e new) f.0 f.1))
          (Contains-append_cases placed (map (placed_with anchor.round) part) p t);
    }
