-- The order that is settled.
use Rattle.std.proofs.Common.{◌≡◌, ℕ, zero, suc, ◌+◌, ◌<◌, ◌≤◌, List, [], ◌∷◌, ◌++◌, length, take, get_or, reverse, Bool, Some, refl, sym, ap, subst, ◌∙◌, arith, append_assoc, length-append}
use Rattle.std.specs.Prelude.{not, filter}
use Rattle.std.specs.Str.{bytes_eq}
use Rattle.std.specs.List.{Contains, flat_map}
use Rattle.std.proofs.lemmas.List.{append-nil, take_more, take_all, get_or_append_left}
use Rattle.std.proofs.lemmas.List.Elements.{filter-append, Contains-append_right}
use Rattle.std.proofs.lemmas.List.Concat.{flat_map-append}
use Rattle.std.proofs.lemmas.List.Quantifiers.{position-Some}
use Rattle.bk_committee.specs.Sizes.{Sizes}
use Rattle.bk_cert.specs.Node.{Node}
use Rattle.bk_cert.specs.Clear.{IsClear}
use Rattle.bk_cert.specs.declared.place.CertRef.{CertRef}
use Rattle.bk_rounds.specs.Admission.{IsPresent}
use Rattle.bk_evidence.specs.Batches.{Batch}
use Rattle.bk_evidence.specs.declared.batches.BatchRef.{BatchRef}
use Rattle.bk_commit.specs.Growth.{IsPartOf, IsPrefix}
use Rattle.bk_rounds.specs.Votes.{IsVoted}
use Rattle.bk_commit.specs.Ordering.{IsCommitted, IsCommittedBack, IsWayBack}
use Rattle.bk_commit.proofs.Grown.{voted_more, walk_present, way_back_more}
use Rattle.bk_flatten.specs.Order.{IsOrder}
use Rattle.bk_flatten.specs.Batches.{once, named_at, digests_of, AreFound, IsFoundWhole, before_missing, payload_at}
use Rattle.bk_flatten.proofs.Growth.{names_same}
use Rattle.bk_flatten.proofs.Orders.{order_back_more, order_present}
use Rattle.bk_flatten.proofs.Extended.{order_has_history}
use Rattle.bk_flatten.proofs.Whole.{anchor_present, anchor_way, reverse_push}
use Rattle.bk_flatten.proofs.Taken.{found_stays, whole_list}
use Rattle.bk_rounds.proofs.Admitted.{admitted_held}
use Rattle.bk_cert.proofs.Lists.{none_in_nil}
use Rattle.std.specs.Prelude.{slice_get, map}
use Rattle.std.specs.List.{position}
use Rattle.bk_base.specs.declared.kind.Kind.TheVariants as kind
use Rattle.bk_base.specs.Feed.{Frame, frame_of}
use Rattle.bk_committee.specs.Payload.{CommitteeValue, sizes_of}
use Rattle.bk_rounds.specs.Admission.{WaitsAt}
use Rattle.bk_cert.specs.Place.{Lists}
use Rattle.bk_rounds.specs.Rounds.{RoundsValue, rounds_with}
use Rattle.bk_evidence.specs.Batches.{has_digest, batch_with}
use Rattle.bk_order.specs.Frames.{AreCerts, AreBatches}
use Rattle.bk_order.specs.Stops.{HasNoStop}
use Rattle.bk_order.specs.Orders.{AreRoundsOf, AreWaiting, IsOrderOf, Ordered, ordered_with}
use Rattle.bk_order.specs.Intake.{nothing_ordered}
use Rattle.bk_order.specs.declared.settling.Settled.{Settled}
use Rattle.bk_order.proofs.Sets.{clear_part}
use Rattle.bk_order.specs.private.Joined.{IsJoined, order_in, IsFollowed, IsSettled, IsSettling}

-- an order stays in a larger set
pub order_stays : (z : Sizes) (small large : List Node) → IsPartOf small large → IsClear large → (back xs : List CertRef) → IsCommittedBack z small back
    → IsOrder z small back xs → IsOrder z large back xs
order_stays z small large part clear [] xs settled h = h
order_stays z small large part clear (a ∷ ps) xs settled h = order_back_more z small large part clear a ps xs settled.0.voted.anchor.present settled.1 h

-- and so do its digests
pub digests_stay : (z : Sizes) (small large : List Node) → IsPartOf small large → IsClear large → (back xs : List CertRef) → IsCommittedBack z small back
    → IsOrder z small back xs → digests_of small xs ≡ digests_of large xs
digests_stay z small large part clear back xs settled h = ap once (names_same z small large part clear xs (order_present z small back xs settled h))

pub once_begins : (xs ys : List (List ℕ)) → IsPrefix (once xs) (once (xs ++ ys))
once_begins [] ys = (once ys, refl)
once_begins (x ∷ xs) ys =
    let h = once_begins xs ys in
    (filter (λ (e : List ℕ). not (bytes_eq x e)) h.0, ap (λ (t : List (List ℕ)). x ∷ filter (λ (e : List ℕ). not (bytes_eq x e)) t) h.1 ∙ ap (λ (t : List (List ℕ)). x ∷ t) (filter-append (λ (e : List ℕ). not (bytes_eq x e)) (once xs) h.0))

-- what is found stays found where more is named
pub found_on : (held : List Node) (batches : List Batch) (xs part : List CertRef) (ds es : List (List ℕ)) (found : List BatchRef) → ds ≡ digests_of held xs
    → es ≡ digests_of held (xs ++ part) → AreFound batches ds found → AreFound batches es found
found_on held batches xs part ds es found d e h =
    let more = once_begins (flat_map (named_at held) xs) (flat_map (named_at held) part) in
    let is : es ≡ ds ++ more.0 = e ∙ ap once (flat_map-append (named_at held) xs part) ∙ more.1 ∙ ap (λ (t : List (List ℕ)). t ++ more.0) (sym d) in
    subst (λ (t : List (List ℕ)). AreFound batches t found) (sym is)
    (subst (λ (bs : List Batch). AreFound bs (ds ++ more.0) found) (append-nil batches) (found_stays batches [] ds more.0 found h))

-- of nothing no anchor is voted
pub none_voted : (z : Sizes) (a : CertRef) → IsVoted z [] a → ⊥
none_voted z a v = let here = v.anchor.present in none_in_nil here.0 (admitted_held z [] here.0.header.round here.0 here.1.admitted)

-- nothing is ordered of nothing
pub followed_none : (z : Sizes) (held : List Node) (batches : List Batch) (s : Settled) → s.walk ≡ [] → s.flat ≡ [] → s.list.digests ≡ [] → s.list.found ≡ []
    → ((a : CertRef) → IsVoted z [] a → ⊥) → IsFollowed z held batches s
followed_none z held batches s w f d b none = record {
  part = [];
  inside = λ c h. absurd (none_in_nil c h);
  committed = subst (IsCommitted z []) (sym w) none;
  ordered = subst (λ (t : List CertRef). IsOrder z [] (reverse t) s.flat) (sym w) f;
  named = d ∙ ap (digests_of []) (sym f);
  found = subst (AreFound batches s.list.digests) (sym b) tt;
}

-- ---- the anchors that follow

take_past : (old new : List CertRef) (i : ℕ) → take (length old + i) (old ++ new) ≡ old ++ take i new
take_past [] new i = ap (λ (n : ℕ). take n new) (let e : 0 + i ≡ i = omega arith in e)
take_past (x ∷ old) new i = ap (λ (n : ℕ). take n (x ∷ old ++ new)) (let e : length (x ∷ old) + i ≡ suc (length old + i) = omega arith in e) ∙ ap (λ (t : List CertRef). x ∷ t) (take_past old new i)

get_past : (old new : List CertRef) (i : ℕ) (d : CertRef) → get_or (old ++ new) (length old + i) d ≡ get_or new i d
get_past [] new i d = ap (λ (n : ℕ). get_or new n d) (let e : 0 + i ≡ i = omega arith in e)
get_past (x ∷ old) new i d = ap (λ (n : ℕ). get_or (x ∷ old ++ new) n d) (let e : length (x ∷ old) + i ≡ suc (length old + i) = omega arith in e) ∙ get_past old new i d

module _ (z : Sizes) (held : List Node) (old new : List CertRef) (committed : IsCommitted z held (old ++ new)) (i : ℕ) (d : CertRef) (low : i < length new) where
  past : length old + i < length (old ++ new)
  past = let l = length-append old new in omega (arith, l, low)

  pub next_present : IsPresent z held (get_or new i d)
  next_present = subst (IsPresent z held) (get_past old new i d) (anchor_present z held (old ++ new) (length old + i) d committed past)

  pub next_way : IsWayBack z held (get_or new i d) (reverse (old ++ take i new))
  next_way = subst (λ (a : CertRef). IsWayBack z held a (reverse (old ++ take i new))) (get_past old new i d)
      (subst (λ (ps : List CertRef). IsWayBack z held (get_or (old ++ new) (length old + i) d) (reverse ps)) (take_past old new i) (anchor_way z held (old ++ new) (length old + i) d committed past))

  pub next_back : reverse (old ++ take (i + 1) new) ≡ get_or new i d ∷ reverse (old ++ take i new)
  next_back = ap reverse (ap (λ (t : List CertRef). old ++ t) (take_more new i d low) ∙ sym (append_assoc old (take i new) (get_or new i d ∷ []))) ∙ reverse_push (old ++ take i new) (get_or new i d)

-- what an anchor adds is admitted
pub added_present : (z : Sizes) (held : List Node) (a : CertRef) (ps xs part : List CertRef) → IsPresent z held a → IsWayBack z held a ps → IsOrder z held (a ∷ ps) (xs ++ part)
    → (b : CertRef) → Contains part b → IsPresent z held b
added_present z held a ps xs part here way h b t =
    let in_history = (order_has_history z held a ps (xs ++ part) way h b).0 (Contains-append_right xs part b t) in
    walk_present z held in_history.0 a b here in_history.1

-- a further part of the order, with the digests that it names
pub named_on : (held : List Node) (xs part : List CertRef) (ds es : List (List ℕ)) → ds ≡ digests_of held xs
    → ((all : List (List ℕ)) → ds ≡ once all → es ≡ once (all ++ flat_map (named_at held) part)) → es ≡ digests_of held (xs ++ part)
named_on held xs part ds es d named = named (flat_map (named_at held) xs) d ∙ ap once (sym (flat_map-append (named_at held) xs part))

-- settling begins at what was settled
pub settling_starts : (z : Sizes) (held : List Node) (batches : List Batch) (old now : Settled) (new : List CertRef) → IsClear held → IsFollowed z held batches old
    → now.walk ≡ old.walk ++ new → IsCommitted z held now.walk → now.flat ≡ old.flat → now.list.digests ≡ old.list.digests → now.list.found ≡ old.list.found
    → IsSettling z held batches old.walk new 0 now
settling_starts z held batches old now new clear f w committed flat digests found = record {
  walk = w;
  committed = subst (IsCommitted z held) w committed;
  ordered = subst (λ (t : List CertRef). IsOrder z held (reverse t) now.flat) (sym (append-nil old.walk))
      (subst (IsOrder z held (reverse old.walk)) (sym flat) (order_stays z f.part held f.inside clear (reverse old.walk) old.flat f.committed f.ordered));
  named = digests ∙ f.named ∙ digests_stay z f.part held f.inside clear (reverse old.walk) old.flat f.committed f.ordered ∙ ap (digests_of held) (sym flat);
  found = subst (λ (t : List (List ℕ)). AreFound batches t now.list.found) (sym digests) (subst (AreFound batches old.list.digests) (sym found) f.found);
}

-- and goes on anchor by anchor
pub settling_on : (z : Sizes) (held : List Node) (batches : List Batch) (old new : List CertRef) (i : ℕ) (d : CertRef) (s t : Settled) (part : List CertRef) → i < length new
    → IsSettling z held batches old new i s → t.walk ≡ s.walk → t.flat ≡ s.flat ++ part
    → ((ps : List CertRef) → IsWayBack z held (get_or new i d) ps → IsOrder z held (get_or new i d ∷ ps) t.flat)
    → ((all : List (List ℕ)) → s.list.digests ≡ once all → t.list.digests ≡ once (all ++ flat_map (named_at held) part)) → t.list.found ≡ s.list.found
    → IsSettling z held batches old new (i + 1) t
settling_on z held batches old new i d s t part low h w flat order named found =
    let names : t.list.digests ≡ digests_of held (s.flat ++ part) = named_on held s.flat part s.list.digests t.list.digests h.named named in
    record {
      walk = w ∙ h.walk;
      committed = h.committed;
      ordered = subst (λ (b : List CertRef). IsOrder z held b t.flat) (sym (next_back z held old new h.committed i d low)) (order (reverse (old ++ take i new)) (next_way z held old new h.committed i d low));
      named = names ∙ ap (digests_of held) (sym flat);
      found = subst (AreFound batches t.list.digests) (sym found) (found_on held batches s.flat part s.list.digests t.list.digests s.list.found h.named names h.found);
    }

-- until all are ordered
pub settling_ends : (z : Sizes) (held : List Node) (batches : List Batch) (old new : List CertRef) (i : ℕ) (s t : Settled) → length new ≤ i
    → IsSettling z held batches old new i s → t.walk ≡ s.walk → t.flat ≡ s.flat → t.list.digests ≡ s.list.digests → IsFoundWhole batches t.list → IsSettled z held batches t
settling_ends z held batches old new i s t high h w flat digests whole =
    let all : old ++ take i new ≡ t.walk = ap (λ (u : List CertRef). old ++ u) (take_all i new high) ∙ sym (w ∙ h.walk) in
    record {
      committed = subst (IsCommitted z held) (sym (w ∙ h.walk)) h.committed;
      ordered = subst (IsOrder z held (reverse t.walk)) (sym flat) (subst (λ (u : List CertRef). IsOrder z held (reverse u) s.flat) all h.ordered);
      named = digests ∙ h.named ∙ ap (digests_of held) (sym flat);
      whole = whole;
    }

-- ---- of the frames

-- anchors that are committed are so over the same certificates in another list
committed_same : (z : Sizes) (one other : List Node) → IsClear other → IsPartOf one other → IsPartOf other one → (back : List CertRef) → IsCommittedBack z one back → IsCommittedBack z other back
committed_same z one other clear into from [] h = λ a voted. h a (voted_more z other one from a voted)
committed_same z one other clear into from (a ∷ rest) h = (
  record { voted = voted_more z one other into a h.0.voted; greatest = λ b voted. h.0.greatest b (voted_more z other one from b voted) },
  way_back_more z one other into clear a rest h.0.voted.anchor.present h.1,
)

module _ (k : CommitteeValue) (frames : List Frame) (held : List Node) (rounds : RoundsValue) (joined : IsJoined k held rounds) (are : AreCerts k frames held) (none : HasNoStop k frames) where
  certs_in_rounds : AreCerts k frames rounds.held
  certs_in_rounds = record {
    sound = λ c h. are.sound c (joined.inside c h);
    complete = λ c s. joined.whole (clear_part held none.certs (λ d h. none.are_certs.complete d (are.sound d h)) none.holds.clear) c (are.complete c s);
  }

  pub order_told : (batches : List Batch) (s : Settled) → AreBatches frames batches → IsSettled rounds.sizes rounds.held batches s → IsOrderOf k frames (order_in batches s)
  order_told batches s are_batches h = record {
    certs = rounds.held;
    batches = batches;
    are_certs = certs_in_rounds;
    are_batches = are_batches;
    holds = record {
      committed = subst (λ (z : Sizes). IsCommitted z rounds.held s.walk) joined.sizes h.committed;
      ordered = subst (λ (z : Sizes). IsOrder z rounds.held (reverse s.walk) s.flat) joined.sizes h.ordered;
      payloads_are = sym (whole_list batches s.list h.whole) ∙ ap (before_missing batches) h.named;
    };
  }

  pub waiting_told : (places : List CertRef) → Lists places (WaitsAt rounds.sizes rounds.held) → AreWaiting k frames places
  waiting_told places h = record {
    certs = rounds.held;
    are_certs = certs_in_rounds;
    listed = subst (λ (z : Sizes). Lists places (WaitsAt z rounds.held)) joined.sizes h;
  }

  pub rounds_told : AreRoundsOf k frames rounds
  rounds_told = record { sizes = joined.sizes; certs = certs_in_rounds }

  pub committed_told : (o : Ordered) → IsOrderOf k frames o → IsCommitted rounds.sizes rounds.held o.anchors
  committed_told o h =
      let into : IsPartOf h.certs rounds.held = λ c t. certs_in_rounds.complete c (h.are_certs.sound c t) in
      let from : IsPartOf rounds.held h.certs = λ c t. h.are_certs.complete c (certs_in_rounds.sound c t) in
      let clear : IsClear rounds.held = clear_part rounds.held none.certs (λ c t. none.are_certs.complete c (certs_in_rounds.sound c t)) none.holds.clear in
      subst (λ (z : Sizes). IsCommitted z rounds.held o.anchors) (sym joined.sizes) (committed_same (sizes_of k) h.certs rounds.held clear into from (reverse o.anchors) h.holds.committed)

-- an empty table
pub joined_none : (k : CommitteeValue) (held : List Node) (rounds : RoundsValue) → AreCerts k [] held → rounds ≡ rounds_with (sizes_of k) [] → IsJoined k held rounds
joined_none k held rounds are e = subst (IsJoined k held) (sym e) (record {
  sizes = refl;
  inside = λ c h. absurd (none_in_nil c h);
  whole = λ clear c h. let s = are.sound c h in absurd (none_in_nil (frame_of kind.Certificate s.0) s.1);
})

-- ---- payloads

position_low : {E : Type 0} (p : E → Bool) (xs : List E) (k : ℕ) → position p xs ≡ Some k → k < length xs
position_low {E} p [] k e = absurd cc
position_low {E} p (x ∷ xs) k e = (position-Some p (x ∷ xs) k x e).0

pub found_low : (batches : List Batch) (ds : List (List ℕ)) (found : List BatchRef) (i : ℕ) (d : BatchRef) → AreFound batches ds found → i < length found → (get_or found i d).index < length batches
found_low batches ds [] i d h low = absurd (omega (arith, low))
found_low batches [] (b ∷ found) i d h low = absurd h
found_low batches (x ∷ ds) (b ∷ found) zero d h low = position_low (has_digest x) batches b.index h.0
found_low batches (x ∷ ds) (b ∷ found) (suc i) d h low = found_low batches ds found i d h.1 (omega (arith, low))

pub get_mapped : {X Y : Type 0} (f : X → Y) (xs : List X) (i : ℕ) (d : X) → i < length (map f xs) → (i < length xs) × (slice_get (map f xs) i ≡ Some (f (get_or xs i d)))
get_mapped f [] i d low = absurd (omega (arith, low))
get_mapped f (x ∷ xs) zero d low = (omega arith, refl)
get_mapped f (x ∷ xs) (suc i) d low = let h = get_mapped f xs i d (omega (arith, low)) in (let l = h.0 in omega (arith, l), h.1)

payloads_stay : (batches more : List Batch) (ds : List (List ℕ)) (found : List BatchRef) → AreFound batches ds found → map (payload_at (batches ++ more)) found ≡ map (payload_at batches) found
payloads_stay batches more ds [] h = refl
payloads_stay batches more [] (b ∷ found) h = absurd h
payloads_stay batches more (d ∷ ds) (b ∷ found) h =
    let same : payload_at (batches ++ more) b ≡ payload_at batches b = ap (λ (x : Batch). x.payload) (get_or_append_left batches more (batch_with [] []) b.index (position_low (has_digest d) batches b.index h.0)) in
    let later = payloads_stay batches more ds found h.1 in
    λ i. same i ∷ later i

-- what was settled stays while more is held
pub order_kept : (z : Sizes) (held : List Node) (batches new : List Batch) (s : Settled) → IsFollowed z held batches s → IsPrefix batches new → order_in new s ≡ order_in batches s
order_kept z held batches new s f (more, e) =
    let list : map (payload_at new) s.list.found ≡ map (payload_at batches) s.list.found =
    ap (λ (bs : List Batch). map (payload_at bs) s.list.found) e ∙ payloads_stay batches more s.list.digests s.list.found f.found in
    λ i. ordered_with s.walk s.flat (record { list = list i; missing = slice_get s.list.digests (length s.list.found) })

pub followed_on : (z y : Sizes) (held larger : List Node) (batches new : List Batch) (s : Settled) → y ≡ z → IsPartOf held larger → IsPrefix batches new → IsFollowed z held batches s
    → IsFollowed y larger new s
followed_on z y held larger batches new s same part (more, e) f = subst (λ (x : Sizes). IsFollowed x larger new s) (sym same) (record {
  part = f.part;
  inside = λ c h. part c (f.inside c h);
  committed = f.committed;
  ordered = f.ordered;
  named = f.named;
  found = subst (λ (bs : List Batch). AreFound bs s.list.digests s.list.found) (sym e)
      (subst (λ (ds : List (List ℕ)). AreFound (batches ++ more) ds s.list.found) (append-nil s.list.digests) (found_stays batches more s.list.digests [] s.list.found f.found));
})

-- no frames order nothing
pub none_ordered : (k : CommitteeValue) → IsOrderOf k [] nothing_ordered
none_ordered k = record {
  certs = [];
  batches = [];
  are_certs = record { sound = λ c h. absurd (none_in_nil c h); complete = λ c in_it. absurd (none_in_nil (frame_of kind.Certificate in_it.0) in_it.1) };
  are_batches = record { sound = λ b h. absurd (none_in_nil b h); complete = λ b in_it. absurd (none_in_nil (frame_of kind.Batch in_it.0) in_it.1) };
  holds = record { committed = none_voted (sizes_of k); ordered = refl; payloads_are = refl };
}
