-- How much a feed can hold: its bytes bound what is ordered, what waits and what is rejected.
use Rattle.std.proofs.Common.{◌≡◌, ℕ, zero, suc, ◌+◌, ◌*◌, ◌^◌, ◌<◌, ◌≤◌, ⊎_elim, Bool, true, false, cond, not, List, [], ◌∷◌, ◌++◌, length, reverse, filter, Option, Some, None, refl, sym, ap, subst, ◌∙◌, arith, length-append}
use Rattle.std.specs.Prelude.{option_map}
use Rattle.std.specs.List.{Contains, flat_map, find}
use Rattle.std.specs.Str.{bytes_eq}
use Rattle.std.proofs.lemmas.List.{length-reverse}
use Rattle.std.proofs.lemmas.List.Concat.{flat_map-cons}
use Rattle.std.proofs.lemmas.List.Elements.{Contains-append_left, Contains-append_right, Contains-append_cases}
use Rattle.std.proofs.lemmas.Slice.Eq.{bytes_eq-Decides}
use Rattle.sha2.specs.Sha256.{sha256}
use Rattle.bk_base.specs.declared.limits.TheConstants.{MOST_FEED}
use Rattle.bk_base.specs.declared.version.Version.{Version}
use Rattle.bk_base.specs.declared.kind.Kind.{Kind}
use Rattle.bk_base.specs.declared.kind.Kind.TheVariants as kind
use Rattle.bk_base.specs.Feed.{Frame, frame_of, frame_text, AreGoodFrom}
use Rattle.bk_committee.specs.Sizes.{Sizes}
use Rattle.bk_committee.specs.Payload.{CommitteeValue, sizes_of}
use Rattle.bk_cert.specs.Reading.{certificate_of}
use Rattle.bk_cert.specs.Values.{CertValue}
use Rattle.bk_cert.specs.Node.{Node, with_id}
use Rattle.bk_certcheck.specs.declared.verdict.Verdict.{Verdict}
use Rattle.bk_certcheck.specs.declared.verdict.Verdict.TheVariants as verdict
use Rattle.bk_certcheck.specs.Verdicts.{IsGood}
use Rattle.bk_cert.specs.Place.{place_of, IsBefore, IsListed}
use Rattle.bk_cert.specs.declared.place.CertRef.{CertRef}
use Rattle.bk_rounds.specs.Admission.{IsPresent}
use Rattle.bk_rounds.proofs.Admitted.{admitted_held}
use Rattle.bk_cert.proofs.Lists.{none_in_nil, contains_cases, contains_first, contains_later}
use Rattle.bk_evidence.specs.Batches.{Batch, has_digest, payload_of}
use Rattle.bk_commit.specs.Growth.{IsPartOf}
use Rattle.bk_commit.specs.Ordering.{Leads, IsWayBack, IsCommittedBack}
use Rattle.bk_commit.proofs.Levels.{walk_round}
use Rattle.bk_commit.proofs.Settled.{back_present}
use Rattle.bk_flatten.specs.Batches.{Payloads, once, digests_of, named_at, cons_payload, before_missing}
use Rattle.bk_flatten.specs.Order.{IsOrderBack, IsOrder}
use Rattle.bk_flatten.proofs.Orders.{order_present}
use Rattle.bk_flatten.proofs.Extended.{order_has_history}
use Rattle.bk_order.specs.declared.reject.Reject.{Reject}
use Rattle.bk_order.specs.Frames.{AreCerts, AreBatches, id_in, rejects_by, IsRejectOf, AreRejects}
use Rattle.bk_order.specs.Orders.{Ordered, IsOrderOf, AreWaiting}
use Rattle.bk_tx.specs.Batches.{transactions_in, transactions_of}
use Rattle.bk_ledger.specs.Naming.{named_by}
use Rattle.bk_ledger.proofs.Growth.{named-append, batch_weight}
use Rattle.bk_ledger.proofs.Runs.{transactions_size, good_size}

-- ---- different things, each out of one of a list

-- each is other than all that follow it
abbrev AreDifferent : {X : Type 0} → List X → Type 0
AreDifferent {X} [] = Unit {0}
AreDifferent {X} (x ∷ xs) = ((y : X) → Contains xs y → x ≡ y → ⊥) × AreDifferent xs

abbrev total : {X : Type 0} → (X → ℕ) → List X → ℕ
total {X} size [] = 0
total {X} size (x ∷ xs) = size x + total size xs

total_append : {X : Type 0} (size : X → ℕ) (xs ys : List X) → total size (xs ++ ys) ≡ total size xs + total size ys
total_append {X} size [] ys = omega arith
total_append {X} size (x ∷ xs) ys = omega (arith, total_append size xs ys)

five_each : {X : Type 0} (xs : List X) → total (λ (x : X). 5) xs ≡ 5 * length xs
five_each {X} [] = refl
five_each {X} (x ∷ xs) = omega (arith, five_each xs)

-- what is before an element, and what is after it
around : {X : Type 0} (xs : List X) (x : X) → Contains xs x → (front : List X) × (back : List X) × (xs ≡ front ++ x ∷ back)
around {X} [] x h = absurd (none_in_nil x h)
around {X} (y ∷ ys) x h = ⊎_elim
    (λ (e : y ≡ x). ([], ys, ap (λ (z : X). z ∷ ys) e))
    (λ (later : Contains ys x). let s = around ys x later in (y ∷ s.0, s.1, ap (λ (zs : List X). y ∷ zs) s.2))
    (contains_cases y ys x h)

-- where different things come out of different elements, and none is larger than its element, all are no larger than the list
module _ {A B : Type 0} (From : A → B → Type 0) (size : A → ℕ) (room : B → ℕ) (fits : (a : A) (b : B) → From a b → size a ≤ room b)
    (one : (a c : A) (b : B) → From a b → From c b → a ≡ c) where
  elsewhere : (x : A) (y : B) (front back : List B) (a : A) → From x y → (x ≡ a → ⊥) → (b : B) × Contains (front ++ y ∷ back) b × From a b → (b : B) × Contains (front ++ back) b × From a b
  elsewhere x y front back a r other (b, h, s) = (
    b,
    ⊎_elim
        (λ (early : Contains front b). Contains-append_left front back b early)
        (λ (late : Contains (y ∷ back) b). ⊎_elim
        (λ (e : y ≡ b). absurd (other (one x a b (subst (From x) e r) s)))
        (λ (later : Contains back b). Contains-append_right front back b later)
        (contains_cases y back b late))
        (Contains-append_cases front (y ∷ back) b h),
    s,
  )

  no_larger : (xs : List A) (ys : List B) → AreDifferent xs → ((a : A) → Contains xs a → (b : B) × Contains ys b × From a b) → total size xs ≤ total room ys
  no_larger [] ys d has = omega arith
  no_larger (x ∷ xs) ys d has =
      let here = has x (contains_first x xs) in
      let s = around ys here.0 here.1 in
      let rest = no_larger xs (s.0 ++ s.1) d.1
      (λ a t. elsewhere x here.0 s.0 s.1 a here.2 (d.0 a t) (subst (λ (zs : List B). (b : B) × Contains zs b × From a b) s.2 (has a (contains_later x xs a t)))) in
      omega (arith, rest, fits x here.0 here.2, total_append room s.0 s.1, total_append room s.0 (here.0 ∷ s.1), ap (total room) s.2)

different_append : {X : Type 0} (xs ys : List X) → AreDifferent xs → AreDifferent ys → ((x : X) → Contains xs x → Contains ys x → ⊥) → AreDifferent (xs ++ ys)
different_append {X} [] ys d e apart = e
different_append {X} (x ∷ xs) ys d e apart = (
  (λ y t same. ⊎_elim (λ (early : Contains xs y). d.0 y early same)
      (λ (late : Contains ys y). apart x (contains_first x xs) (subst (Contains ys) (sym same) late))
      (Contains-append_cases xs ys y t)),
  different_append xs ys d.1 e (λ z t u. apart z (contains_later x xs z t) u),
)

-- ---- the bytes of frames

abbrev bytes_in : Frame → ℕ
bytes_in f = length (frame_text f)

bytes_of_all : (frames : List Frame) → total bytes_in frames ≡ length (flat_map frame_text frames)
bytes_of_all [] = refl
bytes_of_all (f ∷ frames) = omega (arith, bytes_of_all frames, ap length (flat_map-cons frame_text f frames), length-append (frame_text f) (flat_map frame_text frames))

bytes_inside : (version : Version) (frames : List Frame) → AreGoodFrom version 0 4 frames → total bytes_in frames ≤ MOST_FEED
bytes_inside version frames good = omega (arith, bytes_of_all frames, good_size version 0 4 frames (omega arith) good)

five_or_more : (frames : List Frame) → 5 * length frames ≤ total bytes_in frames
five_or_more [] = omega arith
five_or_more (f ∷ frames) = omega (arith, five_or_more frames)

pub few_frames : (version : Version) (frames : List Frame) → AreGoodFrom version 0 4 frames → length frames < 2 ^ 32
few_frames version frames good = omega (arith, bytes_inside version frames good, five_or_more frames)

-- ---- batches

clash : (d e : List ℕ) → d ≡ e → not (bytes_eq d e) ≡ true → ⊥
clash d e same t = let equal : bytes_eq d e ≡ true = (bytes_eq-Decides d e).1 same in cc

in_filter : (p : List ℕ → Bool) (xs : List (List ℕ)) (y : List ℕ) → Contains (filter p xs) y → Contains xs y × (p y ≡ true)
in_filter p [] y h = absurd (none_in_nil y h)
in_filter p (x ∷ xs) y h = by_test (p x) refl h (λ later. in_filter p xs y later)
  where
    by_test : (b : Bool) → p x ≡ b → Contains (cond b (x ∷ filter p xs) (filter p xs)) y → (Contains (filter p xs) y → Contains xs y × (p y ≡ true)) → Contains (x ∷ xs) y × (p y ≡ true)
    by_test true t g go = ⊎_elim
        (λ (e : x ≡ y). (subst (Contains (x ∷ xs)) e (contains_first x xs), subst (λ (z : List ℕ). p z ≡ true) e t))
        (λ (later : Contains (filter p xs) y). let r = go later in (contains_later x xs y r.0, r.1))
        (contains_cases x (filter p xs) y g)
    by_test false t g go = let r = go g in (contains_later x xs y r.0, r.1)

different_filter : (p : List ℕ → Bool) (xs : List (List ℕ)) → AreDifferent xs → AreDifferent (filter p xs)
different_filter p [] d = tt
different_filter p (x ∷ xs) d = by_test (p x) (different_filter p xs d.1)
  where
    by_test : (b : Bool) → AreDifferent (filter p xs) → AreDifferent (cond b (x ∷ filter p xs) (filter p xs))
    by_test true k = ((λ y t same. d.0 y (in_filter p xs y t).0 same), k)
    by_test false k = k

once_different : (xs : List (List ℕ)) → AreDifferent (once xs)
once_different [] = tt
once_different (x ∷ xs) = (
  (λ y t same. clash x y same (in_filter (λ (e : List ℕ). not (bytes_eq x e)) (once xs) y t).1),
  different_filter (λ (e : List ℕ). not (bytes_eq x e)) (once xs) (once_different xs),
)

-- the batch of a payload that is found
found_batch : (batches : List Batch) (d q : List ℕ) → payload_of batches d ≡ Some q → (b : Batch) × Contains batches b × (b.digest ≡ d) × (b.payload ≡ q)
found_batch [] d q e = absurd cc
found_batch (b ∷ bs) d q e = by_test (has_digest d b) refl e (λ g. found_batch bs d q g)
  where
    by_test : (t : Bool) → has_digest d b ≡ t → option_map (λ (x : Batch). x.payload) (cond t (Some b) (find (has_digest d) bs)) ≡ Some q
        → (payload_of bs d ≡ Some q → (x : Batch) × Contains bs x × (x.digest ≡ d) × (x.payload ≡ q))
        → (x : Batch) × Contains (b ∷ bs) x × (x.digest ≡ d) × (x.payload ≡ q)
    by_test true t g go = let same : b.payload ≡ q = cc in (b, contains_first b bs, (bytes_eq-Decides b.digest d).0 t, same)
    by_test false t g go = let r = go g in (r.0, contains_later b bs r.0 r.1, r.2, r.3)

module _ (later : List Frame) (batches : List Batch) (are : AreBatches later batches) where
  -- it is that of a frame, and the digest is its own
  of_frame : (d q : List ℕ) → payload_of batches d ≡ Some q → Contains later (frame_of kind.Batch q) × (sha256 q ≡ d)
  of_frame d q e =
      let b = found_batch batches d q e in
      let s = are.sound b.0 b.1 in
      let same : q ≡ s.0 = sym b.3 ∙ ap (λ (x : Batch). x.payload) s.2 in
      (subst (λ (x : List ℕ). Contains later (frame_of kind.Batch x)) (sym same) s.1, ap sha256 same ∙ sym (ap (λ (x : Batch). x.digest) s.2) ∙ b.2)

  payloads_held : (ds : List (List ℕ)) (q : List ℕ) → Contains (before_missing batches ds).list q → Contains later (frame_of kind.Batch q) × Contains ds (sha256 q)
  payloads_held [] q h = absurd (none_in_nil q h)
  payloads_held (d ∷ ds) q h = by_payload (payload_of batches d) refl h (λ g. payloads_held ds q g)
    where
      by_payload : (o : Option (List ℕ)) → payload_of batches d ≡ o → Contains (cons_payload o d (before_missing batches ds)).list q
          → (Contains (before_missing batches ds).list q → Contains later (frame_of kind.Batch q) × Contains ds (sha256 q))
          → Contains later (frame_of kind.Batch q) × Contains (d ∷ ds) (sha256 q)
      by_payload None e g go = absurd (none_in_nil q g)
      by_payload (Some p) e g go = ⊎_elim
          (λ (same : p ≡ q). let r = of_frame d p e in
          (subst (λ (x : List ℕ). Contains later (frame_of kind.Batch x)) same r.0, subst (Contains (d ∷ ds)) (sym r.1 ∙ ap sha256 same) (contains_first d ds)))
          (λ (more : Contains (before_missing batches ds).list q). let r = go more in (r.0, contains_later d ds (sha256 q) r.1))
          (contains_cases p (before_missing batches ds).list q g)

  payloads_different : (ds : List (List ℕ)) → AreDifferent ds → AreDifferent (before_missing batches ds).list
  payloads_different [] apart = tt
  payloads_different (d ∷ ds) apart = by_payload (payload_of batches d) refl (payloads_different ds apart.1)
    where
      by_payload : (o : Option (List ℕ)) → payload_of batches d ≡ o → AreDifferent (before_missing batches ds).list → AreDifferent (cons_payload o d (before_missing batches ds)).list
      by_payload None e k = tt
      by_payload (Some p) e k = ((λ q t same. apart.0 (sha256 q) (payloads_held ds q t).1 (sym (of_frame d p e).1 ∙ ap sha256 same)), k)

abbrev IsBatchOf : List ℕ → Frame → Type 0
IsBatchOf q f = f ≡ frame_of kind.Batch q

double_size : (ps : List (List ℕ)) → total (λ (p : List ℕ). 2 * length (transactions_in p)) ps ≡ 2 * length (transactions_of ps)
double_size [] = refl
double_size (p ∷ ps) = omega (arith, double_size ps, ap length (flat_map-cons transactions_in p ps), length-append (transactions_in p) (transactions_of ps))

eightfold : (ps : List (List ℕ)) → total (λ (p : List ℕ). 8 * named_by (transactions_in p)) ps ≡ 8 * named_by (transactions_of ps)
eightfold [] = refl
eightfold (p ∷ ps) = omega (arith, eightfold ps, ap named_by (flat_map-cons transactions_in p ps), named-append (transactions_in p) (transactions_of ps))

module _ (version : Version) (k : CommitteeValue) (frames later : List Frame) (o : Ordered) (good : AreGoodFrom version 0 4 frames) (into : IsPartOf later frames) (is : IsOrderOf k later o) where
  -- payloads that are ordered, no larger in all than the frames
  ordered_inside : (size : List ℕ → ℕ) → ((q : List ℕ) → size q ≤ 5 + length q) → total size o.payloads.list ≤ total bytes_in frames
  ordered_inside size small = no_larger IsBatchOf size bytes_in
      (λ q f e. omega (arith, small q, ap bytes_in e))
      (λ p q f e g. ap (λ (x : Frame). x.payload) (sym e ∙ g))
      o.payloads.list frames
      (subst (λ (p : Payloads). AreDifferent p.list) (sym is.holds.payloads_are) (payloads_different later is.batches is.are_batches (digests_of is.certs o.order) (once_different (flat_map (named_at is.certs) o.order))))
      (λ q t. (frame_of kind.Batch q, into (frame_of kind.Batch q) (payloads_held later is.batches is.are_batches (digests_of is.certs o.order) q (subst (λ (p : Payloads). Contains p.list q) is.holds.payloads_are t)).0, refl))

  -- an order has fewer than 2^31 places
  pub few_places : length (transactions_of o.payloads.list) < 2 ^ 31
  few_places = omega (arith, ordered_inside (λ (q : List ℕ). 2 * length (transactions_in q)) (λ q. omega (arith, transactions_size q)), double_size o.payloads.list, bytes_inside version frames good)

  pub few_ordered_batches : length o.payloads.list < 2 ^ 31
  few_ordered_batches = omega (arith, ordered_inside (λ (q : List ℕ). 5) (λ q. omega arith), five_each o.payloads.list, bytes_inside version frames good)

  -- and its transactions name fewer than 2^29 accounts
  pub few_named : named_by (transactions_of o.payloads.list) < 2 ^ 29
  few_named = omega (arith, ordered_inside (λ (q : List ℕ). 8 * named_by (transactions_in q)) (λ q. omega (arith, batch_weight q)), eightfold o.payloads.list, bytes_inside version frames good)

-- ---- certificates

-- a frame has the certificate of this place
record IsCertOf (k : CommitteeValue) (a : CertRef) (f : Frame) : Type 0 where
  payload : List ℕ
  cert : Node
  framed : f ≡ frame_of kind.Certificate payload
  is_good : IsGood k payload cert
  place : place_of cert ≡ a

one_node : (k : CommitteeValue) (p q : List ℕ) (c d : Node) → p ≡ q → IsGood k p c → IsGood k q d → c ≡ d
one_node k p q c d same g h =
    let read : Some g.cert ≡ Some h.cert = sym g.read ∙ (ap certificate_of same ∙ h.read) in
    let certs : g.cert ≡ h.cert = cc in
    g.is ∙ (ap (λ (x : CertValue). with_id x.header) certs ∙ sym h.is)

one_place : (k : CommitteeValue) (a b : CertRef) (f : Frame) → IsCertOf k a f → IsCertOf k b f → a ≡ b
one_place k a b f x y = sym x.place ∙ (ap place_of (one_node k x.payload y.payload x.cert y.cert (ap (λ (z : Frame). z.payload) (sym x.framed ∙ y.framed)) x.is_good y.is_good) ∙ y.place)

-- different places of held certificates are fewer than 2^32
few_certs : (version : Version) (k : CommitteeValue) (frames later : List Frame) (certs : List Node) → AreGoodFrom version 0 4 frames → IsPartOf later frames → AreCerts k later certs
    → (xs : List CertRef) → AreDifferent xs → ((a : CertRef) → Contains xs a → (c : Node) × Contains certs c × (place_of c ≡ a)) → length xs < 2 ^ 32
few_certs version k frames later certs good into are xs different has =
    let inside = no_larger (IsCertOf k) (λ (a : CertRef). 5) bytes_in (λ a f h. omega arith) (one_place k) xs frames different
    (λ a t. let c = has a t in let s = are.sound c.0 c.1 in
    (frame_of kind.Certificate s.0, into (frame_of kind.Certificate s.0) s.1, record { payload = s.0; cert = c.0; framed = refl; is_good = s.2; place = c.2 })) in
    omega (arith, inside, five_each xs, bytes_inside version frames good)

not_before : (a b : CertRef) → IsBefore a b → a ≡ b → ⊥
not_before a b h e =
    let rounds : a.round ≡ b.round = ap (λ (p : CertRef). p.round) e in
    let authors : a.author ≡ b.author = ap (λ (p : CertRef). p.author) e in
    ⊎_elim (λ lt. omega (arith, lt, rounds)) (λ lt. omega (arith, lt.1, authors)) h

listed_different : (xs : List CertRef) → IsListed xs → AreDifferent xs
listed_different [] h = tt
listed_different (x ∷ xs) h = ((λ y t e. not_before x y (h.0 y t) e), listed_different xs h.1)

pub few_waiting : (version : Version) (k : CommitteeValue) (frames later : List Frame) (places : List CertRef) → AreGoodFrom version 0 4 frames → IsPartOf later frames → AreWaiting k later places → length places < 2 ^ 32
few_waiting version k frames later places good into w = few_certs version k frames later w.certs good into w.are_certs places (listed_different places w.listed.listed)
    (λ a t. let s = w.listed.sound a t in (s.0, s.1.is_held, s.2))

present_held : (z : Sizes) (held : List Node) (a : CertRef) → IsPresent z held a → (c : Node) × Contains held c × (place_of c ≡ a)
present_held z held a (c, s) = (c, admitted_held z held c.header.round c s.admitted, s.place)

module _ (z : Sizes) (held : List Node) where
  walk_lower : (n : ℕ) (a b : CertRef) → (b ≡ a → ⊥) → Leads z held n a b → b.round < a.round
  walk_lower zero a b other w = absurd (other (sym w))
  walk_lower (suc n) a b other w = omega (arith, walk_round z held (suc n) a b w)

  way_lower : (a : CertRef) (ps : List CertRef) → IsWayBack z held a ps → (b : CertRef) → Contains ps b → b.round < a.round
  way_lower a [] way b t = absurd (none_in_nil b t)
  way_lower a (p ∷ ps) way b t =
      let first = walk_lower way.0.earlier.reached.0 a p way.0.earlier.other way.0.earlier.reached.1 in
      ⊎_elim (λ (e : p ≡ b). subst (λ (x : CertRef). x.round < a.round) e first)
      (λ (later : Contains ps b). omega (arith, first, way_lower p ps way.1 b later))
      (contains_cases p ps b t)

  other_round : (a b : CertRef) → b.round < a.round → a ≡ b → ⊥
  other_round a b low e = omega (arith, low, ap (λ (p : CertRef). p.round) e)

  way_different : (a : CertRef) (ps : List CertRef) → IsWayBack z held a ps → AreDifferent (a ∷ ps)
  way_different a [] way = ((λ b t e. none_in_nil b t), tt)
  way_different a (p ∷ ps) way = ((λ b t e. other_round a b (way_lower a (p ∷ ps) way b t) e), way_different p ps way.1)

  back_different : (xs : List CertRef) → IsCommittedBack z held xs → AreDifferent xs
  back_different [] settled = tt
  back_different (a ∷ ps) settled = way_different a ps settled.1

  order_back_different : (a : CertRef) (ps xs : List CertRef) → IsWayBack z held a ps → IsOrderBack z held a ps xs → AreDifferent xs
  order_back_different a [] xs way h = listed_different xs h.listed
  order_back_different a (p ∷ ps) xs way (front, part, before, lists, e) = subst (λ (ys : List CertRef). AreDifferent ys) (sym e)
      (different_append front part (order_back_different p ps front way.1 before) (listed_different part lists.listed)
      (λ b t u. (lists.sound b u).1 ((order_has_history z held p ps front way.1 before b).0 t)))

  order_different : (back xs : List CertRef) → IsCommittedBack z held back → IsOrder z held back xs → AreDifferent xs
  order_different [] xs settled h = subst (λ (ys : List CertRef). AreDifferent ys) (sym h) tt
  order_different (a ∷ ps) xs settled h = order_back_different a ps xs settled.1 h

module _ (version : Version) (k : CommitteeValue) (frames later : List Frame) (o : Ordered) (good : AreGoodFrom version 0 4 frames) (into : IsPartOf later frames) (is : IsOrderOf k later o) where
  pub few_anchors : length o.anchors < 2 ^ 32
  few_anchors =
      let few = few_certs version k frames later is.certs good into is.are_certs (reverse o.anchors) (back_different (sizes_of k) is.certs (reverse o.anchors) is.holds.committed)
      (λ a t. present_held (sizes_of k) is.certs a (back_present (sizes_of k) is.certs (reverse o.anchors) is.holds.committed a t)) in
      omega (arith, few, length-reverse o.anchors)

  pub few_in_order : length o.order < 2 ^ 32
  few_in_order = few_certs version k frames later is.certs good into is.are_certs o.order (order_different (sizes_of k) is.certs (reverse o.anchors) o.order is.holds.committed is.holds.ordered)
      (λ a t. present_held (sizes_of k) is.certs a (order_present (sizes_of k) is.certs (reverse o.anchors) o.order is.holds.committed is.holds.ordered a t))

-- ---- rejects

one_reject : (k : CommitteeValue) (number : ℕ) (payload : List ℕ) (x : Kind) (found : List Reject) → IsRejectOf k number payload x found → length found ≤ 1
one_reject k number payload kind.Committee found h = omega (arith, ap length h)
one_reject k number payload kind.Genesis found h = omega (arith, ap length h)
one_reject k number payload kind.Certificate found (v, is, e) = by_verdict v e
  where
    by_verdict : (w : Verdict) → found ≡ rejects_by number (id_in payload) w → length found ≤ 1
    by_verdict (verdict.Good c) f = omega (arith, ap length f)
    by_verdict (verdict.Broken r) f = omega (arith, ap length f)
one_reject k number payload kind.Batch found h = omega (arith, ap length h)

rejects_in : (k : CommitteeValue) (number : ℕ) (frames : List Frame) (rejects : List Reject) → AreRejects k number frames rejects → length rejects ≤ length frames
rejects_in k number [] rejects h = omega (arith, ap length h)
rejects_in k number (f ∷ frames) rejects (first, others, one, more, e) =
    omega (arith, one_reject k number f.payload f.kind first one, rejects_in k (number + 1) frames others more, ap length e, length-append first others)

pub few_rejects : (version : Version) (k : CommitteeValue) (number : ℕ) (frames later : List Frame) (rejects : List Reject)
    → AreGoodFrom version 0 4 frames → length later ≤ length frames → AreRejects k number later rejects → length rejects < 2 ^ 32
few_rejects version k number frames later rejects good fewer h = omega (arith, rejects_in k number later rejects h, few_frames version frames good)
