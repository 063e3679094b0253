-- A feed that gains the batches that are missing.
use Rattle.std.proofs.Common.{◌≡◌, ℕ, Bool, true, false, cond, ◌⊎◌, inl, inr, List, [], ◌∷◌, ◌++◌, map, reverse, Option, Some, None, refl, sym, ap, subst, ◌∙◌, ⊎_elim}
use Rattle.std.specs.Prelude.{filter, option_map}
use Rattle.std.specs.List.{Contains, find, flat_map}
use Rattle.std.proofs.lemmas.List.Elements.{Contains-append_cases, Contains-append_left, Contains-append_right}
use Rattle.std.proofs.lemmas.Slice.Eq.{bytes_eq-Decides}
use Rattle.bk_base.specs.declared.kind.Kind.TheVariants as kind
use Rattle.bk_base.specs.Feed.{Frame, frame_of}
use Rattle.bk_cert.proofs.Lists.{none_in_nil, contains_cases, contains_first, contains_later, from_map, in_map}
use Rattle.bk_cert.specs.Node.{Node}
use Rattle.bk_commit.specs.Growth.{IsPartOf}
use Rattle.bk_committee.specs.Payload.{CommitteeValue, sizes_of}
use Rattle.bk_evidence.specs.Batches.{Batch, has_digest, payload_of}
use Rattle.bk_flatten.specs.Batches.{Payloads, batches_of, before_missing, cons_payload, digests_of, named_at, once}
use Rattle.bk_flatten.proofs.Growth.{finds, names_same}
use Rattle.bk_flatten.proofs.Orders.{order_present}
use Rattle.bk_order.specs.Frames.{AreCerts, IsBatchIn, OfHeld}
use Rattle.bk_order.specs.Orders.{IsOrderOf, Ordered, ordered_with}
use Rattle.bk_order.specs.Stops.{HasNoStop}
use Rattle.bk_order.proofs.OneReading.{one_ordered}
use Rattle.bk_order.proofs.Sets.{clear_of}
use Rattle.bk_answer.specs.RunReport.{committee_in, later_frames}
use Rattle.bk_diagnosis.specs.Laws.{GainedIsWhole, HasBatch}
use Rattle.bk_diagnosis.specs.Missing.{Naming, first_namings, is_lacking, is_none, missing_in, missing_line, namings}
use Rattle.bk_diagnosis.specs.private.Lacking.{digests_in}
use Rattle.bk_diagnosis.specs.declared.line.Line.{Line}
use Rattle.bk_diagnosis.proofs.FirstMissing.{digests_named, digests_once}
use Rattle.bk_order.specs.private.Digested.{batch_of}

-- ---- payloads

some_none : {X : Type 0} (x : X) (o : Option X) → o ≡ Some x → o ≡ None → ⊥
some_none x None e f = absurd cc
some_none x (Some y) e f = absurd cc

-- a batch with the digest has a payload under it
payload_there : (batches : List Batch) (b : Batch) (d : List ℕ) → Contains batches b → b.digest ≡ d → payload_of batches d ≡ None → ⊥
payload_there batches b d t e gone =
    let f = finds (has_digest d) batches b t ((bytes_eq-Decides b.digest d).1 e) in
    some_none f.0.payload (payload_of batches d) (ap (option_map (λ (x : Batch). x.payload)) f.1.first) gone

-- there is none, or a batch has the digest
payload_cases : (batches : List Batch) (d : List ℕ) → (payload_of batches d ≡ None) ⊎ ((b : Batch) × Contains batches b × (b.digest ≡ d))
payload_cases [] d = inl refl
payload_cases (b ∷ batches) d = by_test (has_digest d b) refl (payload_cases batches d)
  where
    by_test : (t : Bool) → has_digest d b ≡ t → (payload_of batches d ≡ None) ⊎ ((x : Batch) × Contains batches x × (x.digest ≡ d))
        → (option_map (λ (x : Batch). x.payload) (cond t (Some b) (find (has_digest d) batches)) ≡ None) ⊎ ((x : Batch) × Contains (b ∷ batches) x × (x.digest ≡ d))
    by_test true t h = inr (b, contains_first b batches, (bytes_eq-Decides b.digest d).0 t)
    by_test false t (inl gone) = inl gone
    by_test false t (inr (x, u, e)) = inr (x, contains_later b batches x u, e)

none_missing : (batches : List Batch) (ds : List (List ℕ)) → ((d : List ℕ) → Contains ds d → payload_of batches d ≡ None → ⊥) → (before_missing batches ds).missing ≡ None
none_missing batches [] each = refl
none_missing batches (d ∷ ds) each =
    by_payload (payload_of batches d) (each d (contains_first d ds)) (none_missing batches ds (λ e t. each e (contains_later d ds e t)))
  where
    by_payload : (o : Option (List ℕ)) → (o ≡ None → ⊥) → (before_missing batches ds).missing ≡ None → (cons_payload o d (before_missing batches ds)).missing ≡ None
    by_payload None there h = absurd (there refl)
    by_payload (Some payload) there h = h

in_filter : {X : Type 0} (p : X → Bool) (xs : List X) (x : X) → Contains xs x → p x ≡ true → Contains (filter p xs) x
in_filter p [] x t e = absurd (none_in_nil x t)
in_filter {X} p (y ∷ xs) x t e = by_test (p y) refl (contains_cases y xs x t) (λ l. in_filter p xs x l e)
  where
    clash : y ≡ x → p y ≡ false → ⊥
    clash is f = let both : true ≡ false = sym e ∙ ap p (sym is) ∙ f in absurd cc

    by_test : (b : Bool) → p y ≡ b → (y ≡ x) ⊎ Contains xs x → (Contains xs x → Contains (filter p xs) x) → Contains (cond b (y ∷ filter p xs) (filter p xs)) x
    by_test true is where_is go = ⊎_elim (λ (e : y ≡ x). subst (Contains (y ∷ filter p xs)) e (contains_first y (filter p xs))) (λ (l : Contains xs x). contains_later y (filter p xs) x (go l)) where_is
    by_test false is where_is go = ⊎_elim (λ (e : y ≡ x). absurd (clash e is)) (λ (l : Contains xs x). go l) where_is

-- ---- frames

no_certificate : (payload : List ℕ) → kind.Certificate ≡ kind.Batch → ⊥
no_certificate payload e = absurd cc

module _ (k : CommitteeValue) (frames gained : List Frame) (only : (f : Frame) → Contains gained f → f.kind ≡ kind.Batch) where
  -- batches add no certificate
  certs_same : (certs : List Node) → AreCerts k (frames ++ gained) certs → AreCerts k frames certs
  certs_same certs h = record {
    sound = λ c t. let s = h.sound c t in (
      s.0,
      ⊎_elim
          (λ (here : Contains frames (frame_of kind.Certificate s.0)). here)
          (λ (new : Contains gained (frame_of kind.Certificate s.0)). absurd (no_certificate s.0 (only (frame_of kind.Certificate s.0) new)))
          (Contains-append_cases frames gained (frame_of kind.Certificate s.0) s.1),
      s.2,
    );
    complete = λ c s. h.complete c (s.0, Contains-append_left frames gained (frame_of kind.Certificate s.0) s.1, s.2);
  }

  module _ (o p : Ordered) (lines : List Line) (none : HasNoStop k frames) (was : IsOrderOf k frames p) (h : IsOrderOf k (frames ++ gained) o)
      (l : OfHeld k frames (λ certs batches. lines ≡ map missing_line (missing_in certs batches p.order)))
      (batch : (n : Naming) → Contains lines (missing_line n) → HasBatch gained n.digest) where
    certs_here : AreCerts k frames h.certs
    certs_here = certs_same h.certs h.are_certs

    -- the order of the certificates is the same
    is_order : IsOrderOf k frames (ordered_with o.anchors o.order (batches_of h.certs l.batches o.order))
    is_order = record {
      certs = h.certs;
      batches = l.batches;
      are_certs = certs_here;
      are_batches = l.are_batches;
      holds = record { committed = h.holds.committed; ordered = h.holds.ordered; payloads_are = refl };
    }

    order_same : o.order ≡ p.order
    order_same = ap (λ (x : Ordered). x.order) (one_ordered k frames (ordered_with o.anchors o.order (batches_of h.certs l.batches o.order)) p none is_order was)

    -- and so are the digests that it names
    digests_same : digests_of h.certs o.order ≡ digests_in (first_namings (namings l.certs p.order))
    digests_same =
        let into : IsPartOf h.certs l.certs = λ c t. l.are_certs.complete c (certs_here.sound c t) in
        let present = order_present (sizes_of k) h.certs (reverse o.anchors) o.order h.holds.committed h.holds.ordered in
        ap once (
        names_same (sizes_of k) h.certs l.certs into (clear_of k frames l.certs none l.are_certs) o.order present
        ∙ ap (flat_map (named_at l.certs)) order_same
        ∙ sym (digests_named l.certs p.order))
        ∙ sym (digests_once (namings l.certs p.order))

    batch_here : (b : Batch) → IsBatchIn (frames ++ gained) b → (d : List ℕ) → b.digest ≡ d → payload_of h.batches d ≡ None → ⊥
    batch_here b is d e = payload_there h.batches b d (h.are_batches.complete b is) e

    gained_batch : (n : Naming) → HasBatch gained n.digest → payload_of h.batches n.digest ≡ None → ⊥
    gained_batch n (payload, t, e) = batch_here (batch_of payload) (payload, Contains-append_right frames gained (frame_of kind.Batch payload) t, refl) n.digest e

    named_there : (n : Naming) → Contains (first_namings (namings l.certs p.order)) n → payload_of h.batches n.digest ≡ None → ⊥
    named_there n t = ⊎_elim
        (λ (gone : payload_of l.batches n.digest ≡ None).
        let lacks : Contains (missing_in l.certs l.batches p.order) n = in_filter (is_lacking l.batches) (first_namings (namings l.certs p.order)) n t (ap is_none gone) in
        gained_batch n (batch n (subst (λ (ls : List Line). Contains ls (missing_line n)) (sym l.holds) (in_map missing_line (missing_in l.certs l.batches p.order) n lacks))))
        (λ (found : (b : Batch) × Contains l.batches b × (b.digest ≡ n.digest)).
        let is = l.are_batches.sound found.0 found.1 in
        batch_here found.0 (is.0, Contains-append_left frames gained (frame_of kind.Batch is.0) is.1, is.2) n.digest found.2)
        (payload_cases l.batches n.digest)

    all_there : (d : List ℕ) → Contains (digests_of h.certs o.order) d → payload_of h.batches d ≡ None → ⊥
    all_there d t =
        let n = from_map (λ (m : Naming). m.digest) (first_namings (namings l.certs p.order)) d (subst (λ (ds : List (List ℕ)). Contains ds d) digests_same t) in
        subst (λ (e : List ℕ). payload_of h.batches e ≡ None → ⊥) n.2 (named_there n.0 n.1)

    whole : o.payloads.missing ≡ None
    whole = ap (λ (ps : Payloads). ps.missing) h.holds.payloads_are ∙ none_missing h.batches (digests_of h.certs o.order) all_there

pub gained_whole : GainedIsWhole
gained_whole feed larger gained lines o gains missing batch is =
    whole (committee_in feed) (later_frames feed) gained gains.batches o missing.ordered lines missing.clear missing.is_order
    (subst (λ (x : CommitteeValue × List Frame). IsOrderOf x.0 x.1 o) (λ j. (gains.committee j, gains.frames j)) is) missing.lack batch
