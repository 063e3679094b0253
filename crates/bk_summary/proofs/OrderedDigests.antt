-- The batches of an order, by their digests.
use Rattle.std.proofs.Common.{◌≡◌, ℕ, ◌+◌, ◌-◌, Bool, true, false, cond, List, [], ◌∷◌, ◌++◌, length, map, Option, Some, None, refl, sym, ap, subst, ◌∙◌, ⊎_elim, arith}
use Rattle.std.specs.Prelude.{option_map}
use Rattle.std.specs.Str.{bytes_eq}
use Rattle.std.specs.List.{Contains, find, list_any}
use Rattle.std.proofs.lemmas.Slice.Eq.{bytes_eq-Decides}
use Rattle.std.proofs.lemmas.List.{length-map}
use Rattle.sha2.specs.Sha256.{sha256}
use Rattle.bk_base.specs.Feed.{Frame}
use Rattle.bk_cert.proofs.Lists.{none_in_nil, contains_cases, contains_first, contains_later, in_map}
use Rattle.bk_committee.specs.Payload.{CommitteeValue}
use Rattle.bk_evidence.specs.Batches.{Batch, has_digest, payload_of}
use Rattle.bk_flatten.specs.Batches.{Payloads, before_missing, cons_payload, digests_of, once}
use Rattle.bk_certcheck.specs.Frames.{batches_in}
use Rattle.bk_order.specs.Frames.{AreBatches}
use Rattle.bk_order.specs.Orders.{Ordered, IsOrderOf}
use Rattle.bk_order.specs.Tally.{digests_in}
use Rattle.bk_order.proofs.OnceMore.{any_once, one_found}
use Rattle.bk_order.proofs.Tallying.{batch_listed}
use Rattle.bk_summary.specs.Summary.{ordered_digests, unordered_digests}
use Rattle.bk_summary.proofs.Unordered.{AreOnce, once_are_once, once_front, outside_counts}

-- a payload that is found under a digest is one of the batches
pub record IsFoundIn (batches : List Batch) (d p : List ℕ) : Type 0 where
  pub batch : Batch
  pub inside : Contains batches batch
  pub digest_is : batch.digest ≡ d
  pub payload_is : batch.payload ≡ p

found_in : (batches : List Batch) (d p : List ℕ) → payload_of batches d ≡ Some p → IsFoundIn batches d p
found_in [] d p e = absurd cc
found_in (b ∷ more) d p e = by_test (bytes_eq b.digest d) refl e (λ k. found_in more d p k)
  where
    by_test : (t : Bool) → bytes_eq b.digest d ≡ t → option_map (λ (x : Batch). x.payload) (cond t (Some b) (find (has_digest d) more)) ≡ Some p
        → (payload_of more d ≡ Some p → IsFoundIn more d p) → IsFoundIn (b ∷ more) d p
    by_test true t k rest = record { batch = b; inside = contains_first b more; digest_is = (bytes_eq-Decides b.digest d).0 t; payload_is = cc }
    by_test false t k rest =
        let r = rest k in
        record { batch = r.batch; inside = contains_later b more r.batch r.inside; digest_is = r.digest_is; payload_is = r.payload_is }

module _ (frames : List Frame) (batches : List Batch) (are : AreBatches frames batches) where
  -- and its digest is its SHA-256
  hashed : (d p : List ℕ) → IsFoundIn batches d p → sha256 p ≡ d
  hashed d p f =
      let s = are.sound f.batch f.inside in
      ap sha256 (sym f.payload_is ∙ ap (λ (b : Batch). b.payload) s.2) ∙ (sym (ap (λ (b : Batch). b.digest) s.2) ∙ f.digest_is)

  counted : (d p : List ℕ) → IsFoundIn batches d p → Contains (digests_in frames) (sha256 p)
  counted d p f =
      let s = are.sound f.batch f.inside in
      subst (λ (q : List ℕ). Contains (digests_in frames) (sha256 q)) (sym (ap (λ (b : Batch). b.payload) s.2) ∙ f.payload_is)
      (in_map sha256 (batches_in frames) s.0 (batch_listed frames s.0 s.1))

  -- the digests of the payloads before the first that is missing are the first of the digests
  front : (ds : List (List ℕ)) → (rest : List (List ℕ)) × (ds ≡ map sha256 (before_missing batches ds).list ++ rest)
  front [] = ([], refl)
  front (d ∷ more) = by_case (payload_of batches d) refl (front more)
    where
      by_case : (o : Option (List ℕ)) → payload_of batches d ≡ o → ((rest : List (List ℕ)) × (more ≡ map sha256 (before_missing batches more).list ++ rest))
          → (rest : List (List ℕ)) × (d ∷ more ≡ map sha256 (cons_payload o d (before_missing batches more)).list ++ rest)
      by_case None e r = (d ∷ more, refl)
      by_case (Some p) e r = (r.0, λ i. sym (hashed d p (found_in batches d p e)) i ∷ r.1 i)

  within : (ds : List (List ℕ)) (y : List ℕ) → Contains (map sha256 (before_missing batches ds).list) y → Contains (digests_in frames) y
  within [] y c = absurd (none_in_nil y c)
  within (d ∷ more) y c = by_case (payload_of batches d) refl c (λ later. within more y later)
    where
      by_case : (o : Option (List ℕ)) → payload_of batches d ≡ o → Contains (map sha256 (cons_payload o d (before_missing batches more)).list) y
          → (Contains (map sha256 (before_missing batches more).list) y → Contains (digests_in frames) y) → Contains (digests_in frames) y
      by_case None e k rest = absurd (none_in_nil y k)
      by_case (Some p) e k rest = ⊎_elim
          (λ (s : sha256 p ≡ y). subst (Contains (digests_in frames)) s (counted d p (found_in batches d p e)))
          (λ (later : Contains (map sha256 (before_missing batches more).list) y). rest later)
          (contains_cases (sha256 p) (map sha256 (before_missing batches more).list) y k)

-- what an order does not have of the digests is as many as there are, less those that it has
pub unordered_counts : (k : CommitteeValue) (frames : List Frame) (o : Ordered) → IsOrderOf k frames o
    → length (unordered_digests o frames) ≡ length (once (digests_in frames)) - length o.payloads.list
unordered_counts k frames o is =
    let ds : List (List ℕ) = digests_of is.certs o.order in
    let list_is : o.payloads.list ≡ (before_missing is.batches ds).list = ap (λ (p : Payloads). p.list) is.holds.payloads_are in
    let split = front frames is.batches is.are_batches ds in
    let ordered_once : AreOnce (ordered_digests o) = subst (λ (ps : List (List ℕ)). AreOnce (map sha256 ps)) (sym list_is)
    (once_front (map sha256 (before_missing is.batches ds).list) split.0 (subst AreOnce split.1 (once_are_once _))) in
    let inside : (y : List ℕ) → Contains (ordered_digests o) y → list_any (bytes_eq y) (once (digests_in frames)) ≡ true =
    λ y c. any_once y (digests_in frames)
    ∙ one_found y (digests_in frames) (within frames is.batches is.are_batches ds y (subst (λ (ps : List (List ℕ)). Contains (map sha256 ps) y) list_is c)) in
    let n = outside_counts (ordered_digests o) (once (digests_in frames)) ordered_once (once_are_once (digests_in frames)) inside in
    let m = length-map o.payloads.list sha256 in
    omega (arith, n, m)
