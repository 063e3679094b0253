-- The order of what was taken of a feed, as its table of rounds has it.
use Rattle.std.proofs.Common.{◌≡◌, ℕ, ◌<◌, ◌^◌, Bool, true, false, cond, List, [], ◌∷◌, ◌++◌, map, Option, Some, None, refl, sym, ap, subst, ◌∙◌}
use Rattle.std.specs.Prelude.{option_map, reverse}
use Rattle.std.specs.List.{AllZip, Contains, find}
use Rattle.std.specs.Str.{bytes_eq}
use Rattle.std.proofs.lemmas.Slice.Eq.{bytes_eq-Decides}
use Rattle.sha2.specs.Sha256.{sha256}
use Rattle.bk_base.specs.Feed.{Frame, FeedValue}
use Rattle.bk_cert.specs.Clear.{IsClear}
use Rattle.bk_cert.specs.Node.{Node}
use Rattle.bk_cert.specs.declared.place.CertRef.{CertRef}
use Rattle.bk_cert.proofs.Lists.{contains_first, contains_later}
use Rattle.bk_commit.specs.Growth.{IsPartOf}
use Rattle.bk_commit.specs.Ordering.{IsCommittedBack}
use Rattle.bk_committee.specs.Payload.{sizes_of}
use Rattle.bk_committee.specs.Sizes.{Sizes}
use Rattle.bk_evidence.specs.Batches.{Batch, has_digest, payload_of}
use Rattle.bk_flatten.specs.Batches.{Payloads, before_missing, cons_payload, digests_of, once}
use Rattle.bk_flatten.specs.Order.{IsOrder}
use Rattle.bk_flatten.proofs.Growth.{names_same}
use Rattle.bk_flatten.proofs.Orders.{order_back_more, order_present}
use Rattle.bk_order.specs.Frames.{AreBatches}
use Rattle.bk_order.specs.Orders.{AreRoundsOf}
use Rattle.bk_rounds.specs.Rounds.{RoundsValue}
use Rattle.bk_results.specs.declared.status.Status.{Status}
use Rattle.bk_answer.specs.Answers.{IsOrderMadeOf}
use Rattle.bk_answer.specs.Closed.{IsOrderedFor, OrderValue}
use Rattle.bk_answer.specs.RunReport.{committee_in, later_frames, reach_of}
use Rattle.bk_tables.specs.Batches.{IsBatchRow, batches_text}
use Rattle.bk_tables.specs.Tables.{IsBatchTable}
use Rattle.bk_tables.specs.private.Rows.{AreRowsOf, IsTakenOf}
use Rattle.bk_tables.specs.declared.batches.BatchRow.{BatchRow}

-- ---- digests of payloads

-- a payload that is found under a digest is one of the batches
record IsFoundIn (batches : List Batch) (d p : List ℕ) : Type 0 where
  batch : Batch
  inside : Contains batches batch
  digest_is : batch.digest ≡ d
  payload_is : batch.payload ≡ p

found_in : (batches : List Batch) (d p : List ℕ) → payload_of batches d ≡ Some p → IsFoundIn batches d p
found_in [] d p e = absurd cc
found_in (b ∷ more) d p e = by_test (bytes_eq b.digest d) refl e (λ k. found_in more d p k)
  where
    by_test : (t : Bool) → bytes_eq b.digest d ≡ t → option_map (λ (x : Batch). x.payload) (cond t (Some b) (find (has_digest d) more)) ≡ Some p
        → (payload_of more d ≡ Some p → IsFoundIn more d p) → IsFoundIn (b ∷ more) d p
    by_test true t k rest = record { batch = b; inside = contains_first b more; digest_is = (bytes_eq-Decides b.digest d).0 t; payload_is = cc }
    by_test false t k rest =
        let r = rest k in
        record { batch = r.batch; inside = contains_later b more r.batch r.inside; digest_is = r.digest_is; payload_is = r.payload_is }

-- the digests of the payloads before the first that is missing are the first of the digests
module _ (frames : List Frame) (batches : List Batch) (are : AreBatches frames batches) where
  hashed : (d p : List ℕ) → IsFoundIn batches d p → sha256 p ≡ d
  hashed d p f =
      let s = are.sound f.batch f.inside in
      ap sha256 (sym f.payload_is ∙ ap (λ (b : Batch). b.payload) s.2) ∙ (sym (ap (λ (b : Batch). b.digest) s.2) ∙ f.digest_is)

  pub front : (ds : List (List ℕ)) → (rest : List (List ℕ)) × (ds ≡ map sha256 (before_missing batches ds).list ++ rest)
  front [] = ([], refl)
  front (d ∷ more) = by_case (payload_of batches d) refl (front more)
    where
      by_case : (o : Option (List ℕ)) → payload_of batches d ≡ o → ((rest : List (List ℕ)) × (more ≡ map sha256 (before_missing batches more).list ++ rest))
          → (rest : List (List ℕ)) × (d ∷ more ≡ map sha256 (cons_payload o d (before_missing batches more)).list ++ rest)
      by_case None e r = (d ∷ more, refl)
      by_case (Some p) e r = (r.0, λ i. sym (hashed d p (found_in batches d p e)) i ∷ r.1 i)

-- ---- what was taken

order_more : (z : Sizes) (small large : List Node) → IsPartOf small large → IsClear large → (back order : List CertRef) → IsCommittedBack z small back → IsOrder z small back order → IsOrder z large back order
order_more z small large part clear [] order settled h = h
order_more z small large part clear (a ∷ back) order settled h = order_back_more z small large part clear a back order settled.0.voted.anchor.present settled.1 h

pub taken_is : (feed : FeedValue) (o : OrderValue) (rounds : RoundsValue) → IsOrderedFor feed o → AreRoundsOf (committee_in feed) (later_frames feed) rounds → IsClear rounds.held → IsTakenOf rounds o.taken.ordered
taken_is feed o rounds ordered here clear =
    let is = ordered.ordered in
    let z : Sizes = sizes_of (committee_in feed) in
    let part : IsPartOf is.certs rounds.held = λ c t. here.certs.complete c (is.are_certs.sound c t) in
    let order : List CertRef = o.taken.ordered.order in
    let cut = front (later_frames feed) is.batches is.are_batches (digests_of is.certs order) in
    record {
      order = subst (λ (s : Sizes). IsOrder s rounds.held (reverse o.taken.ordered.anchors) order) (sym here.sizes)
          (order_more z is.certs rounds.held part clear (reverse o.taken.ordered.anchors) order is.holds.committed is.holds.ordered);
      rest = cut.0;
      digests = ap once (sym (names_same z is.certs rounds.held part clear order (order_present z is.certs (reverse o.taken.ordered.anchors) order is.holds.committed is.holds.ordered)))
          ∙ cut.1 ∙ ap (λ (p : Payloads). map sha256 p.list ++ cut.0) (sym is.holds.payloads_are);
    }

-- ---- the table

pub is_table : (o : OrderValue) (rounds : RoundsValue) → ((feed : FeedValue) → IsOrderMadeOf o feed → AreRoundsOf (committee_in feed) (later_frames feed) rounds) → (rows : List BatchRow) → AreRowsOf rounds o.taken.ordered rows
    → (end : Status) (text : List ℕ) → end ≡ reach_of o.taken.ordered.payloads.missing → text ≡ batches_text rows → (feed : FeedValue) → IsOrderMadeOf o feed → IsBatchTable feed end text
is_table o rounds rounds_here rows are end text e t feed made = record {
  clear = made.1.clear;
  ordered = o.taken.ordered;
  is_order = made.1.ordered;
  certs = rounds.held;
  are_certs = (rounds_here feed made).certs;
  rows = rows;
  are_rows = subst (λ (z : Sizes). AllZip (IsBatchRow z rounds.held o.taken.ordered) o.taken.ordered.payloads.list rows) (rounds_here feed made).sizes are;
  text_is = t;
  end_is = e;
}
