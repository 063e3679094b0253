-- What a feed comes to where its frames are part of another's.
use Rattle.std.proofs.Common.{◌≡◌, ℕ, List, ◌++◌, sym, ap, subst, ◌∙◌}
use Rattle.std.proofs.lemmas.List.Concat.{flat_map-append}
use Rattle.bk_base.specs.declared.genesis.Row.{Row}
use Rattle.bk_base.specs.declared.version.Version.{Version}
use Rattle.bk_base.specs.Feed.{Frame, FeedValue, genesis_of}
use Rattle.bk_committee.specs.Payload.{CommitteeValue, sizes_of}
use Rattle.bk_commit.specs.Growth.{IsPrefix, IsPartOf}
use Rattle.bk_order.specs.Frames.{AreBatches, AreCerts, OfHeld}
use Rattle.bk_order.specs.Orders.{AreOrdered, AreWaiting, IsOrderOf, Ordered}
use Rattle.bk_order.specs.Stops.{AreClear, HasNoStop}
use Rattle.bk_order.proofs.OneReading.{one_ordered, one_waiting}
use Rattle.bk_order.proofs.Sets.{frames_grow}
use Rattle.bk_cert.specs.declared.place.CertRef.{CertRef}
use Rattle.bk_cert.specs.Node.{Node}
use Rattle.bk_evidence.specs.Batches.{Batch}
use Rattle.bk_rules.specs.declared.receipt.Receipt.{Receipt}
use Rattle.bk_rules.specs.Fold.{receipts_of, state_after}
use Rattle.bk_rules.proofs.Folding.{receipts_append}
use Rattle.bk_tx.specs.Batches.{transactions_in, transactions_of}
use Rattle.bk_report.specs.RunLines.{Reading}
use Rattle.bk_answer.specs.RunReport.{HasNoStopIn, Reads, committee_in, later_frames}
use Rattle.bk_laws.specs.Laws.{AreAlike, Continues, IsPartOfFeed}

-- the receipts of a list of batches begin those of a longer one
pub receipts_begin : (v : Version) (xs ys : List (List ℕ)) (rows : List Row) → IsPrefix xs ys → IsPrefix (receipts_of v (transactions_of xs) rows) (receipts_of v (transactions_of ys) rows)
receipts_begin v xs ys rows h = (
  receipts_of v (transactions_of h.0) (state_after v (transactions_of xs) rows),
  ap (λ (l : List (List ℕ)). receipts_of v (transactions_of l) rows) h.1
      ∙ (ap (λ t. receipts_of v t rows) (flat_map-append transactions_in xs h.0)
      ∙ receipts_append v (transactions_of xs) (transactions_of h.0) rows),
)

-- the same certificates are in the same frames
certs_in : (k : CommitteeValue) (one other : List Frame) (certs : List Node) → IsPartOf one other → IsPartOf other one → AreCerts k one certs → AreCerts k other certs
certs_in k one other certs there back h = record {
  sound = λ c t. let s = h.sound c t in (s.0, there _ s.1, s.2);
  complete = λ c t. h.complete c (t.0, back _ t.1, t.2);
}

waiting_in : (k : CommitteeValue) (one other : List Frame) (places : List CertRef) → IsPartOf one other → IsPartOf other one → AreWaiting k one places → AreWaiting k other places
waiting_in k one other places there back h = record { certs = h.certs; are_certs = certs_in k one other h.certs there back h.are_certs; listed = h.listed }

batches_in : (one other : List Frame) (batches : List Batch) → IsPartOf one other → IsPartOf other one → AreBatches one batches → AreBatches other batches
batches_in one other batches there back h = record {
  sound = λ b t. let s = h.sound b t in (s.0, there _ s.1, s.2);
  complete = λ b t. h.complete b (t.0, back _ t.1, t.2);
}

held_in : (k : CommitteeValue) (one other : List Frame) (P : List Node → List Batch → Type 0) → IsPartOf one other → IsPartOf other one → OfHeld k one P → OfHeld k other P
held_in k one other P there back h = record {
  certs = h.certs;
  batches = h.batches;
  are_certs = certs_in k one other h.certs there back h.are_certs;
  are_batches = batches_in one other h.batches there back h.are_batches;
  holds = h.holds;
}

order_in : (k : CommitteeValue) (one other : List Frame) (o : Ordered) → IsPartOf one other → IsPartOf other one → IsOrderOf k one o → IsOrderOf k other o
order_in k one other o there back h = held_in k one other (λ certs batches. AreOrdered (sizes_of k) certs batches o) there back h

clear_in : (k : CommitteeValue) (one other : List Frame) → IsPartOf one other → IsPartOf other one → HasNoStop k one → HasNoStop k other
clear_in k one other there back h = held_in k one other (λ certs batches. AreClear certs batches) there back h

-- what is read of the larger feed, in the words of the smaller one's setup
module _ (small large : FeedValue) (s : Reading) (part : IsPartOfFeed small large) (y : Reads large s) where
  order_large : IsOrderOf (committee_in small) (later_frames large) s.ordered
  order_large = subst (λ (k : CommitteeValue). IsOrderOf k (later_frames large) s.ordered) (sym part.setup.committee) y.ordered

  waiting_large : AreWaiting (committee_in small) (later_frames large) s.waiting
  waiting_large = subst (λ (k : CommitteeValue). AreWaiting k (later_frames large) s.waiting) (sym part.setup.committee) y.waiting

  receipts_large : s.receipts ≡ receipts_of small.version (transactions_of s.ordered.payloads.list) (genesis_of small.frames)
  receipts_large =
      let version : large.version ≡ small.version = sym part.setup.version in
      let genesis : genesis_of large.frames ≡ genesis_of small.frames = sym part.setup.genesis in
      y.receipts ∙ (λ i. receipts_of (version i) (transactions_of s.ordered.payloads.list) (genesis i))

  rows_large : s.rows ≡ state_after small.version (transactions_of s.ordered.payloads.list) (genesis_of small.frames)
  rows_large =
      let version : large.version ≡ small.version = sym part.setup.version in
      let genesis : genesis_of large.frames ≡ genesis_of small.frames = sym part.setup.genesis in
      y.rows ∙ (λ i. state_after (version i) (transactions_of s.ordered.payloads.list) (genesis i))

pub ordered_is_final : (small large : FeedValue) (r s : Reading) → IsPartOfFeed small large → HasNoStopIn large → Reads small r → Reads large s → Continues r s
ordered_is_final small large r s part clear x y =
    let clear_large : HasNoStop (committee_in small) (later_frames large) = subst (λ (k : CommitteeValue). HasNoStop k (later_frames large)) (sym part.setup.committee) clear in
    let grown = frames_grow (committee_in small) (later_frames small) (later_frames large) r.ordered s.ordered part.frames clear_large x.ordered (order_large small large s part y) in
    let receipts = receipts_begin small.version r.ordered.payloads.list s.ordered.payloads.list (genesis_of small.frames) grown.2 in
    record {
      anchors = grown.0;
      order = grown.1;
      batches = grown.2;
      receipts = (receipts.0, receipts_large small large s part y ∙ (receipts.1 ∙ ap (λ (l : List Receipt). l ++ receipts.0) (sym x.receipts)));
    }

pub report_ignores_frame_order : (one other : FeedValue) (r s : Reading) → IsPartOfFeed one other → IsPartOfFeed other one → HasNoStopIn one → Reads one r → Reads other s → AreAlike r s
report_ignores_frame_order one other r s part back clear x y =
    let k = committee_in one in
    let ordered : r.ordered ≡ s.ordered = one_ordered k (later_frames other) r.ordered s.ordered
    (clear_in k (later_frames one) (later_frames other) part.frames back.frames clear)
    (order_in k (later_frames one) (later_frames other) r.ordered part.frames back.frames x.ordered)
    (order_large one other s part y) in
    record {
      waiting = one_waiting k (later_frames other) r.waiting s.waiting (waiting_in k (later_frames one) (later_frames other) r.waiting part.frames back.frames x.waiting) (waiting_large one other s part y);
      ordered = ordered;
      receipts = x.receipts
          ∙ (ap (λ (o : Ordered). receipts_of one.version (transactions_of o.payloads.list) (genesis_of one.frames)) ordered
          ∙ sym (receipts_large one other s part y));
      rows = x.rows
          ∙ (ap (λ (o : Ordered). state_after one.version (transactions_of o.payloads.list) (genesis_of one.frames)) ordered
          ∙ sym (rows_large one other s part y));
    }
