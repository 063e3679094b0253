-- The summary of what was made of a feed is that of the feed.
use Rattle.std.proofs.Common.{◌≡◌, ℕ, suc, ◌+◌, ◌-◌, ◌^◌, ◌<◌, ◌≤◌, Bool, true, false, cond, List, [], ◌∷◌, length, drop, map, Option, refl, sym, ap, subst, ◌∙◌, arith}
use Rattle.std.specs.Prelude.{count_by, filter, is_some, not}
use Rattle.std.proofs.lemmas.List.{length-drop, length-map}
use Rattle.std.proofs.lemmas.List.Sums.{length-filter}
use Rattle.bk_base.specs.declared.genesis.Row.{Row}
use Rattle.bk_base.specs.Feed.{Frame, FeedValue, IsFeed}
use Rattle.bk_base.specs.Genesis.{genesis_text}
use Rattle.sha2.specs.Sha256.{sha256}
use Rattle.bk_base.specs.declared.version.Version.{Version}
use Rattle.bk_committee.specs.Payload.{CommitteeValue, committee_bytes, committee_of, sizes_of}
use Rattle.bk_committee.specs.Sizes.{Sizes}
use Rattle.bk_cert.specs.declared.place.CertRef.{CertRef}
use Rattle.bk_certcheck.specs.Frames.{batches_in}
use Rattle.bk_order.specs.Frames.{AreRejects}
use Rattle.bk_order.specs.Intake.{Taken, first_later_frame}
use Rattle.bk_order.specs.Orders.{AreRoundsOf, AreWaiting}
use Rattle.bk_order.specs.Tally.{IsTallyOf}
use Rattle.bk_order.specs.declared.tally.Count.{Count}
use Rattle.bk_rounds.specs.Rounds.{RoundsValue}
use Rattle.bk_tx.specs.Batches.{count_in}
use Rattle.bk_report.specs.RunLines.{Reading}
use Rattle.bk_views.specs.Anchors.{AreRows}
use Rattle.bk_answer.specs.Closed.{ClosedValue, OrderValue, IsClosedFor, IsOrderedFor}
use Rattle.bk_answer.specs.RunReport.{Reads, committee_in, later_frames, reach_of}
use Rattle.bk_base.proofs.Accounts.{genesis_few}
use Rattle.bk_results.specs.declared.status.Status.{Status}
use Rattle.bk_summary.specs.Summarizing.{IsSummaryText}
use Rattle.bk_summary.specs.Text.{summary_text}
use Rattle.bk_summary.specs.Summary.{IsSummaryOf, AreAnchorCounts, AreCertCounts, batch_counts, is_void, member_counts, unordered_digests}
use Rattle.bk_summary.specs.declared.summary.AnchorCounts.{AnchorCounts}
use Rattle.bk_summary.specs.declared.summary.BatchCounts.{BatchCounts}
use Rattle.bk_summary.specs.declared.summary.CertCounts.{CertCounts}
use Rattle.bk_summary.specs.declared.summary.Summary.{Summary}
use Rattle.bk_summary.specs.private.Sums.{CountsAnchors, Sums, batches_of, certs_of, void_in}
use Rattle.bk_summary.proofs.OrderedDigests.{unordered_counts}

-- a batch is void where its count is none
void_kept : (payloads : List (List ℕ)) → length (filter (λ (c : Option ℕ). not (is_some c)) (map count_in payloads)) ≡ length (filter is_void payloads)
void_kept [] = refl
void_kept (p ∷ more) = by_test (is_void p) (void_kept more)
  where
    by_test : (b : Bool) → length (filter (λ (c : Option ℕ). not (is_some c)) (map count_in more)) ≡ length (filter is_void more)
        → length (cond b (count_in p ∷ filter (λ (c : Option ℕ). not (is_some c)) (map count_in more)) (filter (λ (c : Option ℕ). not (is_some c)) (map count_in more)))
        ≡ length (cond b (p ∷ filter is_void more) (filter is_void more))
    by_test true rest = ap suc rest
    by_test false rest = rest

void_counted : (payloads : List (List ℕ)) → void_in (map count_in payloads) ≡ count_by is_void payloads
void_counted payloads = sym (length-filter (λ (c : Option ℕ). not (is_some c)) (map count_in payloads)) ∙ (void_kept payloads ∙ length-filter is_void payloads)

all_frames : (frames : List Frame) (next : ℕ) → 2 ≤ length frames → next ≡ first_later_frame + length (drop 2 frames) → next ≡ length frames
all_frames frames next two e = omega (arith, two, e, length-drop 2 frames)

version_is : (v : Version) (payload : List ℕ) → (committee_of v payload).version ≡ v
version_is v [] = refl
version_is v (n ∷ bytes) = refl

-- ---- the summary of what was made of a feed

module _ (feed : FeedValue) (x : ClosedValue) (rounds : RoundsValue) (waiting : List CertRef) (good : IsFeed feed) (closed : IsClosedFor feed x)
    (rounds_here : AreRoundsOf (committee_in feed) (later_frames feed) rounds) (waits : AreWaiting (committee_in feed) (later_frames feed) waiting) where
  abbrev taken : Taken
  taken = x.order.taken

  abbrev reading : Reading
  reading = record { rejected = taken.kept.rejected; waiting = waiting; ordered = taken.ordered; receipts = x.ledger.receipts; rows = x.ledger.state.rows }

  reads : Reads feed reading
  reads = record {
    rejected = subst (λ (k : CommitteeValue). AreRejects k first_later_frame (later_frames feed) taken.kept.rejected) closed.order.committee closed.order.taken.rejected;
    waiting = waits;
    ordered = closed.order.ordered;
    receipts = closed.executed.receipts;
    rows = closed.executed.rows;
  }

  tally : IsTallyOf (committee_in feed) (later_frames feed) taken.kept.tally
  tally = subst (λ (k : CommitteeValue). IsTallyOf k (later_frames feed) taken.kept.tally) closed.order.committee closed.order.taken.tally

  certs_are : (c : CertCounts) → c ≡ certs_of taken.kept.tally (length taken.kept.rejected) (length waiting) (length taken.ordered.order) → AreCertCounts feed reading c
  certs_are c e = (
    tally.verdicts,
    tally.are_verdicts,
    e ∙ (λ i. record {
      all = tally.certs i;
      rejected = length taken.kept.rejected;
      repeated = (tally.good i).all - (tally.good i).names;
      waiting = length waiting;
      ordered = length taken.ordered.order;
    }),
  )

  anchors_are : (c : AnchorCounts) → CountsAnchors rounds taken c → AreAnchorCounts feed reading c
  anchors_are c h = (
    rounds.held,
    h.0,
    rounds_here.certs,
    subst (λ (z : Sizes). AreRows z rounds.held taken.ordered.anchors h.0) rounds_here.sizes h.1,
    h.2,
  )

  batches_are : (c : BatchCounts) → c ≡ batches_of taken.kept.tally x.ledger.counts → c ≡ batch_counts (later_frames feed) taken.ordered
  batches_are c e =
      let counts : x.ledger.counts ≡ map count_in taken.ordered.payloads.list = closed.executed.counts in
      let ordered : length x.ledger.counts ≡ length taken.ordered.payloads.list = ap length counts ∙ length-map taken.ordered.payloads.list count_in in
      let void : void_in x.ledger.counts ≡ count_by is_void taken.ordered.payloads.list = ap void_in counts ∙ void_counted taken.ordered.payloads.list in
      let lacks : length (unordered_digests taken.ordered (later_frames feed)) ≡ taken.kept.tally.batches.names - length x.ledger.counts =
      unordered_counts (committee_in feed) (later_frames feed) taken.ordered closed.order.ordered ∙ (λ i. (sym tally.batches i).names - sym ordered i) in
      let all : taken.kept.tally.batches.all ≡ length (batches_in (later_frames feed)) = ap (λ (c : Count). c.all) tally.batches ∙ length-map _ sha256 in
      e ∙ (λ i. record {
        all = all i;
        repeated = (tally.batches i).all - (tally.batches i).names;
        ordered = ordered i;
        void = void i;
        unordered = sym lacks i;
      })

  pub summary_is : (s : Summary) → Sums taken rounds waiting x.order.opening x.ledger s → IsSummaryOf feed s
  summary_is s sums = record {
    clear = closed.order.clear;
    reading = reading;
    reads = reads;
    version = sums.version ∙ (ap (λ (k : CommitteeValue). k.version) closed.order.committee ∙ version_is feed.version _);
    committee = sums.committee ∙ ap (λ (k : CommitteeValue). sha256 (committee_bytes k)) closed.order.committee;
    genesis = sums.genesis ∙ ap (λ (rows : List Row). sha256 (genesis_text rows)) closed.order.opening;
    members = sums.members ∙ ap (λ (k : CommitteeValue). member_counts (sizes_of k)) closed.order.committee;
    frames = sums.frames ∙ all_frames feed.frames taken.kept.next good.opened closed.order.taken.next;
    certs = certs_are s.certs sums.certs;
    anchors = anchors_are s.anchors sums.anchors;
    batches = batches_are s.batches sums.batches;
    missing = sums.missing;
    txs = sums.txs;
    accounts = sums.accounts;
    money = sums.money;
    state = sums.state;
  }

-- the opening accounts of a feed are few
pub few_opening : (feed : FeedValue) (o : OrderValue) → IsOrderedFor feed o → length o.opening < 2 ^ 32
few_opening feed o ordered =
    let n = ap length ordered.opening in
    let few = genesis_few feed.frames in
    omega (arith, n, few)

-- the text of the summary of each feed is its answer
pub answers : (of : FeedValue → Type 0) (s : Summary) → ((feed : FeedValue) → of feed → IsSummaryOf feed s) → (end : Status) (text : List ℕ) → end ≡ reach_of s.missing → text ≡ summary_text s
    → (feed : FeedValue) → of feed → IsSummaryText feed end text
answers of s is end text e t feed h = record { summary = s; is_summary = is feed h; text_is = t; end_is = e }
