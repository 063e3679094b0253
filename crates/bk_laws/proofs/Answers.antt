-- Every byte string has an answer.
use Rattle.std.proofs.Common.{◌≡◌, ◌⊎◌, ℕ, List, length, reverse, refl, sym, subst, inl, inr, ⊎_elim}
use Rattle.bk_frames.specs.declared.fault.FeedFault.{FeedFault}
use Rattle.bk_base.specs.Feed.{FeedValue, IsFeed, spelling, genesis_of}
use Rattle.bk_frames.specs.FirstFault.{HasFault}
use Rattle.bk_base.specs.Numbers.{IsBytes}
use Rattle.bk_committee.specs.Payload.{sizes_of}
use Rattle.bk_order.specs.declared.stop.Stop.{Stop}
use Rattle.bk_order.specs.declared.stop.Stop.TheVariants as stop
use Rattle.bk_order.specs.Intake.{first_later_frame}
use Rattle.bk_order.specs.Orders.{ordered_with}
use Rattle.bk_order.specs.Stops.{IsStop, IsStopOf, AreClear}
use Rattle.bk_flatten.specs.Batches.{batches_of}
use Rattle.bk_rules.specs.Fold.{state_after, receipts_of}
use Rattle.bk_report.specs.Lines.{text_of}
use Rattle.bk_tx.specs.Batches.{transactions_of}
use Rattle.bk_report.specs.Report.{IsApplyReport, apply_report_of}
use Rattle.bk_report.specs.RunLines.{Reading, run_lines}
use Rattle.bk_answer.specs.RunReport.{committee_in, later_frames, HasNoStopIn, Reads, IsStopIn, fault_of, reach_of}
use Rattle.bk_laws.specs.RunLaws.{Answer, ComesTo, faulty, stopped, reported}
use Rattle.bk_frames.proofs.OneReading.{feed_or_fault}
use Rattle.bk_laws.proofs.RunLaws.{one_answer}
use Rattle.bk_laws.proofs.Anchors.{anchors_exist}
use Rattle.bk_laws.proofs.Orders.{order_exists, waiting_exist}
use Rattle.bk_laws.proofs.Stops.{stop_or_none}
use Rattle.bk_laws.proofs.Verdicts.{batches_exist, certs_exist, rejects_exist}

-- the rules read something off the frames of every feed
pub reading_exists : (feed : FeedValue) → (r : Reading) × Reads feed r
reading_exists feed =
    let k = committee_in feed in
    let frames = later_frames feed in
    let certs = certs_exist k frames in
    let batches = batches_exist frames in
    let rejected = rejects_exist k first_later_frame frames in
    let waiting = waiting_exist (sizes_of k) certs.0 in
    let anchors = anchors_exist (sizes_of k) certs.0 in
    let order = order_exists (sizes_of k) certs.0 (reverse anchors.0) in
    let payloads = batches_of certs.0 batches.0 order.0 in (
      record {
        rejected = rejected.0;
        waiting = waiting.0;
        ordered = ordered_with anchors.0 order.0 payloads;
        receipts = receipts_of feed.version (transactions_of payloads.list) (genesis_of feed.frames);
        rows = state_after feed.version (transactions_of payloads.list) (genesis_of feed.frames);
      },
      record {
        rejected = rejected.1;
        waiting = record { certs = certs.0; are_certs = certs.1; listed = waiting.1 };
        ordered = record {
          certs = certs.0;
          batches = batches.0;
          are_certs = certs.1;
          are_batches = batches.1;
          holds = record { committed = anchors.1; ordered = order.1; payloads_are = refl };
        };
        receipts = refl;
        rows = refl;
      },
    )

stop_in : (feed : FeedValue) (s : Stop) → IsStop (committee_in feed) (later_frames feed) s → IsStopIn feed (fault_of s)
stop_in feed (stop.Collision id) is = is
stop_in feed (stop.Twins e) is = is

-- and what they read is its report, where nothing stops it
report_of : (feed : FeedValue) → IsFeed feed → HasNoStopIn feed → (a : Answer) × ComesTo (spelling feed) a
report_of feed good clear =
    let r = reading_exists feed in (
      reported (text_of (run_lines (committee_in feed) (length feed.frames) r.0)) (reach_of r.0.ordered.payloads.missing),
      record {
        feed = feed;
        good = good;
        spelled = refl;
        holds = record { clear = clear; reading = r.0; reads = r.1; report = refl; status_is = refl };
      },
    )

answer_of_feed : (feed : FeedValue) → IsFeed feed → (a : Answer) × ComesTo (spelling feed) a
answer_of_feed feed good =
    let k = committee_in feed in
    let certs = certs_exist k (later_frames feed) in
    let batches = batches_exist (later_frames feed) in
    ⊎_elim
    (λ (s : (s : Stop) × IsStopOf certs.0 batches.0 s). (
      stopped (fault_of s.0),
      record {
        feed = feed;
        good = good;
        spelled = refl;
        holds = stop_in feed s.0 (record { certs = certs.0; batches = batches.0; are_certs = certs.1; are_batches = batches.1; holds = s.1 });
      },
    ))
    (λ (clear : AreClear certs.0 batches.0).
    report_of feed good (record { certs = certs.0; batches = batches.0; are_certs = certs.1; are_batches = batches.1; holds = clear }))
    (stop_or_none certs.0 batches.0)

some_answer : (bytes : List ℕ) → IsBytes bytes → (a : Answer) × ComesTo bytes a
some_answer bytes are = ⊎_elim
    (λ (f : (feed : FeedValue) × IsFeed feed × (bytes ≡ spelling feed)).
    subst (λ (b : List ℕ). (a : Answer) × ComesTo b a) (sym f.2) (answer_of_feed f.0 f.1))
    (λ (f : (fault : FeedFault) × HasFault bytes fault). (faulty f.0, f.1))
    (feed_or_fault bytes are)

pub exactly_one : (bytes : List ℕ) → IsBytes bytes → (a : Answer) × ComesTo bytes a × ((other : Answer) → ComesTo bytes other → a ≡ other)
exactly_one bytes are = let a = some_answer bytes are in (a.0, a.1, λ other c. one_answer bytes a.0 other a.1 c)

pub fault_or_report : (bytes : List ℕ) → IsBytes bytes → ((fault : FeedFault) × HasFault bytes fault) ⊎ ((text : List ℕ) × IsApplyReport bytes text)
fault_or_report bytes are = ⊎_elim
    (λ (f : (feed : FeedValue) × IsFeed feed × (bytes ≡ spelling feed)).
    inr (text_of (apply_report_of f.0), record { feed = f.0; good = f.1; spelled = f.2; report = refl }))
    (λ (f : (fault : FeedFault) × HasFault bytes fault). inl f)
    (feed_or_fault bytes are)
