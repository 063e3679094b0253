-- The proof of an account of a feed is good for the state in the feed's report.
use Rattle.std.proofs.Common.{◌≡◌, ℕ, List, length, sym, subst, ap, ◌∙◌, refl}
use Rattle.hex.specs.Hex.{encode_lower}
use Rattle.bk_base.specs.Feed.{FeedValue, IsFeed, genesis_of, spelling}
use Rattle.bk_base.specs.Genesis.{total_of}
use Rattle.bk_base.specs.Numbers.{IsBytes}
use Rattle.bk_base.specs.declared.genesis.Row.{Row}
use Rattle.bk_order.specs.Orders.{Ordered}
use Rattle.bk_order.proofs.OneReading.{one_ordered}
use Rattle.bk_rules.specs.Fold.{state_after}
use Rattle.bk_report.specs.Leaves.{state_of}
use Rattle.bk_report.specs.Lines.{text_of}
use Rattle.bk_report.specs.Proofs.{IsGoodProof, IsProofOf}
use Rattle.bk_tx.specs.Batches.{transactions_of}
use Rattle.bk_report.specs.RunLines.{Reading, run_lines}
use Rattle.bk_report.proofs.MadeProofs.{made_is_good}
use Rattle.bk_results.specs.declared.query.Query.TheVariants as query
use Rattle.bk_results.specs.declared.query.Reply.TheVariants as reply
use Rattle.bk_results.specs.declared.status.Status.{Status}
use Rattle.bk_ask.specs.Asking.{IsReply, IsReplyOf}
use Rattle.bk_answer.specs.Outcomes.{IsOutcomeOf, Outcome}
use Rattle.bk_answer.specs.RunReport.{HasNoStopIn, IsReport, Reads, committee_in, later_frames, reach_of}
use Rattle.bk_laws.proofs.RunLaws.{money_line_is_genesis}
use Rattle.bk_laws.specs.Laws.{ProvesInReport}
use Rattle.bk_laws.proofs.Answers.{reading_exists}
use Rattle.bk_laws.proofs.Fitting.{accounts_fit}

-- a feed that nothing stops has a report
report_exists : (feed : FeedValue) → IsFeed feed → HasNoStopIn feed → (text : List ℕ) × (status : Status) × IsReport (spelling feed) text status
report_exists feed good clear =
    let r = reading_exists feed in (
      text_of (run_lines (committee_in feed) (length feed.frames) r.0),
      reach_of r.0.ordered.payloads.missing,
      record {
        feed = feed;
        good = good;
        spelled = refl;
        holds = record { clear = clear; reading = r.0; reads = r.1; report = refl; status_is = refl };
      },
    )

-- there is one list of accounts at its end
pub same_rows : (feed : FeedValue) (end : Outcome) (r : Reading) → IsOutcomeOf feed end → Reads feed r → r.rows ≡ end.rows
same_rows feed end r is reads =
    let same : r.ordered ≡ end.ordered = one_ordered (committee_in feed) (later_frames feed) r.ordered end.ordered is.clear reads.ordered is.ordered in
    reads.rows
    ∙ ap (λ (o : Ordered). state_after feed.version (transactions_of o.payloads.list) (genesis_of feed.frames)) same
    ∙ sym is.rows

proves : (feed : FeedValue) (text : List ℕ) (id : ℕ) → IsBytes (spelling feed) → IsFeed feed → IsReplyOf feed (query.Proof id) reply.Found text → ProvesInReport (spelling feed) text
proves feed text id are good reply =
    let p = reply.replies in
    let report = report_exists feed good reply.ending.outcome.clear in
    let ends = money_line_is_genesis feed report.0 report.1 good report.2 in
    let rows : ends.0.rows ≡ reply.end.outcome.rows = same_rows feed reply.end.outcome ends.0 reply.ending.outcome ends.1 in
    let fit = accounts_fit feed ends.0 are good ends.1 in
    record {
      report = report.0;
      status = report.1;
      money = total_of (genesis_of feed.frames);
      state = state_of ends.0.rows;
      reported = report.2;
      ends = ends.2;
      good = subst (IsGoodProof (encode_lower (state_of ends.0.rows))) (sym p.2)
          (made_is_good ends.0.rows id p.0 fit.1 fit.0 (subst (λ (xs : List Row). IsProofOf xs id p.0) (sym rows) p.1));
    }

pub proofs_are_good : (bytes text : List ℕ) (id : ℕ) → IsBytes bytes → IsReply bytes (query.Proof id) reply.Found text → ProvesInReport bytes text
proofs_are_good bytes text id are h =
    subst (λ (b : List ℕ). ProvesInReport b text) (sym h.spelled) (proves h.feed text id (subst IsBytes h.spelled are) h.good h.holds)
