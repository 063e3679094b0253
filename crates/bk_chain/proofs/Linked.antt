-- The link of what was made of a feed is that of the feed.
use Rattle.std.proofs.Common.{◌≡◌, ℕ, ◌<◌, ◌^◌, List, [], ◌∷◌, ◌++◌, length, refl, ap, ◌∙◌, arith}
use Rattle.std.specs.Prelude.{codes}
use Rattle.sha2.specs.Sha256.{sha256}
use Rattle.bk_base.specs.declared.version.Version.{Version}
use Rattle.bk_base.specs.Feed.{FeedValue, genesis_of}
use Rattle.bk_base.proofs.Accounts.{genesis_few}
use Rattle.bk_committee.specs.Payload.{CommitteeValue, committee_bytes, committee_of}
use Rattle.bk_ledger.proofs.Growth.{state_long}
use Rattle.bk_report.specs.Leaves.{state_of}
use Rattle.bk_tx.specs.Batches.{transactions_of}
use Rattle.bk_answer.specs.Answers.{IsMadeOf}
use Rattle.bk_answer.specs.Closed.{ClosedValue, IsClosedFor}
use Rattle.bk_answer.specs.Outcomes.{Outcome, IsOutcomeOf}
use Rattle.bk_answer.specs.RunReport.{committee_in, later_frames}
use Rattle.bk_answer.proofs.Counting.{few_named}
use Rattle.bk_answer.proofs.Reports.{later_part}
use Rattle.bk_chain.specs.declared.link.LinkValue.{LinkValue}
use Rattle.bk_chain.specs.Line.{link_line}
use Rattle.bk_chain.specs.Linking.{IsLinkOf, IsLinkText}
use Rattle.bk_chain.specs.private.Linking.{IsLinkOfClosed}

version_is : (v : Version) (payload : List ℕ) → (committee_of v payload).version ≡ v
version_is v [] = refl
version_is v (n ∷ bytes) = refl

-- where a feed that was closed ends
abbrev pub outcome_of : ClosedValue → Outcome
outcome_of c = record { ordered = c.order.taken.ordered; receipts = c.ledger.receipts; rows = c.ledger.state.rows }

module _ (feed : FeedValue) (c : ClosedValue) (closed : IsClosedFor feed c) where
  outcome_is : IsOutcomeOf feed (outcome_of c)
  outcome_is = record {
    clear = closed.order.clear;
    ordered = closed.order.ordered;
    receipts = closed.executed.receipts;
    rows = closed.executed.rows;
  }

  pub link_is : (v : LinkValue) → IsLinkOfClosed c v → IsLinkOf feed (outcome_of c) v
  link_is v is = record {
    outcome = outcome_is;
    version = is.version ∙ (ap (λ (k : CommitteeValue). k.version) closed.order.committee ∙ version_is feed.version _);
    committee = is.committee ∙ ap (λ (k : CommitteeValue). sha256 (committee_bytes k)) closed.order.committee;
    opening = is.opening ∙ ap state_of closed.order.opening;
    closing = is.closing;
    accounts = is.accounts;
    money = is.money;
    transactions = is.transactions;
    end = is.end;
  }

-- the accounts at the end of a feed are few
pub rows_few : (c : ClosedValue) → ((feed : FeedValue) × IsMadeOf c feed) → length c.ledger.state.rows < 2 ^ 32
rows_few c (feed, (good, closed)) =
    let few = few_named feed.version (committee_in feed) feed.frames (later_frames feed) c.order.taken.ordered good.good (later_part feed.frames) closed.order.ordered in
    let same = ap length closed.executed.rows in
    omega (arith, few, same, state_long feed.version (transactions_of c.order.taken.ordered.payloads.list) (genesis_of feed.frames), genesis_few feed.frames)

-- its line is the answer of each feed
pub answers : (c : ClosedValue) (v : LinkValue) (text : List ℕ) → IsLinkOfClosed c v → text ≡ link_line v ++ codes "\n" → (feed : FeedValue) → IsMadeOf c feed → IsLinkText feed v.end text
answers c v text is t feed made = record { reached = outcome_of c; link = v; is_link = link_is feed c made.1 v is; text_is = t; answer_is = refl }
