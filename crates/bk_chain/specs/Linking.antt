-- The link of a feed, read off its frames alone.
use Rattle.std.specs.Prelude.{◌≡◌, ℕ, List, ◌++◌, length, codes}
use Rattle.sha2.specs.Sha256.{sha256}
use Rattle.bk_base.specs.Feed.{FeedValue, genesis_of}
use Rattle.bk_base.specs.Genesis.{total_of}
use Rattle.bk_committee.specs.Payload.{committee_bytes}
use Rattle.bk_report.specs.Leaves.{state_of}
use Rattle.bk_results.specs.declared.status.Status.{Status}
use Rattle.bk_answer.specs.Outcomes.{Outcome, IsOutcomeOf}
use Rattle.bk_answer.specs.RunReport.{committee_in, reach_of}
use Rattle.bk_chain.specs.declared.link.LinkValue.{LinkValue}
use Rattle.bk_chain.specs.Line.{link_line}

-- a feed that nothing stops ends so, and this is its link
pub record IsLinkOf (feed : FeedValue) (reached : Outcome) (v : LinkValue) : Type 0 where
  pub outcome : IsOutcomeOf feed reached
  pub version : v.version ≡ feed.version
  pub committee : v.committee ≡ sha256 (committee_bytes (committee_in feed))
  pub opening : v.opening ≡ state_of (genesis_of feed.frames)
  pub closing : v.closing ≡ state_of reached.rows
  pub accounts : v.accounts ≡ length reached.rows
  pub money : v.money ≡ total_of reached.rows
  pub transactions : v.transactions ≡ length reached.receipts
  pub end : v.end ≡ reach_of reached.ordered.payloads.missing

-- the line of a feed's link as what the feed answers: it ends with whether a batch is missing
pub record IsLinkText (feed : FeedValue) (answer : Status) (text : List ℕ) : Type 0 where
  pub reached : Outcome
  pub link : LinkValue
  pub is_link : IsLinkOf feed reached link
  pub text_is : text ≡ link_line link ++ codes "\n"
  pub answer_is : answer ≡ link.end
