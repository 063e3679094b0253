-- The link of what was made of a feed.
use Rattle.std.specs.Prelude.{◌≡◌, length}
use Rattle.sha2.specs.Sha256.{sha256}
use Rattle.bk_base.specs.Genesis.{total_of}
use Rattle.bk_committee.specs.Payload.{committee_bytes}
use Rattle.bk_report.specs.Leaves.{state_of}
use Rattle.bk_answer.specs.Closed.{ClosedValue}
use Rattle.bk_answer.specs.RunReport.{reach_of}
use Rattle.bk_chain.specs.declared.link.LinkValue.{LinkValue}

-- the link of what was taken of frames, of opening accounts and of what was executed
pub record IsLinkOfClosed (c : ClosedValue) (v : LinkValue) : Type 0 where
  pub version : v.version ≡ c.order.taken.committee.version
  pub committee : v.committee ≡ sha256 (committee_bytes c.order.taken.committee)
  pub opening : v.opening ≡ state_of c.order.opening
  pub closing : v.closing ≡ state_of c.ledger.state.rows
  pub accounts : v.accounts ≡ length c.ledger.state.rows
  pub money : v.money ≡ total_of c.ledger.state.rows
  pub transactions : v.transactions ≡ length c.ledger.receipts
  pub end : v.end ≡ reach_of c.order.taken.ordered.payloads.missing
