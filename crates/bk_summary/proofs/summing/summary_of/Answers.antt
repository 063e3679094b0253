use Rattle.std.proofs.Common.{◌∙◌, ap}
use Rattle.sha2.specs.Sha256.{sha256}
use Rattle.bk_committee.specs.Payload.{CommitteeValue, committee_bytes, sizes_of}
use Rattle.bk_summary.specs.Summary.{member_counts, tx_counts}
use Rattle.bk_summary.specs.private.Sums.{batches_of}
use Rattle.bk_summary.proofs.summing.summary_of.Goals as goal

pub returns : goal.returns
returns g c = record {
  version = c.version.ensures ∙ ap (λ (k : CommitteeValue). k.version) c.committee-committee.ensures;
  committee = c.in_ok-first.ensures ∙ ap (λ (k : CommitteeValue). sha256 (committee_bytes k)) c.committee-committee.ensures;
  genesis = c.in_ok-second.ensures;
  members = c.member_counts.ensures ∙ ap (λ (k : CommitteeValue). member_counts (sizes_of k)) c.committee-committee.ensures;
  frames = c.next.ensures;
  certs = c.cert_counts.ensures;
  anchors = c.in_ok-anchors.ensures;
  batches = c.batch_counts.ensures ∙ (λ i. batches_of (c.tally.ensures i) (c.counts.ensures i));
  missing = c.copied-missing.ensures ∙ c.missing.ensures;
  txs = c.tx_counts.ensures ∙ ap tx_counts c.receipts.ensures;
  accounts = c.in_ok-ending.ensures.accounts;
  money = c.in_ok-ending.ensures.money;
  state = c.in_ok-ending.ensures.state;
}
