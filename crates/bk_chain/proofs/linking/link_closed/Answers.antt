use Rattle.std.proofs.Common.{◌≡◌, length, arith, ap, ◌∙◌}
use Rattle.sha2.specs.Sha256.{sha256}
use Rattle.bk_committee.specs.Payload.{CommitteeValue, committee_bytes}
use Rattle.bk_report.specs.Leaves.{state_of}
use Rattle.bk_base.specs.Genesis.{total_of}
use Rattle.bk_chain.proofs.linking.link_closed.Goals as goal

pub returns : goal.returns
returns g c =
    let same : c.in_ok-rows.rows.items ≡ c.args.closed.now.ledger.now.state.rows = c.in_ok-rows.ensures ∙ (λ i. (c.state.ensures i).rows) in
    let long = ap length same in
    record {
      version = c.version.ensures ∙ ap (λ (k : CommitteeValue). k.version) c.committee-2.ensures;
      committee = c.in_ok-committee.ensures ∙ ap (λ (k : CommitteeValue). sha256 (committee_bytes k)) c.committee.ensures;
      opening = c.in_ok-opening.ensures;
      closing = c.in_ok-closing.ensures ∙ ap state_of (c.deref.ensures.value ∙ same);
      accounts = omega (arith, c.len.ensures, c.in_ok-rows.rows.ok.0, long);
      money = c.total.ensures ∙ (λ i. total_of (c.state-2.ensures i).rows);
      transactions = ap length c.receipts.ensures;
      end = c.reach.ensures;
    }
