-- A summary of what was taken and executed.
use Rattle.std.specs.Prelude.{◌≡◌, ℕ, ◌-◌, List, Option, is_some, not, length, count_by}
use Rattle.sha2.specs.Sha256.{sha256}
use Rattle.bk_base.specs.declared.genesis.Row.{Row}
use Rattle.bk_base.specs.Genesis.{genesis_text, total_of}
use Rattle.bk_committee.specs.Payload.{committee_bytes, sizes_of}
use Rattle.bk_cert.specs.declared.place.CertRef.{CertRef}
use Rattle.bk_order.specs.Intake.{Taken}
use Rattle.bk_order.specs.declared.tally.Tally.{Tally}
use Rattle.bk_rounds.specs.Rounds.{RoundsValue}
use Rattle.bk_ledger.specs.Ledger.{LedgerValue}
use Rattle.bk_views.specs.Anchors.{AreRows}
use Rattle.bk_views.specs.declared.anchors.AnchorRow.{AnchorRow}
use Rattle.bk_report.specs.Leaves.{state_of}
use Rattle.bk_summary.specs.Summary.{anchor_counts, member_counts, tx_counts}
use Rattle.bk_summary.specs.declared.summary.AnchorCounts.{AnchorCounts}
use Rattle.bk_summary.specs.declared.summary.BatchCounts.{BatchCounts}
use Rattle.bk_summary.specs.declared.summary.CertCounts.{CertCounts}
use Rattle.bk_summary.specs.declared.summary.Summary.{Summary}

-- the counts of certificates of a tally
abbrev pub certs_of : Tally → ℕ → ℕ → ℕ → CertCounts
certs_of t rejected waiting ordered =
    record { all = t.certs; rejected = rejected; repeated = t.good.all - t.good.names; waiting = waiting; ordered = ordered }

-- how many batches of these counts are void
abbrev pub void_in : List (Option ℕ) → ℕ
void_in counts = count_by (λ (c : Option ℕ). not (is_some c)) counts

-- the counts of batches of a tally
abbrev pub batches_of : Tally → List (Option ℕ) → BatchCounts
batches_of t counts = record {
  all = t.batches.all;
  repeated = t.batches.all - t.batches.names;
  ordered = length counts;
  void = void_in counts;
  unordered = t.batches.names - length counts;
}

-- the counts of the anchors of a table of rounds
abbrev pub CountsAnchors : RoundsValue → Taken → AnchorCounts → Type 0
CountsAnchors rounds taken c =
    (rows : List AnchorRow) × AreRows rounds.sizes rounds.held taken.ordered.anchors rows × (c ≡ anchor_counts rows)

-- the summary of what was taken of frames, of opening accounts, and of what was executed
pub record Sums (taken : Taken) (rounds : RoundsValue) (waiting : List CertRef) (opening : List Row) (l : LedgerValue) (s : Summary)
    : Type 0 where
  pub version : s.version ≡ taken.committee.version
  pub committee : s.committee ≡ sha256 (committee_bytes taken.committee)
  pub genesis : s.genesis ≡ sha256 (genesis_text opening)
  pub members : s.members ≡ member_counts (sizes_of taken.committee)
  pub frames : s.frames ≡ taken.kept.next
  pub certs : s.certs ≡ certs_of taken.kept.tally (length taken.kept.rejected) (length waiting) (length taken.ordered.order)
  pub anchors : CountsAnchors rounds taken s.anchors
  pub batches : s.batches ≡ batches_of taken.kept.tally l.counts
  pub missing : s.missing ≡ taken.ordered.payloads.missing
  pub txs : s.txs ≡ tx_counts l.receipts
  pub accounts : s.accounts ≡ length l.state.rows
  pub money : s.money ≡ total_of l.state.rows
  pub state : s.state ≡ state_of l.state.rows
