-- What a summary says of a feed, read off its frames alone.
use Rattle.std.specs.Prelude.{◌≡◌, ℕ, ◌-◌, ◌==◌, Bool, true, false, List, filter, length, map, not, is_some, count_by}
use Rattle.std.specs.List.{list_any}
use Rattle.std.specs.Str.{bytes_eq}
use Rattle.sha2.specs.Sha256.{sha256}
use Rattle.bk_base.specs.Feed.{Frame, FeedValue, genesis_of}
use Rattle.bk_base.specs.Genesis.{genesis_text, total_of}
use Rattle.bk_committee.specs.Payload.{committee_bytes, sizes_of}
use Rattle.bk_committee.specs.Sizes.{Sizes, faulty, members, quorum}
use Rattle.bk_cert.specs.Node.{Node}
use Rattle.bk_certcheck.specs.declared.verdict.Verdict.{Verdict}
use Rattle.bk_flatten.specs.Batches.{once}
use Rattle.bk_certcheck.specs.Frames.{batches_in, certificates_in}
use Rattle.bk_order.specs.Frames.{AreCerts}
use Rattle.bk_order.specs.Orders.{Ordered}
use Rattle.bk_order.specs.Tally.{AreVerdicts, digests_in, ids_by}
use Rattle.bk_tx.specs.Batches.{count_in}
use Rattle.bk_rules.specs.declared.receipt.Receipt.{Receipt}
use Rattle.bk_rules.specs.declared.receipt.Status.{Status}
use Rattle.bk_rules.specs.declared.receipt.Status.TheVariants as status
use Rattle.bk_rules.specs.Numbers.{number_of}
use Rattle.bk_views.specs.Anchors.{AreRows}
use Rattle.bk_views.specs.declared.anchors.AnchorRow.{AnchorRow}
use Rattle.bk_views.specs.declared.anchors.AnchorState.{AnchorState}
use Rattle.bk_views.specs.declared.anchors.AnchorState.TheVariants as state
use Rattle.bk_report.specs.Leaves.{state_of}
use Rattle.bk_report.specs.RunLines.{Reading}
use Rattle.bk_answer.specs.RunReport.{HasNoStopIn, Reads, committee_in, later_frames}
use Rattle.bk_summary.specs.declared.summary.AnchorCounts.{AnchorCounts}
use Rattle.bk_summary.specs.declared.summary.BatchCounts.{BatchCounts}
use Rattle.bk_summary.specs.declared.summary.CertCounts.{CertCounts}
use Rattle.bk_summary.specs.declared.summary.MemberCounts.{MemberCounts}
use Rattle.bk_summary.specs.declared.summary.Summary.{Summary}
use Rattle.bk_summary.specs.declared.summary.TxCounts.{TxCounts}

-- how many of these come again: those beyond the first of each
abbrev pub repeats : List (List ℕ) → ℕ
repeats names = length names - length (once names)

-- ---- members and certificates

abbrev pub member_counts : Sizes → MemberCounts
member_counts z = record { members = members z; faulty = faulty z; quorum = quorum z }

-- of the certificates of frames with these verdicts
abbrev pub cert_counts : List Frame → List Verdict → Reading → CertCounts
cert_counts frames verdicts r = record {
  all = length (certificates_in frames);
  rejected = length r.rejected;
  repeated = repeats (ids_by verdicts);
  waiting = length r.waiting;
  ordered = length r.ordered.order;
}

abbrev pub AreCertCounts : FeedValue → Reading → CertCounts → Type 0
AreCertCounts feed r c =
    (verdicts : List Verdict) × AreVerdicts (committee_in feed) (later_frames feed) verdicts
    × (c ≡ cert_counts (later_frames feed) verdicts r)

-- ---- anchors

-- the anchor of a row is committed: it is voted or linked
abbrev pub is_committed : AnchorState → Bool
is_committed state.Voted = true
is_committed state.Linked = true
is_committed other = false

abbrev pub is_skipped : AnchorState → Bool
is_skipped state.Skipped = true
is_skipped other = false

abbrev pub is_open : AnchorState → Bool
is_open state.Open = true
is_open other = false

-- how many rows are in such a state
abbrev pub rows_by : (AnchorState → Bool) → List AnchorRow → ℕ
rows_by test rows = count_by (λ (row : AnchorRow). test row.state) rows

abbrev pub anchor_counts : List AnchorRow → AnchorCounts
anchor_counts rows =
    record { committed = rows_by is_committed rows; skipped = rows_by is_skipped rows; left_open = rows_by is_open rows }

-- of the rows of all odd rounds up to the top, those that the job of anchors shows
abbrev pub AreAnchorCounts : FeedValue → Reading → AnchorCounts → Type 0
AreAnchorCounts feed r c =
    (certs : List Node) × (rows : List AnchorRow) × AreCerts (committee_in feed) (later_frames feed) certs
    × AreRows (sizes_of (committee_in feed)) certs r.ordered.anchors rows × (c ≡ anchor_counts rows)

-- ---- batches

-- the digests of the batches of an order
abbrev pub ordered_digests : Ordered → List (List ℕ)
ordered_digests o = map sha256 o.payloads.list

-- the digests of the batches of frames that an order does not have, each once
abbrev pub unordered_digests : Ordered → List Frame → List (List ℕ)
unordered_digests o frames =
    filter (λ d. not (list_any (bytes_eq d) (ordered_digests o))) (once (digests_in frames))

-- a batch is void where it is not of the grammar
abbrev pub is_void : List ℕ → Bool
is_void payload = not (is_some (count_in payload))

abbrev pub batch_counts : List Frame → Ordered → BatchCounts
batch_counts frames o = record {
  all = length (batches_in frames);
  repeated = repeats (digests_in frames);
  ordered = length o.payloads.list;
  void = count_by is_void o.payloads.list;
  unordered = length (unordered_digests o frames);
}

-- ---- transactions

-- how many of the receipts have this status
abbrev pub receipts_by : Status → List Receipt → ℕ
receipts_by s receipts = count_by (λ (r : Receipt). number_of r.status == number_of s) receipts

abbrev pub tx_counts : List Receipt → TxCounts
tx_counts receipts = record {
  all = length receipts;
  good = receipts_by status.Ok receipts;
  malformed = receipts_by status.Malformed receipts;
  undeclared = receipts_by status.Undeclared receipts;
  unknown = receipts_by status.Unknown receipts;
  stale = receipts_by status.Stale receipts;
  guard = receipts_by status.Guard receipts;
  funds = receipts_by status.Funds receipts;
}

-- ---- the whole

-- nothing stops the feed, and this is its summary. The digests of the committee and of the opening accounts are those of
-- their one encoding: of the payloads of frame 0 and frame 1
pub record IsSummaryOf (feed : FeedValue) (s : Summary) : Type 0 where
  pub clear : HasNoStopIn feed
  pub reading : Reading
  pub reads : Reads feed reading
  pub version : s.version ≡ feed.version
  pub committee : s.committee ≡ sha256 (committee_bytes (committee_in feed))
  pub genesis : s.genesis ≡ sha256 (genesis_text (genesis_of feed.frames))
  pub members : s.members ≡ member_counts (sizes_of (committee_in feed))
  pub frames : s.frames ≡ length feed.frames
  pub certs : AreCertCounts feed reading s.certs
  pub anchors : AreAnchorCounts feed reading s.anchors
  pub batches : s.batches ≡ batch_counts (later_frames feed) reading.ordered
  pub missing : s.missing ≡ reading.ordered.payloads.missing
  pub txs : s.txs ≡ tx_counts reading.receipts
  pub accounts : s.accounts ≡ length reading.rows
  pub money : s.money ≡ total_of reading.rows
  pub state : s.state ≡ state_of reading.rows
