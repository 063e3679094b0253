-- The lines of the report of a run.
use Rattle.std.specs.Prelude.{ℕ, List, [], ◌∷◌, ◌++◌, length, map, Option, Some, None, option_map}
use Rattle.bk_base.specs.declared.genesis.Row.{Row}
use Rattle.bk_base.specs.Genesis.{total_of}
use Rattle.bk_committee.specs.Payload.{CommitteeValue, sizes_of}
use Rattle.bk_committee.specs.Sizes.{members, faulty, quorum}
use Rattle.bk_cert.specs.declared.place.CertRef.{CertRef}
use Rattle.bk_order.specs.declared.reject.Reject.{Reject}
use Rattle.bk_order.specs.Orders.{Ordered}
use Rattle.bk_rules.specs.declared.receipt.Receipt.{Receipt}
use Rattle.bk_report.specs.declared.line.Line.{Line}
use Rattle.bk_report.specs.declared.line.Line.TheVariants as line
use Rattle.bk_report.specs.Leaves.{state_of}
use Rattle.bk_tx.specs.Reading.{texts_of}
use Rattle.bk_report.specs.Report.{batch_lines, tx_lines, account_lines}

-- what a run reads off the frames of a feed: what is rejected, what waits, what is ordered, and
-- what became of the transactions and of the accounts
pub record Reading : Type 0 where
  pub rejected : List Reject
  pub waiting : List CertRef
  pub ordered : Ordered
  pub receipts : List Receipt
  pub rows : List Row

-- how many members a committee has, how much of its weight may be faulty and how much is a quorum
abbrev pub members_line : CommitteeValue → Line
members_line k =
    line.Members (members (sizes_of k)) (faulty (sizes_of k)) (quorum (sizes_of k))

-- the sizes of a committee, and how many frames there are
abbrev pub head_lines : CommitteeValue → ℕ → List Line
head_lines k frames = members_line k ∷ line.Frames frames ∷ []

-- a line for each certificate that is rejected
abbrev pub reject_lines : List Reject → List Line
reject_lines rejected = map (λ (r : Reject). line.Reject r.frame r.rule) rejected

-- a line for each certificate that waits
abbrev pub waiting_lines : List CertRef → List Line
waiting_lines places = map (λ (p : CertRef). line.Waiting p.round p.author) places

-- a line for each anchor
abbrev pub anchor_lines : List CertRef → List Line
anchor_lines places = map (λ (p : CertRef). line.Anchor p.round p.author) places

-- a line for each ordered certificate
abbrev pub cert_lines : List CertRef → List Line
cert_lines places = map (λ (p : CertRef). line.Cert p.round p.author) places

-- a line where a batch is missing
abbrev pub missing_lines : Option (List ℕ) → List Line
missing_lines None = []
missing_lines (Some digest) = line.Missing digest ∷ []

-- certificates: the rejected and the waiting ones, the anchors and the order
abbrev pub order_lines : List Reject → List CertRef → List CertRef → List CertRef → List Line
order_lines rejected waiting anchors order =
    map (λ (r : Reject). line.Reject r.frame r.rule) rejected
    ++ map (λ (p : CertRef). line.Waiting p.round p.author) waiting
    ++ map (λ (p : CertRef). line.Anchor p.round p.author) anchors
    ++ map (λ (p : CertRef). line.Cert p.round p.author) order

-- batches, each with its number of transactions, and the one that is missing
abbrev pub batches_lines : List (Option ℕ) → Option (List ℕ) → List Line
batches_lines counts missing = batch_lines 0 counts ++ missing_lines missing

-- transactions and accounts
abbrev pub rows_lines : List Receipt → List Row → List Line
rows_lines receipts rows = tx_lines 0 receipts ++ account_lines rows

-- transactions, accounts, the money and the digest of the state, which end a report
abbrev pub ledger_lines : List Receipt → List Row → List Line
ledger_lines receipts rows =
    tx_lines 0 receipts ++ map (λ (r : Row). line.Account r.id r.balance r.seq) rows
    ++ line.Money (total_of rows) ∷ line.State (state_of rows) ∷ []

-- the lines of the report of a run over this many frames
abbrev pub run_lines : CommitteeValue → ℕ → Reading → List Line
run_lines k frames r =
    line.Members (members (sizes_of k)) (faulty (sizes_of k)) (quorum (sizes_of k)) ∷ line.Frames frames
    ∷ order_lines r.rejected r.waiting r.ordered.anchors r.ordered.order
    ++ (batch_lines 0 (map (λ payload. option_map length (texts_of payload)) r.ordered.payloads.list)
    ++ missing_lines r.ordered.payloads.missing)
    ++ ledger_lines r.receipts r.rows
