-- The text of a summary: its lines, each with its line feed.
use Rattle.std.specs.Prelude.{ℕ, List, [], ◌++◌, codes, decimal, Option, Some, None}
use Rattle.hex.specs.Hex.{encode_lower}
use Rattle.bk_base.specs.declared.version.Version.{Version}
use Rattle.bk_base.specs.declared.version.Version.TheVariants as version
use Rattle.bk_summary.specs.declared.summary.AnchorCounts.{AnchorCounts}
use Rattle.bk_summary.specs.declared.summary.BatchCounts.{BatchCounts}
use Rattle.bk_summary.specs.declared.summary.CertCounts.{CertCounts}
use Rattle.bk_summary.specs.declared.summary.MemberCounts.{MemberCounts}
use Rattle.bk_summary.specs.declared.summary.Summary.{Summary}
use Rattle.bk_summary.specs.declared.summary.TxCounts.{TxCounts}

abbrev pub version_line : Version → List ℕ
version_line version.One = codes "version 1\n"
version_line version.Two = codes "version 2\n"

-- ---- the words of each line of counts

abbrev pub member_words : MemberCounts → List ℕ
member_words m =
    codes "members " ++ decimal m.members ++ codes " faulty " ++ decimal m.faulty ++ codes " quorum " ++ decimal m.quorum

abbrev pub cert_words : CertCounts → List ℕ
cert_words c =
    codes "certificates " ++ decimal c.all ++ codes " rejected " ++ decimal c.rejected ++ codes " repeated "
    ++ decimal c.repeated ++ codes " waiting " ++ decimal c.waiting ++ codes " ordered " ++ decimal c.ordered

abbrev pub anchor_words : AnchorCounts → List ℕ
anchor_words a =
    codes "anchors " ++ decimal a.committed ++ codes " skipped " ++ decimal a.skipped ++ codes " open " ++ decimal a.left_open

-- of the batches of the order those that are void, and those that are in no order
abbrev pub rest_words : ℕ → ℕ → List ℕ
rest_words void unordered = codes " void " ++ decimal void ++ codes " unordered " ++ decimal unordered

abbrev pub batch_words : BatchCounts → List ℕ
batch_words b =
    codes "batches " ++ decimal b.all ++ codes " repeated " ++ decimal b.repeated ++ codes " ordered " ++ decimal b.ordered
    ++ rest_words b.void b.unordered

-- the statuses by their names, in the order of their numbers: those with which the sequence number stays
abbrev pub refused_words : TxCounts → List ℕ
refused_words t =
    codes " malformed " ++ decimal t.malformed ++ codes " undeclared " ++ decimal t.undeclared ++ codes " unknown "
    ++ decimal t.unknown ++ codes " stale " ++ decimal t.stale

-- and those with which it counts up, and nothing is moved
abbrev pub lost_words : TxCounts → List ℕ
lost_words t = codes " guard " ++ decimal t.guard ++ codes " funds " ++ decimal t.funds

abbrev pub tx_words : TxCounts → List ℕ
tx_words t =
    codes "transactions " ++ decimal t.all ++ codes " ok " ++ decimal t.good ++ refused_words t ++ lost_words t

-- ---- the lines

-- a line only where a batch is missing
abbrev pub missing_line : Option (List ℕ) → List ℕ
missing_line None = []
missing_line (Some digest) = codes "missing " ++ encode_lower digest ++ codes "\n"

-- what the feed begins with, its sizes, and how many certificates it has
abbrev pub setup_text : Summary → List ℕ
setup_text s =
    version_line s.version ++ (codes "committee " ++ encode_lower s.committee ++ codes "\ngenesis " ++ encode_lower s.genesis ++ codes "\n")

abbrev pub size_text : Summary → List ℕ
size_text s =
    (member_words s.members ++ codes "\nframes " ++ decimal s.frames ++ codes "\n") ++ (cert_words s.certs ++ codes "\n")

abbrev pub feed_text : Summary → List ℕ
feed_text s = setup_text s ++ size_text s

-- what became of anchors, batches and transactions
abbrev pub order_text : Summary → List ℕ
order_text s = (anchor_words s.anchors ++ codes "\n") ++ (batch_words s.batches ++ codes "\n")

abbrev pub run_text : Summary → List ℕ
run_text s = missing_line s.missing ++ (tx_words s.txs ++ codes "\n")

-- the accounts at the end
abbrev pub end_text : Summary → List ℕ
end_text s =
    (codes "accounts " ++ decimal s.accounts ++ codes " money " ++ decimal s.money ++ codes "\n")
    ++ (codes "state " ++ encode_lower s.state ++ codes "\n")

abbrev pub ledger_text : Summary → List ℕ
ledger_text s = run_text s ++ end_text s

abbrev pub outcome_text : Summary → List ℕ
outcome_text s = order_text s ++ ledger_text s

abbrev pub summary_text : Summary → List ℕ
summary_text s = feed_text s ++ outcome_text s
