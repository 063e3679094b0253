-- What the definition of the apply report says as a whole.
use Rattle.std.specs.Prelude.{◌≡◌, ℕ, List, [], ◌∷◌, ◌++◌}
use Rattle.bk_base.specs.Genesis.{total_of}
use Rattle.bk_base.specs.Feed.{FeedValue, IsFeed, genesis_of}
use Rattle.bk_report.specs.Report.{IsApplyReport, apply_report_of}
use Rattle.bk_report.specs.declared.line.Line.{Line}
use Rattle.bk_report.specs.declared.line.Line.TheVariants as line

-- the last line of the report is that of the money of the opening accounts
abbrev pub MoneyIsGenesis : Type 0
MoneyIsGenesis = (feed : FeedValue) → IsFeed feed
    → (front : List Line) × (apply_report_of feed ≡ front ++ line.Money (total_of (genesis_of feed.frames)) ∷ [])

-- bytes have no two apply reports
abbrev pub OneReport : Type 0
OneReport = (bytes one other : List ℕ) → IsApplyReport bytes one → IsApplyReport bytes other → one ≡ other
