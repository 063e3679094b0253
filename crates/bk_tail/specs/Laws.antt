-- What the tables of two feeds say together.
use Rattle.std.specs.Prelude.{ℕ, List, Option}
use Rattle.bk_base.specs.Feed.{FeedValue}
use Rattle.bk_commit.specs.Growth.{IsPartOf, IsPrefix}
use Rattle.bk_results.specs.declared.status.Status.{Status}
use Rattle.bk_answer.specs.RunReport.{later_frames}
use Rattle.bk_follow.specs.Agreement.{HaveOneSetup}
use Rattle.bk_tables.specs.Tables.{IsPaymentTable, IsPostingTable}

-- where two feeds have one setup, and the frames of the one are among those of the other, its table begins the other's
abbrev pub TablesGrow : (FeedValue → Status → List ℕ → Type 0) → Type 0
TablesGrow text =
    (small large : FeedValue) (end also : Status) (rows more : List ℕ) → HaveOneSetup small large
    → IsPartOf (later_frames small) (later_frames large) → text small end rows → text large also more
    → IsPrefix rows more

-- of two feeds that nothing stops: a row that was written stays, as it is and where it is
abbrev pub RowsStay : Type 0
RowsStay = (ids : Option (List ℕ)) → TablesGrow (IsPaymentTable ids) × TablesGrow (IsPostingTable ids)
