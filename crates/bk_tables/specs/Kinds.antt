-- The kinds of tables, and what putting the rows of an order leaves, whichever kind it is. `rows` stands for the text of the
-- rows: of batches, from opening accounts, in a version.
use Rattle.std.specs.Prelude.{◌≡◌, ◌⊎◌, ℕ, ◌+◌, ◌*◌, ◌^◌, ◌<◌, ◌≤◌, List, [], ◌++◌, length, take, Option, Result, Ok, Err}
use Rattle.bk_answer.specs.Closed.{ClosedValue}
use Rattle.bk_answer.specs.RunReport.{HasNoStopIn, IsOrderIn, reach_of}
use Rattle.bk_base.specs.Feed.{FeedValue, genesis_of}
use Rattle.bk_base.specs.declared.genesis.Row.{Row}
use Rattle.bk_base.specs.declared.version.Version.{Version}
use Rattle.bk_frames.specs.Device.{Device, Receives, Works}
use Rattle.bk_frames.specs.Writing.{StopsWriting}
use Rattle.bk_frames.specs.declared.writing.WriteFault.{WriteFault}
use Rattle.bk_order.specs.Orders.{Ordered}
use Rattle.bk_report.specs.Pages.{Desk, HasPut, Puts, desk}
use Rattle.bk_results.specs.declared.fault.Fault.{Fault}
use Rattle.bk_results.specs.declared.fault.Fault.TheVariants as fault
use Rattle.bk_results.specs.declared.status.Status.{Status}
use Rattle.bk_rules.specs.Fold.{receipts_of}
use Rattle.bk_tables.specs.Csv.{row_text}
use Rattle.bk_tables.specs.Growing.{Shown, ShowsAll, course_with}
use Rattle.bk_tables.specs.Payments.{payments_header, payments_text, rows_from}
use Rattle.bk_tables.specs.Postings as table
use Rattle.bk_tables.specs.Postings.{postings_header, postings_text}
use Rattle.bk_tables.specs.Tables.{IsPaymentTable, IsPostingTable}
use Rattle.bk_tx.specs.Batches.{transactions_of}

-- a kind of table: its header, the text of its rows, and which texts are that of a feed
pub record TableKind : Type 1 where
  pub header : List ℕ
  pub rows : Version → List Row → List (List ℕ) → List ℕ
  pub text : FeedValue → Status → List ℕ → Type 0

-- the tables of payments
abbrev pub payments : Option (List ℕ) → TableKind
payments ids = record {
  header = row_text payments_header;
  rows = λ version genesis payloads.
      payments_text ids (rows_from (receipts_of version (transactions_of payloads) genesis) 0 0 payloads);
  text = IsPaymentTable ids;
}

-- the tables of what places do to accounts
abbrev pub postings : Option (List ℕ) → TableKind
postings ids = record {
  header = row_text postings_header;
  rows = λ version genesis payloads. postings_text ids (table.postings (course_with version genesis payloads));
  text = IsPostingTable ids;
}

-- its header and rows are the table of an order that nothing stops
abbrev pub IsTextOf : TableKind → Type 0
IsTextOf k =
    (feed : FeedValue) (o : Ordered) → HasNoStopIn feed → IsOrderIn feed o
    → k.text feed (reach_of o.payloads.missing)
    (k.header ++ k.rows feed.version (genesis_of feed.frames) o.payloads.list)

-- ---- rows of an order that was executed

abbrev pub payloads_in : ClosedValue → List (List ℕ)
payloads_in c = c.order.taken.ordered.payloads.list

-- what rows say of the accounts after some batches, in a version and from opening accounts
abbrev pub AboutAccounts : Type 1
AboutAccounts = Version → List Row → List (List ℕ) → Type 0

-- this is the text of the rows of the batches from this one on
abbrev pub IsMore : TableKind → ClosedValue → ℕ → List ℕ → Type 0
IsMore k c batch more =
    k.rows c.ledger.state.version c.order.opening (payloads_in c)
    ≡ k.rows c.ledger.state.version c.order.opening (take batch (payloads_in c)) ++ more

-- ---- what goes out

-- this is said of whatever text was put since whichever moment, if it can be counted
abbrev pub OfAllPut : Desk → (Device → List ℕ → Type 0) → Type 0
OfAllPut d says = (start : Device) (text : List ℕ) → HasPut start d text → length text < 2 ^ 62 → says start text

-- what came of writing a text whose front may wait: all is out, or nothing
abbrev pub WrittenOrWaits : {X : Type 0} → Result X WriteFault → Device → Device → List ℕ → Type 0
WrittenOrWaits (Ok x) old new text = Works old new × (Receives old new [] ⊎ Receives old new text)
WrittenOrWaits (Err e) old new text = StopsWriting e text old new

-- the rows of the batches that a table did not show were put after what was put before, and this came of letting it go out. A
-- header has at most 100 bytes, and the rows of a place 1800
pub record PutsMore {X : Type 0} (result : Result X WriteFault) (k : TableKind) (c : ClosedValue)
    (before after : Shown) (old new : Device) : Type 0 where
  pub more : List ℕ
  pub is_more : IsMore k c before.batch more
  pub puts : Puts (desk before.page old) (desk after.page new) (length more) more
  pub size : length more + 1800 * before.place ≤ 1800 * after.place
  pub out : (start : Device) (text : List ℕ) → HasPut start (desk before.page old) text → length text ≤ 1800 * before.place + 100
      → WrittenOrWaits result start new (text ++ more)
  pub all : ShowsAll (payloads_in c) after

-- the same, or memory ran out before the first of them
abbrev pub MoreIsPut : {X : Type 0} → Result X Fault → TableKind → ClosedValue → Shown → Shown → Device → Device → Type 0
MoreIsPut {X} (Ok x) = PutsMore {X = X} (Ok x)
MoreIsPut {X} (Err (fault.Write written)) = PutsMore {X = X} (Err (record { written = written }))
MoreIsPut (Err fault.Memory) = λ k c before after old new. old ≡ new
MoreIsPut (Err other) = λ k c before after old new. ⊥
