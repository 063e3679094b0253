-- The jobs that show a table of a feed, or the line that links it to others, and the one that checks such lines.
use Rattle.std.specs.Prelude.{◌≡◌, ℕ, Bool, true, false, List, Option, None}
use Rattle.bk_base.specs.Feed.{FeedValue}
use Rattle.bk_results.specs.Devices.{Devices, IsUntouched, OfText}
use Rattle.bk_results.specs.declared.script_fault.ScriptFault.TheVariants as text
use Rattle.bk_results.specs.declared.status.Status.{Status}
use Rattle.bk_chain.specs.Checking as chain
use Rattle.bk_chain.specs.Linking.{IsLinkText}
use Rattle.bk_chain.specs.declared.fault.ChainFault.{ChainFault}
use Rattle.bk_chain.specs.declared.fault.ChainFault.TheVariants as broken
use Rattle.bk_chain.specs.declared.verdict.ChainEnd.{ChainEnd}
use Rattle.bk_chain.specs.declared.verdict.ChainEnd.TheVariants as verdict
use Rattle.bk_tables.specs.declared.listing.TheConstants.{MOST_LIST}
use Rattle.bk_tables.specs.Listing.{AreNamedIn, HasNoAccounts}
use Rattle.bk_tables.specs.Tables.{IsBatchTable, IsPaymentTable, IsPostingTable}
use Rattle.bk_results.specs.declared.lines_fault.LinesFault.{LinesFault}
use Rattle.bk_results.specs.declared.lines_fault.LinesFault.TheVariants as list
use Rattle.bk_cli.specs.declared.exit.Exit.{Exit}
use Rattle.bk_cli.specs.declared.exit.Exit.TheVariants as exit
use Rattle.bk_cli.specs.declared.job_fault.JobFault.{JobFault}
use Rattle.bk_cli.specs.declared.job_fault.JobFault.TheVariants as fault
use Rattle.bk_cli.specs.declared.view.Table.{Table}
use Rattle.bk_cli.specs.declared.view.Table.TheVariants as table
use Rattle.bk_cli.specs.declared.view.View.{View}
use Rattle.bk_cli.specs.declared.view.View.TheVariants as view
use Rattle.bk_jobs.specs.Sources.{JobDevices}

-- ---- what is shown of a feed

-- the text of a table, with the rows that have one of these accounts alone, where there is a list of them
abbrev pub table_text : Table → Option (List ℕ) → FeedValue → Status → List ℕ → Type 0
table_text table.Transactions ids = IsPaymentTable ids
table_text table.Postings ids = IsPostingTable ids

-- the text of what is shown, and how far the order goes
abbrev pub view_text : View → FeedValue → Status → List ℕ → Type 0
view_text view.Transactions = IsPaymentTable None
view_text view.Postings = IsPostingTable None
view_text view.Batches = IsBatchTable
view_text view.Link = IsLinkText

-- the batches are shown without executing them
abbrev pub executes_to_show : View → Bool
executes_to_show view.Batches = false
executes_to_show other = true

-- ---- the rows of a table that have an account of a list

-- the text that the second source gave is a list of accounts, of which this holds
abbrev pub IsPicked : JobDevices → JobDevices → (List ℕ → Type 0) → Type 0
IsPicked old new holds =
    (accounts : List ℕ) × OfText MOST_LIST old.second new.second (AreNamedIn accounts) × holds accounts

-- the fault of a list of accounts
abbrev pub fault_by_list : LinesFault → JobFault
fault_by_list (list.Line line) = fault.Accounts line
fault_by_list list.Read = fault.Text text.Read
fault_by_list list.Memory = fault.Text text.Memory

-- the list was not read, and the feed is as it was
abbrev pub ListIsUnread : LinesFault → JobDevices → JobDevices → Type 0
ListIsUnread e old new =
    HasNoAccounts e old.second new.second × (new.first ≡ old.first) × IsUntouched old.out new.out

-- ---- links

-- the exit after a verdict on a chain
abbrev pub exit_by_chain : ChainEnd → Exit
exit_by_chain verdict.Whole = exit.Whole
exit_by_chain verdict.Short = exit.Missing
exit_by_chain verdict.Broken = exit.No

-- the fault of a check that came to no verdict
abbrev pub fault_by_chain : ChainFault → JobFault
fault_by_chain (broken.Links line) = fault.Links line
fault_by_chain broken.Read = fault.Text text.Read
fault_by_chain (broken.Write written) = fault.Text (text.Write written)
fault_by_chain broken.Memory = fault.Text text.Memory

-- why there is none
abbrev pub ChainFailsBy : JobFault → Devices → Devices → Type 0
ChainFailsBy (fault.Links line) old new = chain.CheckFailsBy (broken.Links line) old new
ChainFailsBy (fault.Text text.Read) old new = chain.CheckFailsBy broken.Read old new
ChainFailsBy (fault.Text (text.Write written)) old new = chain.CheckFailsBy (broken.Write written) old new
ChainFailsBy (fault.Text text.Memory) old new = chain.CheckFailsBy broken.Memory old new
ChainFailsBy other old new = ⊥
