-- What the definitions of anchors say together.
use Rattle.std.specs.Prelude.{◌≡◌, ℕ, ◌+◌, List, IfSome, Some, slice_get}
use Rattle.std.specs.List.{AllByRecursion, sum_by}
use Rattle.bk_committee.specs.Sizes.{Sizes}
use Rattle.bk_cert.specs.Node.{Node}
use Rattle.bk_cert.specs.Clear.{IsClear}
use Rattle.bk_cert.specs.declared.place.CertRef.{CertRef}
use Rattle.bk_commit.specs.Ordering.{IsCommitted}
use Rattle.bk_tx.specs.Spelling.{IsTransaction}
use Rattle.bk_rules.specs.Rows.{IsLedger, account_at}
use Rattle.bk_rules.specs.Rule.{balance_of}
use Rattle.bk_views.specs.Anchors.{AreRows, HasEnough}
use Rattle.bk_views.specs.declared.anchors.AnchorRow.{AnchorRow}
use Rattle.bk_views.specs.declared.anchors.AnchorState.TheVariants as state
use Rattle.bk_views.specs.declared.entry.Entry.{Entry}
use Rattle.bk_views.specs.declared.entry.Role.{Role}
use Rattle.bk_views.specs.declared.entry.Role.TheVariants as role
use Rattle.bk_views.specs.Statement.{Course, account_at_end, entries}

-- a row of the anchors whose votes are enough says that its anchor is voted
abbrev pub VotedIsCommitted : Type 0
VotedIsCommitted = (z : Sizes) (held : List Node) (anchors : List CertRef) (rows : List AnchorRow) → IsClear held
    → IsCommitted z held anchors → AreRows z held anchors rows
    → (k : ℕ) (row : AnchorRow) → slice_get rows k ≡ Some row → HasEnough row → row.state ≡ state.Voted

-- what an amount adds to a balance, and what it takes from it
abbrev pub adds : Role → ℕ → ℕ
adds role.Out amount = 0
adds role.In amount = amount
adds role.Guard amount = 0

abbrev pub takes : Role → ℕ → ℕ
takes role.Out amount = amount
takes role.In amount = 0
takes role.Guard amount = 0

-- what entries add and take together
abbrev pub added_by : List Entry → ℕ
added_by list = sum_by (λ (e : Entry). adds e.role e.amount) list

abbrev pub taken_by : List Entry → ℕ
taken_by list = sum_by (λ (e : Entry). takes e.role e.amount) list

-- The opening balance and all that came in are the closing balance and all that went out, where an absent account has a
-- balance of 0, on rows of a ledger and of transactions that a batch can hold: in these nobody is paid by themselves.
abbrev pub AmountsAddUp : Type 0
AmountsAddUp = (c : Course) (id : ℕ) → IsLedger c.opening → AllByRecursion (λ t. IfSome t IsTransaction) c.txs
    → balance_of (account_at c.opening id) + added_by (entries c id) ≡ balance_of (account_at_end c id) + taken_by (entries c id)
