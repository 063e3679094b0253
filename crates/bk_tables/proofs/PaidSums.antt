-- What the rows of a place paid.
use Rattle.std.proofs.Common.{◌≡◌, ℕ, ◌+◌, List, [], ◌∷◌, map, Option, Some, None, refl, arith}
use Rattle.std.specs.List.{sum_by}
use Rattle.std.proofs.lemmas.List.Sums.{sum_by-cons}
use Rattle.bk_tx.specs.Transaction.{Transaction}
use Rattle.bk_tx.specs.declared.body.Body.{Body}
use Rattle.bk_tx.specs.declared.body.Body.TheVariants as body
use Rattle.bk_tx.specs.declared.payments.Payment.{Payment}
use Rattle.bk_tx.specs.Spelling.{payments_of}
use Rattle.bk_base.specs.declared.genesis.Row.{Row}
use Rattle.bk_base.specs.declared.version.Version.{Version}
use Rattle.bk_rules.specs.declared.receipt.Status.{Status}
use Rattle.bk_rules.specs.declared.receipt.Status.TheVariants as status
use Rattle.bk_rules.specs.declared.receipt.Receipt.{Receipt}
use Rattle.bk_rules.specs.Rows.{account_at, outcome_of}
use Rattle.bk_rules.specs.Rule.{Accounts, balance_at, moved_by, status_of, sum_of}
use Rattle.bk_tables.specs.Payments.{asked_by, asked_of, paid_by, row_of, rows_at, rows_of}
use Rattle.bk_tables.specs.private.Asking.{split_of}
use Rattle.bk_tables.specs.declared.payment.Asked.{Asked}
use Rattle.bk_tables.specs.declared.payment.At.{At}
use Rattle.bk_tables.specs.declared.payment.PaymentRow.{PaymentRow}

-- a transaction at a place, with what became of it
abbrev pub at_with : ℕ → ℕ → Receipt → At
at_with place batch receipt = record { place = place; batch = batch; receipt = receipt }

abbrev pub paid : PaymentRow → ℕ
paid row = row.paid

-- of a transaction that failed nothing is paid
data IsFailed : Status → Type 0 where
  is_malformed : IsFailed status.Malformed
  is_undeclared : IsFailed status.Undeclared
  is_unknown : IsFailed status.Unknown
  is_stale : IsFailed status.Stale
  is_guard : IsFailed status.Guard
  is_funds : IsFailed status.Funds

nothing : (s : Status) (moved : ℕ) (amount : Option ℕ) → IsFailed s → paid_by s moved amount ≡ 0
nothing s moved amount is_malformed = refl
nothing s moved amount is_undeclared = refl
nothing s moved amount is_unknown = refl
nothing s moved amount is_stale = refl
nothing s moved amount is_guard = refl
nothing s moved amount is_funds = refl

none_paid : (place batch item : ℕ) (s : Status) (moved : ℕ) → IsFailed s → (asked : List Asked) → sum_by paid (rows_of (at_with place batch (record { status = s; moved = moved })) item asked) ≡ 0
none_paid place batch item s moved failed [] = refl
none_paid place batch item s moved failed (a ∷ asked) =
    let at : At = at_with place batch (record { status = s; moved = moved }) in
    let e = sum_by-cons paid (row_of at item a) (rows_of at (item + 1) asked) in
    let rest = none_paid place batch (item + 1) s moved failed asked in
    let none = nothing s moved a.amount failed in
    omega (arith, e, rest, none)

-- the payments of a split are paid as they are asked for
split_paid : (place batch item from seq moved : ℕ) (payments : List Payment)
    → sum_by paid (rows_of (at_with place batch (record { status = status.Ok; moved = moved })) item (map (split_of from seq) payments)) ≡ sum_of payments
split_paid place batch item from seq moved [] = refl
split_paid place batch item from seq moved (p ∷ payments) =
    let at : At = at_with place batch (record { status = status.Ok; moved = moved }) in
    let e = sum_by-cons paid (row_of at item (split_of from seq p)) (rows_of at (item + 1) (map (split_of from seq) payments)) in
    let f = sum_by-cons (λ (q : Payment). q.amount) p payments in
    let rest = split_paid place batch (item + 1) from seq moved payments in
    omega (arith, e, f, rest)

good_paid : (place batch from seq balance : ℕ) (b : Body)
    → sum_by paid (rows_of (at_with place batch (record { status = status.Ok; moved = sum_of (payments_of balance b) })) 0 (asked_by from seq b)) ≡ sum_of (payments_of balance b)
good_paid place batch from seq balance (body.Pay to amount) = refl
good_paid place batch from seq balance (body.PayIf to amount guard min) = refl
good_paid place batch from seq balance (body.Sweep to keep) =
    let m : ℕ = sum_of (payments_of balance (body.Sweep to keep)) in
    let e : 0 + m ≡ m = omega arith in e
good_paid place batch from seq balance (body.Split payments) = split_paid place batch 0 from seq (sum_of payments) payments

by_status : (place batch : ℕ) (s : Status) (accounts : Accounts) (t : Transaction)
    → sum_by paid (rows_of (at_with place batch (record { status = s; moved = moved_by s accounts t })) 0 (asked_of t)) ≡ moved_by s accounts t
by_status place batch status.Ok accounts t = good_paid place batch t.from t.seq (balance_at accounts t.from) t.body
by_status place batch status.Malformed accounts t = none_paid place batch 0 status.Malformed 0 is_malformed (asked_of t)
by_status place batch status.Undeclared accounts t = none_paid place batch 0 status.Undeclared 0 is_undeclared (asked_of t)
by_status place batch status.Unknown accounts t = none_paid place batch 0 status.Unknown 0 is_unknown (asked_of t)
by_status place batch status.Stale accounts t = none_paid place batch 0 status.Stale 0 is_stale (asked_of t)
by_status place batch status.Guard accounts t = none_paid place batch 0 status.Guard 0 is_guard (asked_of t)
by_status place batch status.Funds accounts t = none_paid place batch 0 status.Funds 0 is_funds (asked_of t)

-- what the rows of a place paid is what its transaction moved, whatever the accounts are
pub place_paid : (v : Version) (t : Option Transaction) (accounts : List Row) (place batch : ℕ)
    → let receipt = (outcome_of v t accounts).receipt in sum_by paid (rows_at (at_with place batch receipt) t) ≡ receipt.moved
place_paid v None accounts place batch = refl
place_paid v (Some t) accounts place batch = by_status place batch (status_of v (account_at accounts) t) (account_at accounts) t
