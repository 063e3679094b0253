-- What a payment by two indexes makes of numbers.
use Rattle.std.specs.Prelude.{Bool, ℕ, List, slice_index_or, slice_set, not, nat_lt, ◌==◌, if◌then◌else◌}
use Rattle.bk_rules.specs.declared.account.Account.{Account}
use Rattle.bk_rules.specs.declared.receipt.Status.{Status}
use Rattle.bk_rules.specs.declared.receipt.Status.TheVariants as status
use Rattle.bk_rules.specs.Rule.{new_account, sent, received}

-- the numbers at an index
abbrev pub numbers_at : List Account → ℕ → Account
numbers_at numbers k = slice_index_or numbers k new_account

-- the status of a payment whose accounts are all there, and whose guard has enough or not
abbrev pub payment_status : Bool → ℕ → ℕ → Account → Status
payment_status guarded amount seq sender =
    if not (seq == sender.seq) then status.Stale
    else (if not guarded then status.Guard
    else (if nat_lt sender.balance amount then status.Funds
    else status.Ok))

-- the money that is moved
abbrev pub amount_by : Status → ℕ → ℕ
amount_by status.Ok amount = amount
amount_by other amount = 0

-- the numbers after the sender's were changed
abbrev pub sent_by : ℕ → ℕ → List Account → List Account
sent_by from paid numbers = slice_set numbers from (sent paid (numbers_at numbers from))

-- the numbers after the receiver's were changed
abbrev pub received_by : ℕ → ℕ → List Account → List Account
received_by to amount numbers = slice_set numbers to (received amount (numbers_at numbers to))

-- the numbers after a payment of this status
abbrev pub numbers_after : Status → ℕ → ℕ → ℕ → List Account → List Account
numbers_after status.Ok from to amount numbers = received_by to amount (sent_by from amount numbers)
numbers_after status.Guard from to amount numbers = sent_by from 0 numbers
numbers_after status.Funds from to amount numbers = sent_by from 0 numbers
numbers_after other from to amount numbers = numbers
