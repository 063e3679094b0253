-- The numbers of statuses, as a report prints them.
use Rattle.std.specs.Prelude.{ℕ, Option, Some, None, ◌==◌, if◌then◌else◌}
use Rattle.bk_rules.specs.declared.receipt.Status.{Status}
use Rattle.bk_rules.specs.declared.receipt.Status.TheVariants as status

-- the number of a status
abbrev pub number_of : Status → ℕ
number_of status.Ok = 0
number_of status.Malformed = 1
number_of status.Undeclared = 2
number_of status.Unknown = 3
number_of status.Stale = 4
number_of status.Guard = 5
number_of status.Funds = 6

-- the status of a number, if there is one
abbrev pub status_with : ℕ → Option Status
status_with n =
    if n == 0 then Some status.Ok
    else (if n == 1 then Some status.Malformed
    else (if n == 2 then Some status.Undeclared
    else (if n == 3 then Some status.Unknown
    else (if n == 4 then Some status.Stale
    else (if n == 5 then Some status.Guard
    else (if n == 6 then Some status.Funds
    else None))))))
