-- What a body is that a transaction line says, before it is judged.
use Rattle.std.specs.Prelude.{◌^◌, ◌<◌, ◌≤◌, length}
use Rattle.bk_tx.specs.declared.body.Body.{Body}
use Rattle.bk_tx.specs.declared.body.Body.TheVariants.{Pay, PayIf, Sweep, Split}
use Rattle.bk_tx.specs.Access.{PaymentsFit}

-- its numbers fit eight bytes, and a split has 1 to 6 payments, in whichever order
abbrev pub IsSayable : Body → Type 0
IsSayable (Pay to amount) = (to < 2 ^ 64) × (amount < 2 ^ 64)
IsSayable (PayIf to amount guard min) = (to < 2 ^ 64) × (amount < 2 ^ 64) × (guard < 2 ^ 64) × (min < 2 ^ 64)
IsSayable (Sweep to keep) = (to < 2 ^ 64) × (keep < 2 ^ 64)
IsSayable (Split payments) = (1 ≤ length payments) × (length payments ≤ 6) × PaymentsFit payments
