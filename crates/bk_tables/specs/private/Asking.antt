-- What a payment of a split asks for.
use Rattle.std.specs.Prelude.{ℕ, Some, None}
use Rattle.bk_tx.specs.declared.payments.Payment.{Payment}
use Rattle.bk_tables.specs.declared.payment.Asked.{Asked}
use Rattle.bk_tables.specs.declared.payment.Kind.TheVariants as kind

abbrev pub split_of : ℕ → ℕ → Payment → Asked
split_of from seq p =
    record { kind = kind.Split; from = from; seq = seq; to = p.to; amount = Some p.amount; guard = None; min = None; keep = None }
