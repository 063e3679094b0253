-- What contracts see of a transaction.
use Rattle.std.specs.Prelude.{ℕ, List}
use Rattle.bk_tx.specs.declared.declared.Declared.{Declared}
use Rattle.bk_tx.specs.declared.body.Body.{Body}

-- the declared accounts, the sender's sequence number at which it counts, the sender, and what it does
pub record Transaction : Type 0 where
  pub declared : List Declared
  pub seq : ℕ
  pub from : ℕ
  pub body : Body

-- a transaction of these parts
abbrev pub transaction : List Declared → ℕ → ℕ → Body → Transaction
transaction declared seq from body = record { declared = declared; seq = seq; from = from; body = body }
