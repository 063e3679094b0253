-- How many accounts transactions name. No more come to be by them, and no more slots are made for them.
use Rattle.std.specs.Prelude.{ℕ, ◌+◌, List, [], ◌∷◌, length, Option, Some, None}
use Rattle.bk_tx.specs.Transaction.{Transaction}
use Rattle.bk_tx.specs.Spelling.{receivers_of}

-- the sender, the receivers and the declared accounts of a transaction, each as often as it is there
abbrev pub named_in : Option Transaction → ℕ
named_in None = 0
named_in (Some t) = 1 + length (receivers_of t.body) + length t.declared

-- those of all of these
abbrev pub named_by : List (Option Transaction) → ℕ
named_by [] = 0
named_by (t ∷ txs) = named_in t + named_by txs
