-- The op of a transaction: a payment by the indexes of its accounts among the ids that have a slot.
use Rattle.std.specs.Prelude.{◌≡◌, ℕ, ◌<◌, true, List, length, slice_index, slice_index_or, Option, None, IsSomeAnd}
use Rattle.bk_tx.specs.Transaction.{Transaction}
use Rattle.bk_tx.specs.declared.body.Body.{Body}
use Rattle.bk_tx.specs.declared.body.Body.TheVariants.{Pay, PayIf, Sweep}
use Rattle.bk_rules.specs.Rule.{is_declared}
use Rattle.bk_rules.specs.declared.ops.Op.{Op}
use Rattle.bk_rules.specs.declared.ops.Op.TheVariants as op

-- the transaction makes one payment, of what this body says for its receiver, from the account at one index to the account at
-- the other; all that it names is declared as it has to be
pub record PaysBy (ids : List ℕ) (from to seq : ℕ) (body : ℕ → Body) (t : Transaction) : Type 0 where
  pub declared : is_declared t ≡ true
  pub body_is : t.body ≡ body (slice_index ids to)
  pub sender : t.from ≡ slice_index ids from
  pub seq_is : t.seq ≡ seq
  pub from_in : from < length ids
  pub to_in : to < length ids

-- the op is one of this transaction: a payment, on condition or not, and a sweep say all of it, any other says nothing
abbrev pub IsOpOf : List ℕ → Option Transaction → Op → Type 0
IsOpOf ids tx (op.Pay from to amount seq) = IsSomeAnd tx (PaysBy ids from to seq (λ id. Pay id amount))
IsOpOf ids tx (op.PayIf from to guard amount least seq) =
    (guard < length ids) × IsSomeAnd tx (PaysBy ids from to seq (λ id. PayIf id amount (slice_index ids guard) least))
IsOpOf ids tx (op.Sweep from to keep seq) = IsSomeAnd tx (PaysBy ids from to seq (λ id. Sweep id keep))
IsOpOf ids tx (op.Other at) = Unit {0}

-- there is one for each of these transactions, in their order
pub record AreOps (ids : List ℕ) (txs : List (Option Transaction)) (ops : List Op) : Type 0 where
  pub same : length ops ≡ length txs
  pub each : (k : ℕ) → k < length ops → IsOpOf ids (slice_index_or txs k None) (slice_index_or ops k (op.Other 0))
