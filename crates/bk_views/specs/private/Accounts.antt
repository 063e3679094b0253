-- How an account is followed.
use Rattle.std.specs.Prelude.{◌≡◌, ℕ, ◌<◌, ◌^◌, length, slice_index_or, Option, Some, None, unwrap_or}
use Rattle.bk_base.specs.Genesis.{AreAccounts}
use Rattle.bk_tx.specs.Transaction.{Transaction}
use Rattle.bk_rules.specs.declared.account.Account.{Account}
use Rattle.bk_rules.specs.declared.receipt.Receipt.{Receipt}
use Rattle.bk_rules.specs.declared.receipt.Status.{Status}
use Rattle.bk_rules.specs.declared.receipt.Status.TheVariants as status
use Rattle.bk_rules.specs.Fold.{outcome_at}
use Rattle.bk_rules.specs.Rule.{new_account, received, sent}
use Rattle.bk_views.specs.Statement.{Course}
use Rattle.bk_views.specs.declared.entry.Role.{Role}
use Rattle.bk_views.specs.declared.entry.Role.TheVariants as role

-- the account after it sent
abbrev pub after_sending : Status → ℕ → Option Account → Option Account
after_sending status.Ok amount account = Some (sent amount (unwrap_or account new_account))
after_sending status.Guard amount account = Some (sent 0 (unwrap_or account new_account))
after_sending status.Funds amount account = Some (sent 0 (unwrap_or account new_account))
after_sending other amount account = account

-- the account after it received
abbrev pub after_receiving : Status → ℕ → Option Account → Option Account
after_receiving status.Ok amount account = Some (received amount (unwrap_or account new_account))
after_receiving other amount account = account

-- the account after a transaction in which it plays a part
abbrev pub after_part : Role → Status → ℕ → Option Account → Option Account
after_part role.Out s amount account = after_sending s amount account
after_part role.In s amount account = after_receiving s amount account
after_part role.Guard s amount account = account

-- the transaction of a place and its receipt, on accounts of a genesis
pub record IsPlaceOf (c : Course) (place : ℕ) (t : Option Transaction) (r : Receipt) : Type 0 where
  pub low : place < length c.txs
  pub few : length c.txs < 2 ^ 32
  pub accounts : AreAccounts c.opening
  pub tx : slice_index_or c.txs place None ≡ t
  pub receipt : r ≡ (outcome_at c.version c.txs place c.opening).receipt
