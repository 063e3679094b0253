-- A statement that is read place by place.
use Rattle.std.specs.Prelude.{◌≡◌, ◌↔◌, ℕ, ◌+◌, ◌^◌, ◌<◌, List, [], ◌++◌, length, Bool, IsTrue, Option, None}
use Rattle.bk_base.specs.Genesis.{AreAccounts}
use Rattle.bk_tx.specs.Transaction.{Transaction}
use Rattle.bk_rules.specs.declared.account.Account.{Account}
use Rattle.bk_rules.specs.declared.receipt.Receipt.{Receipt}
use Rattle.bk_rules.specs.Fold.{receipts_of}
use Rattle.bk_rules.specs.Rows.{account_at}
use Rattle.bk_views.specs.Statement.{Course, account_before, entries_below, entries_text, opening_text}

-- an id, its account now, how many places were read, whether the account was nowhere so far, and the text so far
pub record Told : Type 0 where
  pub id : ℕ
  pub account : Option Account
  pub place : ℕ
  pub is_blank : Bool
  pub text : List ℕ

-- the account was not there at first, and it has no entry before a place
abbrev pub IsBlank : Course → ℕ → ℕ → Type 0
IsBlank c place id = (account_at c.opening id ≡ None) × (entries_below c id place ≡ [])

-- the statement of these transactions before a place
pub record IsToldTo (c : Course) (place : ℕ) (s : Told) : Type 0 where
  pub account : s.account ≡ account_before c place s.id
  pub blank : IsTrue s.is_blank ↔ IsBlank c place s.id
  pub text : s.text ≡ opening_text s.id (account_at c.opening s.id) ++ entries_text (entries_below c s.id place)

-- the statement of these transactions so far
abbrev pub IsToldOf : Course → Told → Type 0
IsToldOf c s = IsToldTo c s.place s

-- accounts of a genesis, and the receipts of fewer than 2^32 transactions on them
pub record IsRun (c : Course) (receipts : List Receipt) : Type 0 where
  pub accounts : AreAccounts c.opening
  pub receipts_are : receipts ≡ receipts_of c.version c.txs c.opening
  pub few : length c.txs < 2 ^ 32

-- these transactions are the next from a place on
abbrev pub AreNext : Course → ℕ → List (Option Transaction) → Type 0
AreNext c place next =
    (before : List (Option Transaction)) × (later : List (Option Transaction)) × (c.txs ≡ before ++ (next ++ later))
    × (place ≡ length before)
