-- The receipts that the words show.
use Rattle.std.specs.Prelude.{◌≡◌, ℕ, ◌+◌, ◌^◌, ◌<◌, List, ◌++◌, length, slice_index_or}
use Rattle.bk_rules.specs.declared.account.Account.{Account}
use Rattle.bk_rules.specs.declared.receipt.Receipt.{Receipt}
use Rattle.bk_rules.specs.declared.receipt.Status.{Status}
use Rattle.bk_rules.specs.declared.receipt.Status.TheVariants as status
use Rattle.bk_rules.specs.Ledger.{in_pairs}
use Rattle.bk_rules.specs.Numbers.{number_of}
use Rattle.bk_bank.specs.Words.{WordsData, state_at, moved_word_at}

-- a receipt of nobody, read past the end
abbrev pub no_receipt : Receipt
no_receipt = record { status = status.Ok; moved = 0 }

-- the receipt of a place
abbrev pub receipt_at : List Receipt → ℕ → Receipt
receipt_at rs p = slice_index_or rs p no_receipt

-- the receipts of the first n places, as the words show them
abbrev pub AreReceipts : WordsData → List Receipt → ℕ → Type 0
AreReceipts w rs n = (length rs ≡ n) × ((p : ℕ) → p < n → (state_at w p ≡ 2 ^ 63 + number_of (receipt_at rs p).status) × ((receipt_at rs p).moved ≡ moved_word_at w p))

-- a list has these receipts after those that it had
pub record AreAdded (w : WordsData) (old new : List Receipt) (n : ℕ) : Type 0 where
  pub added : List Receipt
  pub new_is : new ≡ old ++ added
  pub are : AreReceipts w added n

-- each place is done and shows a status
abbrev pub AreStatuses : WordsData → Type 0
AreStatuses w = (p : ℕ) → p < w.places → (s : Status) × (state_at w p ≡ 2 ^ 63 + number_of s)

-- the numbers of accounts, as the first n words show them, two words each
pub record AreNumbers (w : WordsData) (numbers : List Account) (n : ℕ) : Type 0 where
  pub words : List ℕ
  pub numbers_are : numbers ≡ in_pairs words
  pub long : length words ≡ n
  pub same : (x : ℕ) → x < n → slice_index_or words x 0 ≡ slice_index_or w.items x 0
