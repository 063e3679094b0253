-- The rule of a place, on the values of its words.
use Rattle.std.specs.Prelude.{◌≡◌, ℕ, zero, suc, ◌+◌, ◌^◌, ◌<◌, List, [], ◌∷◌, length, Option, None, Some, slice_index, slice_index_or, slice_set}
use Rattle.std.specs.List.{flat_map}
use Rattle.bk_base.specs.declared.version.Version.{Version}
use Rattle.bk_tx.specs.declared.declared.Declared.{Declared}
use Rattle.bk_tx.specs.Transaction.{Transaction}
use Rattle.bk_rules.specs.declared.account.Account.{Account}
use Rattle.bk_rules.specs.declared.receipt.Receipt.{Receipt}
use Rattle.bk_rules.specs.Rule.{Accounts, balance_of, seq_of}
use Rattle.bk_rules.specs.Ledger.{numbers_of, shown_by}
use Rattle.bk_rules.specs.View.{nth, nth_id}
use Rattle.bk_conflicts.specs.Conflicts.{declared_by}
use Rattle.bk_conflicts.specs.Words.{slot_of, words_of}
use Rattle.bk_conflicts.specs.declared.words.WordRef.{WordRef}
use Rattle.bk_conflicts.specs.SceneOf.{word_by, accounts_by, accounts_after, status_on, moved_on}
use Rattle.bk_steps.specs.Machine.{no_word}

-- how many words an account has: two where it has a slot
abbrev pub wide : Option ℕ → ℕ
wide None = 0
wide (Some slot) = 2

-- the words of declared accounts
abbrev pub words_in : List ℕ → List Declared → List WordRef
words_in slots ds = flat_map (words_of slots) ds

-- how many of them are those of the first k accounts
abbrev pub words_before : List ℕ → List Declared → ℕ → ℕ
words_before slots ds zero = 0
words_before slots [] (suc k) = 0
words_before slots (d ∷ ds) (suc k) = wide (slot_of slots d.id) + words_before slots ds k

-- the number of the i-th of them
abbrev pub word_in : List ℕ → List Declared → ℕ → ℕ
word_in slots ds i = (slice_index_or (words_in slots ds) i no_word).word

-- the account that two values at an index show, none where there is no slot
abbrev pub said_at : Version → Option ℕ → List ℕ → ℕ → Option Account
said_at version None values at = None
said_at version (Some slot) values at = shown_by version
    (record { balance = slice_index values at; seq = slice_index values (at + 1) })

-- the values with those of an account at an index, as they are where there is no slot
abbrev pub put_at : Option ℕ → Option Account → List ℕ → ℕ → List ℕ
put_at None account values at = values
put_at (Some slot) account values at = slice_set
    (slice_set values at (numbers_of account).balance) (at + 1) (numbers_of account).seq

-- the values are those that f has for the words
abbrev pub Say : (ℕ → ℕ) → List ℕ → List Declared → List ℕ → Type 0
Say f slots ds values = (i : ℕ) → i < length (words_in slots ds)
    → slice_index values i ≡ f (word_in slots ds i)

-- the i-th of the view is the account of the i-th that is declared
abbrev pub AreOf : Accounts → List Declared → List (Option Account) → Type 0
AreOf accounts ds view = (k : ℕ) → k < length ds → nth view k ≡ accounts (nth_id ds k)

-- the numbers of an account leave room for one more transaction
abbrev pub IsLow : Option Account → Type 0
IsLow account = (balance_of account < 2 ^ 63) × (seq_of account + 1 < 2 ^ 64)

-- the values say accounts that all leave room
abbrev pub AreLow : Version → List ℕ → List Declared → List ℕ → Type 0
AreLow version slots ds values = (f : ℕ → ℕ) × Say f slots ds values
    × ((k : ℕ) → k < length ds → IsLow (accounts_by version slots f (nth_id ds k)))

-- the receipt and the values afterwards are those of the transaction on the accounts that f says
pub record Does (version : Version) (slots : List ℕ) (t : Option Transaction) (f : ℕ → ℕ)
    (receipt : Receipt) (values : List ℕ) : Type 0 where
  pub status : receipt.status ≡ status_on version t (accounts_by version slots f)
  pub moved : receipt.moved ≡ moved_on version t (accounts_by version slots f)
  pub says : Say (word_by slots (accounts_after version t (accounts_by version slots f)))
      slots (declared_by t) values
