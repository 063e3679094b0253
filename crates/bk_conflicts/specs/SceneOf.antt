-- The execution of a plan on a ledger, word by word.
use Rattle.std.specs.Prelude.{◌≡◌, ℕ, ◌+◌, ◌*◌, ◌==◌, ◌&&◌, List, [], ◌∷◌, length, map, Bool, Option, None, Some, slice_index_or}
use Rattle.std.specs.List.{list_any}
use Rattle.bk_base.specs.declared.version.Version.{Version}
use Rattle.bk_tx.specs.Transaction.{Transaction}
use Rattle.bk_rules.specs.declared.account.Account.{Account}
use Rattle.bk_rules.specs.declared.receipt.Status.{Status}
use Rattle.bk_rules.specs.declared.receipt.Status.TheVariants as outcome
use Rattle.bk_rules.specs.Rule.{Accounts, status_of, moved_by, changes_of, account_after}
use Rattle.bk_rules.specs.Rows.{IsLedger, account_at}
use Rattle.bk_rules.specs.Fold.{rows_before, HasRoom}
use Rattle.bk_rules.specs.Numbers.{number_of}
use Rattle.bk_rules.specs.Ledger.{Ledger, numbers_of, shown_by, rows_shown, slot_numbers}
use Rattle.bk_conflicts.specs.declared.words.WordRef.{WordRef}
use Rattle.bk_conflicts.specs.Conflicts as conflicts
use Rattle.bk_conflicts.specs.Plan.{PlanValue, before_of, after_of}
use Rattle.bk_conflicts.specs.Scene.{Scene}
use Rattle.bk_conflicts.specs.Words.{slot_of, words_at}

-- ---- who may read and write a word

-- the word is one of the place
abbrev pub reads_word : List ℕ → List (Option Transaction) → ℕ → ℕ → Bool
reads_word slots txs place x = list_any (λ (w : WordRef). w.word == x) (words_at slots txs place)

-- the word is one of the place, for writing
abbrev pub writes_word : List ℕ → List (Option Transaction) → ℕ → ℕ → Bool
writes_word slots txs place x = list_any (λ (w : WordRef). w.writable && w.word == x) (words_at slots txs place)

-- the two places share an account that has a slot, at least one of them for writing
abbrev pub in_conflict : List ℕ → List (Option Transaction) → ℕ → ℕ → Bool
in_conflict slots txs p q = list_any (λ (id : ℕ). conflicts.clash slots txs id p q) slots

-- ---- what words show

-- the numbers of accounts as words, two each: the other way round than `in_pairs`
abbrev pub in_words : List Account → List ℕ
in_words [] = []
in_words (a ∷ more) = a.balance ∷ a.seq ∷ in_words more

-- the word of these accounts: 0 past the last slot
abbrev pub word_by : List ℕ → Accounts → ℕ → ℕ
word_by slots accounts x = slice_index_or (in_words (map (λ (id : ℕ). numbers_of (accounts id)) slots)) x 0

-- the account that two words show, none where there is no slot
abbrev pub account_from : Version → (ℕ → ℕ) → Option ℕ → Option Account
account_from version words None = None
account_from version words (Some slot) = shown_by version (record { balance = words (2 * slot); seq = words (2 * slot + 1) })

-- the accounts that words show
abbrev pub accounts_by : Version → List ℕ → (ℕ → ℕ) → Accounts
accounts_by version slots words id = account_from version words (slot_of slots id)

-- ---- what the transaction of a place does to accounts

-- the accounts after it; a malformed one changes none
abbrev pub accounts_after : Version → Option Transaction → Accounts → Accounts
accounts_after version None accounts id = accounts id
accounts_after version (Some t) accounts id = account_after (changes_of (status_of version accounts t) accounts t) id (accounts id)

-- its status
abbrev pub status_on : Version → Option Transaction → Accounts → Status
status_on version None accounts = outcome.Malformed
status_on version (Some t) accounts = status_of version accounts t

-- how much it moves
abbrev pub moved_on : Version → Option Transaction → Accounts → ℕ
moved_on version None accounts = 0
moved_on version (Some t) accounts = moved_by (status_of version accounts t) accounts t

-- the transaction of a place; nothing where there is no such place
abbrev pub tx_at : PlanValue → ℕ → Option Transaction
tx_at plan place = slice_index_or plan.txs place None

-- ---- the scene

-- the execution of a plan on a ledger
abbrev pub scene_of : PlanValue → Ledger → Scene
scene_of plan ledger = record {
  places = length plan.txs;
  words = 2 * length plan.ids;
  declares = reads_word plan.ids plan.txs;
  writes = writes_word plan.ids plan.txs;
  clash = in_conflict plan.ids plan.txs;
  before = before_of plan;
  next = after_of plan;
  fold = λ place. word_by plan.ids (account_at (rows_before plan.version plan.txs place ledger.rows));
  effect = λ place words. word_by plan.ids (accounts_after plan.version (tx_at plan place) (accounts_by plan.version plan.ids words));
  status = λ place words. number_of (status_on plan.version (tx_at plan place) (accounts_by plan.version plan.ids words));
  moved = λ place words. moved_on plan.version (tx_at plan place) (accounts_by plan.version plan.ids words);
}

-- the plan can be executed on this ledger
pub record CanRunOn (plan : PlanValue) (ledger : Ledger) : Type 0 where
  pub same_version : ledger.version ≡ plan.version
  pub same_slots : ledger.slots ≡ plan.ids
  pub is_ledger : IsLedger ledger.rows
  pub has_room : HasRoom plan.version (length plan.txs) ledger.rows
  -- the numbers of the slots are those of all accounts, as in every state
  pub slots_show : rows_shown plan.version plan.ids (slot_numbers ledger) ≡ ledger.rows
