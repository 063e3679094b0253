-- A view of the accounts that a transaction declares: the i-th is the i-th declared account, if it is there.
use Rattle.std.specs.Prelude.{◌≡◌, ℕ, ◌<◌, Bool, List, [], ◌∷◌, length, slice_index_or, Option, None, unwrap_or, ◌==◌, if◌then◌else◌}
use Rattle.bk_tx.specs.declared.declared.Declared.{Declared}
use Rattle.bk_tx.specs.Transaction.{Transaction}
use Rattle.bk_tx.specs.Access.{no_declared}
use Rattle.bk_rules.specs.declared.account.Account.{Account}
use Rattle.bk_base.specs.declared.version.Version.{Version}
use Rattle.bk_rules.specs.declared.receipt.Receipt.{Receipt}
use Rattle.bk_rules.specs.declared.rule.Effect.{Effect}
use Rattle.bk_rules.specs.Rule.{Accounts, Change, new_account, status_of, moved_by, changes_of, account_after}

-- the account at an index, none past the end
abbrev pub nth : List (Option Account) → ℕ → Option Account
nth view k = slice_index_or view k None

-- it, or a new one where it is absent
abbrev pub nth_or_new : List (Option Account) → ℕ → Account
nth_or_new view k = unwrap_or (nth view k) new_account

-- what the rule sees in these accounts, the i-th being the i-th that is declared
abbrev pub seen : List Declared → List (Option Account) → Accounts
seen [] view id = None
seen (d ∷ ds) [] id = None
seen (d ∷ ds) (a ∷ view) id = if d.id == id then a else seen ds view id

-- the id at an index
abbrev pub nth_id : List Declared → ℕ → ℕ
nth_id ds k = (slice_index_or ds k no_declared).id

-- these accounts have become those by the changes
abbrev pub Become : List Declared → List Change → List (Option Account) → List (Option Account) → Type 0
Become ds changes old new = (k : ℕ) → k < length ds → nth new k ≡ account_after changes (nth_id ds k) (nth old k)

-- the rule, on the declared accounts alone
pub record Settles (version : Version) (t : Transaction) (old : List (Option Account)) (receipt : Receipt) (new : List (Option Account)) : Type 0 where
  pub status : receipt.status ≡ status_of version (seen t.declared old) t
  pub moved : receipt.moved ≡ moved_by (status_of version (seen t.declared old) t) (seen t.declared old) t
  pub after : Become t.declared (changes_of (status_of version (seen t.declared old) t) (seen t.declared old) t) old new

-- the account at an index is declared for writing
abbrev pub is_writable : List Declared → ℕ → Bool
is_writable ds k = (slice_index_or ds k no_declared).writable

-- the effect is what the rule makes of this view: of the accounts afterwards it has those declared for writing
pub record IsEffect (version : Version) (t : Transaction) (view : List (Option Account)) (e : Effect) : Type 0 where
  pub after : List (Option Account)
  pub settles : Settles version t view (record { status = e.status; moved = e.moved }) after
  pub writes : (k : ℕ) → nth e.writes k ≡ (if is_writable t.declared k then nth after k else None)
