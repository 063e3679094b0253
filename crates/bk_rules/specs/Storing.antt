-- From a view of the declared accounts back to the rows.
use Rattle.std.specs.Prelude.{◌≡◌, ℕ, ◌<◌, true, false, IsTrue, List, length, Option, Some}
use Rattle.bk_base.specs.declared.genesis.Row.{Row}
use Rattle.bk_base.specs.Numbers.{is_ascending}
use Rattle.bk_base.specs.Genesis.{ids_of}
use Rattle.bk_tx.specs.declared.declared.Declared.{Declared}
use Rattle.bk_tx.specs.Transaction.{Transaction}
use Rattle.bk_tx.specs.Access.{writes, declared_ids}
use Rattle.bk_rules.specs.declared.account.Account.{Account}
use Rattle.bk_base.specs.declared.version.Version.{Version}
use Rattle.bk_rules.specs.declared.rule.Effect.{Effect}
use Rattle.bk_rules.specs.Rows.{IsLedger, account_at, outcome_of}
use Rattle.bk_rules.specs.View.{nth, nth_id, is_writable, IsEffect}

-- the view is that of the declared accounts among these rows
abbrev pub IsViewOf : List Declared → List (Option Account) → List Row → Type 0
IsViewOf ds view rows = (k : ℕ) → k < length ds → nth view k ≡ account_at rows (nth_id ds k)

-- these rows hold what is written, and else the accounts as they were
pub record AreStored (ds : List Declared) (written : List (Option Account)) (rows after : List Row) : Type 0 where
  pub ascending : IsTrue (is_ascending (ids_of after))
  pub written_there : (k : ℕ) → k < length ds → is_writable ds k ≡ true → account_at after (nth_id ds k) ≡ nth written k
  pub kept_else : (id : ℕ) → writes ds id ≡ false → account_at after id ≡ account_at rows id

-- a receipt and rows are those of the rule
pub record AreOutcome (version : Version) (t : Transaction) (rows : List Row) (e : Effect) (after : List Row) : Type 0 where
  pub receipt : record { status = e.status; moved = e.moved } ≡ (outcome_of version (Some t) rows).receipt
  pub after_is : after ≡ (outcome_of version (Some t) rows).after

-- the effect on the view, stored, is the rule on the rows
abbrev pub EffectIsOutcome : Type 0
EffectIsOutcome = (v : Version) (t : Transaction) (view : List (Option Account)) (e : Effect) (rows after : List Row) → IsTrue (is_ascending (declared_ids t.declared)) → IsLedger rows → IsViewOf t.declared view rows → IsEffect v t view e → AreStored t.declared e.writes rows after → AreOutcome v t rows e after
