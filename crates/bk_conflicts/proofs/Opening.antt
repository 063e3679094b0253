-- What the slots of a ledger say of its accounts.
use Rattle.std.proofs.Common.{◌≡◌, ℕ, List, [], ◌∷◌, length, map, refl, sym, ap, ◌∙◌, arith}
use Rattle.std.proofs.lemmas.List.{length-map}
use Rattle.bk_base.specs.declared.version.Version.{Version}
use Rattle.bk_base.specs.declared.version.Version.TheVariants.{One}
use Rattle.bk_base.specs.Genesis.{ids_of}
use Rattle.bk_rules.specs.declared.account.Account.{Account}
use Rattle.bk_rules.specs.Rule.{Accounts}
use Rattle.bk_rules.specs.Rows.{account_at}
use Rattle.bk_rules.specs.Ledger.{Ledger, numbers_of, rows_shown}
use Rattle.bk_conflicts.specs.Plan.{PlanValue}
use Rattle.bk_conflicts.specs.SceneOf.{CanRunOn}

-- the numbers of the accounts of these ids
abbrev pub numbers_by : List ℕ → Accounts → List Account
numbers_by slots accounts = map (λ (id : ℕ). numbers_of (accounts id)) slots

pub numbers_long : (slots : List ℕ) (accounts : Accounts) → length (numbers_by slots accounts) ≡ length slots
numbers_long slots accounts = length-map slots (λ (id : ℕ). numbers_of (accounts id))

-- in version One numbers show a row of each id
ids_shown : (ids : List ℕ) (numbers : List Account) → length numbers ≡ length ids → ids_of (rows_shown One ids numbers) ≡ ids
ids_shown [] numbers e = refl
ids_shown (id ∷ ids) [] e = absurd (omega arith)
ids_shown (id ∷ ids) (a ∷ numbers) e = ap (λ (more : List ℕ). id ∷ more) (ids_shown ids numbers (omega arith))

pub shows_all : (plan : PlanValue) (ledger : Ledger) → CanRunOn plan ledger → rows_shown plan.version plan.ids (numbers_by plan.ids (account_at ledger.rows)) ≡ ledger.rows
shows_all plan ledger r = ap (λ (ids : List ℕ). rows_shown plan.version plan.ids (numbers_by ids (account_at ledger.rows))) (sym r.same_slots) ∙ r.slots_show

-- in version One the accounts with a slot are those that are there
pub all_there : (plan : PlanValue) (ledger : Ledger) → CanRunOn plan ledger → plan.version ≡ One → ids_of ledger.rows ≡ plan.ids
all_there plan ledger r one =
    ap ids_of (sym (shows_all plan ledger r))
    ∙ (ap (λ (v : Version). ids_of (rows_shown v plan.ids (numbers_by plan.ids (account_at ledger.rows)))) one
    ∙ ids_shown plan.ids (numbers_by plan.ids (account_at ledger.rows)) (numbers_long plan.ids (account_at ledger.rows)))
