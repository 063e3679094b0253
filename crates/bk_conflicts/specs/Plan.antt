-- What contracts see of a plan, and what it promises.
use Rattle.std.specs.Prelude.{◌≡◌, ◌↔◌, ◌==◌, ℕ, zero, suc, ◌+◌, ◌^◌, ◌<◌, ◌≤◌, List, [], length, true, IsTrue, AllPairs, Option, slice_index_or}
use Rattle.std.specs.List.{list_any}
use Rattle.bk_base.specs.declared.version.Version.{Version}
use Rattle.bk_base.specs.Numbers.{is_ascending}
use Rattle.bk_tx.specs.declared.declared.Declared.{Declared}
use Rattle.bk_tx.specs.Access.{declared_ids}
use Rattle.bk_tx.specs.Transaction.{Transaction}
use Rattle.bk_rules.specs.Ledger.{are_covered}
use Rattle.bk_conflicts.specs.Scene.{times}
use Rattle.bk_conflicts.specs.Conflicts.{declared_at, clash, Edge}

-- the rules, the ids that have a slot, the transactions, how many each waits for directly, and who waits for it directly
pub record PlanValue : Type 0 where
  pub version : Version
  pub ids : List ℕ
  pub txs : List (Option Transaction)
  pub before : List ℕ
  pub after : List (List ℕ)

-- how many a place waits for directly
abbrev pub before_of : PlanValue → ℕ → ℕ
before_of plan place = slice_index_or plan.before place 0

-- the places that wait for a place directly
abbrev pub after_of : PlanValue → ℕ → List ℕ
after_of plan place = slice_index_or plan.after place []

-- the sum of a function below n
unfoldable pub sum_below : (ℕ → ℕ) → ℕ → ℕ
sum_below f zero = 0
sum_below f (suc n) = sum_below f n + f n

-- the declared accounts come by ascending id, and are at most eight
pub record AreDeclared (declared : List Declared) : Type 0 where
  pub few : length declared ≤ 8
  pub ascending : IsTrue (is_ascending (declared_ids declared))

-- what each plan promises
pub record IsPlan (plan : PlanValue) : Type 0 where
  pub few_places : length plan.txs < 2 ^ 31
  pub few_slots : length plan.ids < 2 ^ 31
  pub ids_ascend : IsTrue (is_ascending plan.ids)
  -- in version Two each declared account has a slot
  pub covered : are_covered plan.version plan.ids plan.txs ≡ true
  pub declared : (place : ℕ) → AreDeclared (declared_at plan.txs place)
  -- `after` lists the direct waits, in ascending order
  pub ascending : (p : ℕ) → p < length plan.txs → AllPairs (λ x y. x < y) (after_of plan p)
  pub edges : (p q : ℕ) → p < length plan.txs → (list_any (λ (x : ℕ). x == q) (after_of plan p) ≡ true) ↔ Edge (clash plan.ids plan.txs) p q
  -- `before` counts what `after` lists, and nobody waits for more places than came before
  pub counts : (q : ℕ) → q < length plan.txs → before_of plan q ≡ sum_below (λ p. times q (after_of plan p)) (length plan.txs)
  pub least : (q : ℕ) → q < length plan.txs → before_of plan q ≤ q
