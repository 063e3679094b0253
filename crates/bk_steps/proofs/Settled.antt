-- The rule on the words of a place is that of its execution.
use Rattle.std.proofs.Common.{◌≡◌, ℕ, zero, suc, ◌+◌, ◌^◌, ◌<◌, ◌≤◌, ◌==◌, List, [], ◌∷◌, length, get_or, take, true, Option, None, Some, refl, sym, ap, ◌∙◌, subst, arith, eq-eqb, length-take}
use Rattle.std.proofs.lemmas.Bool.{or_left, or_right}
use mathlib.Core.Logic.{dite}
use native.Mathlib.Decide.{dec_le}
use Rattle.bk_base.specs.declared.genesis.Row.{Row}
use Rattle.bk_base.specs.declared.version.Version.{Version}
use Rattle.bk_base.specs.declared.version.Version.TheVariants.{One, Two}
use Rattle.bk_tx.specs.declared.declared.Declared.{Declared}
use Rattle.bk_tx.specs.Transaction.{Transaction}
use Rattle.bk_tx.specs.Access.{declares}
use Rattle.bk_rules.specs.declared.account.Account.{Account}
use Rattle.bk_rules.specs.declared.receipt.Receipt.{Receipt}
use Rattle.bk_rules.specs.Rule.{Accounts, account_after}
use Rattle.bk_rules.specs.Rows.{IsLedger, account_at}
use Rattle.bk_rules.specs.Fold.{rows_before, seq_end, HasRoom}
use Rattle.bk_rules.specs.Ledger.{Ledger}
use Rattle.bk_rules.specs.Laws.{AgreeOn}
use Rattle.bk_rules.specs.View.{nth, nth_id, seen, Settles}
use Rattle.bk_rules.proofs.Folding.{ledger_kept_by_fold}
use Rattle.bk_rules.proofs.Room.{room_kept, room_weaker}
use Rattle.bk_rules.proofs.Stores.{balance_below, seq_below}
use Rattle.bk_rules.proofs.Storing.{declared_stands}
use Rattle.bk_rules.proofs.Places.{Rise, seen_at}
use Rattle.bk_rules.proofs.Locality.{sees_declared_alone}
use Rattle.bk_conflicts.specs.Conflicts.{declared_by, declared_at}
use Rattle.bk_conflicts.specs.Plan.{PlanValue, IsPlan}
use Rattle.bk_conflicts.specs.SceneOf.{CanRunOn, word_by, accounts_by, accounts_after, tx_at}
use Rattle.bk_conflicts.proofs.Ran.{said_agrees, place_inside}
use Rattle.bk_conflicts.proofs.Opening.{all_there}
use Rattle.bk_steps.specs.Settling.{Say, AreOf, IsLow, AreLow, Does}

pub declares_at : (ds : List Declared) (k : ℕ) → k < length ds → declares ds (nth_id ds k) ≡ true
declares_at [] k l = absurd (omega arith)
declares_at (d ∷ ds) zero l = or_left (d.id == d.id) (declares ds d.id) (eq-eqb d.id d.id refl)
declares_at (d ∷ ds) (suc k) l = or_right (d.id == nth_id ds k) (declares ds (nth_id ds k)) (declares_at ds k (omega arith))

some_room : (v : Version) → 1 < seq_end v
some_room One = omega arith
some_room Two = omega arith

end_low : (v : Version) → seq_end v ≤ 2 ^ 64
end_low One = omega arith
end_low Two = omega arith

low_row : (v : Version) (rows : List Row) → IsLedger rows → HasRoom v 1 rows → (id : ℕ) → IsLow (account_at rows id)
low_row v rows ledger room id = (
  (let most = balance_below rows id in let within = ledger.within in omega arith),
  (let most = seq_below (seq_end v) rows (some_room v) room id in let e = end_low v in omega arith),
)

-- the accounts before a place leave room for one more transaction
pub low_before : (plan : PlanValue) (ledger : Ledger) → IsPlan plan → CanRunOn plan ledger → (p k : ℕ) → k < length (declared_at plan.txs p)
    → IsLow (accounts_by plan.version plan.ids (word_by plan.ids (account_at (rows_before plan.version plan.txs p ledger.rows))) (nth_id (declared_at plan.txs p) k))
low_before plan ledger is runs p k = at (get_or plan.txs p None) refl
  where
    at : (o : Option Transaction) → get_or plan.txs p None ≡ o → k < length (declared_by o)
        → IsLow (accounts_by plan.version plan.ids (word_by plan.ids (account_at (rows_before plan.version plan.txs p ledger.rows))) (nth_id (declared_by o) k))
    at None e l = absurd (omega arith)
    at (Some t) e l = let inside = place_inside plan.txs p t e in
        subst IsLow (said_agrees plan.version plan.ids plan.txs p ledger.rows runs.is_ledger runs.has_room (all_there plan ledger runs) is.covered t e (nth_id t.declared k) (declares_at t.declared k l))
        (low_row plan.version (rows_before plan.version plan.txs p ledger.rows) (ledger_kept_by_fold plan.version (take p plan.txs) ledger.rows runs.is_ledger)
        (room_kept plan.version (take p plan.txs) 1 ledger.rows (room_weaker plan.version (length plan.txs) (length (take p plan.txs) + 1) ledger.rows (let n = length-take p plan.txs in omega arith) runs.has_room))
        (nth_id t.declared k))

-- the accounts that were found leave room
pub low_found : (v : Version) (slots : List ℕ) (ds : List Declared) (values : List ℕ) (view : List (Option Account)) → AreLow v slots ds values
    → ((f : ℕ → ℕ) → Say f slots ds values → (k : ℕ) → k < length ds → nth view k ≡ accounts_by v slots f (nth_id ds k))
    → ((k : ℕ) → length ds ≤ k → nth view k ≡ None) → (k : ℕ) → IsLow (nth view k)
low_found v slots ds values view (f, says, low) found rest k = dite (dec_le (suc k) (length ds))
    (λ l. subst IsLow (sym (found f says k l)) (low k l))
    (λ n. let none = rest k (omega arith) in subst IsLow (sym none) (none_low))
  where
    none_low : IsLow None
    none_low = (omega arith, omega arith)

-- what `settle` does on the accounts that f says is what the transaction does
pub does_settled : (v : Version) (slots : List ℕ) (t : Transaction) (f : ℕ → ℕ) (view after : List (Option Account)) (receipt : Receipt) (values : List ℕ) → Rise t.declared
    → AreOf (accounts_by v slots f) t.declared view → Settles v t view receipt after
    → ((accounts : Accounts) → AreOf accounts t.declared after → Say (word_by slots accounts) slots t.declared values)
    → Does v slots (Some t) f receipt values
does_settled v slots t f view after receipt values up found settles put =
    let same = sees_declared_alone v t (seen t.declared view) (accounts_by v slots f) agree in record {
      status = settles.status ∙ same.statuses;
      moved = settles.moved ∙ same.moved;
      says = put (accounts_after v (Some t) (accounts_by v slots f)) (λ k l. settles.after k l ∙ (λ j. account_after (same.changes j) (nth_id t.declared k) (found k l j)));
    }
  where
    agree : AgreeOn t (seen t.declared view) (accounts_by v slots f)
    agree id d = let s = declared_stands t.declared id d in seen_at t.declared up view id s.place s.at ∙ (found s.place s.at.in_range ∙ ap (accounts_by v slots f) s.at.has_id)

-- the transaction is that of a place
pub low_by : (plan : PlanValue) (v : Version) (slots : List ℕ) (t : Transaction) (p : ℕ) (values : List ℕ) → v ≡ plan.version → slots ≡ plan.ids → Some t ≡ get_or plan.txs p None
    → AreLow plan.version plan.ids (declared_at plan.txs p) values → AreLow v slots t.declared values
low_by plan v slots t p values a b e h = subst (λ (y : Version × List ℕ × Option Transaction). AreLow y.0 y.1 (declared_by y.2) values) (λ j. (sym a j, sym b j, sym e j)) h

pub does_by : (plan : PlanValue) (v : Version) (slots : List ℕ) (t : Transaction) (p : ℕ) (old new : List ℕ) (receipt : Receipt) → v ≡ plan.version → slots ≡ plan.ids → Some t ≡ get_or plan.txs p None
    → ((f : ℕ → ℕ) → Say f slots t.declared old → Does v slots (Some t) f receipt new)
    → (f : ℕ → ℕ) → Say f plan.ids (declared_at plan.txs p) old → Does plan.version plan.ids (tx_at plan p) f receipt new
does_by plan v slots t p old new receipt a b e h = subst (λ (y : Version × List ℕ × Option Transaction). (f : ℕ → ℕ) → Say f y.1 (declared_by y.2) old → Does y.0 y.1 y.2 f receipt new) (λ j. (a j, b j, e j)) h
