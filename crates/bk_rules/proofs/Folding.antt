-- A list of transactions, place by place.
use Rattle.std.proofs.Common.{◌≡◌, ℕ, zero, suc, ◌+◌, ◌^◌, ◌<◌, Bool, true, List, [], ◌∷◌, ◌++◌, length, take, get_or, Option, Some, None, refl, sym, ap, ap₂, subst, ◌∙◌, arith, add-one}
use Rattle.std.specs.Prelude.{slice_get}
use Rattle.std.specs.List.{list_all}
use Rattle.bk_rules.proofs.RowLemmas.{and_left, and_right}
use Rattle.std.proofs.lemmas.List.{take_more, length-take-le, get_or_default}
use Rattle.bk_base.specs.declared.genesis.Row.{Row}
use Rattle.bk_base.specs.declared.version.Version.{Version}
use Rattle.bk_base.specs.declared.version.Version.TheVariants.{One}
use Rattle.bk_base.specs.Genesis.{AreAccounts, ids_of, total_of}
use Rattle.bk_tx.specs.Transaction.{Transaction}
use Rattle.bk_rules.specs.declared.receipt.Receipt.{Receipt}
use Rattle.bk_rules.specs.Rows.{IsLedger, outcome_of}
use Rattle.bk_rules.specs.Fold.{state_after, receipts_of, rows_before, outcome_at, HasRoom}
use Rattle.bk_rules.specs.Ledger.{Ledger, ledger_of, after_of, is_covered, are_covered}
use Rattle.bk_rules.proofs.Kept.{total_kept, ledger_kept, ids_kept}
use Rattle.bk_rules.proofs.Room.{room_kept, room_weaker}

-- ---- one list and then another

pub state_append : (v : Version) (before later : List (Option Transaction)) (rows : List Row) → state_after v (before ++ later) rows ≡ state_after v later (state_after v before rows)
state_append v [] later rows = refl
state_append v (t ∷ before) later rows = state_append v before later (outcome_of v t rows).after

pub receipts_append : (v : Version) (before later : List (Option Transaction)) (rows : List Row) → receipts_of v (before ++ later) rows ≡ receipts_of v before rows ++ receipts_of v later (state_after v before rows)
receipts_append v [] later rows = refl
receipts_append v (t ∷ before) later rows = ap (λ (rs : List Receipt). (outcome_of v t rows).receipt ∷ rs) (receipts_append v before later (outcome_of v t rows).after)

pub length-receipts : (v : Version) (txs : List (Option Transaction)) (rows : List Row) → length (receipts_of v txs rows) ≡ length txs
length-receipts v [] rows = refl
length-receipts v (t ∷ more) rows = ap suc (length-receipts v more (outcome_of v t rows).after)

-- ---- what many transactions keep

pub ledger_kept_by_fold : (v : Version) (txs : List (Option Transaction)) (rows : List Row) → IsLedger rows → IsLedger (state_after v txs rows)
ledger_kept_by_fold v [] rows ledger = ledger
ledger_kept_by_fold v (t ∷ more) rows ledger = ledger_kept_by_fold v more (outcome_of v t rows).after (ledger_kept v t rows ledger)

pub total_kept_by_fold : (v : Version) (txs : List (Option Transaction)) (rows : List Row) → IsLedger rows → total_of (state_after v txs rows) ≡ total_of rows
total_kept_by_fold v [] rows ledger = refl
total_kept_by_fold v (t ∷ more) rows ledger = total_kept_by_fold v more (outcome_of v t rows).after (ledger_kept v t rows ledger) ∙ total_kept v t rows ledger

pub ids_kept_by_fold : (txs : List (Option Transaction)) (rows : List Row) → IsLedger rows → ids_of (state_after One txs rows) ≡ ids_of rows
ids_kept_by_fold [] rows ledger = refl
ids_kept_by_fold (t ∷ more) rows ledger = ids_kept_by_fold more (outcome_of One t rows).after (ledger_kept One t rows ledger) ∙ ids_kept t rows ledger

-- opening accounts are a ledger
pub ledger_of_accounts : (rows : List Row) → AreAccounts rows → IsLedger rows
ledger_of_accounts rows accounts = record { ascending = accounts.ascending; within = accounts.within }

pub total_below : (v : Version) (txs : List (Option Transaction)) (rows : List Row) → AreAccounts rows → total_of (state_after v txs rows) < 2 ^ 63
total_below v txs rows accounts =
    let same = total_kept_by_fold v txs rows (ledger_of_accounts rows accounts) in
    let within = accounts.within in
    omega arith

-- ---- places

pub receipt_of_place : (v : Version) (txs : List (Option Transaction)) (place : ℕ) (rows : List Row) → place < length txs → slice_get (receipts_of v txs rows) place ≡ Some (outcome_at v txs place rows).receipt
receipt_of_place v [] place rows low = absurd (omega arith)
receipt_of_place v (t ∷ more) zero rows low = refl
receipt_of_place v (t ∷ more) (suc place) rows low = receipt_of_place v more place (outcome_of v t rows).after (omega arith)

rows_of_next : (v : Version) (txs : List (Option Transaction)) (place : ℕ) (rows : List Row) → place < length txs → rows_before v txs (suc place) rows ≡ (outcome_at v txs place rows).after
rows_of_next v [] place rows low = absurd (omega arith)
rows_of_next v (t ∷ more) zero rows low = refl
rows_of_next v (t ∷ more) (suc place) rows low = rows_of_next v more place (outcome_of v t rows).after (omega arith)

pub rows_of_place : (v : Version) (txs : List (Option Transaction)) (place : ℕ) (rows : List Row) → place < length txs → rows_before v txs (place + 1) rows ≡ (outcome_at v txs place rows).after
rows_of_place v txs place rows low = ap (λ (k : ℕ). rows_before v txs k rows) (add-one place) ∙ rows_of_next v txs place rows low

-- what holds of all holds at a place
pub all_at : (p : Option Transaction → Bool) (txs : List (Option Transaction)) → list_all p txs ≡ true → (k : ℕ) → k < length txs → p (get_or txs k None) ≡ true
all_at p [] all k low = absurd (omega arith)
all_at p (t ∷ more) all zero low = and_left (p t) _ all
all_at p (t ∷ more) all (suc k) low = all_at p more (and_right (p t) _ all) k (omega arith)

-- ---- a loop over the list: the transaction of this turn, as it was read and passed on

module _ (txs : List (Option Transaction)) (i : ℕ) (t u : Option Transaction) (start now : Ledger) (low : i < length txs) (passed : u ≡ t) (read : t ≡ get_or txs i t) (so_far : now ≡ ledger_of start.version start.slots (state_after start.version (take i txs) start.rows)) where
  here : u ≡ get_or txs i None
  here = passed ∙ read ∙ get_or_default txs i t None low

  pub state_turn : (after : Ledger) → after ≡ after_of now u → after ≡ ledger_of start.version start.slots (state_after start.version (take (i + 1) txs) start.rows)
  state_turn after made = made ∙ ap₂ after_of so_far here ∙ ap (ledger_of start.version start.slots) (sym (rows_of_place start.version txs i start.rows low))

  pub receipts_turn : (before after : List Receipt) (made : Receipt) → before ≡ receipts_of start.version (take i txs) start.rows → after ≡ before ++ made ∷ [] → made ≡ (outcome_of now.version u now.rows).receipt → after ≡ receipts_of start.version (take (i + 1) txs) start.rows
  receipts_turn before after made were pushed is =
      pushed
      ∙ ap₂ (λ (rs : List Receipt) (r : Receipt). rs ++ r ∷ []) were (is ∙ ap₂ (λ (l : Ledger) (x : Option Transaction). (outcome_of l.version x l.rows).receipt) so_far here)
      ∙ sym (ap (λ (xs : List (Option Transaction)). receipts_of start.version xs start.rows) (take_more txs i None low) ∙ receipts_append start.version (take i txs) (get_or txs i None ∷ []) start.rows)

  -- what is covered at all places is covered at this one
  pub covered_turn : are_covered start.version start.slots txs ≡ true → is_covered now.version now.slots u ≡ true
  covered_turn all = ap₂ (λ (l : Ledger) (x : Option Transaction). is_covered l.version l.slots x) so_far here ∙ all_at (is_covered start.version start.slots) txs all i low

-- room for all leaves room for the next
pub room_turn : (txs : List (Option Transaction)) (i : ℕ) (start now : Ledger) → i < length txs → now ≡ ledger_of start.version start.slots (state_after start.version (take i txs) start.rows) → HasRoom start.version (length txs) start.rows → HasRoom now.version 1 now.rows
room_turn txs i start now low so_far room =
    let done = length-take-le i txs (omega arith) in
    subst (λ (l : Ledger). HasRoom l.version 1 l.rows) (sym so_far) (room_kept start.version (take i txs) 1 start.rows (room_weaker start.version (length txs) (length (take i txs) + 1) start.rows (omega arith) room))
