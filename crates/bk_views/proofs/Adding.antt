-- The amounts of a statement lead from the opening to the closing balance.
use Rattle.std.proofs.Common.{◌≡◌, ℕ, zero, suc, ◌+◌, ◌<◌, ◌≤◌, List, [], ◌∷◌, length, take, get_or, Bool, true, false, cond, eqb, Option, Some, None, refl, sym, ap, subst, ◌∙◌, arith, add-one}
use Rattle.std.specs.Prelude.{IfSome}
use Rattle.std.specs.List.{AllByRecursion, sum_by}
use Rattle.std.proofs.lemmas.Bool.{eqb-true}
use Rattle.std.proofs.lemmas.List.Sums.{sum_by-append, sum_by-cons}
use Rattle.std.proofs.Math.Seq.{take-length}
use Rattle.bk_base.specs.declared.genesis.Row.{Row}
use Rattle.bk_tx.specs.Reading.{pays}
use Rattle.bk_tx.specs.Spelling.{IsTransaction}
use Rattle.bk_tx.specs.Transaction.{Transaction}
use Rattle.bk_rules.specs.declared.account.Account.{Account}
use Rattle.bk_rules.specs.declared.receipt.Receipt.{Receipt}
use Rattle.bk_rules.specs.declared.receipt.Status.{Status}
use Rattle.bk_rules.specs.declared.receipt.Status.TheVariants as status
use Rattle.bk_rules.specs.Fold.{outcome_at, rows_before, state_after}
use Rattle.bk_rules.specs.Rows.{IsLedger, account_at, outcome_of}
use Rattle.bk_rules.specs.Rule.{Accounts, balance_at, balance_of, moved_by, payments_on, status_of, sum_of}
use Rattle.bk_rules.proofs.Folding.{ledger_kept_by_fold, rows_of_place}
use Rattle.bk_rules.proofs.Kept.{funds_where_ok, rule_of_rows}
use Rattle.bk_views.specs.Laws.{AmountsAddUp, added_by, adds, taken_by, takes}
use Rattle.bk_views.specs.Statement.{Course, account_before, amount_by, credited_by, entries, entries_below, entries_by, entries_of, entry_with, guards, role_in}
use Rattle.bk_views.specs.private.Accounts.{after_part}
use Rattle.bk_views.specs.declared.entry.Entry.{Entry}
use Rattle.bk_views.specs.declared.entry.Role.{Role}
use Rattle.bk_views.specs.declared.entry.Role.TheVariants as role
use Rattle.bk_views.proofs.PartsPlayed.{no_part_after, part_after}
use Rattle.bk_views.proofs.Telling.{new_balance}

-- ---- one transaction

some_role : (x y : Role) → Some x ≡ Some y → x ≡ y
some_role x y e = cc

-- the sender is the one that plays that part
sender_is : (t : Transaction) (id : ℕ) (part : Role) → role_in t id ≡ Some part → part ≡ role.Out → t.from ≡ id
sender_is t id part plays e = by_tests (eqb t.from id) (pays t.body id) (guards t.body id) refl (plays ∙ ap Some e)
  where
    by_tests : (f p g : Bool) → eqb t.from id ≡ f → cond (eqb t.from id) (Some role.Out) (cond (pays t.body id) (Some role.In) (cond (guards t.body id) (Some role.Guard) None)) ≡ Some role.Out → t.from ≡ id
    by_tests true p g ef is = eqb-true t.from id ef
    by_tests false p g ef is = absurd (others (pays t.body id) (guards t.body id) (sym (ap (λ (b : Bool). cond b (Some role.Out) (cond (pays t.body id) (Some role.In) (cond (guards t.body id) (Some role.Guard) None))) ef) ∙ is))
      where
        others : (p g : Bool) → cond p (Some role.In) (cond g (Some role.Guard) None) ≡ Some role.Out → ⊥
        others true g h = absurd (let clash = some_role role.In role.Out h in cc)
        others false true h = absurd (let clash = some_role role.Guard role.Out h in cc)
        others false false h = absurd cc

module _ (accounts : Accounts) (t : Transaction) (id : ℕ) (a : Option Account) where
  part_adds : (part : Role) (s : Status) → (part ≡ role.Out → s ≡ status.Ok → sum_of (payments_on accounts t) ≤ balance_of a)
      → balance_of a + adds part (amount_by part (moved_by s accounts t) (credited_by s accounts t id))
      ≡ balance_of (after_part part s (amount_by part (moved_by s accounts t) (credited_by s accounts t id)) a) + takes part (amount_by part (moved_by s accounts t) (credited_by s accounts t id))
  part_adds role.Out status.Ok funds = let enough = funds refl refl in let was = new_balance a in omega (arith, enough, was)
  part_adds role.Out status.Guard funds = let was = new_balance a in omega (arith, was)
  part_adds role.Out status.Funds funds = let was = new_balance a in omega (arith, was)
  part_adds role.Out status.Malformed funds = refl
  part_adds role.Out status.Undeclared funds = refl
  part_adds role.Out status.Unknown funds = refl
  part_adds role.Out status.Stale funds = refl
  part_adds role.In status.Ok funds = let was = new_balance a in omega (arith, was)
  part_adds role.In status.Guard funds = refl
  part_adds role.In status.Funds funds = refl
  part_adds role.In status.Malformed funds = refl
  part_adds role.In status.Undeclared funds = refl
  part_adds role.In status.Unknown funds = refl
  part_adds role.In status.Stale funds = refl
  part_adds role.Guard s funds = refl

-- ---- one place

sum_one : (f : Entry → ℕ) (e : Entry) → sum_by f (e ∷ []) ≡ f e
sum_one f e = let all = sum_by-cons f e [] in omega (arith, all)

module _ (c : Course) (id : ℕ) (ledger : IsLedger c.opening) where
  module _ (place : ℕ) (low : place < length c.txs) where
    abbrev rows : List Row
    rows = rows_before c.version c.txs place c.opening

    after_place : (t : Option Transaction) → get_or c.txs place None ≡ t → account_before c (place + 1) id ≡ account_at (outcome_of c.version t rows).after id
    after_place t e = ap (λ (rs : List Row). account_at rs id) (rows_of_place c.version c.txs place c.opening low ∙ ap (λ (u : Option Transaction). (outcome_of c.version u rows).after) e)

    by_role : (t : Transaction) → get_or c.txs place None ≡ Some t → IsTransaction t → (o : Option Role) → role_in t id ≡ o
        → balance_of (account_before c place id) + added_by (entries_of c id place (Some t)) ≡ balance_of (account_before c (place + 1) id) + taken_by (entries_of c id place (Some t))
    by_role t e sound None plays =
        let none : entries_of c id place (Some t) ≡ [] = ap (entries_by (entry_with c id place t (outcome_at c.version c.txs place c.opening).receipt)) plays in
        let same : account_before c (place + 1) id ≡ account_before c place id =
        after_place (Some t) e ∙ rule_of_rows c.version t rows id (ledger_kept_by_fold c.version (take place c.txs) c.opening ledger) ∙ no_part_after (account_at rows) t id (account_before c place id) plays (status_of c.version (account_at rows) t) in
        (λ i. balance_of (sym same i) + added_by (none i)) ∙ (λ i. balance_of (account_before c (place + 1) id) + taken_by (sym none i))
    by_role t e sound (Some part) plays =
        let s = status_of c.version (account_at rows) t in
        let receipt : (outcome_at c.version c.txs place c.opening).receipt ≡ (outcome_of c.version (Some t) rows).receipt = ap (λ (u : Option Transaction). (outcome_of c.version u rows).receipt) e in
        let entry = entry_with c id place t (outcome_of c.version (Some t) rows).receipt part in
        let one : entries_of c id place (Some t) ≡ entry ∷ [] =
        ap (entries_by (entry_with c id place t (outcome_at c.version c.txs place c.opening).receipt)) plays ∙ ap (λ (r : Receipt). entry_with c id place t r part ∷ []) receipt in
        let next : account_before c (place + 1) id ≡ after_part part s (amount_by part (moved_by s (account_at rows) t) (credited_by s (account_at rows) t id)) (account_before c place id) =
        after_place (Some t) e ∙ rule_of_rows c.version t rows id (ledger_kept_by_fold c.version (take place c.txs) c.opening ledger)
        ∙ part_after (account_at rows) t id (account_before c place id) sound part plays s in
        let balance = part_adds (account_at rows) t id (account_before c place id) part s
        (λ out ok. subst (λ (i : ℕ). sum_of (payments_on (account_at rows) t) ≤ balance_at (account_at rows) i) (sender_is t id part plays out) (funds_where_ok c.version t (account_at rows) (sym ok))) in
        let plus : added_by (entries_of c id place (Some t)) ≡ adds part (amount_by part (moved_by s (account_at rows) t) (credited_by s (account_at rows) t id)) =
        ap added_by one ∙ sum_one (λ (x : Entry). adds x.role x.amount) entry in
        let minus : taken_by (entries_of c id place (Some t)) ≡ takes part (amount_by part (moved_by s (account_at rows) t) (credited_by s (account_at rows) t id)) =
        ap taken_by one ∙ sum_one (λ (x : Entry). takes x.role x.amount) entry in
        ap (λ (k : ℕ). balance_of (account_before c place id) + k) plus ∙ balance ∙ (λ i. balance_of (sym next i) + sym minus i)

    at_place : (t : Option Transaction) → get_or c.txs place None ≡ t → IfSome t IsTransaction
        → balance_of (account_before c place id) + added_by (entries_of c id place t) ≡ balance_of (account_before c (place + 1) id) + taken_by (entries_of c id place t)
    at_place None e sound = ap (λ (a : Option Account). balance_of a + 0) (sym (after_place None e))
    at_place (Some t) e sound = by_role t e sound (role_in t id) refl

sound_at : (txs : List (Option Transaction)) (i : ℕ) → AllByRecursion (λ (t : Option Transaction). IfSome t IsTransaction) txs → i < length txs → IfSome (get_or txs i None) IsTransaction
sound_at [] i all low = absurd (omega (arith, low))
sound_at (t ∷ txs) zero all low = all.0
sound_at (t ∷ txs) (suc i) all low = sound_at txs i all.1 (omega (arith, low))

module _ (c : Course) (id : ℕ) (ledger : IsLedger c.opening) (sound : AllByRecursion (λ (t : Option Transaction). IfSome t IsTransaction) c.txs) where
  up_to : (n : ℕ) → n ≤ length c.txs → balance_of (account_at c.opening id) + added_by (entries_below c id n) ≡ balance_of (account_before c n id) + taken_by (entries_below c id n)
  up_to zero low = refl
  up_to (suc n) low =
      let before = up_to n (omega (arith, low)) in
      let here = at_place c id ledger n (omega (arith, low)) (get_or c.txs n None) refl (sound_at c.txs n sound (omega (arith, low))) in
      let more = sum_by-append (λ (e : Entry). adds e.role e.amount) (entries_below c id n) (entries_of c id n (get_or c.txs n None)) in
      let less = sum_by-append (λ (e : Entry). takes e.role e.amount) (entries_below c id n) (entries_of c id n (get_or c.txs n None)) in
      let next : balance_of (account_before c (n + 1) id) ≡ balance_of (account_before c (suc n) id) = ap (λ (k : ℕ). balance_of (account_before c k id)) (add-one n) in
      omega (arith, before, here, more, less, next)

pub amounts : AmountsAddUp
amounts c id ledger sound =
    up_to c id ledger sound (length c.txs) (omega arith)
    ∙ ap (λ (xs : List (Option Transaction)). balance_of (account_at (state_after c.version xs c.opening) id) + taken_by (entries c id)) (take-length c.txs)
