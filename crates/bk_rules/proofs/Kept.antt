-- What a transaction keeps of the rows.
use Rattle.std.proofs.Common.{◌≡◌, ℕ, ◌+◌, ◌^◌, ◌<◌, ◌≤◌, Bool, true, false, cond, ◌||◌, eqb, List, [], ◌∷◌, map, Option, Some, None, is_some, refl, sym, ap, subst, ◌∙◌, arith}
use Rattle.std.specs.List.{list_all, list_any}
use Rattle.std.proofs.lemmas.List.Sums.{sum_by-cons}
use Rattle.std.proofs.lemmas.Bool.Decides.{nat_tests}
use Rattle.bk_base.specs.declared.genesis.Row.{Row}
use Rattle.bk_base.specs.Genesis.{ids_of, total_of}
use Rattle.bk_tx.specs.declared.payments.Payment.{Payment}
use Rattle.bk_tx.specs.Transaction.{Transaction}
use Rattle.bk_tx.specs.Spelling.{receivers_of}
use Rattle.bk_rules.specs.declared.account.Account.{Account}
use Rattle.bk_base.specs.declared.version.Version.{Version}
use Rattle.bk_base.specs.declared.version.Version.TheVariants.{One}
use Rattle.bk_rules.specs.declared.receipt.Status.{Status}
use Rattle.bk_rules.specs.declared.receipt.Status.TheVariants as status
use Rattle.bk_rules.specs.Rule.{Accounts, Guard, is_known, balance_at, seq_at, payments_on, sum_of, guard_passes, is_declared, can_receive, are_known, status_of, send, receive, changes_of, account_after}
use Rattle.bk_rules.specs.Rows.{IsLedger, account_of, account_at, changed, rows_after, outcome_of}
use Rattle.bk_rules.proofs.RowLemmas.{Ascend, and_left, and_right, look_first, ascend-changed, ascend-rows_after, account_at-rows_after, total-receive, total-send, ids-changed}
use Rattle.bk_rules.proofs.Locality.{counts, counted_by, funded_by, guard_holds, is_short, receivers-payments}

-- ---- who is there

module _ (v : Version) (t : Transaction) (accounts : Accounts) where
  -- a status that counts shows that the accounts are known
  pub known_where_counted : (s : Status) → s ≡ status_of v accounts t → counts s ≡ true → are_known v accounts t ≡ true
  known_where_counted s is counted = (counted_by (is_declared t) (are_known v accounts t) (eqb t.seq (seq_at accounts t.from)) (guard_holds accounts t.body) (is_short accounts t) (ap counts (sym is) ∙ counted)).1

  -- among them the sender
  pub sender_known : are_known v accounts t ≡ true → is_known accounts t.from ≡ true
  sender_known known = and_left _ (list_all (λ (to : ℕ). can_receive v (accounts to)) (receivers_of t.body)) (and_left _ (guard_passes (λ (g : Guard). is_known accounts g.id) t.body) known)

  -- and each receiver
  pub receivers_can : are_known v accounts t ≡ true → list_all (λ (to : ℕ). can_receive v (accounts to)) (receivers_of t.body) ≡ true
  receivers_can known = and_right (is_known accounts t.from) _ (and_left _ (guard_passes (λ (g : Guard). is_known accounts g.id) t.body) known)

  -- OK shows that the money is there
  pub funds_where_ok : status.Ok ≡ status_of v accounts t → sum_of (payments_on accounts t) ≤ balance_at accounts t.from
  funds_where_ok ok =
      let enough : is_short accounts t ≡ false = funded_by (is_declared t) (are_known v accounts t) (eqb t.seq (seq_at accounts t.from)) (guard_holds accounts t.body) (is_short accounts t) (sym ok) in
      grind (arith, nat_tests)

-- ---- the total

total-payments : (payments : List Payment) (rows : List Row) → total_of (rows_after (map receive payments) rows) ≡ total_of rows + sum_of payments
total-payments [] rows = omega arith
total-payments (p ∷ more) rows =
    let a = total-payments more (changed (receive p) rows) in
    let b = total-receive p rows in
    let c = sum_by-cons (λ (x : Payment). x.amount) p more in
    omega arith

module _ (v : Version) (t : Transaction) (rows : List Row) (up : Ascend rows) where
  total_by_status : (s : Status) → s ≡ status_of v (account_at rows) t → total_of (rows_after (changes_of s (account_at rows) t) rows) ≡ total_of rows
  total_by_status status.Ok is =
      let accounts = account_at rows in
      let paid = sum_of (payments_on accounts t) in
      let known = sender_known v t accounts (known_where_counted v t accounts status.Ok is refl) in
      let out = total-send t.from paid rows up known (funds_where_ok v t accounts is) in
      let into = total-payments (payments_on accounts t) (changed (send t.from paid) rows) in
      omega arith
  total_by_status status.Guard is = let out = total-send t.from 0 rows up (sender_known v t (account_at rows) (known_where_counted v t (account_at rows) status.Guard is refl)) (omega arith) in omega arith
  total_by_status status.Funds is = let out = total-send t.from 0 rows up (sender_known v t (account_at rows) (known_where_counted v t (account_at rows) status.Funds is refl)) (omega arith) in omega arith
  total_by_status status.Malformed is = refl
  total_by_status status.Undeclared is = refl
  total_by_status status.Unknown is = refl
  total_by_status status.Stale is = refl

-- a transaction keeps the total
pub total_kept : (v : Version) (t : Option Transaction) (rows : List Row) → IsLedger rows → total_of (outcome_of v t rows).after ≡ total_of rows
total_kept v None rows ledger = refl
total_kept v (Some t) rows ledger = total_by_status v t rows ledger.ascending (status_of v (account_at rows) t) refl

-- and so a ledger
pub ledger_kept : (v : Version) (t : Option Transaction) (rows : List Row) → IsLedger rows → IsLedger (outcome_of v t rows).after
ledger_kept v None rows ledger = ledger
ledger_kept v (Some t) rows ledger = record {
  ascending = ascend-rows_after (changes_of (status_of v (account_at rows) t) (account_at rows) t) rows ledger.ascending;
  within = subst (λ n. n < 2 ^ 63) (sym (total_kept v (Some t) rows ledger)) ledger.within;
}

-- what is found after it
pub rule_of_rows : (v : Version) (t : Transaction) (rows : List Row) (id : ℕ) → IsLedger rows → account_at (outcome_of v (Some t) rows).after id ≡ account_after (changes_of (status_of v (account_at rows) t) (account_at rows) t) id (account_at rows id)
rule_of_rows v t rows id ledger = account_at-rows_after (changes_of (status_of v (account_at rows) t) (account_at rows) t) rows ledger.ascending id

-- ---- ids in version One

-- an account is known by the ids
pub known_by_ids : (rows : List Row) (id : ℕ) → is_known (account_at rows) id ≡ list_any (λ i. eqb i id) (ids_of rows)
known_by_ids [] id = refl
known_by_ids (r ∷ rows) id = ap (λ (o : Option Account). is_some o) (look_first r rows id) ∙ by_test (eqb r.id id) (known_by_ids rows id)
  where
    by_test : (b : Bool) → is_known (account_at rows) id ≡ list_any (λ i. eqb i id) (ids_of rows) → is_some (cond b (Some (account_of r)) (account_at rows id)) ≡ (b || list_any (λ i. eqb i id) (ids_of rows))
    by_test true rest = refl
    by_test false rest = rest

-- rows of the same ids know the same accounts
pub known_same : (rows others : List Row) → ids_of rows ≡ ids_of others → (id : ℕ) → is_known (account_at rows) id ≡ is_known (account_at others) id
known_same rows others same id = known_by_ids rows id ∙ ap (λ (ids : List ℕ). list_any (λ i. eqb i id) ids) same ∙ sym (known_by_ids others id)

-- changes of accounts that are there keep the ids
ids-payments : (payments : List Payment) (rows start : List Row) → Ascend rows → ids_of rows ≡ ids_of start → list_all (λ (to : ℕ). is_known (account_at start) to) (map (λ (p : Payment). p.to) payments) ≡ true → ids_of (rows_after (map receive payments) rows) ≡ ids_of start
ids-payments [] rows start up same all = same
ids-payments (p ∷ more) rows start up same all =
    let known : is_known (account_at rows) p.to ≡ true = known_same rows start same p.to ∙ and_left (is_known (account_at start) p.to) _ all in
    ids-payments more (changed (receive p) rows) start (ascend-changed (receive p) rows up) (ids-changed (receive p) rows up known ∙ same) (and_right (is_known (account_at start) p.to) _ all)

module _ (t : Transaction) (rows : List Row) (up : Ascend rows) where
  ids_by_status : (s : Status) → s ≡ status_of One (account_at rows) t → ids_of (rows_after (changes_of s (account_at rows) t) rows) ≡ ids_of rows
  ids_by_status status.Ok is =
      let accounts = account_at rows in
      let paid = sum_of (payments_on accounts t) in
      let known = known_where_counted One t accounts status.Ok is refl in
      ids-payments (payments_on accounts t) (changed (send t.from paid) rows) rows (ascend-changed (send t.from paid) rows up) (ids-changed (send t.from paid) rows up (sender_known One t accounts known)) (ap (λ (ids : List ℕ). list_all (λ (to : ℕ). is_known accounts to) ids) (receivers-payments (balance_at accounts t.from) t.body) ∙ receivers_can One t accounts known)
  ids_by_status status.Guard is = ids-changed (send t.from 0) rows up (sender_known One t (account_at rows) (known_where_counted One t (account_at rows) status.Guard is refl))
  ids_by_status status.Funds is = ids-changed (send t.from 0) rows up (sender_known One t (account_at rows) (known_where_counted One t (account_at rows) status.Funds is refl))
  ids_by_status status.Malformed is = refl
  ids_by_status status.Undeclared is = refl
  ids_by_status status.Unknown is = refl
  ids_by_status status.Stale is = refl

-- in version One a transaction keeps the ids
pub ids_kept : (t : Option Transaction) (rows : List Row) → IsLedger rows → ids_of (outcome_of One t rows).after ≡ ids_of rows
ids_kept None rows ledger = refl
ids_kept (Some t) rows ledger = ids_by_status t rows ledger.ascending (status_of One (account_at rows) t) refl
