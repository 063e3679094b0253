-- A sender and a sequence number count in one place at most.
use Rattle.std.proofs.Common.{◌≡◌, ℕ, zero, suc, ◌+◌, ◌<◌, ◌≤◌, ⊎_elim, Bool, true, false, cond, eqb, List, [], ◌∷◌, length, map, take, Option, Some, None, unwrap_or, refl, sym, ap, subst, ◌∙◌, arith}
use Rattle.std.specs.Prelude.{slice_get}
use Rattle.std.proofs.lemmas.Bool.{cases_lt, eqb-true, eq-eqb}
use Rattle.bk_base.specs.declared.genesis.Row.{Row}
use Rattle.bk_base.specs.declared.version.Version.{Version}
use Rattle.bk_tx.specs.declared.payments.Payment.{Payment}
use Rattle.bk_tx.specs.Transaction.{Transaction}
use Rattle.bk_rules.specs.declared.account.Account.{Account}
use Rattle.bk_rules.specs.declared.receipt.Receipt.{Receipt}
use Rattle.bk_rules.specs.declared.receipt.Status.{Status}
use Rattle.bk_rules.specs.declared.receipt.Status.TheVariants as status
use Rattle.bk_rules.specs.Fold.{outcome_at, rows_before, state_after}
use Rattle.bk_rules.specs.Rows.{IsLedger, account_at, outcome_of}
use Rattle.bk_rules.specs.Rule.{Accounts, account_after, are_known, changes_of, is_declared, new_account, payments_on, receive, received, sent, seq_at, seq_of, status_of, sum_of}
use Rattle.bk_rules.proofs.Folding.{receipt_of_place}
use Rattle.bk_rules.proofs.Kept.{ledger_kept, rule_of_rows}
use Rattle.bk_rules.proofs.Locality.{guard_holds, is_short, status_by}
use Rattle.bk_tables.specs.Counted.{CountsAt, CountsOnce, counts_up}
use Rattle.bk_views.specs.Statement.{Course}

-- ---- what a transaction does to a sequence number

got_more : (amount : ℕ) (a : Option Account) → seq_of (Some (received amount (unwrap_or a new_account))) ≡ seq_of a
got_more amount None = refl
got_more amount (Some a) = refl

gave_more : (paid : ℕ) (a : Option Account) → seq_of (Some (sent paid (unwrap_or a new_account))) ≡ seq_of a + 1
gave_more paid None = refl
gave_more paid (Some a) = refl

-- payments leave it
paid_alike : (ps : List Payment) (id : ℕ) (a : Option Account) → seq_of (account_after (map receive ps) id a) ≡ seq_of a
paid_alike [] id a = refl
paid_alike (p ∷ ps) id a = by_test (eqb p.to id) (λ x. paid_alike ps id x)
  where
    by_test : (b : Bool) → ((x : Option Account) → seq_of (account_after (map receive ps) id x) ≡ seq_of x)
        → seq_of (account_after (map receive ps) id (cond b (Some (received p.amount (unwrap_or a new_account))) a)) ≡ seq_of a
    by_test true rest = rest (Some (received p.amount (unwrap_or a new_account))) ∙ got_more p.amount a
    by_test false rest = rest a

module _ (accounts : Accounts) (t : Transaction) (id : ℕ) (a : Option Account) where
  -- what is sent counts it up by one for the sender, and for nobody else
  sent_one : (paid : ℕ) (b : Bool) → seq_of a ≤ seq_of (cond b (Some (sent paid (unwrap_or a new_account))) a)
  sent_one paid true = let up = gave_more paid a in omega (arith, up)
  sent_one paid false = omega arith

  no_less : (s : Status) → seq_of a ≤ seq_of (account_after (changes_of s accounts t) id a)
  no_less status.Ok =
      let up = sent_one (sum_of (payments_on accounts t)) (eqb t.from id) in
      let rest = paid_alike (payments_on accounts t) id (cond (eqb t.from id) (Some (sent (sum_of (payments_on accounts t)) (unwrap_or a new_account))) a) in
      omega (arith, up, rest)
  no_less status.Guard = sent_one 0 (eqb t.from id)
  no_less status.Funds = sent_one 0 (eqb t.from id)
  no_less status.Malformed = omega arith
  no_less status.Undeclared = omega arith
  no_less status.Unknown = omega arith
  no_less status.Stale = omega arith

module _ (accounts : Accounts) (t : Transaction) (a : Option Account) where
  sent_more : (paid : ℕ) (b : Bool) → b ≡ true → seq_of (cond b (Some (sent paid (unwrap_or a new_account))) a) ≡ seq_of a + 1
  sent_more paid true e = gave_more paid a
  sent_more paid false e = absurd cc

  one_more : (s : Status) → counts_up s ≡ true → seq_of (account_after (changes_of s accounts t) t.from a) ≡ seq_of a + 1
  one_more status.Ok counted =
      paid_alike (payments_on accounts t) t.from (cond (eqb t.from t.from) (Some (sent (sum_of (payments_on accounts t)) (unwrap_or a new_account))) a)
      ∙ sent_more (sum_of (payments_on accounts t)) (eqb t.from t.from) (eq-eqb t.from t.from refl)
  one_more status.Guard counted = sent_more 0 (eqb t.from t.from) (eq-eqb t.from t.from refl)
  one_more status.Funds counted = sent_more 0 (eqb t.from t.from) (eq-eqb t.from t.from refl)
  one_more status.Malformed counted = absurd cc
  one_more status.Undeclared counted = absurd cc
  one_more status.Unknown counted = absurd cc
  one_more status.Stale counted = absurd cc

-- where it counts, the number is the sender's
timely_by : (d k s g f : Bool) → counts_up (status_by d k s g f) ≡ true → s ≡ true
timely_by false k s g f c = absurd cc
timely_by true false s g f c = absurd cc
timely_by true true false g f c = absurd cc
timely_by true true true g f c = refl

timely : (v : Version) (accounts : Accounts) (t : Transaction) → counts_up (status_of v accounts t) ≡ true → t.seq ≡ seq_at accounts t.from
timely v accounts t c =
    eqb-true t.seq (seq_at accounts t.from) (timely_by (is_declared t) (are_known v accounts t) (eqb t.seq (seq_at accounts t.from)) (guard_holds accounts t.body) (is_short accounts t) c)

-- ---- over the places

kept_up : (v : Version) (t : Option Transaction) (rows : List Row) (id : ℕ) → IsLedger rows → seq_at (account_at rows) id ≤ seq_at (account_at (outcome_of v t rows).after) id
kept_up v None rows id ledger = omega arith
kept_up v (Some t) rows id ledger =
    let up = no_less (account_at rows) t id (account_at rows id) (status_of v (account_at rows) t) in
    subst (λ (a : Option Account). seq_at (account_at rows) id ≤ seq_of a) (sym (rule_of_rows v t rows id ledger)) up

fold_up : (v : Version) (txs : List (Option Transaction)) (rows : List Row) (id : ℕ) → IsLedger rows → seq_at (account_at rows) id ≤ seq_at (account_at (state_after v txs rows)) id
fold_up v [] rows id ledger = omega arith
fold_up v (t ∷ more) rows id ledger =
    let here = kept_up v t rows id ledger in
    let rest = fold_up v more (outcome_of v t rows).after id (ledger_kept v t rows ledger) in
    omega (arith, here, rest)

-- a transaction that counts leaves its sender's number above its own
above_own : (v : Version) (t : Transaction) (rows : List Row) → IsLedger rows → counts_up (outcome_of v (Some t) rows).receipt.status ≡ true
    → (t.seq ≡ seq_at (account_at rows) t.from) × (seq_at (account_at (outcome_of v (Some t) rows).after) t.from ≡ t.seq + 1)
above_own v t rows ledger c =
    let is = timely v (account_at rows) t c in
    let up = one_more (account_at rows) t (account_at rows t.from) (status_of v (account_at rows) t) c in
    let after : seq_at (account_at (outcome_of v (Some t) rows).after) t.from ≡ seq_at (account_at rows) t.from + 1 = ap seq_of (rule_of_rows v t rows t.from ledger) ∙ up in
    (is, after ∙ ap (λ (n : ℕ). n + 1) (sym is))

some_tx : (o : Option Transaction) (t : Transaction) → Some o ≡ Some (Some t) → o ≡ Some t
some_tx o t e = cc

-- what the place of a transaction that counts is to the places after it
later_above : (v : Version) (txs : List (Option Transaction)) (rows : List Row) (one other : ℕ) (t : Transaction) → IsLedger rows → one < other → slice_get txs one ≡ Some (Some t)
    → counts_up (outcome_at v txs one rows).receipt.status ≡ true → t.seq + 1 ≤ seq_at (account_at (rows_before v txs other rows)) t.from
later_above v [] rows one other t ledger lt is c = absurd cc
later_above v (u ∷ more) rows zero zero t ledger lt is c = absurd (omega (arith, lt))
later_above v (u ∷ more) rows zero (suc k) t ledger lt is c =
    let e : u ≡ Some t = some_tx u t is in
    let own = above_own v t rows ledger (subst (λ (o : Option Transaction). counts_up (outcome_of v o rows).receipt.status ≡ true) e c) in
    let rest = fold_up v (take k more) (outcome_of v (Some t) rows).after t.from (ledger_kept v (Some t) rows ledger) in
    let up = own.1 in
    let all : t.seq + 1 ≤ seq_at (account_at (state_after v (take k more) (outcome_of v (Some t) rows).after)) t.from = omega (arith, up, rest) in
    subst (λ (o : Option Transaction). t.seq + 1 ≤ seq_at (account_at (state_after v (take k more) (outcome_of v o rows).after)) t.from) (sym e) all
later_above v (u ∷ more) rows (suc j) zero t ledger lt is c = absurd (omega (arith, lt))
later_above v (u ∷ more) rows (suc j) (suc k) t ledger lt is c =
    later_above v more (outcome_of v u rows).after j k t (ledger_kept v u rows ledger) (omega (arith, lt)) is c

-- at its own place the number is the sender's
own_at : (v : Version) (txs : List (Option Transaction)) (rows : List Row) (place : ℕ) (t : Transaction) → slice_get txs place ≡ Some (Some t)
    → counts_up (outcome_at v txs place rows).receipt.status ≡ true → t.seq ≡ seq_at (account_at (rows_before v txs place rows)) t.from
own_at v [] rows place t is c = absurd cc
own_at v (u ∷ more) rows zero t is c =
    timely v (account_at rows) t (subst (λ (o : Option Transaction). counts_up (outcome_of v o rows).receipt.status ≡ true) (some_tx u t is) c)
own_at v (u ∷ more) rows (suc j) t is c = own_at v more (outcome_of v u rows).after j t is c

pub low_of : {X : Type 0} (xs : List X) (i : ℕ) (x : X) → slice_get xs i ≡ Some x → i < length xs
low_of [] i x e = absurd cc
low_of (y ∷ xs) zero x e = omega arith
low_of (y ∷ xs) (suc i) x e = let rest = low_of xs i x e in omega (arith, rest)

some_receipt : (r s : Receipt) → Some r ≡ Some s → r ≡ s
some_receipt r s e = cc

module _ (c : Course) (from seq : ℕ) where
  counted_here : (place : ℕ) (h : CountsAt c from seq place) → counts_up (outcome_at c.version c.txs place c.opening).receipt.status ≡ true
  counted_here place h =
      let same = some_receipt (outcome_at c.version c.txs place c.opening).receipt h.receipt (sym (receipt_of_place c.version c.txs place c.opening (low_of c.txs place (Some h.t) h.tx_is)) ∙ h.receipt_is) in
      ap (λ (r : Receipt). counts_up r.status) same ∙ h.counted

  not_later : (one other : ℕ) → IsLedger c.opening → CountsAt c from seq one → CountsAt c from seq other → one < other → ⊥
  not_later one other ledger h g lt =
      let above = later_above c.version c.txs c.opening one other h.t ledger lt h.tx_is (counted_here one h) in
      let own = own_at c.version c.txs c.opening other g.t g.tx_is (counted_here other g) in
      let same : h.t.from ≡ g.t.from = h.from_is ∙ sym g.from_is in
      let again : g.t.seq ≡ seq_at (account_at (rows_before c.version c.txs other c.opening)) h.t.from =
      own ∙ ap (seq_at (account_at (rows_before c.version c.txs other c.opening))) (sym same) in
      let e = h.seq_is in
      let f = g.seq_is in
      omega (arith, above, again, e, f)

pub counts_once : CountsOnce
counts_once c from seq one other ledger h g = ⊎_elim
    (λ lt. absurd (not_later c from seq one other ledger h g lt))
    (λ ge. ⊎_elim
    (λ lt. absurd (not_later c from seq other one ledger g h lt))
    (λ le. let both : one ≡ other = omega (arith, ge, le) in both)
    (cases_lt other one))
    (cases_lt one other)
