-- Rows by ascending id: what is found among them, and what one change does.
use Rattle.std.proofs.Common.{◌≡◌, ℕ, ◌+◌, ◌<◌, ◌≤◌, ◌≢◌, Bool, true, false, cond, ◌&&◌, eqb, ltb, List, [], ◌∷◌, Option, Some, None, IsTrue, is_some, find, option_map, unwrap_or, refl, sym, ap, subst, ◌∙◌, arith}
use Rattle.std.proofs.lemmas.List.Sums.{sum_by-cons}
use Rattle.std.proofs.lemmas.Bool.{lt-ltb}
use Rattle.std.proofs.lemmas.Bool.Decides.{nat_tests}
use Rattle.bk_base.specs.declared.genesis.Row.{Row}
use Rattle.bk_base.specs.Numbers.{is_ascending}
use Rattle.bk_base.specs.Genesis.{ids_of, total_of}
use Rattle.bk_tx.specs.declared.payments.Payment.{Payment}
use Rattle.bk_rules.specs.declared.account.Account.{Account}
use Rattle.bk_rules.specs.Rule.{Change, new_account, is_known, balance_at, send, receive, account_after}
use Rattle.bk_rules.specs.Rows.{account_of, row_of, account_at, changed, rows_after}

-- rows whose ids ascend
abbrev pub Ascend : List Row → Type 0
Ascend rows = IsTrue (is_ascending (ids_of rows))

-- both sides of `&&` hold
pub and_left : (a b : Bool) → IsTrue (a && b) → IsTrue a
and_left true b h = refl
and_left false b h = h

-- and the right one
pub and_right : (a b : Bool) → IsTrue (a && b) → IsTrue b
and_right true b h = h
and_right false b h = absurd (cc)

-- and both together
pub and_both : (a b : Bool) → IsTrue a → IsTrue b → IsTrue (a && b)
and_both true b left right = right
and_both false b left right = left

-- the rows after the first ascend
pub ascend_tail : (r : Row) (rows : List Row) → Ascend (r ∷ rows) → Ascend rows
ascend_tail r [] up = refl
ascend_tail r (s ∷ more) up = and_right (ltb r.id s.id) _ up

-- an id below the first is not there
pub absent_below : (id : ℕ) (r : Row) (rows : List Row) → Ascend (r ∷ rows) → id < r.id → account_at (r ∷ rows) id ≡ None
absent_below id r [] up low = let apart : eqb r.id id ≡ false = grind (arith, nat_tests) in ap (λ b. option_map account_of (cond b (Some r) None)) apart
absent_below id r (s ∷ more) up low =
    let apart : eqb r.id id ≡ false = grind (arith, nat_tests) in
    let rise : ltb r.id s.id ≡ true = and_left (ltb r.id s.id) _ up in
    let above : id < s.id = grind (arith, nat_tests) in
    ap (λ b. option_map account_of (cond b (Some r) (find (λ (x : Row). eqb x.id id) (s ∷ more)))) apart ∙ absent_below id s more (ascend_tail r (s ∷ more) up) above

-- ---- what is found after a change

-- what one change makes of an account
abbrev pub step : Change → ℕ → Option Account → Option Account
step c id account = cond (eqb c.id id) (Some (c.makes (unwrap_or account new_account))) account

-- the row with the id is replaced
here : (c : Change) (r : Row) (id : ℕ) (rest : Option Account) (b d : Bool) → r.id ≡ c.id → b ≡ eqb c.id id → d ≡ eqb r.id id → cond b (Some (c.makes (account_of r))) rest ≡ cond b (Some (c.makes (unwrap_or (cond d (Some (account_of r)) rest) new_account))) (cond d (Some (account_of r)) rest)
here c r id rest true true same e f = refl
here c r id rest false false same e f = refl
here c r id rest true false same e f = absurd (grind (arith, nat_tests))
here c r id rest false true same e f = absurd (grind (arith, nat_tests))

pub look_first : (r : Row) (rows : List Row) (id : ℕ) → account_at (r ∷ rows) id ≡ cond (eqb r.id id) (Some (account_of r)) (account_at rows id)
look_first r rows id = by_test (eqb r.id id)
  where
    by_test : (b : Bool) → option_map account_of (cond b (Some r) (find (λ (x : Row). eqb x.id id) rows)) ≡ cond b (Some (account_of r)) (account_at rows id)
    by_test true = refl
    by_test false = refl

-- the row is further on
further : (c : Change) (r : Row) (id : ℕ) (rest : Option Account) (b d : Bool) → r.id ≢ c.id → b ≡ eqb c.id id → d ≡ eqb r.id id → cond d (Some (account_of r)) (cond b (Some (c.makes (unwrap_or rest new_account))) rest) ≡ cond b (Some (c.makes (unwrap_or (cond d (Some (account_of r)) rest) new_account))) (cond d (Some (account_of r)) rest)
further c r id rest true true apart e f = absurd (grind (arith, nat_tests))
further c r id rest false false apart e f = refl
further c r id rest true false apart e f = refl
further c r id rest false true apart e f = refl

-- no row has it yet
fresh : (c : Change) (id : ℕ) (there : Option Account) (b : Bool) → (b ≡ true → there ≡ None) → cond b (Some (c.makes new_account)) there ≡ cond b (Some (c.makes (unwrap_or there new_account))) there
fresh c id there true none = ap (λ (o : Option Account). Some (c.makes (unwrap_or o new_account))) (sym (none refl))
fresh c id there false none = refl

-- what is found after one change
pub account_at-changed : (c : Change) (rows : List Row) → Ascend rows → (id : ℕ) → account_at (changed c rows) id ≡ step c id (account_at rows id)
account_at-changed c [] up id = look_first (row_of c.id (c.makes new_account)) [] id
account_at-changed c (r ∷ rows) up id = by_tests (eqb r.id c.id) (ltb c.id r.id) refl refl (account_at-changed c rows (ascend_tail r rows up) id)
  where
    by_tests : (e l : Bool) → e ≡ eqb r.id c.id → l ≡ ltb c.id r.id → account_at (changed c rows) id ≡ step c id (account_at rows id) → account_at (cond e (row_of c.id (c.makes (account_of r)) ∷ rows) (cond l (row_of c.id (c.makes new_account) ∷ r ∷ rows) (r ∷ changed c rows))) id ≡ step c id (account_at (r ∷ rows) id)
    by_tests true l ee el rest =
        let same : r.id ≡ c.id = grind (arith, nat_tests) in
        look_first (row_of c.id (c.makes (account_of r))) rows id ∙ here c r id (account_at rows id) (eqb c.id id) (eqb r.id id) same refl refl ∙ ap (step c id) (sym (look_first r rows id))
    by_tests false true ee el rest =
        let low : c.id < r.id = grind (arith, nat_tests) in
        look_first (row_of c.id (c.makes new_account)) (r ∷ rows) id ∙ fresh c id (account_at (r ∷ rows) id) (eqb c.id id) (λ same. let at : c.id ≡ id = grind (arith, nat_tests) in absent_below id r rows up (omega arith))
    by_tests false false ee el rest =
        let apart : r.id ≢ c.id = grind (arith, nat_tests) in
        look_first r (changed c rows) id ∙ ap (λ (o : Option Account). cond (eqb r.id id) (Some (account_of r)) o) rest ∙ further c r id (account_at rows id) (eqb c.id id) (eqb r.id id) apart refl refl ∙ ap (step c id) (sym (look_first r rows id))

-- ---- ids still ascend

ascend_under : (n : ℕ) (c : Change) (rows : List Row) → n < c.id → IsTrue (is_ascending (n ∷ ids_of rows)) → IsTrue (is_ascending (n ∷ ids_of (changed c rows)))
ascend_under n c [] low up = and_both (ltb n c.id) true (lt-ltb n c.id low) refl
ascend_under n c (r ∷ rows) low up = by_tests (eqb r.id c.id) (ltb c.id r.id) refl refl (ascend_under r.id c rows)
  where
    by_tests : (e l : Bool) → e ≡ eqb r.id c.id → l ≡ ltb c.id r.id → (r.id < c.id → IsTrue (is_ascending (r.id ∷ ids_of rows)) → IsTrue (is_ascending (r.id ∷ ids_of (changed c rows)))) → IsTrue (is_ascending (n ∷ ids_of (cond e (row_of c.id (c.makes (account_of r)) ∷ rows) (cond l (row_of c.id (c.makes new_account) ∷ r ∷ rows) (r ∷ changed c rows)))))
    by_tests true l ee el rest =
        let same : r.id ≡ c.id = grind (arith, nat_tests) in
        subst (λ (i : ℕ). IsTrue (is_ascending (n ∷ i ∷ ids_of rows))) same up
    by_tests false true ee el rest = and_both (ltb n c.id) _ (lt-ltb n c.id low) (and_both (ltb c.id r.id) _ (sym el) (and_right (ltb n r.id) _ up))
    by_tests false false ee el rest =
        let below : r.id < c.id = grind (arith, nat_tests) in
        and_both (ltb n r.id) _ (and_left (ltb n r.id) _ up) (rest below (and_right (ltb n r.id) _ up))

-- after one change ids ascend
pub ascend-changed : (c : Change) (rows : List Row) → Ascend rows → Ascend (changed c rows)
ascend-changed c [] up = refl
ascend-changed c (r ∷ rows) up = by_tests (eqb r.id c.id) (ltb c.id r.id) refl refl
  where
    by_tests : (e l : Bool) → e ≡ eqb r.id c.id → l ≡ ltb c.id r.id → Ascend (cond e (row_of c.id (c.makes (account_of r)) ∷ rows) (cond l (row_of c.id (c.makes new_account) ∷ r ∷ rows) (r ∷ changed c rows)))
    by_tests true l ee el =
        let same : r.id ≡ c.id = grind (arith, nat_tests) in
        subst (λ (i : ℕ). IsTrue (is_ascending (i ∷ ids_of rows))) same up
    by_tests false true ee el = and_both (ltb c.id r.id) _ (sym el) up
    by_tests false false ee el =
        let below : r.id < c.id = grind (arith, nat_tests) in
        ascend_under r.id c rows below up

-- ---- many changes

pub ascend-rows_after : (cs : List Change) (rows : List Row) → Ascend rows → Ascend (rows_after cs rows)
ascend-rows_after [] rows up = up
ascend-rows_after (c ∷ more) rows up = ascend-rows_after more (changed c rows) (ascend-changed c rows up)

pub account_at-rows_after : (cs : List Change) (rows : List Row) → Ascend rows → (id : ℕ) → account_at (rows_after cs rows) id ≡ account_after cs id (account_at rows id)
account_at-rows_after [] rows up id = refl
account_at-rows_after (c ∷ more) rows up id = account_at-rows_after more (changed c rows) (ascend-changed c rows up) id ∙ ap (account_after more id) (account_at-changed c rows up id)

-- ---- the total

-- the balances of one row and more
total-cons : (r : Row) (rows : List Row) → total_of (r ∷ rows) ≡ r.balance + total_of rows
total-cons r rows = sum_by-cons (λ (x : Row). x.balance) r rows

-- a receiver's balance goes up by what it gets, and the total too
pub total-receive : (p : Payment) (rows : List Row) → total_of (changed (receive p) rows) ≡ total_of rows + p.amount
total-receive p [] = total-cons (row_of p.to ((receive p).makes new_account)) [] ∙ omega arith
total-receive p (r ∷ rows) = by_tests (eqb r.id p.to) (ltb p.to r.id) (total-receive p rows)
  where
    by_tests : (e l : Bool) → total_of (changed (receive p) rows) ≡ total_of rows + p.amount → total_of (cond e (row_of p.to ((receive p).makes (account_of r)) ∷ rows) (cond l (row_of p.to ((receive p).makes new_account) ∷ r ∷ rows) (r ∷ changed (receive p) rows))) ≡ total_of (r ∷ rows) + p.amount
    by_tests true l rest = let a = total-cons (row_of p.to ((receive p).makes (account_of r))) rows in let b = total-cons r rows in omega arith
    by_tests false true rest = let a = total-cons (row_of p.to ((receive p).makes new_account)) (r ∷ rows) in omega arith
    by_tests false false rest = let a = total-cons r (changed (receive p) rows) in let b = total-cons r rows in omega arith

-- the sender's goes down by what it pays
pub total-send : (id paid : ℕ) (rows : List Row) → Ascend rows → IsTrue (is_known (account_at rows) id) → paid ≤ balance_at (account_at rows) id → total_of (changed (send id paid) rows) + paid ≡ total_of rows
total-send id paid [] up known funds = absurd (cc)
total-send id paid (r ∷ rows) up known funds = by_tests (eqb r.id id) (ltb id r.id) refl refl (look_first r rows id) (total-send id paid rows (ascend_tail r rows up))
  where
    by_tests : (e l : Bool) → e ≡ eqb r.id id → l ≡ ltb id r.id → account_at (r ∷ rows) id ≡ cond e (Some (account_of r)) (account_at rows id) → (IsTrue (is_known (account_at rows) id) → paid ≤ balance_at (account_at rows) id → total_of (changed (send id paid) rows) + paid ≡ total_of rows) → total_of (cond e (row_of id ((send id paid).makes (account_of r)) ∷ rows) (cond l (row_of id ((send id paid).makes new_account) ∷ r ∷ rows) (r ∷ changed (send id paid) rows))) + paid ≡ total_of (r ∷ rows)
    by_tests true l ee el look rest =
        let there : balance_at (account_at (r ∷ rows)) id ≡ r.balance = ap (λ (o : Option Account). unwrap_or (option_map (λ (a : Account). a.balance) o) 0) look in
        let a = total-cons (row_of id ((send id paid).makes (account_of r))) rows in let b = total-cons r rows in omega arith
    by_tests false true ee el look rest =
        let low : id < r.id = grind (arith, nat_tests) in
        let none = absent_below id r rows up low in
        absurd (cc)
    by_tests false false ee el look rest =
        let there : balance_at (account_at (r ∷ rows)) id ≡ balance_at (account_at rows) id = ap (λ (o : Option Account). unwrap_or (option_map (λ (a : Account). a.balance) o) 0) look in
        let still = rest (ap (λ (o : Option Account). is_some o) (sym look) ∙ known) (omega arith) in
        let a = total-cons r (changed (send id paid) rows) in let b = total-cons r rows in omega arith

-- ---- ids

-- a change of an account that is there keeps the ids
pub ids-changed : (c : Change) (rows : List Row) → Ascend rows → IsTrue (is_known (account_at rows) c.id) → ids_of (changed c rows) ≡ ids_of rows
ids-changed c [] up known = absurd (cc)
ids-changed c (r ∷ rows) up known = by_tests (eqb r.id c.id) (ltb c.id r.id) refl refl (look_first r rows c.id) (ids-changed c rows (ascend_tail r rows up))
  where
    by_tests : (e l : Bool) → e ≡ eqb r.id c.id → l ≡ ltb c.id r.id → account_at (r ∷ rows) c.id ≡ cond e (Some (account_of r)) (account_at rows c.id) → (IsTrue (is_known (account_at rows) c.id) → ids_of (changed c rows) ≡ ids_of rows) → ids_of (cond e (row_of c.id (c.makes (account_of r)) ∷ rows) (cond l (row_of c.id (c.makes new_account) ∷ r ∷ rows) (r ∷ changed c rows))) ≡ ids_of (r ∷ rows)
    by_tests true l ee el look rest = let same : r.id ≡ c.id = grind (arith, nat_tests) in ap (λ (i : ℕ). i ∷ ids_of rows) (sym same)
    by_tests false true ee el look rest =
        let low : c.id < r.id = grind (arith, nat_tests) in
        let none = absent_below c.id r rows up low in
        absurd (cc)
    by_tests false false ee el look rest = ap (λ (is : List ℕ). r.id ∷ is) (rest (ap (λ (o : Option Account). is_some o) (sym look) ∙ known))
