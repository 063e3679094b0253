-- Transactions on a part of the rows, and on all of them.
use Rattle.std.proofs.Common.{◌≡◌, ℕ, ◌+◌, ◌<◌, ◌≤◌, Bool, true, false, cond, ◌||◌, not, eqb, ltb, List, [], ◌∷◌, Option, Some, None, is_some, refl, sym, ap, ap₂, ◌∙◌, arith}
use Rattle.std.specs.List.{AllByRecursion, list_all}
use Rattle.std.proofs.lemmas.Bool.{lt-ltb}
use Rattle.std.proofs.lemmas.Bool.Decides.{nat_tests}
use Rattle.std.proofs.lemmas.List.Sums.{sum_by-cons}
use Rattle.bk_base.specs.declared.genesis.Row.{Row}
use Rattle.bk_base.specs.declared.version.Version.{Version}
use Rattle.bk_base.specs.declared.version.Version.TheVariants.{One, Two}
use Rattle.bk_base.specs.Genesis.{total_of}
use Rattle.bk_tx.specs.declared.declared.Declared.{Declared}
use Rattle.bk_tx.specs.Transaction.{Transaction}
use Rattle.bk_tx.specs.Access.{writes, declares}
use Rattle.bk_rules.specs.declared.account.Account.{Account}
use Rattle.bk_rules.specs.declared.receipt.Receipt.{Receipt}
use Rattle.bk_rules.specs.declared.receipt.Status.{Status}
use Rattle.bk_rules.specs.Rule.{Change, account_after}
use Rattle.bk_rules.specs.Rows.{IsLedger, account_of, account_at, outcome_of}
use Rattle.bk_rules.specs.Fold.{state_after, receipts_of, HasRoom, seq_end}
use Rattle.bk_rules.specs.Ledger.{has_slot, declares_in, is_declared_by}
use Rattle.bk_rules.specs.Part.{rows_among, ArePutBack, is_held_id, is_held, are_held, HaveSlots}
use Rattle.bk_rules.proofs.RowLemmas.{Ascend, and_left, and_right, and_both, ascend_tail, look_first}
use Rattle.bk_rules.proofs.Locality.{sees_declared_alone, changes_writable_alone, declares_written}
use Rattle.bk_rules.proofs.Kept.{ledger_kept, rule_of_rows, known_same}
use Rattle.bk_rules.proofs.Folding.{ledger_kept_by_fold, ids_kept_by_fold}
use Rattle.bk_rules.proofs.Storing.{rows_same}

-- ---- rows that agree on what is declared

-- a transaction does the same on both
module _ (v : Version) (t : Transaction) (rows others : List Row) (one : IsLedger rows) (two : IsLedger others) (agree : (id : ℕ) → declares t.declared id ≡ true → account_at rows id ≡ account_at others id) where
  pub same_receipt : (outcome_of v (Some t) rows).receipt ≡ (outcome_of v (Some t) others).receipt
  same_receipt = let same = sees_declared_alone v t (account_at rows) (account_at others) agree in ap₂ (λ (s : Status) (m : ℕ). record { status = s; moved = m }) same.statuses same.moved

  -- and accounts that were the same are the same after it
  pub same_after : (id : ℕ) → account_at rows id ≡ account_at others id → account_at (outcome_of v (Some t) rows).after id ≡ account_at (outcome_of v (Some t) others).after id
  same_after id before =
      let same = sees_declared_alone v t (account_at rows) (account_at others) agree in
      rule_of_rows v t rows id one
      ∙ ap₂ (λ (cs : List Change) (o : Option Account). account_after cs id o) same.changes before
      ∙ sym (rule_of_rows v t others id two)

-- an account that is not declared stays as it is
undeclared_stays : (v : Version) (t : Transaction) (rows : List Row) → IsLedger rows → (id : ℕ) → declares t.declared id ≡ false → account_at (outcome_of v (Some t) rows).after id ≡ account_at rows id
undeclared_stays v t rows ledger id none =
    rule_of_rows v t rows id ledger ∙ changes_writable_alone v t (account_at rows) id (account_at rows id) (by_test (writes t.declared id) refl)
  where
    by_test : (b : Bool) → writes t.declared id ≡ b → writes t.declared id ≡ false
    by_test false e = e
    by_test true e = let there = declares_written t.declared id e in absurd (cc)

-- ---- and many transactions

or_left : (a b : Bool) → a ≡ true → (a || b) ≡ true
or_left true b h = refl
or_left false b h = absurd (cc)

or_right : (a b : Bool) → b ≡ true → (a || b) ≡ true
or_right true b h = refl
or_right false b h = h

neither_left : (a b : Bool) → (a || b) ≡ false → a ≡ false
neither_left true b h = absurd (cc)
neither_left false b h = refl

neither_right : (a b : Bool) → (a || b) ≡ false → b ≡ false
neither_right true b h = absurd (cc)
neither_right false b h = h

-- the rows agree on what these transactions declare
abbrev Agree : List (Option Transaction) → List Row → List Row → Type 0
Agree txs rows others = (id : ℕ) → is_declared_by txs id ≡ true → account_at rows id ≡ account_at others id

-- the rest of them see agreeing rows
agree_later : (v : Version) (t : Option Transaction) (more : List (Option Transaction)) (rows others : List Row) → IsLedger rows → IsLedger others → Agree (t ∷ more) rows others → Agree more (outcome_of v t rows).after (outcome_of v t others).after
agree_later v None more rows others one two agree id d = agree id d
agree_later v (Some t) more rows others one two agree id d =
    same_after v t rows others one two (λ i e. agree i (or_left (declares t.declared i) (is_declared_by more i) e)) id
    (agree id (or_right (declares t.declared id) (is_declared_by more id) d))

pub fold_receipts : (v : Version) (txs : List (Option Transaction)) (rows others : List Row) → IsLedger rows → IsLedger others → Agree txs rows others → receipts_of v txs rows ≡ receipts_of v txs others
fold_receipts v [] rows others one two agree = refl
fold_receipts v (t ∷ more) rows others one two agree =
    ap₂ (λ (r : Receipt) (rs : List Receipt). r ∷ rs) (first t agree)
    (fold_receipts v more (outcome_of v t rows).after (outcome_of v t others).after (ledger_kept v t rows one) (ledger_kept v t others two) (agree_later v t more rows others one two agree))
  where
    first : (u : Option Transaction) → Agree (u ∷ more) rows others → (outcome_of v u rows).receipt ≡ (outcome_of v u others).receipt
    first None a = refl
    first (Some u) a = same_receipt v u rows others one two (λ i e. a i (or_left (declares u.declared i) (is_declared_by more i) e))

pub fold_accounts : (v : Version) (txs : List (Option Transaction)) (rows others : List Row) → IsLedger rows → IsLedger others → Agree txs rows others → (id : ℕ) → account_at rows id ≡ account_at others id → account_at (state_after v txs rows) id ≡ account_at (state_after v txs others) id
fold_accounts v [] rows others one two agree id before = before
fold_accounts v (t ∷ more) rows others one two agree id before =
    fold_accounts v more (outcome_of v t rows).after (outcome_of v t others).after (ledger_kept v t rows one) (ledger_kept v t others two) (agree_later v t more rows others one two agree) id (first t agree)
  where
    first : (u : Option Transaction) → Agree (u ∷ more) rows others → account_at (outcome_of v u rows).after id ≡ account_at (outcome_of v u others).after id
    first None a = before
    first (Some u) a = same_after v u rows others one two (λ i e. a i (or_left (declares u.declared i) (is_declared_by more i) e)) id before

pub fold_undeclared : (v : Version) (txs : List (Option Transaction)) (rows : List Row) → IsLedger rows → (id : ℕ) → is_declared_by txs id ≡ false → account_at (state_after v txs rows) id ≡ account_at rows id
fold_undeclared v [] rows ledger id none = refl
fold_undeclared v (t ∷ more) rows ledger id none =
    fold_undeclared v more (outcome_of v t rows).after (ledger_kept v t rows ledger) id (neither_right (declares_in id t) (is_declared_by more id) none)
    ∙ first t (neither_left (declares_in id t) (is_declared_by more id) none)
  where
    first : (u : Option Transaction) → declares_in id u ≡ false → account_at (outcome_of v u rows).after id ≡ account_at rows id
    first None d = refl
    first (Some u) d = undeclared_stays v u rows ledger id d

-- ---- the rows of a part

either : (b : Bool) (o : Option Account) → o ≡ cond b o o
either true o = refl
either false o = refl

pub account_at-among : (ids : List ℕ) (rows : List Row) (id : ℕ) → account_at (rows_among ids rows) id ≡ cond (has_slot ids id) (account_at rows id) None
account_at-among ids [] id = either (has_slot ids id) None
account_at-among ids (r ∷ rows) id = by_test (has_slot ids r.id) refl (eqb r.id id) refl (account_at-among ids rows id)
  where
    by_test : (h : Bool) → h ≡ has_slot ids r.id → (e : Bool) → e ≡ eqb r.id id → account_at (rows_among ids rows) id ≡ cond (has_slot ids id) (account_at rows id) None → account_at (cond h (r ∷ rows_among ids rows) (rows_among ids rows)) id ≡ cond (has_slot ids id) (account_at (r ∷ rows) id) None
    by_test true h true e rest =
        let same : r.id ≡ id = grind (arith, nat_tests) in
        let has : has_slot ids id ≡ true = ap (has_slot ids) (sym same) ∙ sym h in
        look_first r (rows_among ids rows) id
        ∙ ap (λ (b : Bool). cond b (Some (account_of r)) (account_at (rows_among ids rows) id)) (sym e)
        ∙ sym (ap (λ (b : Bool). cond b (account_at (r ∷ rows) id) None) has ∙ look_first r rows id ∙ ap (λ (b : Bool). cond b (Some (account_of r)) (account_at rows id)) (sym e))
    by_test true h false e rest =
        look_first r (rows_among ids rows) id
        ∙ ap (λ (b : Bool). cond b (Some (account_of r)) (account_at (rows_among ids rows) id)) (sym e)
        ∙ rest
        ∙ ap (λ (o : Option Account). cond (has_slot ids id) o None) (sym (look_first r rows id ∙ ap (λ (b : Bool). cond b (Some (account_of r)) (account_at rows id)) (sym e)))
    by_test false h true e rest =
        let same : r.id ≡ id = grind (arith, nat_tests) in
        let has : has_slot ids id ≡ false = ap (has_slot ids) (sym same) ∙ sym h in
        rest
        ∙ ap (λ (b : Bool). cond b (account_at rows id) None) has
        ∙ sym (ap (λ (b : Bool). cond b (account_at (r ∷ rows) id) None) has)
    by_test false h false e rest =
        rest
        ∙ ap (λ (o : Option Account). cond (has_slot ids id) o None) (sym (look_first r rows id ∙ ap (λ (b : Bool). cond b (Some (account_of r)) (account_at rows id)) (sym e)))

-- ids that are above one and ascend
abbrev Above : ℕ → List Row → Type 0
Above n rows = AllByRecursion (λ (r : Row). n < r.id) rows

above_tail : (n : ℕ) (r : Row) (rows : List Row) → n ≤ r.id → Ascend (r ∷ rows) → Above n rows
above_tail n r [] le up = tt
above_tail n r (s ∷ more) le up =
    let first = and_left (ltb r.id s.id) _ up in
    let low : r.id < s.id = grind (arith, nat_tests) in
    (omega arith, above_tail n s more (omega arith) (ascend_tail r (s ∷ more) up))

ascend_cons : (r : Row) (rows : List Row) → Above r.id rows → Ascend rows → Ascend (r ∷ rows)
ascend_cons r [] above up = refl
ascend_cons r (s ∷ more) above up = and_both (ltb r.id s.id) _ (lt-ltb r.id s.id above.0) up

-- what holds of all rows holds of some
pub all_among : (P : Row → Type 0) (ids : List ℕ) (rows : List Row) → AllByRecursion P rows → AllByRecursion P (rows_among ids rows)
all_among P ids [] all = tt
all_among P ids (r ∷ rows) all = by_test (has_slot ids r.id) (all_among P ids rows all.1)
  where
    by_test : (b : Bool) → AllByRecursion P (rows_among ids rows) → AllByRecursion P (cond b (r ∷ rows_among ids rows) (rows_among ids rows))
    by_test true rest = (all.0, rest)
    by_test false rest = rest

pub ascend-among : (ids : List ℕ) (rows : List Row) → Ascend rows → Ascend (rows_among ids rows)
ascend-among ids [] up = refl
ascend-among ids (r ∷ rows) up = by_test (has_slot ids r.id) (ascend-among ids rows (ascend_tail r rows up))
  where
    by_test : (b : Bool) → Ascend (rows_among ids rows) → Ascend (cond b (r ∷ rows_among ids rows) (rows_among ids rows))
    by_test true rest = ascend_cons r (rows_among ids rows) (all_among (λ (s : Row). r.id < s.id) ids rows (above_tail r.id r rows (omega arith) up)) rest
    by_test false rest = rest

total-among : (ids : List ℕ) (rows : List Row) → total_of (rows_among ids rows) ≤ total_of rows
total-among ids [] = omega arith
total-among ids (r ∷ rows) = by_test (has_slot ids r.id) (total-among ids rows)
  where
    by_test : (b : Bool) → total_of (rows_among ids rows) ≤ total_of rows → total_of (cond b (r ∷ rows_among ids rows) (rows_among ids rows)) ≤ total_of (r ∷ rows)
    by_test true rest = let a = sum_by-cons (λ (x : Row). x.balance) r rows in let b = sum_by-cons (λ (x : Row). x.balance) r (rows_among ids rows) in omega arith
    by_test false rest = let a = sum_by-cons (λ (x : Row). x.balance) r rows in omega arith

pub ledger-among : (ids : List ℕ) (rows : List Row) → IsLedger rows → IsLedger (rows_among ids rows)
ledger-among ids rows ledger = record {
  ascending = ascend-among ids rows ledger.ascending;
  within = (let less = total-among ids rows in let all = ledger.within in omega arith);
}

pub room-among : (v : Version) (k : ℕ) (ids : List ℕ) (rows : List Row) → HasRoom v k rows → HasRoom v k (rows_among ids rows)
room-among v k ids rows room = all_among (λ (r : Row). r.seq + k < seq_end v) ids rows room

-- ---- what is declared is held

held_among : (v : Version) (slots ids : List ℕ) (ds : List Declared) (id : ℕ) → list_all (λ (d : Declared). is_held_id v slots ids d.id) ds ≡ true → declares ds id ≡ true → is_held_id v slots ids id ≡ true
held_among v slots ids [] id all d = absurd (cc)
held_among v slots ids (x ∷ ds) id all d = by_test (eqb x.id id) refl d (held_among v slots ids ds id (and_right (is_held_id v slots ids x.id) _ all))
  where
    by_test : (b : Bool) → b ≡ eqb x.id id → (b || declares ds id) ≡ true → (declares ds id ≡ true → is_held_id v slots ids id ≡ true) → is_held_id v slots ids id ≡ true
    by_test true e h rest = let same : x.id ≡ id = grind (arith, nat_tests) in ap (is_held_id v slots ids) (sym same) ∙ and_left (is_held_id v slots ids x.id) _ all
    by_test false e h rest = rest h

held_id : (v : Version) (slots ids : List ℕ) (txs : List (Option Transaction)) (id : ℕ) → are_held v slots ids txs ≡ true → is_declared_by txs id ≡ true → is_held_id v slots ids id ≡ true
held_id v slots ids [] id all d = absurd (cc)
held_id v slots ids (None ∷ txs) id all d = held_id v slots ids txs id all d
held_id v slots ids (Some t ∷ txs) id all d = by_test (declares t.declared id) refl d (held_id v slots ids txs id (and_right (is_held v slots ids (Some t)) _ all))
  where
    by_test : (b : Bool) → declares t.declared id ≡ b → (b || is_declared_by txs id) ≡ true → (is_declared_by txs id ≡ true → is_held_id v slots ids id ≡ true) → is_held_id v slots ids id ≡ true
    by_test true e h rest = held_among v slots ids t.declared id (and_left (is_held v slots ids (Some t)) _ all) e
    by_test false e h rest = rest h

-- one that is held and not in the part has no slot, and the version is One
lacks : (v : Version) (slots ids : List ℕ) (id : ℕ) → is_held_id v slots ids id ≡ true → has_slot ids id ≡ false → (v ≡ One) × (has_slot slots id ≡ false)
lacks One slots ids id held none = (refl, by_test (has_slot slots id) refl)
  where
    by_test : (b : Bool) → has_slot slots id ≡ b → has_slot slots id ≡ false
    by_test false e = e
    by_test true e = let clash : (has_slot ids id || not (has_slot slots id)) ≡ false = ap₂ (λ (a b : Bool). a || not b) none e in absurd (cc)
lacks Two slots ids id held none = absurd (cc)

-- ---- the law

module _ (v : Version) (slots ids : List ℕ) (txs : List (Option Transaction)) (rows : List Row) (ledger : IsLedger rows) (have : HaveSlots slots rows) (held : are_held v slots ids txs ≡ true) where
  part : List Row
  part = rows_among ids rows

  agree : Agree txs (rows_among ids rows) rows
  agree id d = account_at-among ids rows id ∙ by_test (has_slot ids id) refl
    where
      by_test : (b : Bool) → has_slot ids id ≡ b → cond b (account_at rows id) None ≡ account_at rows id
      by_test true e = refl
      by_test false e = let gone = lacks v slots ids id (held_id v slots ids txs id held d) e in sym (have id gone.1)

  pub part_receipts : receipts_of v txs (rows_among ids rows) ≡ receipts_of v txs rows
  part_receipts = fold_receipts v txs (rows_among ids rows) rows (ledger-among ids rows ledger) ledger agree

  -- in version One an account that was not there is not there afterwards
  still_none : (id : ℕ) → v ≡ One → account_at rows id ≡ None → account_at (state_after v txs rows) id ≡ None
  still_none id one none =
      let known : is_some (account_at (state_after One txs rows) id) ≡ is_some (account_at rows id) = known_same (state_after One txs rows) rows (ids_kept_by_fold txs rows ledger) id in
      none_of (account_at (state_after v txs rows) id) (ap (λ (w : Version). is_some (account_at (state_after w txs rows) id)) one ∙ known ∙ ap (λ (o : Option Account). is_some o) none)
    where
      none_of : (o : Option Account) → is_some o ≡ false → o ≡ None
      none_of None e = refl
      none_of (Some a) e = absurd (cc)

  module _ (after : List Row) (put : ArePutBack ids (state_after v txs (rows_among ids rows)) rows after) where
    found : (id : ℕ) → account_at after id ≡ account_at (state_after v txs rows) id
    found id = put.accounts id ∙ by_test (has_slot ids id) refl
      where
        outside : has_slot ids id ≡ false → (d : Bool) → is_declared_by txs id ≡ d → account_at rows id ≡ account_at (state_after v txs rows) id
        outside e false d = sym (fold_undeclared v txs rows ledger id d)
        outside e true d =
            let gone = lacks v slots ids id (held_id v slots ids txs id held d) e in
            have id gone.1 ∙ sym (still_none id gone.0 (have id gone.1))

        by_test : (b : Bool) → has_slot ids id ≡ b → cond b (account_at (state_after v txs (rows_among ids rows)) id) (account_at rows id) ≡ account_at (state_after v txs rows) id
        by_test true e = fold_accounts v txs (rows_among ids rows) rows (ledger-among ids rows ledger) ledger agree id (account_at-among ids rows id ∙ ap (λ (b : Bool). cond b (account_at rows id) None) e)
        by_test false e = outside e (is_declared_by txs id) refl

    pub part_state : after ≡ state_after v txs rows
    part_state = let kept = ledger_kept_by_fold v txs rows ledger in rows_same after (state_after v txs rows) put.ascending kept.ascending found
