-- The effect on a view, stored, is the rule on the rows.
use Rattle.std.proofs.Common.{◌≡◌, ℕ, suc, ◌<◌, Bool, true, false, cond, ◌&&◌, ◌||◌, eqb, ltb, List, [], ◌∷◌, Option, Some, None, refl, sym, ap, ap₂, ◌∙◌, inl, inr, ◌⊎◌, arith}
use Rattle.std.proofs.lemmas.Bool.Decides.{nat_tests}
use Rattle.bk_base.specs.declared.genesis.Row.{Row}
use Rattle.bk_tx.specs.declared.declared.Declared.{Declared}
use Rattle.bk_tx.specs.Transaction.{Transaction}
use Rattle.bk_tx.specs.Access.{writes, declares}
use Rattle.bk_rules.specs.declared.account.Account.{Account}
use Rattle.bk_base.specs.declared.version.Version.{Version}
use Rattle.bk_rules.specs.declared.receipt.Status.{Status}
use Rattle.bk_rules.specs.declared.rule.Effect.{Effect}
use Rattle.bk_rules.specs.Rule.{Change, status_of, changes_of, account_after}
use Rattle.bk_rules.specs.Rows.{IsLedger, account_of, row_of, account_at, outcome_of}
use Rattle.bk_rules.specs.Laws.{SeesSame}
use Rattle.bk_rules.specs.View.{nth, nth_id, seen, is_writable, IsEffect}
use Rattle.bk_rules.specs.private.Roles.{IsAt}
use Rattle.bk_rules.specs.Storing.{IsViewOf, AreStored, AreOutcome}
use Rattle.bk_rules.proofs.RowLemmas.{Ascend, and_left, absent_below, ascend_tail, look_first}
use Rattle.bk_rules.proofs.Locality.{sees_declared_alone, changes_writable_alone}
use Rattle.bk_rules.proofs.Kept.{ledger_kept, rule_of_rows}
use Rattle.bk_rules.proofs.Places.{Rise, seen_at}

-- ---- rows by their accounts

-- the id of the first is not further on
absent_head : (r : Row) (rows : List Row) → Ascend (r ∷ rows) → account_at rows r.id ≡ None
absent_head r [] up = refl
absent_head r (s ∷ more) up = let first = and_left (ltb r.id s.id) _ up in let low : r.id < s.id = grind (arith, nat_tests) in absent_below r.id s more (ascend_tail r (s ∷ more) up) low

found_first : (r : Row) (rows : List Row) → account_at (r ∷ rows) r.id ≡ Some (account_of r)
found_first r rows = let same : eqb r.id r.id ≡ true = grind (arith, nat_tests) in look_first r rows r.id ∙ ap (λ (b : Bool). cond b (Some (account_of r)) (account_at rows r.id)) same

-- below, the same or above
order : (m n : ℕ) → (m < n) ⊎ ((n < m) ⊎ (m ≡ n))
order m n = by_tests (ltb m n) (ltb n m) refl refl
  where
    by_tests : (a b : Bool) → a ≡ ltb m n → b ≡ ltb n m → (m < n) ⊎ ((n < m) ⊎ (m ≡ n))
    by_tests true b ea eb = inl (grind (arith, nat_tests))
    by_tests false true ea eb = inr (inl (grind (arith, nat_tests)))
    by_tests false false ea eb = inr (inr (grind (arith, nat_tests)))

-- rows by ascending id are known by their accounts
pub rows_same : (xs ys : List Row) → Ascend xs → Ascend ys → ((id : ℕ) → account_at xs id ≡ account_at ys id) → xs ≡ ys
rows_same [] [] ux uy same = refl
rows_same [] (y ∷ ys) ux uy same = let there = same y.id ∙ found_first y ys in absurd (cc)
rows_same (x ∷ xs) [] ux uy same = let there = sym (same x.id) ∙ found_first x xs in absurd (cc)
rows_same (x ∷ xs) (y ∷ ys) ux uy same = elim (order x.id y.id) [
  | inl low ↦ (let there = sym (found_first x xs) ∙ same x.id ∙ absent_below x.id y ys uy low in absurd (cc))
  | inr other ↦ elim other [
    | inl high ↦ (let there = sym (found_first y ys) ∙ sym (same y.id) ∙ absent_below y.id x xs ux high in absurd (cc))
    | inr equal ↦
        (let accounts : Some (account_of x) ≡ Some (account_of y) = sym (found_first x xs) ∙ same x.id ∙ ap (account_at (y ∷ ys)) equal ∙ found_first y ys in
        let inside : account_of x ≡ account_of y = cc in
        let first : x ≡ y = ap₂ row_of equal inside in
        ap₂ (λ (r : Row) (rows : List Row). r ∷ rows) first (rows_same xs ys (ascend_tail x xs ux) (ascend_tail y ys uy) (tails equal)))
  ]
]
  where
    tails : x.id ≡ y.id → (id : ℕ) → account_at xs id ≡ account_at ys id
    tails equal id = by_test (eqb x.id id) refl
      where
        by_test : (b : Bool) → b ≡ eqb x.id id → account_at xs id ≡ account_at ys id
        by_test true e = let at : x.id ≡ id = grind (arith, nat_tests) in ap (account_at xs) (sym at) ∙ absent_head x xs ux ∙ sym (absent_head y ys uy) ∙ ap (account_at ys) (sym equal ∙ at)
        by_test false e =
            let f : eqb y.id id ≡ false = ap (λ (n : ℕ). eqb n id) (sym equal) ∙ sym e in
            ap (λ (b : Bool). cond b (Some (account_of x)) (account_at xs id)) e ∙ sym (look_first x xs id) ∙ same id ∙ look_first y ys id ∙ ap (λ (b : Bool). cond b (Some (account_of y)) (account_at ys id)) f

-- ---- where a declared id is

pub record Stands (ds : List Declared) (id : ℕ) (test : ℕ → Bool) : Type 0 where
  pub place : ℕ
  pub at : IsAt ds id place
  pub passes : test place ≡ true

stands_next : (d : Declared) (ds : List Declared) (id : ℕ) (test : ℕ → Bool) → Stands ds id (λ k. test (suc k)) → Stands (d ∷ ds) id test
stands_next d ds id test s = let at = s.at in record { place = suc s.place; at = record { in_range = omega (arith, at.in_range); has_id = at.has_id }; passes = s.passes }

pub writable_stands : (ds : List Declared) (id : ℕ) → writes ds id ≡ true → Stands ds id (λ k. is_writable ds k)
writable_stands [] id w = absurd (cc)
writable_stands (d ∷ ds) id w = by_tests d.writable (eqb d.id id) refl refl w (writable_stands ds id)
  where
    by_tests : (a b : Bool) → a ≡ d.writable → b ≡ eqb d.id id → ((a && b) || writes ds id) ≡ true → (writes ds id ≡ true → Stands ds id (λ k. is_writable ds k)) → Stands (d ∷ ds) id (λ k. is_writable (d ∷ ds) k)
    by_tests true true ea eb h rest = record { place = 0; at = record { in_range = omega arith; has_id = grind (arith, nat_tests) }; passes = sym ea }
    by_tests true false ea eb h rest = stands_next d ds id (λ k. is_writable (d ∷ ds) k) (rest h)
    by_tests false b ea eb h rest = stands_next d ds id (λ k. is_writable (d ∷ ds) k) (rest h)

pub declared_stands : (ds : List Declared) (id : ℕ) → declares ds id ≡ true → Stands ds id (λ k. true)
declared_stands [] id w = absurd (cc)
declared_stands (d ∷ ds) id w = by_test (eqb d.id id) refl w (declared_stands ds id)
  where
    by_test : (b : Bool) → b ≡ eqb d.id id → (b || declares ds id) ≡ true → (declares ds id ≡ true → Stands ds id (λ k. true)) → Stands (d ∷ ds) id (λ k. true)
    by_test true eb h rest = record { place = 0; at = record { in_range = omega arith; has_id = grind (arith, nat_tests) }; passes = refl }
    by_test false eb h rest = stands_next d ds id (λ k. true) (rest h)

-- ---- the rule on the rows

module _ (v : Version) (t : Transaction) (view : List (Option Account)) (e : Effect) (rows after : List Row) (up : Rise t.declared) (ledger : IsLedger rows) (is_view : IsViewOf t.declared view rows) (effect : IsEffect v t view e) (stored : AreStored t.declared e.writes rows after) where
  -- the view agrees with the rows on what is declared
  agree : (id : ℕ) → declares t.declared id ≡ true → seen t.declared view id ≡ account_at rows id
  agree id d =
      let s = declared_stands t.declared id d in
      let at = s.at in
      seen_at t.declared up view id s.place s.at ∙ is_view s.place at.in_range ∙ ap (account_at rows) at.has_id

  sees : SeesSame v t (seen t.declared view) (account_at rows)
  sees = sees_declared_alone v t (seen t.declared view) (account_at rows) agree

  -- what is found afterwards
  found : (id : ℕ) → account_at after id ≡ account_after (changes_of (status_of v (account_at rows) t) (account_at rows) t) id (account_at rows id)
  found id = by_test (writes t.declared id) refl
    where
      by_test : (b : Bool) → writes t.declared id ≡ b → account_at after id ≡ account_after (changes_of (status_of v (account_at rows) t) (account_at rows) t) id (account_at rows id)
      by_test true w =
          let s = writable_stands t.declared id w in
          let at = s.at in
          let same = sees in
          let settles = effect.settles in
          ap (account_at after) (sym at.has_id)
          ∙ stored.written_there s.place at.in_range s.passes
          ∙ effect.writes s.place
          ∙ ap (λ (b : Bool). cond b (nth effect.after s.place) None) s.passes
          ∙ settles.after s.place at.in_range
          ∙ ap₂ (λ (cs : List Change) (o : Option Account). account_after cs (nth_id t.declared s.place) o) same.changes (is_view s.place at.in_range)
          ∙ ap (λ (n : ℕ). account_after (changes_of (status_of v (account_at rows) t) (account_at rows) t) n (account_at rows n)) at.has_id
      by_test false w = stored.kept_else id w ∙ sym (changes_writable_alone v t (account_at rows) id (account_at rows id) w)

  outcome : AreOutcome v t rows e after
  outcome =
      let same = sees in
      let settles = effect.settles in
      let kept = ledger_kept v (Some t) rows ledger in
      record {
        receipt = ap₂ (λ (s : Status) (m : ℕ). record { status = s; moved = m }) (settles.status ∙ same.statuses) (settles.moved ∙ same.moved);
        after_is = rows_same after (outcome_of v (Some t) rows).after stored.ascending kept.ascending (λ id. found id ∙ sym (rule_of_rows v t rows id ledger));
      }

-- the effect on the view, stored, is the rule on the rows
pub effect_is_outcome : (v : Version) (t : Transaction) (view : List (Option Account)) (e : Effect) (rows after : List Row) → Rise t.declared → IsLedger rows → IsViewOf t.declared view rows → IsEffect v t view e → AreStored t.declared e.writes rows after → AreOutcome v t rows e after
effect_is_outcome = outcome
