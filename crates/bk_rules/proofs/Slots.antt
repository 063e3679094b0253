-- Numbers beside ids, and the rows that they show.
use Rattle.std.proofs.Common.{◌≡◌, ℕ, zero, suc, ◌+◌, ◌<◌, ◌≤◌, Bool, true, false, cond, not, eqb, ltb, List, [], ◌∷◌, length, Option, Some, None, IsTrue, is_some, refl, sym, subst, ap, ap₂, ◌∙◌, arith}
use Rattle.std.specs.List.{sum_by}
use Rattle.std.proofs.lemmas.Bool.Decides.{nat_tests}
use Rattle.std.proofs.lemmas.List.{length-map}
use Rattle.std.proofs.lemmas.List.Sums.{sum_by-cons}
use Rattle.bk_base.specs.declared.genesis.Row.{Row}
use Rattle.bk_base.specs.declared.version.Version.{Version}
use Rattle.bk_base.specs.declared.version.Version.TheVariants.{One, Two}
use Rattle.bk_base.specs.Numbers.{is_ascending}
use Rattle.bk_base.specs.Genesis.{ids_of, total_of}
use Rattle.bk_rules.specs.declared.account.Account.{Account}
use Rattle.bk_rules.specs.Rows.{IsLedger, account_of, row_of, account_at}
use Rattle.bk_rules.specs.Fold.{seq_end, HasRoom}
use Rattle.bk_rules.specs.Ledger.{numbers_of, shown_by, row_before, rows_shown}
use Rattle.bk_rules.specs.private.Slots.{index_or_len, shown_at, IsOwn, AreOwn, AreSlots, numbers_in}
use Rattle.bk_rules.proofs.Finding.{Rises, rises_tail}
use Rattle.bk_rules.proofs.RowLemmas.{Ascend, and_left, and_right, and_both, look_first}

-- ---- what is found among the rows

-- an id below all slots is not among their rows
absent_under : (v : Version) (n : ℕ) (ids : List ℕ) (numbers : List Account) → Rises (n ∷ ids) → (id : ℕ) → id ≤ n → account_at (rows_shown v ids numbers) id ≡ None
absent_under v n [] numbers up id low = refl
absent_under v n (i ∷ ids) [] up id low = refl
absent_under v n (i ∷ ids) (a ∷ numbers) up id low = by_account (shown_by v a) (absent_under v i ids numbers (and_right (ltb n i) _ up) id (let b : n < i = above in omega arith))
  where
    above : n < i
    above = let first : ltb n i ≡ true = and_left (ltb n i) _ up in grind (arith, nat_tests)

    by_account : (o : Option Account) → account_at (rows_shown v ids numbers) id ≡ None → account_at (row_before i o (rows_shown v ids numbers)) id ≡ None
    by_account None rest = rest
    by_account (Some b) rest = let apart : eqb i id ≡ false = (let c = above in grind (arith, nat_tests)) in look_first (row_of i b) (rows_shown v ids numbers) id ∙ ap (λ (t : Bool). cond t (Some b) (account_at (rows_shown v ids numbers) id)) apart ∙ rest

-- what is found is what is at the index of the id
pub account_at-shown : (v : Version) (ids : List ℕ) (numbers : List Account) → Rises ids → length numbers ≡ length ids → (id : ℕ) → account_at (rows_shown v ids numbers) id ≡ shown_at v numbers (index_or_len ids id)
account_at-shown v [] [] up same id = refl
account_at-shown v [] (a ∷ numbers) up same id = absurd (omega arith)
account_at-shown v (i ∷ ids) [] up same id = absurd (omega arith)
account_at-shown v (i ∷ ids) (a ∷ numbers) up same id = by_tests (shown_by v a) refl (eqb i id) refl (account_at-shown v ids numbers (rises_tail i ids up) (omega arith) id)
  where
    later : shown_at v numbers (index_or_len ids id) ≡ shown_at v (a ∷ numbers) (1 + index_or_len ids id)
    later = let e : suc (index_or_len ids id) ≡ 1 + index_or_len ids id = omega arith in ap (shown_at v (a ∷ numbers)) e

    by_tests : (o : Option Account) → o ≡ shown_by v a → (b : Bool) → b ≡ eqb i id → account_at (rows_shown v ids numbers) id ≡ shown_at v numbers (index_or_len ids id) → account_at (row_before i o (rows_shown v ids numbers)) id ≡ shown_at v (a ∷ numbers) (cond (not b) (1 + index_or_len ids id) 0)
    by_tests None s true e rest = (let there : i ≡ id = grind (arith, nat_tests) in absent_under v i ids numbers up id (omega arith)) ∙ s
    by_tests None s false e rest = rest ∙ later
    by_tests (Some x) s true e rest = look_first (row_of i x) (rows_shown v ids numbers) id ∙ ap (λ (b : Bool). cond b (Some x) (account_at (rows_shown v ids numbers) id)) (sym e) ∙ s
    by_tests (Some x) s false e rest = look_first (row_of i x) (rows_shown v ids numbers) id ∙ ap (λ (b : Bool). cond b (Some x) (account_at (rows_shown v ids numbers) id)) (sym e) ∙ rest ∙ later

-- their ids ascend
above_under : (v : Version) (n m : ℕ) (ids : List ℕ) (numbers : List Account) → n ≤ m → Rises (m ∷ ids) → IsTrue (is_ascending (n ∷ ids_of (rows_shown v ids numbers)))
above_under v n m [] numbers le up = refl
above_under v n m (i ∷ ids) [] le up = refl
above_under v n m (i ∷ ids) (a ∷ numbers) le up = by_account (shown_by v a) (above_under v n i ids numbers (let b : m < i = below in omega arith) (and_right (ltb m i) _ up)) (above_under v i i ids numbers (omega arith) (and_right (ltb m i) _ up))
  where
    below : m < i
    below = let first : ltb m i ≡ true = and_left (ltb m i) _ up in grind (arith, nat_tests)

    by_account : (o : Option Account) → IsTrue (is_ascending (n ∷ ids_of (rows_shown v ids numbers))) → IsTrue (is_ascending (i ∷ ids_of (rows_shown v ids numbers))) → IsTrue (is_ascending (n ∷ ids_of (row_before i o (rows_shown v ids numbers))))
    by_account None rest here = rest
    by_account (Some x) rest here = let b = below in and_both (ltb n i) _ (let lt : n < i = omega arith in grind (arith, nat_tests)) here

pub ascend-shown : (v : Version) (ids : List ℕ) (numbers : List Account) → Rises ids → Ascend (rows_shown v ids numbers)
ascend-shown v [] numbers up = refl
ascend-shown v (i ∷ ids) [] up = refl
ascend-shown v (i ∷ ids) (a ∷ numbers) up = by_account (shown_by v a) (ascend-shown v ids numbers (rises_tail i ids up)) (above_under v i i ids numbers (omega arith) up)
  where
    by_account : (o : Option Account) → Ascend (rows_shown v ids numbers) → IsTrue (is_ascending (i ∷ ids_of (rows_shown v ids numbers))) → Ascend (row_before i o (rows_shown v ids numbers))
    by_account None rest here = rest
    by_account (Some x) rest here = here

-- ---- numbers and the account that they show

-- an account whose sequence number is in range is shown again by its numbers
pub shown_again : (v : Version) (a : Account) → a.seq < seq_end v → shown_by v a ≡ Some a
shown_again One a low = refl
shown_again Two a low = let apart : eqb a.seq 18446744073709551615 ≡ false = grind (arith, nat_tests) in ap (λ (b : Bool). cond b None (Some a)) apart

pub own_of_some : (v : Version) (a : Account) → a.seq < seq_end v → IsOwn v a
own_of_some v a low = ap numbers_of (shown_again v a low)

-- so are the numbers of each account that has a place: in version One it is there
pub own_of : (v : Version) (o : Option Account) → ((a : Account) → o ≡ Some a → a.seq < seq_end v) → IsOwn v (numbers_of o)
own_of One None low = refl
own_of Two None low = refl
own_of v (Some a) low = own_of_some v a (low a refl)

pub shown_of : (v : Version) (o : Option Account) → ((a : Account) → o ≡ Some a → a.seq < seq_end v) → (v ≡ One → is_some o ≡ true) → shown_by v (numbers_of o) ≡ o
shown_of One None low there = absurd (absent_is (there refl))
  where
    absent_is : false ≡ true → ⊥
    absent_is e = cc
shown_of Two None low there = refl
shown_of v (Some a) low there = shown_again v a (low a refl)

-- ---- the rows of a ledger, each with a slot

pub shows_rows : (v : Version) (rows : List Row) → HasRoom v 0 rows → rows_shown v (ids_of rows) (numbers_in rows) ≡ rows
shows_rows v [] room = refl
shows_rows v (r ∷ rows) room =
    let first : shown_by v (account_of r) ≡ Some (account_of r) = shown_again v (account_of r) (let low = room.0 in omega arith) in
    ap₂ (λ (o : Option Account) (more : List Row). row_before r.id o more) first (shows_rows v rows room.1)

own_rows : (v : Version) (rows : List Row) → HasRoom v 0 rows → AreOwn v (numbers_in rows)
own_rows v [] room k a e = absurd (cc)
own_rows v (r ∷ rows) room zero a e =
    let is : account_of r ≡ a = cc in
    subst (λ (x : Account). IsOwn v x) is (own_of_some v (account_of r) (let low = room.0 in omega arith))
own_rows v (r ∷ rows) room (suc k) a e = own_rows v rows room.1 k a e

pub slots_of_rows : (v : Version) (rows : List Row) → IsLedger rows → HasRoom v 0 rows → AreSlots v (ids_of rows) (numbers_in rows)
slots_of_rows v rows ledger room = record {
  same = omega (arith, length-map {A = Row} {B = Account}, length-map {A = Row} {B = ℕ});
  ascending = ledger.ascending;
  ledger = subst (λ (more : List Row). IsLedger more) (sym (shows_rows v rows room)) ledger;
  own = own_rows v rows room;
}

-- ---- the total

balance_shown : (v : Version) (a : Account) → IsOwn v a → (i : ℕ) (rows : List Row) → total_of (row_before i (shown_by v a) rows) ≡ a.balance + total_of rows
balance_shown v a own i rows = by_account (shown_by v a) own
  where
    by_account : (o : Option Account) → numbers_of o ≡ a → total_of (row_before i o rows) ≡ a.balance + total_of rows
    by_account None e = let none : 0 ≡ a.balance = ap (λ (x : Account). x.balance) e in omega arith
    by_account (Some x) e = let same : x.balance ≡ a.balance = ap (λ (y : Account). y.balance) e in let all = sum_by-cons (λ (r : Row). r.balance) (row_of i x) rows in omega arith

-- the balances add up to those of the rows
pub total_shown : (v : Version) (ids : List ℕ) (numbers : List Account) → length numbers ≡ length ids → AreOwn v numbers → sum_by (λ (a : Account). a.balance) numbers ≡ total_of (rows_shown v ids numbers)
total_shown v [] [] same own = refl
total_shown v [] (a ∷ numbers) same own = absurd (omega arith)
total_shown v (i ∷ ids) [] same own = absurd (omega arith)
total_shown v (i ∷ ids) (a ∷ numbers) same own =
    let rest = total_shown v ids numbers (omega arith) (λ k x e. own (suc k) x e) in
    let here = balance_shown v a (own 0 a refl) i (rows_shown v ids numbers) in
    let all = sum_by-cons (λ (x : Account). x.balance) a numbers in
    omega arith
