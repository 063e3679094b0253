-- Numbers in the order of the ids, read as a whole and set as a whole.
use Rattle.std.proofs.Common.{◌≡◌, ℕ, zero, suc, ◌+◌, ◌*◌, ◌^◌, ◌<◌, ◌≤◌, Bool, IsTrue, true, false, cond, eqb, List, [], ◌∷◌, ◌++◌, length, map, take, get_or, set, get_or-set_same, get_or-set_other, Option, Some, None, option_map, refl, sym, subst, ap, ap₂, ◌∙◌, inl, inr, arith}
use mathlib.Core.Logic.{dite}
use native.Mathlib.Decide.{ℕ_discrete}
use Rattle.std.specs.Prelude.{slice_get, option_and_then}
use Rattle.std.proofs.lemmas.Bool.{cases_lt}
use Rattle.std.proofs.lemmas.List.{length-map, ext_get_or, get_or-map, take_more, take_more_set, length-take-le}
use Rattle.std.proofs.lemmas.Option.{slice_get_past, slice_get-get_or, slice_get-map}
use Rattle.bk_base.specs.declared.genesis.Row.{Row}
use Rattle.bk_base.specs.declared.version.Version.{Version}
use Rattle.bk_base.specs.declared.version.Version.TheVariants.{One, Two}
use Rattle.bk_base.specs.Genesis.{total_of}
use Rattle.bk_base.specs.Numbers.{is_ascending}
use Rattle.bk_rules.specs.declared.account.Account.{Account}
use Rattle.bk_rules.specs.Rows.{IsLedger, account_at}
use Rattle.bk_rules.specs.Ledger.{ledger_of, numbers_of, shown_by, row_before, rows_shown, in_pairs, slot_numbers}
use Rattle.bk_rules.specs.private.Slots.{shown_at, shown, IsOwn, AreOwn, AreSlots, tidied}
use Rattle.bk_rules.proofs.Finding.{first_is}
use Rattle.bk_rules.proofs.Slots.{account_at-shown, ascend-shown}

-- ---- rows, one after another

before-append : (id : ℕ) (o : Option Account) (rows more : List Row) → row_before id o (rows ++ more) ≡ row_before id o rows ++ more
before-append id None rows more = refl
before-append id (Some a) rows more = refl

pub rows_push : (v : Version) (ids : List ℕ) (numbers : List Account) (id : ℕ) (a : Account) → length numbers ≡ length ids → rows_shown v (ids ++ id ∷ []) (numbers ++ a ∷ []) ≡ rows_shown v ids numbers ++ row_before id (shown_by v a) []
rows_push v [] [] id a same = refl
rows_push v [] (b ∷ numbers) id a same = absurd (omega arith)
rows_push v (i ∷ ids) [] id a same = absurd (omega arith)
rows_push v (i ∷ ids) (b ∷ numbers) id a same = ap (row_before i (shown_by v b)) (rows_push v ids numbers id a (omega arith)) ∙ before-append i (shown_by v b) (rows_shown v ids numbers) (row_before id (shown_by v a) [])

pub rows_more : (v : Version) (ids : List ℕ) (numbers : List Account) (k : ℕ) (d : Account) → k < length ids → length numbers ≡ length ids → rows_shown v (take (k + 1) ids) (take (k + 1) numbers) ≡ rows_shown v (take k ids) (take k numbers) ++ row_before (get_or ids k 0) (shown_by v (get_or numbers k d)) []
rows_more v ids numbers k d low same =
    ap₂ (rows_shown v) (take_more ids k 0 low) (take_more numbers k d (omega arith))
    ∙ rows_push v (take k ids) (take k numbers) (get_or ids k 0) (get_or numbers k d) (length-take-le k numbers (omega arith) ∙ sym (length-take-le k ids (omega arith)))

-- ---- the numbers of each slot

same_by_get : {A : Type 0} (xs ys : List A) → ((k : ℕ) → slice_get xs k ≡ slice_get ys k) → xs ≡ ys
same_by_get [] [] same = refl
same_by_get [] (y ∷ ys) same = let clash = same 0 in absurd (cc)
same_by_get (x ∷ xs) [] same = let clash = same 0 in absurd (cc)
same_by_get {A = A} (x ∷ xs) (y ∷ ys) same =
    let first : x ≡ y = (let here = same 0 in cc) in
    ap₂ (λ (a : A) (more : List A). a ∷ more) first (same_by_get xs ys (λ k. same (suc k)))

pub numbers_shown : (v : Version) (ids : List ℕ) (numbers : List Account) → AreSlots v ids numbers → numbers ≡ slot_numbers (shown v ids numbers)
numbers_shown v ids numbers are = same_by_get numbers (slot_numbers (shown v ids numbers)) at
  where
    blank : Account
    blank = record { balance = 0; seq = 0 }

    at : (k : ℕ) → slice_get numbers k ≡ slice_get (map (λ (id : ℕ). numbers_of (account_at (rows_shown v ids numbers) id)) ids) k
    at k = elim (cases_lt k (length ids)) [
      | inl low ↦
          (let same = are.same in
          let there : slice_get numbers k ≡ Some (get_or numbers k blank) = slice_get-get_or numbers k blank (omega arith) in
          let id : ℕ = get_or ids k 0 in
          let shows : account_at (rows_shown v ids numbers) id ≡ shown_by v (get_or numbers k blank) =
          account_at-shown v ids numbers are.ascending are.same id
          ∙ ap (shown_at v numbers) (first_is ids are.ascending id k low refl)
          ∙ ap (option_and_then (shown_by v)) there in
          there
          ∙ ap (λ (a : Account). Some a) (sym (ap numbers_of shows ∙ are.own k (get_or numbers k blank) there))
          ∙ sym (slice_get-map (λ (i : ℕ). numbers_of (account_at (rows_shown v ids numbers) i)) ids k ∙ ap (option_map (λ (i : ℕ). numbers_of (account_at (rows_shown v ids numbers) i))) (slice_get-get_or ids k 0 low)))
      | inr past ↦
          (let same = are.same in
          slice_get_past numbers k (omega arith)
          ∙ sym (slice_get-map (λ (i : ℕ). numbers_of (account_at (rows_shown v ids numbers) i)) ids k ∙ ap (option_map (λ (i : ℕ). numbers_of (account_at (rows_shown v ids numbers) i))) (slice_get_past ids k past)))
    ]

-- ---- numbers that are set

-- numbers and what they show, once more
pub shown_tidied : (v : Version) (a : Account) → shown_by v (tidied v a) ≡ shown_by v a
shown_tidied One a = refl
shown_tidied Two a = by_test (eqb a.seq 18446744073709551615) refl
  where
    by_test : (b : Bool) → b ≡ eqb a.seq 18446744073709551615 → shown_by Two (numbers_of (cond b None (Some a))) ≡ cond b None (Some a)
    by_test true e = refl
    by_test false e = ap (λ (b : Bool). cond b None (Some a)) (sym e)

pub rows_tidied : (v : Version) (ids : List ℕ) (numbers : List Account) → rows_shown v ids (map (tidied v) numbers) ≡ rows_shown v ids numbers
rows_tidied v [] numbers = refl
rows_tidied v (i ∷ ids) [] = refl
rows_tidied v (i ∷ ids) (a ∷ numbers) = ap₂ (row_before i) (shown_tidied v a) (rows_tidied v ids numbers)

pub own_tidied : (v : Version) (numbers : List Account) → AreOwn v (map (tidied v) numbers)
own_tidied v [] k a e = absurd (cc)
own_tidied v (b ∷ numbers) zero a e =
    let is : tidied v b ≡ a = cc in
    subst (λ (x : Account). IsOwn v x) is (ap numbers_of (shown_tidied v b))
own_tidied v (b ∷ numbers) (suc k) a e = own_tidied v numbers k a e

-- ---- words two by two

pub length-pairs : (n : ℕ) (words : List ℕ) → length words ≡ 2 * n → length (in_pairs words) ≡ n
length-pairs zero [] e = refl
length-pairs zero (b ∷ []) e = absurd (omega arith)
length-pairs zero (b ∷ s ∷ words) e = absurd (omega arith)
length-pairs (suc n) [] e = absurd (omega arith)
length-pairs (suc n) (b ∷ []) e = absurd (omega arith)
length-pairs (suc n) (b ∷ s ∷ words) e = ap suc (length-pairs n words (omega arith))

pub pair_at : (words : List ℕ) (k : ℕ) (d : Account) → 2 * k + 1 < length words → get_or (in_pairs words) k d ≡ record { balance = get_or words (2 * k) 0; seq = get_or words (2 * k + 1) 0 }
pair_at [] k d low = absurd (omega arith)
pair_at (b ∷ []) k d low = absurd (omega arith)
pair_at (b ∷ s ∷ words) zero d low = refl
pair_at (b ∷ s ∷ words) (suc k) d low =
    let first : suc (suc (2 * k)) ≡ 2 * suc k = omega arith in
    let second : suc (suc (2 * k + 1)) ≡ 2 * suc k + 1 = omega arith in
    pair_at words k d (omega arith) ∙ ap₂ (λ (i j : ℕ). record { balance = get_or (b ∷ s ∷ words) i 0; seq = get_or (b ∷ s ∷ words) j 0 }) first second

-- one more is set
pub set_more : (v : Version) (numbers : List Account) (words : List ℕ) (k : ℕ) (x : Account) → k < length numbers → length words ≡ 2 * length numbers → take k numbers ≡ map (tidied v) (take k (in_pairs words)) → x ≡ tidied v (record { balance = get_or words (2 * k) 0; seq = get_or words (2 * k + 1) 0 })
    → take (k + 1) (set numbers k x) ≡ map (tidied v) (take (k + 1) (in_pairs words))
set_more v numbers words k x low wide so_far is =
    let blank : Account = record { balance = 0; seq = 0 } in
    let pairs = length-pairs (length numbers) words wide in
    let here : get_or (in_pairs words) k blank ≡ record { balance = get_or words (2 * k) 0; seq = get_or words (2 * k + 1) 0 } = pair_at words k blank (omega arith) in
    take_more_set numbers k x low
    ∙ ap₂ (λ (xs : List Account) (a : Account). xs ++ a ∷ []) so_far (is ∙ ap (tidied v) (sym here))
    ∙ sym (map_push (tidied v) (take k (in_pairs words)) (get_or (in_pairs words) k blank))
    ∙ ap (map (tidied v)) (sym (take_more (in_pairs words) k blank (omega arith)))
  where
    map_push : (f : Account → Account) (xs : List Account) (a : Account) → map f (xs ++ a ∷ []) ≡ map f xs ++ f a ∷ []
    map_push f [] a = refl
    map_push f (x ∷ xs) a = ap (λ (more : List Account). f x ∷ more) (map_push f xs a)

-- a state of numbers that were set
pub slots_set : (v : Version) (ids : List ℕ) (numbers : List Account) → IsTrue (is_ascending ids) → (pairs : List Account) → length pairs ≡ length ids → numbers ≡ map (tidied v) pairs → total_of (rows_shown v ids pairs) < 2 ^ 63 → AreSlots v ids numbers
slots_set v ids numbers ascending pairs same is within =
    subst (λ (xs : List Account). AreSlots v ids xs) (sym is) (record {
      same = length-map pairs (tidied v) ∙ same;
      ascending = ascending;
      ledger = subst (λ (rows : List Row). IsLedger rows) (sym (rows_tidied v ids pairs)) (record { ascending = ascend-shown v ids pairs ascending; within = within });
      own = own_tidied v pairs;
    })

pub shows_set : (v : Version) (ids : List ℕ) (numbers pairs : List Account) → numbers ≡ map (tidied v) pairs → shown v ids numbers ≡ ledger_of v ids (rows_shown v ids pairs)
shows_set v ids numbers pairs is = ap (ledger_of v ids) (ap (rows_shown v ids) is ∙ rows_tidied v ids pairs)

-- ---- numbers that are tidied where they lie

-- the numbers of nobody, read past the end
abbrev pub blank : Account
blank = record { balance = 0; seq = 0 }

pub tidied_one : (numbers : List Account) → numbers ≡ map (tidied One) numbers
tidied_one [] = refl
tidied_one (a ∷ numbers) = ap (λ (more : List Account). a ∷ more) (tidied_one numbers)

pub tidied_more : (numbers old : List Account) (k : ℕ) (x : Account) → k < length numbers → x ≡ tidied Two (get_or old k blank) → ((i : ℕ) → i < k → get_or numbers i blank ≡ tidied Two (get_or old i blank))
    → (i : ℕ) → i < k + 1 → get_or (set numbers k x) i blank ≡ tidied Two (get_or old i blank)
tidied_more numbers old k x low is before i l = dite (ℕ_discrete i k)
    (λ same. subst (λ (n : ℕ). get_or (set numbers k x) n blank ≡ tidied Two (get_or old n blank)) (sym same) (get_or-set_same numbers k x blank low ∙ is))
    (λ other. get_or-set_other numbers k i x blank other ∙ before i (omega arith))

pub tidied_rest : (numbers old : List Account) (k : ℕ) (x : Account) → ((i : ℕ) → k ≤ i → get_or numbers i blank ≡ get_or old i blank) → (i : ℕ) → k + 1 ≤ i → get_or (set numbers k x) i blank ≡ get_or old i blank
tidied_rest numbers old k x after i l = get_or-set_other numbers k i x blank (λ e. absurd (omega arith)) ∙ after i (omega arith)

pub tidied_all : (numbers old : List Account) → length numbers ≡ length old → ((i : ℕ) → i < length old → get_or numbers i blank ≡ tidied Two (get_or old i blank)) → numbers ≡ map (tidied Two) old
tidied_all numbers old long each = ext_get_or blank numbers (map (tidied Two) old) (long ∙ sym (length-map old (tidied Two)))
    (λ i l. let low : i < length old = omega arith in each i low ∙ sym (get_or-map (tidied Two) old i blank blank low))
