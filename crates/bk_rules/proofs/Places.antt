-- Places among declared accounts, and what the steps of the code make of the accounts there.
use Rattle.std.proofs.Common.{◌≡◌, ◌≢◌, ℕ, zero, suc, ◌+◌, ◌<◌, ◌≤◌, Bool, true, false, cond, ◌&&◌, ◌||◌, not, eqb, ltb, leb, List, [], ◌∷◌, length, map, get_or, set, take, Option, Some, None, IsTrue, IfSome, is_some, option_map, unwrap_or, refl, sym, ap, ap₂, subst, ◌∙◌, arith, get_or-set_other, get_or-set_same}
use Rattle.std.specs.List.{list_any, list_all, position, position_or_len}
use Rattle.std.proofs.lemmas.Bool.Decides.{nat_tests}
use Rattle.std.proofs.lemmas.List.Quantifiers.{position-Some}
use Rattle.std.proofs.Math.ListN.{length-set}
use Rattle.std.proofs.lemmas.List.{get_or-take}
use Rattle.bk_base.specs.Numbers.{is_ascending}
use Rattle.bk_tx.specs.Access.{declared_ids, receivers_in, no_declared}
use Rattle.bk_tx.specs.declared.declared.Declared.{Declared}
use Rattle.bk_tx.specs.declared.payments.Payment.{Payment}
use Rattle.bk_rules.specs.declared.account.Account.{Account}
use Rattle.bk_base.specs.declared.version.Version.{Version}
use Rattle.bk_rules.specs.declared.roles.FloorAt.{FloorAt}
use Rattle.bk_rules.specs.Rule.{Change, Guard, new_account, can_receive, received, receive, account_after}
use Rattle.bk_rules.specs.View.{nth, nth_or_new, seen, nth_id}
use Rattle.bk_rules.specs.private.Roles.{IsAt, no_payment, AllAt, GuardIsAt, floor_passes, credited}
use Rattle.bk_rules.proofs.RowLemmas.{and_left, and_right, step}

-- ---- an index that is found

-- an index is found exactly where one passes
pub found_by_len : {X : Type 0} (p : X → Bool) (xs : List X) → ltb (position_or_len p xs) (length xs) ≡ list_any p xs
found_by_len p [] = refl
found_by_len p (x ∷ xs) = by_test (p x) (found_by_len p xs)
  where
    by_test : (b : Bool) → ltb (position_or_len p xs) (length xs) ≡ list_any p xs → ltb (cond (not b) (1 + position_or_len p xs) 0) (suc (length xs)) ≡ (b || list_any p xs)
    by_test true rest = grind (arith, nat_tests)
    by_test false rest = (let same : ltb (1 + position_or_len p xs) (suc (length xs)) ≡ ltb (position_or_len p xs) (length xs) = grind (arith, nat_tests) in same) ∙ rest

pub position_is : {X : Type 0} (p : X → Bool) (xs : List X) → is_some (position p xs) ≡ list_any p xs
position_is p xs = by_test (ltb (position_or_len p xs) (length xs)) ∙ found_by_len p xs
  where
    by_test : (b : Bool) → is_some (cond b (Some (position_or_len p xs)) None) ≡ b
    by_test true = refl
    by_test false = refl

-- the index that is found is that of the id
pub found_at : (ds : List Declared) (id : ℕ) (p : Declared → Bool) → ((d : Declared) → p d ≡ true → eqb d.id id ≡ true) → (o : Option ℕ) → o ≡ position p ds → IfSome o (IsAt ds id)
found_at ds id p has None e = tt
found_at ds id p has (Some k) e =
    let there = position-Some p ds k no_declared (sym e) in
    let hit : eqb (nth_id ds k) id ≡ true = has _ there.1 in
    record { in_range = there.0; has_id = grind (arith, nat_tests) }

-- ---- ids ascend, so that an index has its own

abbrev pub Rise : List Declared → Type 0
Rise ds = IsTrue (is_ascending (declared_ids ds))

rise_tail : (d : Declared) (ds : List Declared) → Rise (d ∷ ds) → Rise ds
rise_tail d [] up = refl
rise_tail d (e ∷ ds) up = and_right (ltb d.id e.id) _ up

rise_head : (d : Declared) (ds : List Declared) → Rise (d ∷ ds) → (k : ℕ) → k < length ds → d.id < nth_id ds k
rise_head d [] up k low = absurd (omega arith)
rise_head d (e ∷ ds) up zero low = let first = and_left (ltb d.id e.id) _ up in grind (arith, nat_tests)
rise_head d (e ∷ ds) up (suc k) low =
    let first = and_left (ltb d.id e.id) _ up in
    let above : e.id < nth_id ds k = rise_head e ds (and_right (ltb d.id e.id) _ up) k (omega arith) in
    grind (arith, nat_tests)

-- what is seen of an id is what is at its place
pub seen_at : (ds : List Declared) → Rise ds → (view : List (Option Account)) (id k : ℕ) → IsAt ds id k → seen ds view id ≡ nth view k
seen_at [] up view id k at = absurd (omega (arith, at.in_range))
seen_at (d ∷ ds) up [] id k at = refl
seen_at (d ∷ ds) up (a ∷ view) id zero at =
    let same : eqb d.id id ≡ true = (let here : d.id ≡ id = at.has_id in grind (arith, nat_tests)) in
    ap (λ b. cond b a (seen ds view id)) same
seen_at (d ∷ ds) up (a ∷ view) id (suc k) at =
    let rest : IsAt ds id k = record { in_range = omega (arith, at.in_range); has_id = at.has_id } in
    let below = rise_head d ds up k rest.in_range in
    let there = rest.has_id in
    let other : eqb d.id id ≡ false = grind (arith, nat_tests) in
    ap (λ b. cond b a (seen ds view id)) other ∙ seen_at ds (rise_tail d ds up) view id k rest

-- two indexes of one id are one
pub rises : (ds : List Declared) → Rise ds → (i j : ℕ) → i < j → j < length ds → nth_id ds i < nth_id ds j
rises [] up i j lt low = absurd (omega arith)
rises (d ∷ ds) up i zero lt low = absurd (omega arith)
rises (d ∷ ds) up zero (suc j) lt low = rise_head d ds up j (omega arith)
rises (d ∷ ds) up (suc i) (suc j) lt low = rises ds (rise_tail d ds up) i j (omega arith) (omega arith)

-- ---- one change, and many

-- a write at the place of an id is the change of that id
pub changed_there : (ds : List Declared) → Rise ds → (c : Change) (p : ℕ) → IsAt ds c.id p → (view : List (Option Account)) → p < length view → (k : ℕ) → k < length ds → nth (set view p (Some (c.makes (nth_or_new view p)))) k ≡ step c (nth_id ds k) (nth view k)
changed_there ds up c p at view in_view k low = by_test (eqb k p) refl
  where
    by_test : (b : Bool) → b ≡ eqb k p → nth (set view p (Some (c.makes (nth_or_new view p)))) k ≡ step c (nth_id ds k) (nth view k)
    by_test true e =
        let same : p ≡ k = grind (arith, nat_tests) in
        let here = at.has_id in
        let hit : eqb c.id (nth_id ds p) ≡ true = grind (arith, nat_tests) in
        subst (λ (j : ℕ). nth (set view p (Some (c.makes (nth_or_new view p)))) j ≡ step c (nth_id ds j) (nth view j)) same (get_or-set_same view p (Some (c.makes (nth_or_new view p))) None in_view ∙ sym (ap (λ b. cond b (Some (c.makes (nth_or_new view p))) (nth view p)) hit))
    by_test false e =
        let apart : k ≢ p = grind (arith, nat_tests) in
        let here = at.has_id in
        let range = at.in_range in
        let miss : eqb c.id (nth_id ds k) ≡ false = grind (arith, nat_tests, λ (lt : k < p). rises ds up k p lt range, λ (lt : p < k). rises ds up p k lt low) in
        get_or-set_other view p k (Some (c.makes (nth_or_new view p))) None apart ∙ sym (ap (λ b. cond b (Some (c.makes (unwrap_or (nth view k) new_account))) (nth view k)) miss)

-- payments at their places are their changes
pub credited_there : (ds : List Declared) → Rise ds → (payments : List Payment) (places : List ℕ) → length places ≡ length payments → AllAt ds payments places → (view : List (Option Account)) → length ds ≤ length view → (k : ℕ) → k < length ds → nth (credited payments places view) k ≡ account_after (map receive payments) (nth_id ds k) (nth view k)
credited_there ds up [] places same at view wide k low = refl
credited_there ds up (p ∷ more) [] same at view wide k low = absurd (omega arith)
credited_there ds up (p ∷ more) (i ∷ places) same at view wide k low =
    let first : IsAt ds p.to i = at 0 (omega arith) in
    let range = first.in_range in
    let next = set view i (Some (received p.amount (nth_or_new view i))) in
    let wide_next : length ds ≤ length next = omega (arith, length-set {A = Option Account}) in
    credited_there ds up more places (omega arith) (λ j lt. at (suc j) (omega arith)) next wide_next k low ∙ ap (account_after (map receive more) (nth_id ds k)) (changed_there ds up (receive p) i first view (omega arith) k low)

-- ---- the tests

-- places cut to length
pub all_at_cut : (ds : List Declared) (payments : List Payment) (places : List ℕ) (n : ℕ) → n ≡ length payments → AllAt ds payments places → AllAt ds payments (take n places)
all_at_cut ds payments places n e at k low = subst (λ (i : ℕ). IsAt ds (get_or payments k no_payment).to i) (sym (get_or-take n places k 0 (omega arith))) (at k low)

-- what the receivers' places say of the payments
pub receivers_there : (v : Version) (ds : List Declared) → Rise ds → (view : List (Option Account)) (payments : List Payment) (places : List ℕ) → length places ≡ length payments → AllAt ds payments places → list_all (λ (to : ℕ). can_receive v (seen ds view to)) (receivers_in payments) ≡ list_all (λ (k : ℕ). can_receive v (nth view k)) places
receivers_there v ds up view [] [] same at = refl
receivers_there v ds up view [] (i ∷ places) same at = absurd (omega arith)
receivers_there v ds up view (p ∷ more) [] same at = absurd (omega arith)
receivers_there v ds up view (p ∷ more) (i ∷ places) same at = ap₂ (λ (a b : Bool). a && b) (ap (can_receive v) (seen_at ds up view p.to i (at 0 (omega arith)))) (receivers_there v ds up view more places (omega arith) (λ j lt. at (suc j) (omega arith)))

-- a test of the guard is that at its place
pub guard_there : (ds : List Declared) → Rise ds → (view : List (Option Account)) (g : Option Guard) (p : Option FloorAt) → GuardIsAt ds g p → (test : ℕ → Option Account → Bool) → unwrap_or (option_map (λ (g : Guard). test g.least (seen ds view g.id)) g) true ≡ floor_passes (λ (q : FloorAt). test q.least (nth view q.at)) p
guard_there ds up view None None at test = refl
guard_there ds up view None (Some p) at test = absurd (cc)
guard_there ds up view (Some g) None at test = absurd at
guard_there ds up view (Some g) (Some p) at test = ap₂ test (sym at.1) (seen_at ds up view g.id p.at at.0)

-- at most and not below are one
pub least_test : (m n : ℕ) → not (ltb n m) ≡ leb m n
least_test m n = by_test (leb m n) refl
  where
    by_test : (b : Bool) → b ≡ leb m n → not (ltb n m) ≡ b
    by_test true e = grind (arith, nat_tests)
    by_test false e = grind (arith, nat_tests)
