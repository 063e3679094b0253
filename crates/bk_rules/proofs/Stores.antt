-- What is stored into slots.
use Rattle.std.proofs.Common.{◌≡◌, ◌≢◌, ◌⊎◌, ℕ, zero, suc, ◌+◌, ◌^◌, ◌<◌, ◌≤◌, Bool, true, false, cond, not, ◌&&◌, eqb, ltb, List, [], ◌∷◌, length, get_or, set, Option, Some, None, is_some, refl, sym, ap, ap₂, subst, ◌∙◌, inl, inr, arith}
use Rattle.std.specs.Prelude.{slice_get, option_and_then}
use Rattle.std.specs.List.{AllByRecursion, list_all}
use Rattle.std.proofs.lemmas.Bool.{cases_lt}
use Rattle.std.proofs.lemmas.Bool.Decides.{nat_tests}
use Rattle.std.proofs.lemmas.List.Folds.{list_any_at}
use Rattle.std.proofs.lemmas.List.Sums.{sum_by-cons}
use Rattle.std.proofs.lemmas.Option.{slice_get_past, slice_get-get_or}
use Rattle.std.proofs.Math.ListN.{length-set}
use Rattle.bk_base.specs.declared.genesis.Row.{Row}
use Rattle.bk_base.specs.declared.version.Version.{Version}
use Rattle.bk_base.specs.declared.version.Version.TheVariants.{One, Two}
use Rattle.bk_base.specs.Genesis.{ids_of, total_of}
use Rattle.bk_tx.specs.declared.declared.Declared.{Declared}
use Rattle.bk_tx.specs.Access.{writes, declares, no_declared}
use Rattle.bk_tx.specs.Transaction.{Transaction}
use Rattle.bk_rules.specs.declared.account.Account.{Account}
use Rattle.bk_rules.specs.declared.receipt.Receipt.{Receipt}
use Rattle.bk_rules.specs.Rule.{Change, balance_of, seq_of, is_known, account_after}
use Rattle.bk_rules.specs.Rows.{IsLedger, account_of, account_at, outcome_of}
use Rattle.bk_rules.specs.Fold.{seq_end, HasRoom}
use Rattle.bk_rules.specs.Laws.{SeesSame}
use Rattle.bk_rules.specs.View.{nth, nth_id, is_writable, seen, Settles}
use Rattle.bk_rules.specs.Storing.{AreOutcome}
use Rattle.bk_rules.specs.Ledger.{Ledger, ledger_of, after_of, has_slot, is_covered, numbers_of, shown_by, rows_shown}
use Rattle.bk_rules.specs.private.Slots.{index_or_len, shown_at, shown, IsOwn, AreSlots, ArePlaces, AreApart, StoredBelow}
use Rattle.bk_rules.proofs.RowLemmas.{and_left, and_right, look_first}
use Rattle.bk_rules.proofs.Places.{Rise, rises, seen_at, found_by_len}
use Rattle.bk_rules.proofs.Locality.{sees_declared_alone}
use Rattle.bk_rules.proofs.Kept.{ledger_kept, rule_of_rows, ids_kept, known_same}
use Rattle.bk_rules.proofs.Room.{seqs_kept}
use Rattle.bk_rules.proofs.Settling.{effect_of}
use Rattle.bk_rules.proofs.Slots.{account_at-shown, ascend-shown, own_of, shown_of}
use Rattle.bk_rules.proofs.Storing.{declared_stands, effect_is_outcome}

-- ---- one element of a list

pub get-set_same : {A : Type 0} (xs : List A) (k : ℕ) (x : A) → k < length xs → slice_get (set xs k x) k ≡ Some x
get-set_same [] k x low = absurd (omega arith)
get-set_same (y ∷ xs) zero x low = refl
get-set_same (y ∷ xs) (suc k) x low = get-set_same xs k x (omega arith)

pub get-set_other : {A : Type 0} (xs : List A) (k j : ℕ) (x : A) → k ≢ j → slice_get (set xs k x) j ≡ slice_get xs j
get-set_other [] k j x apart = refl
get-set_other (y ∷ xs) zero zero x apart = absurd (apart refl)
get-set_other (y ∷ xs) zero (suc j) x apart = refl
get-set_other (y ∷ xs) (suc k) zero x apart = refl
get-set_other (y ∷ xs) (suc k) (suc j) x apart = get-set_other xs k j x (λ e. apart (ap suc e))

pub set-past : {A : Type 0} (xs : List A) (k : ℕ) (x : A) → length xs ≤ k → set xs k x ≡ xs
set-past [] k x past = refl
set-past (y ∷ xs) zero x past = absurd (omega arith)
set-past {A = A} (y ∷ xs) (suc k) x past = ap (λ (more : List A). y ∷ more) (set-past xs k x (omega arith))

-- ---- the index of an id

-- the id is at its index
pub index_reads : (ids : List ℕ) (id : ℕ) → index_or_len ids id < length ids → get_or ids (index_or_len ids id) 0 ≡ id
index_reads [] id low = absurd (omega arith)
index_reads (i ∷ ids) id low = by_test (eqb i id) refl low (index_reads ids id)
  where
    by_test : (b : Bool) → b ≡ eqb i id → cond {A = ℕ} (not b) (1 + index_or_len ids id) 0 < suc (length ids) → (index_or_len ids id < length ids → get_or ids (index_or_len ids id) 0 ≡ id) → get_or (i ∷ ids) (cond (not b) (1 + index_or_len ids id) 0) 0 ≡ id
    by_test true e lt rest = grind (arith, nat_tests)
    by_test false e lt rest = (let next : 1 + index_or_len ids id ≡ suc (index_or_len ids id) = omega arith in ap (λ (k : ℕ). get_or (i ∷ ids) k 0) next) ∙ rest (omega arith)

-- two declared accounts have no index in common
pub places_apart : (ids : List ℕ) (ds : List Declared) (places : List ℕ) → Rise ds → ArePlaces ids ds places → (size : ℕ) → size ≡ length ids → AreApart places (length ds) size
places_apart ids ds places up at size wide j k lt low inside same =
    let first : get_or places j 0 ≡ index_or_len ids (nth_id ds j) = at j (omega arith) in
    let second : get_or places k 0 ≡ index_or_len ids (nth_id ds k) = at k low in
    let both : index_or_len ids (nth_id ds j) ≡ index_or_len ids (nth_id ds k) = sym first ∙ same ∙ second in
    let reads_j = index_reads ids (nth_id ds j) (omega arith) in
    let reads_k = index_reads ids (nth_id ds k) (omega arith) in
    let equal : nth_id ds j ≡ nth_id ds k = sym reads_j ∙ ap (λ (i : ℕ). get_or ids i 0) both ∙ reads_k in
    let rise = rises ds up j k lt low in
    omega arith

-- ---- what the loop stores

-- nothing yet
pub stored_none : (ds : List Declared) (places : List ℕ) (view : List (Option Account)) (old : List Account) → StoredBelow ds places view old old 0
stored_none ds places view old = record {
  same = refl;
  written = λ j low w inside. absurd (omega arith);
  kept = λ k none. refl;
  each = λ k a e. inl e;
}

-- an account that is not written
pub stored_past : (ds : List Declared) (places : List ℕ) (view : List (Option Account)) (old new : List Account) (n : ℕ) → StoredBelow ds places view old new n → is_writable ds n ≡ false → StoredBelow ds places view old new (n + 1)
stored_past ds places view old new n s no_w = record {
  same = s.same;
  written = λ j low w inside. by_test j low w inside (eqb j n) refl;
  kept = λ k none. s.kept k (λ j low. none j (omega arith));
  each = λ k a e. later k a (s.each k a e);
}
  where
    by_test : (j : ℕ) → j < n + 1 → is_writable ds j ≡ true → get_or places j 0 < length old → (b : Bool) → b ≡ eqb j n → slice_get new (get_or places j 0) ≡ Some (numbers_of (nth view j))
    by_test j low w inside true e = let same : j ≡ n = grind (arith, nat_tests) in let both = ap (is_writable ds) same in absurd (cc)
    by_test j low w inside false e = let apart : j ≢ n = grind (arith, nat_tests) in s.written j (omega arith) w inside

    later : (k : ℕ) (a : Account) → (slice_get old k ≡ Some a) ⊎ ((j : ℕ) × (j < n) × (is_writable ds j ≡ true) × (a ≡ numbers_of (nth view j))) → (slice_get old k ≡ Some a) ⊎ ((j : ℕ) × (j < n + 1) × (is_writable ds j ≡ true) × (a ≡ numbers_of (nth view j)))
    later k a (inl h) = inl h
    later k a (inr (j, low, w, e)) = inr (j, omega arith, w, e)

-- one that is
module _ (ds : List Declared) (places : List ℕ) (view : List (Option Account)) (old mid new : List Account) (n : ℕ) (apart : AreApart places (length ds) (length old)) (low : n < length ds) (s : StoredBelow ds places view old mid n) (w : is_writable ds n ≡ true) (is : new ≡ set mid (get_or places n 0) (numbers_of (nth view n))) where
  written_at : (j : ℕ) → j < n + 1 → is_writable ds j ≡ true → get_or places j 0 < length old → (b : Bool) → b ≡ eqb j n → slice_get new (get_or places j 0) ≡ Some (numbers_of (nth view j))
  written_at j lt jw inside true e =
      let same : n ≡ j = grind (arith, nat_tests) in
      let wide = s.same in
      let here : get_or places n 0 < length mid = let same_place = ap (λ (i : ℕ). get_or places i 0) same in omega arith in
      subst (λ (i : ℕ). slice_get new (get_or places i 0) ≡ Some (numbers_of (nth view i))) same (ap (λ (xs : List Account). slice_get xs (get_or places n 0)) is ∙ get-set_same mid (get_or places n 0) (numbers_of (nth view n)) here)
  written_at j lt jw inside false e =
      let other : j ≢ n = grind (arith, nat_tests) in
      let below : j < n = omega arith in
      ap (λ (xs : List Account). slice_get xs (get_or places j 0)) is ∙ get-set_other mid (get_or places n 0) (get_or places j 0) (numbers_of (nth view n)) (λ same. apart j n below low inside (sym same)) ∙ s.written j below jw inside

  each_at : (k : ℕ) (a : Account) → slice_get new k ≡ Some a → (b : Bool) → b ≡ eqb (get_or places n 0) k → (c : Bool) → c ≡ ltb k (length mid) → (slice_get old k ≡ Some a) ⊎ ((j : ℕ) × (j < n + 1) × (is_writable ds j ≡ true) × (a ≡ numbers_of (nth view j)))
  each_at k a e true here true inside =
      let same : get_or places n 0 ≡ k = grind (arith, nat_tests) in
      let lt : get_or places n 0 < length mid = grind (arith, nat_tests) in
      let there : slice_get new k ≡ Some (numbers_of (nth view n)) = ap (slice_get new) (sym same) ∙ ap (λ (xs : List Account). slice_get xs (get_or places n 0)) is ∙ get-set_same mid (get_or places n 0) (numbers_of (nth view n)) lt in
      inr (n, omega arith, w, (let both : Some a ≡ Some (numbers_of (nth view n)) = sym e ∙ there in cc))
  each_at k a e true here false inside =
      let past : length mid ≤ k = grind (arith, nat_tests) in
      let same : get_or places n 0 ≡ k = grind (arith, nat_tests) in
      let none : slice_get new k ≡ None = ap (λ (xs : List Account). slice_get xs k) (is ∙ set-past mid (get_or places n 0) (numbers_of (nth view n)) (omega arith)) ∙ slice_get_past mid k past in
      absurd (cc)
  each_at k a e false here c inside =
      let other : get_or places n 0 ≢ k = grind (arith, nat_tests) in
      before (s.each k a (sym (get-set_other mid (get_or places n 0) k (numbers_of (nth view n)) other) ∙ ap (λ (xs : List Account). slice_get xs k) (sym is) ∙ e))
    where
      before : (slice_get old k ≡ Some a) ⊎ ((j : ℕ) × (j < n) × (is_writable ds j ≡ true) × (a ≡ numbers_of (nth view j))) → (slice_get old k ≡ Some a) ⊎ ((j : ℕ) × (j < n + 1) × (is_writable ds j ≡ true) × (a ≡ numbers_of (nth view j)))
      before (inl h) = inl h
      before (inr (j, lt, jw, same)) = inr (j, omega arith, jw, same)

  pub stored_more : StoredBelow ds places view old new (n + 1)
  stored_more = record {
    same = (let wide = s.same in omega (arith, ap (λ (xs : List Account). length xs) is, length-set {A = Account}));
    written = λ j lt jw inside. written_at j lt jw inside (eqb j n) refl;
    kept = λ k none. ap (λ (xs : List Account). slice_get xs k) is ∙ get-set_other mid (get_or places n 0) k (numbers_of (nth view n)) (none n (omega arith) w) ∙ s.kept k (λ j lt. none j (omega arith));
    each = λ k a e. each_at k a e (eqb (get_or places n 0) k) refl (ltb k (length mid)) refl;
  }

-- ---- bounds

pub balance_below : (rows : List Row) (id : ℕ) → balance_of (account_at rows id) ≤ total_of rows
balance_below [] id = omega arith
balance_below (r ∷ rows) id = by_test (eqb r.id id) (look_first r rows id) (balance_below rows id)
  where
    by_test : (b : Bool) → account_at (r ∷ rows) id ≡ cond b (Some (account_of r)) (account_at rows id) → balance_of (account_at rows id) ≤ total_of rows → balance_of (account_at (r ∷ rows) id) ≤ total_of (r ∷ rows)
    by_test true look rest = let same = ap balance_of look in let all = sum_by-cons (λ (x : Row). x.balance) r rows in omega arith
    by_test false look rest = let same = ap balance_of look in let all = sum_by-cons (λ (x : Row). x.balance) r rows in omega arith

pub seq_below : (bound : ℕ) (rows : List Row) → 1 < bound → AllByRecursion (λ (r : Row). r.seq + 1 < bound) rows → (id : ℕ) → seq_of (account_at rows id) + 1 < bound
seq_below bound [] some all id = omega arith
seq_below bound (r ∷ rows) some all id = by_test (eqb r.id id) (look_first r rows id) all.0 (seq_below bound rows some all.1 id)
  where
    by_test : (b : Bool) → account_at (r ∷ rows) id ≡ cond b (Some (account_of r)) (account_at rows id) → r.seq + 1 < bound → seq_of (account_at rows id) + 1 < bound → seq_of (account_at (r ∷ rows) id) + 1 < bound
    by_test true look first rest = let same = ap seq_of look in omega arith
    by_test false look first rest = let same = ap seq_of look in omega arith

-- the sequence number of an account that is there is below the bound
pub seq_low : (bound : ℕ) (rows : List Row) → AllByRecursion (λ (r : Row). r.seq + 0 < bound) rows → (id : ℕ) (a : Account) → account_at rows id ≡ Some a → a.seq < bound
seq_low bound [] all id a e = absurd (cc)
seq_low bound (r ∷ rows) all id a e = by_test (eqb r.id id) (sym (look_first r rows id) ∙ e) all.0 (seq_low bound rows all.1 id a)
  where
    by_test : (b : Bool) → cond b (Some (account_of r)) (account_at rows id) ≡ Some a → r.seq + 0 < bound → (account_at rows id ≡ Some a → a.seq < bound) → a.seq < bound
    by_test true is first rest = let same : account_of r ≡ a = cc in let seqs = ap (λ (x : Account). x.seq) same in omega arith
    by_test false is first rest = rest is

pub ends : (w : Version) → record { some : 1 < seq_end w; low : seq_end w ≤ 2 ^ 64 }
ends One = record { some = omega arith; low = omega arith }
ends Two = record { some = omega arith; low = omega arith }

-- ---- what is covered

covered_at : (p : Declared → Bool) (ds : List Declared) → list_all p ds ≡ true → (k : ℕ) → k < length ds → p (get_or ds k no_declared) ≡ true
covered_at p [] all k low = absurd (omega arith)
covered_at p (d ∷ ds) all zero low = and_left (p d) _ all
covered_at p (d ∷ ds) all (suc k) low = covered_at p ds (and_right (p d) _ all) k (omega arith)

-- an id that has a slot has an index
pub slot_inside : (ids : List ℕ) (id : ℕ) → has_slot ids id ≡ true → index_or_len ids id < length ids
slot_inside ids id has = let inside : ltb (index_or_len ids id) (length ids) ≡ true = found_by_len (λ (i : ℕ). eqb i id) ids ∙ has in grind (arith, nat_tests)

-- an id that is not declared for writing is that of no such account
pub unwritten : (ds : List Declared) (id : ℕ) → writes ds id ≡ false → (j : ℕ) → j < length ds → is_writable ds j ≡ true → nth_id ds j ≢ id
unwritten ds id no_w j low w same =
    let hit : eqb (nth_id ds j) id ≡ true = grind (arith, nat_tests) in
    let there = list_any_at (λ (d : Declared). d.writable && eqb d.id id) ds j no_declared low (ap₂ (λ (a b : Bool). a && b) w hit) in
    absurd (cc)

-- ---- the whole

abbrev pub masked : List Declared → List (Option Account) → List (Option Account)
masked [] view = []
masked (d ∷ ds) [] = []
masked (d ∷ ds) (a ∷ view) = cond d.writable a None ∷ masked ds view

either : (b : Bool) (o : Option Account) → o ≡ cond b o o
either true o = refl
either false o = refl

masked_at : (ds : List Declared) (view : List (Option Account)) (k : ℕ) → nth (masked ds view) k ≡ cond (is_writable ds k) (nth view k) None
masked_at [] view k = refl
masked_at (d ∷ ds) [] zero = either d.writable None
masked_at (d ∷ ds) [] (suc k) = either (is_writable ds k) None
masked_at (d ∷ ds) (a ∷ view) zero = refl
masked_at (d ∷ ds) (a ∷ view) (suc k) = masked_at ds view k

module _ (v : Version) (t : Transaction) (ids : List ℕ) (old : List Account) (are : AreSlots v ids old) (places : List ℕ) (at : ArePlaces ids t.declared places) (local : List (Option Account)) (found : (k : ℕ) → k < length t.declared → nth local k ≡ shown_at v old (get_or places k 0)) where
  rows : List Row
  rows = rows_shown v ids old

  pub view_of : (k : ℕ) → k < length t.declared → nth local k ≡ account_at (rows_shown v ids old) (nth_id t.declared k)
  view_of k low = found k low ∙ ap (shown_at v old) (at k low) ∙ sym (account_at-shown v ids old are.ascending are.same (nth_id t.declared k))

  module _ (rest : (k : ℕ) → length t.declared ≤ k → nth local k ≡ None) where
    pub view_small : (k : ℕ) → balance_of (nth local k) < 2 ^ 63
    view_small k = elim (cases_lt k (length t.declared)) [
      | inl lt ↦ (let same = ap balance_of (view_of k lt) in let most = balance_below (rows_shown v ids old) (nth_id t.declared k) in let ledger = are.ledger in let within = ledger.within in omega arith)
      | inr ge ↦ (let same = ap balance_of (rest k ge) in omega arith)
    ]

    pub view_room : HasRoom v 1 (rows_shown v ids old) → (k : ℕ) → seq_of (nth local k) + 1 < 2 ^ 64
    view_room room k = elim (cases_lt k (length t.declared)) [
      | inl lt ↦ (let same = ap seq_of (view_of k lt) in let e = ends v in let most = seq_below (seq_end v) (rows_shown v ids old) e.some room (nth_id t.declared k) in omega arith)
      | inr ge ↦ (let same = ap seq_of (rest k ge) in omega arith)
    ]

  module _ (up : Rise t.declared) (covered : is_covered v ids (Some t) ≡ true) (room : HasRoom v 1 (rows_shown v ids old)) (r : Receipt) (after : List (Option Account)) (settles : Settles v t local r after) where
    ledger : IsLedger (rows_shown v ids old)
    ledger = are.ledger

    agree : (id : ℕ) → declares t.declared id ≡ true → seen t.declared local id ≡ account_at (rows_shown v ids old) id
    agree id d =
        let s = declared_stands t.declared id d in
        let stands = s.at in
        seen_at t.declared up local id s.place s.at ∙ view_of s.place stands.in_range ∙ ap (account_at (rows_shown v ids old)) stands.has_id

    -- the account of each declared id afterwards
    pub after_at : (k : ℕ) → k < length t.declared → nth after k ≡ account_at (outcome_of v (Some t) (rows_shown v ids old)).after (nth_id t.declared k)
    after_at k low =
        let same : SeesSame v t (seen t.declared local) (account_at (rows_shown v ids old)) = sees_declared_alone v t (seen t.declared local) (account_at (rows_shown v ids old)) agree in
        settles.after k low
        ∙ ap₂ (λ (cs : List Change) (o : Option Account). account_after cs (nth_id t.declared k) o) same.changes (view_of k low)
        ∙ sym (rule_of_rows v t (rows_shown v ids old) (nth_id t.declared k) ledger)

    room_after : AllByRecursion (λ (x : Row). x.seq + 0 < seq_end v) (outcome_of v (Some t) (rows_shown v ids old)).after
    room_after = let e = ends v in seqs_kept v (seq_end v) 0 e.some (Some t) (rows_shown v ids old) room

    seq_after : (k : ℕ) → k < length t.declared → (a : Account) → nth after k ≡ Some a → a.seq < seq_end v
    seq_after k low a e = seq_low (seq_end v) (outcome_of v (Some t) (rows_shown v ids old)).after room_after (nth_id t.declared k) a (sym (after_at k low) ∙ e)

    -- in version One an account is there afterwards where it was there
    known_after : v ≡ One → (id : ℕ) → is_known (account_at (outcome_of v (Some t) (rows_shown v ids old)).after) id ≡ is_known (account_at (rows_shown v ids old)) id
    known_after one id = known_same (outcome_of v (Some t) (rows_shown v ids old)).after (rows_shown v ids old) (ids_after v one t (rows_shown v ids old) ledger) id
      where
        ids_after : (w : Version) → w ≡ One → (u : Transaction) (xs : List Row) → IsLedger xs → ids_of (outcome_of w (Some u) xs).after ≡ ids_of xs
        ids_after w is u xs l = subst (λ (x : Version). ids_of (outcome_of x (Some u) xs).after ≡ ids_of xs) (sym is) (ids_kept (Some u) xs l)

    -- an account with an index is there in version One
    there_one : v ≡ One → (k : ℕ) → k < length t.declared → get_or places k 0 < length old → is_some (nth after k) ≡ true
    there_one one k low inside =
        ap (λ (o : Option Account). is_some o) (after_at k low)
        ∙ known_after one (nth_id t.declared k)
        ∙ ap (λ (o : Option Account). is_some o) (sym (view_of k low) ∙ found k low)
        ∙ shows v one (get_or places k 0) inside
      where
        shows : (w : Version) → w ≡ One → (i : ℕ) → i < length old → is_some (shown_at w old i) ≡ true
        shows w is i lt = ap₂ (λ (x : Version) (o : Option Account). is_some (option_and_then (shown_by x) o)) is (slice_get-get_or old i (record { balance = 0; seq = 0 }) lt)

    -- an account without an index stays absent
    absent_after : (k : ℕ) → k < length t.declared → length old ≤ get_or places k 0 → nth after k ≡ None
    absent_after k low past = by_version v refl
      where
        gone : (o : Option Account) → is_some o ≡ false → o ≡ None
        gone None e = refl
        gone (Some a) e = absurd (cc)

        by_version : (w : Version) → v ≡ w → nth after k ≡ None
        by_version One one = gone (nth after k) (
            ap (λ (o : Option Account). is_some o) (after_at k low)
            ∙ known_after one (nth_id t.declared k)
            ∙ ap (λ (o : Option Account). is_some o) (sym (view_of k low) ∙ found k low)
            ∙ ap (λ (o : Option Account). is_some (option_and_then (shown_by v) o)) (slice_get_past old (get_or places k 0) past))
        by_version Two two =
            let all : list_all (λ (d : Declared). has_slot ids d.id) t.declared ≡ true = subst (λ (w : Version). is_covered w ids (Some t) ≡ true) two covered in
            let has = covered_at (λ (d : Declared). has_slot ids d.id) t.declared all k low in
            let inside = slot_inside ids (nth_id t.declared k) has in
            let place = at k low in
            let same = are.same in
            absurd (omega arith)

    module _ (new : List Account) (stored : StoredBelow t.declared places after old new (length t.declared)) where
      written_there : (k : ℕ) → k < length t.declared → is_writable t.declared k ≡ true → account_at (rows_shown v ids new) (nth_id t.declared k) ≡ nth (masked t.declared after) k
      written_there k low w =
          account_at-shown v ids new are.ascending (stored.same ∙ are.same) (nth_id t.declared k)
          ∙ ap (shown_at v new) (sym (at k low))
          ∙ by_place
          ∙ sym (masked_at t.declared after k ∙ ap (λ (b : Bool). cond b (nth after k) None) w)
        where
          by_place : shown_at v new (get_or places k 0) ≡ nth after k
          by_place = elim (cases_lt (get_or places k 0) (length old)) [
            | inl inside ↦ ap (option_and_then (shown_by v)) (stored.written k low w inside) ∙ shown_of v (nth after k) (seq_after k low) (λ one. there_one one k low inside)
            | inr past ↦ ap (option_and_then (shown_by v)) (slice_get_past new (get_or places k 0) (let same = stored.same in omega arith)) ∙ sym (absent_after k low past)
          ]

      kept_else : (id : ℕ) → writes t.declared id ≡ false → account_at (rows_shown v ids new) id ≡ account_at (rows_shown v ids old) id
      kept_else id no_w =
          account_at-shown v ids new are.ascending (stored.same ∙ are.same) id
          ∙ ap (option_and_then (shown_by v)) by_place
          ∙ sym (account_at-shown v ids old are.ascending are.same id)
        where
          by_place : slice_get new (index_or_len ids id) ≡ slice_get old (index_or_len ids id)
          by_place = elim (cases_lt (index_or_len ids id) (length old)) [
            | inl inside ↦ stored.kept (index_or_len ids id) (λ j low w same.
                (let place : get_or places j 0 ≡ index_or_len ids (nth_id t.declared j) = at j low in
                let wide = are.same in
                let both : index_or_len ids (nth_id t.declared j) ≡ index_or_len ids id = sym place ∙ same in
                let reads = index_reads ids id (omega arith) in
                let reads_j = index_reads ids (nth_id t.declared j) (omega arith) in
                unwritten t.declared id no_w j low w (sym reads_j ∙ ap (λ (i : ℕ). get_or ids i 0) both ∙ reads)))
            | inr past ↦ slice_get_past new (index_or_len ids id) (let same = stored.same in omega arith) ∙ sym (slice_get_past old (index_or_len ids id) past)
          ]

      pub applied : AreOutcome v t (rows_shown v ids old) (record { status = r.status; moved = r.moved; writes = masked t.declared after }) (rows_shown v ids new)
      applied =
          effect_is_outcome v t local _ (rows_shown v ids old) (rows_shown v ids new) up ledger view_of
          (effect_of v t local local after refl r settles (masked t.declared after) (masked_at t.declared after))
          (record {
            ascending = ascend-shown v ids new are.ascending;
            written_there = written_there;
            kept_else = kept_else;
          })

      pub slots_kept : AreSlots v ids new
      slots_kept =
          let outcome = applied in
          record {
            same = stored.same ∙ are.same;
            ascending = are.ascending;
            ledger = subst (λ (xs : List Row). IsLedger xs) (sym outcome.after_is) (ledger_kept v (Some t) (rows_shown v ids old) ledger);
            own = λ k a e. by_each k a (stored.each k a e);
          }
        where
          by_each : (k : ℕ) (a : Account) → (slice_get old k ≡ Some a) ⊎ ((j : ℕ) × (j < length t.declared) × (is_writable t.declared j ≡ true) × (a ≡ numbers_of (nth after j))) → IsOwn v a
          by_each k a (inl e) = are.own k a e
          by_each k a (inr (j, low, w, e)) = subst (λ (x : Account). IsOwn v x) (sym e) (own_of v (nth after j) (seq_after j low))

-- ---- the same of a state, in the words of its contracts

module _ (l : Ledger) (v : Version) (t : Transaction) (ids : List ℕ) (old : List Account) (are : AreSlots v ids old) (is : shown v ids old ≡ l) (places : List ℕ) (at : ArePlaces l.slots t.declared places) (local : List (Option Account)) (found : (k : ℕ) → k < length t.declared → nth local k ≡ shown_at v old (get_or places k 0)) where
  pub placed : ArePlaces ids t.declared places
  placed = subst (λ (x : Ledger). ArePlaces x.slots t.declared places) (sym is) at

  pub small_of : ((k : ℕ) → length t.declared ≤ k → nth local k ≡ None) → (k : ℕ) → balance_of (nth local k) < 2 ^ 63
  small_of rest = view_small v t ids old are places placed local found rest

  module _ (room : HasRoom l.version 1 l.rows) where
    roomy : HasRoom v 1 (rows_shown v ids old)
    roomy = subst (λ (x : Ledger). HasRoom x.version 1 x.rows) (sym is) room

    pub room_of : ((k : ℕ) → length t.declared ≤ k → nth local k ≡ None) → (k : ℕ) → seq_of (nth local k) + 1 < 2 ^ 64
    room_of rest = view_room v t ids old are places placed local found rest roomy

    module _ (up : Rise t.declared) (covered : is_covered l.version l.slots (Some t) ≡ true) (r : Receipt) (after : List (Option Account)) (settles : Settles v t local r after) (new : List Account) (stored : StoredBelow t.declared places after old new (length t.declared)) where
      covers : is_covered v ids (Some t) ≡ true
      covers = subst (λ (x : Ledger). is_covered x.version x.slots (Some t) ≡ true) (sym is) covered

      pub kept_slots : AreSlots v ids new
      kept_slots = slots_kept v t ids old are places placed local found up covers roomy r after settles new stored

      whole : AreOutcome v t (rows_shown v ids old) (record { status = r.status; moved = r.moved; writes = masked t.declared after }) (rows_shown v ids new)
      whole = applied v t ids old are places placed local found up covers roomy r after settles new stored

      pub receipt_is : r ≡ (outcome_of l.version (Some t) l.rows).receipt
      receipt_is = let outcome = whole in subst (λ (x : Ledger). r ≡ (outcome_of x.version (Some t) x.rows).receipt) is outcome.receipt

      pub after_is : shown v ids new ≡ after_of l (Some t)
      after_is = let outcome = whole in subst (λ (x : Ledger). shown v ids new ≡ after_of x (Some t)) is (ap (ledger_of v ids) outcome.after_is)
