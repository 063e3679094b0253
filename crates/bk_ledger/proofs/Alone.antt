-- A transaction that is executed alone: by a run of one worker, on the accounts that it declares.
use Rattle.std.proofs.Common.{◌≡◌, ⊎_elim, ℕ, zero, suc, ◌+◌, ◌<◌, ◌≤◌, Bool, true, false, cond, ◌||◌, ◌&&◌, not, eqb, eq-eqb, ltb, AllPairs, List, [], ◌∷◌, length, map, Option, None, Some, is_some, refl, sym, ap, subst, ◌∙◌, arith}
use Rattle.std.specs.Prelude.{filter}
use Rattle.std.specs.List.{AllByRecursion, list_all, list_any}
use Rattle.std.proofs.lemmas.Bool.{both_ways, or_cases, and_parts, eqb-true, lt-ltb}
use Rattle.std.proofs.lemmas.Bool.Decides.{nat_tests}
use Rattle.std.proofs.lemmas.List.{length-map}
use Rattle.bk_base.specs.declared.genesis.Row.{Row}
use Rattle.bk_base.specs.declared.version.Version.{Version}
use Rattle.bk_base.specs.declared.version.Version.TheVariants.{One, Two}
use Rattle.bk_base.specs.Genesis.{ids_of}
use Rattle.bk_tx.specs.declared.declared.Declared.{Declared}
use Rattle.bk_tx.specs.Access.{declared_ids, declares}
use Rattle.bk_tx.specs.Transaction.{Transaction}
use Rattle.bk_rules.specs.declared.account.Account.{Account}
use Rattle.bk_rules.specs.declared.receipt.Receipt.{Receipt}
use Rattle.bk_rules.specs.Fold.{state_after, receipts_of, seq_end, HasRoom}
use Rattle.bk_rules.specs.Ledger.{ledger_of, has_slot, is_declared_by, numbers_of, shown_by, rows_shown, slot_numbers}
use Rattle.bk_rules.specs.Part.{are_held, is_held_id, rows_among}
use Rattle.bk_rules.specs.Rows.{IsLedger, account_at, account_of}
use Rattle.bk_rules.specs.private.Slots.{index_or_len, shown_at}
use Rattle.bk_rules.proofs.Finding.{Rises, rises_tail}
use Rattle.bk_rules.proofs.Folding.{ids_kept_by_fold, ledger_kept_by_fold}
use Rattle.bk_rules.proofs.Kept.{known_by_ids, known_same}
use Rattle.bk_rules.proofs.Parts.{account_at-among, fold_accounts, fold_undeclared, ledger-among, part_receipts, room-among}
use Rattle.bk_rules.proofs.Room.{room_kept, room_weaker}
use Rattle.bk_rules.proofs.RowLemmas.{and_left, and_both, look_first}
use Rattle.bk_rules.proofs.Slots.{account_at-shown, ascend-shown, shown_of}
use Rattle.bk_rules.proofs.Storing.{rows_same}
use Rattle.bk_conflicts.specs.Conflicts.{clash, declared_by, declared_at, Edge}
use Rattle.bk_conflicts.specs.Plan.{AreDeclared, IsPlan, PlanValue, after_of, before_of, sum_below}
use Rattle.bk_conflicts.specs.Scene.{times}
use Rattle.bk_conflicts.specs.SceneOf.{CanRunOn, scene_of}
use Rattle.bk_conflicts.proofs.Accessed.{all_declared, declared_beyond}
use Rattle.bk_steps.specs.Left.{LeaveByRun, RunLeaves}
use Rattle.bk_steps.proofs.InOrder.{whole_runs_exist}
use Rattle.bk_steps.proofs.Leaving.{run_leaves}
use Rattle.bk_steps.proofs.Reached.{sound_of}
use Rattle.bk_ledger.specs.Sliced.{DeclareInOrder, RunInSlices, SliceRuns}
use Rattle.bk_ledger.proofs.PartRuns.{covered_by_held}
use Rattle.bk_ledger.proofs.Sliced.{have_rows, no_slices, one_slice, sliced_then}

-- ---- some of the ids of a list

abbrev Above : ℕ → List ℕ → Type 0
Above n xs = AllByRecursion (λ (x : ℕ). n < x) xs

above_rest : (n x : ℕ) (xs : List ℕ) → n ≤ x → Rises (x ∷ xs) → Above n xs
above_rest n x [] le up = tt
above_rest n x (y ∷ more) le up =
    let first = and_left (ltb x y) _ up in
    let low : x < y = grind (arith, nat_tests) in
    (omega arith, above_rest n y more (omega arith) (rises_tail x (y ∷ more) up))

rises_cons : (x : ℕ) (xs : List ℕ) → Above x xs → Rises xs → Rises (x ∷ xs)
rises_cons x [] above up = refl
rises_cons x (y ∷ more) above up = and_both (ltb x y) _ (lt-ltb x y above.0) up

above_some : (p : ℕ → Bool) (n : ℕ) (xs : List ℕ) → Above n xs → Above n (filter p xs)
above_some p n [] above = tt
above_some p n (x ∷ xs) above = by_test (p x) (above_some p n xs above.1)
  where
    by_test : (b : Bool) → Above n (filter p xs) → Above n (cond b (x ∷ filter p xs) (filter p xs))
    by_test true rest = (above.0, rest)
    by_test false rest = rest

rises_some : (p : ℕ → Bool) (xs : List ℕ) → Rises xs → Rises (filter p xs)
rises_some p [] up = refl
rises_some p (x ∷ xs) up = by_test (p x) (rises_some p xs (rises_tail x xs up))
  where
    by_test : (b : Bool) → Rises (filter p xs) → Rises (cond b (x ∷ filter p xs) (filter p xs))
    by_test true rest = rises_cons x (filter p xs) (above_some p x xs (above_rest x x xs (omega arith) up)) rest
    by_test false rest = rest

some_long : (p : ℕ → Bool) (xs : List ℕ) → length (filter p xs) ≤ length xs
some_long p [] = omega arith
some_long p (x ∷ xs) = by_test (p x) (some_long p xs)
  where
    by_test : (b : Bool) → length (filter p xs) ≤ length xs → length (cond b (x ∷ filter p xs) (filter p xs)) ≤ suc (length xs)
    by_test true rest = omega arith
    by_test false rest = omega arith

-- those that pass
some_pass : (p : ℕ → Bool) (xs : List ℕ) (id : ℕ) → has_slot (filter p xs) id ≡ true → p id ≡ true
some_pass p [] id h = absurd (let no : false ≡ true = h in cc)
some_pass p (x ∷ xs) id h = by_test (p x) refl h (some_pass p xs id)
  where
    by_test : (b : Bool) → p x ≡ b → has_slot (cond b (x ∷ filter p xs) (filter p xs)) id ≡ true → (has_slot (filter p xs) id ≡ true → p id ≡ true) → p id ≡ true
    by_test true e g ih = ⊎_elim
        (λ same. ap p (sym (eqb-true x id same)) ∙ e)
        ih
        (or_cases (eqb x id) (has_slot (filter p xs) id) g)
    by_test false e g ih = ih g

-- and all of those
pass_some : (p : ℕ → Bool) (xs : List ℕ) (id : ℕ) → p id ≡ true → has_slot xs id ≡ true → has_slot (filter p xs) id ≡ true
pass_some p [] id e h = h
pass_some p (x ∷ xs) id e h = by_test (p x) refl (eqb x id) refl h (pass_some p xs id e)
  where
    by_test : (b : Bool) → p x ≡ b → (c : Bool) → eqb x id ≡ c → (c || has_slot xs id) ≡ true → (has_slot xs id ≡ true → has_slot (filter p xs) id ≡ true) → has_slot (cond b (x ∷ filter p xs) (filter p xs)) id ≡ true
    by_test true a true c g ih = ap (λ (t : Bool). t || has_slot (filter p xs) id) c
    by_test true a false c g ih = ap (λ (t : Bool). t || has_slot (filter p xs) id) c ∙ ih g
    by_test false a true c g ih = absurd (both_ways (p x) a (ap p (eqb-true x id c) ∙ e))
    by_test false a false c g ih = ih g

-- ---- the ids of what a transaction declares

-- in version One of those that are there alone
abbrev ids_for : Version → List Row → List Declared → List ℕ
ids_for One rows ds = filter (has_slot (ids_of rows)) (declared_ids ds)
ids_for Two rows ds = declared_ids ds

ids_rise : (v : Version) (rows : List Row) (ds : List Declared) → AreDeclared ds → Rises (ids_for v rows ds)
ids_rise One rows ds d = rises_some (has_slot (ids_of rows)) (declared_ids ds) d.ascending
ids_rise Two rows ds d = d.ascending

ids_few : (v : Version) (rows : List Row) (ds : List Declared) → AreDeclared ds → length (ids_for v rows ds) ≤ 8
ids_few One rows ds d =
    let some = some_long (has_slot (ids_of rows)) (declared_ids ds) in
    omega (arith, some, length-map ds (λ (x : Declared). x.id), d.few)
ids_few Two rows ds d = omega (arith, length-map ds (λ (x : Declared). x.id), d.few)

ids_there : (v : Version) (rows : List Row) (ds : List Declared) → v ≡ One → (id : ℕ) → has_slot (ids_for v rows ds) id ≡ true → has_slot (ids_of rows) id ≡ true
ids_there One rows ds one id h = some_pass (has_slot (ids_of rows)) (declared_ids ds) id h
ids_there Two rows ds one id h = absurd (let no : Two ≡ One = one in cc)

declares_id : (ds : List Declared) (id : ℕ) → declares ds id ≡ has_slot (declared_ids ds) id
declares_id [] id = refl
declares_id (d ∷ ds) id = ap (λ (b : Bool). eqb d.id id || b) (declares_id ds id)

-- each that is declared is held
held_id : (v : Version) (rows : List Row) (ds : List Declared) (id : ℕ) → has_slot (declared_ids ds) id ≡ true → is_held_id v (ids_of rows) (ids_for v rows ds) id ≡ true
held_id One rows ds id h = by_test (has_slot (ids_of rows) id) refl
  where
    by_test : (b : Bool) → has_slot (ids_of rows) id ≡ b → (has_slot (ids_for One rows ds) id || not b) ≡ true
    by_test true e = ap (λ (t : Bool). t || false) (pass_some (has_slot (ids_of rows)) (declared_ids ds) id e h)
    by_test false e = either (has_slot (ids_for One rows ds) id)
      where
        either : (t : Bool) → (t || true) ≡ true
        either true = refl
        either false = refl
held_id Two rows ds id h = h

all_so : (test : ℕ → Bool) (ds : List Declared) → ((id : ℕ) → has_slot (declared_ids ds) id ≡ true → test id ≡ true) → list_all (λ (d : Declared). test d.id) ds ≡ true
all_so test [] h = refl
all_so test (d ∷ ds) h = and_both (test d.id) _
    (h d.id (ap (λ (b : Bool). b || has_slot (declared_ids ds) d.id) (eq-eqb d.id d.id refl)))
    (all_so test ds (λ id e. h id (later (eqb d.id id) (has_slot (declared_ids ds) id) e)))
  where
    later : (a b : Bool) → b ≡ true → (a || b) ≡ true
    later true b e = refl
    later false b e = e

held_alone : (v : Version) (rows : List Row) (t : Option Transaction) → are_held v (ids_of rows) (ids_for v rows (declared_by t)) (t ∷ []) ≡ true
held_alone v rows None = refl
held_alone v rows (Some t) = and_both _ _ (all_so (is_held_id v (ids_of rows) (ids_for v rows t.declared)) t.declared (held_id v rows t.declared)) refl

-- one that is declared and not held is not there, in version One
not_held : (v : Version) (rows : List Row) (ds : List Declared) (id : ℕ) → declares ds id ≡ true → has_slot (ids_for v rows ds) id ≡ false → (v ≡ One) × (account_at rows id ≡ None)
not_held One rows ds id d none = (refl, by_test (has_slot (ids_of rows) id) refl)
  where
    by_test : (b : Bool) → has_slot (ids_of rows) id ≡ b → account_at rows id ≡ None
    by_test true e = absurd (both_ways _ none (pass_some (has_slot (ids_of rows)) (declared_ids ds) id e (sym (declares_id ds id) ∙ d)))
    by_test false e = have_rows rows id e
not_held Two rows ds id d none = absurd (both_ways _ none (sym (declares_id ds id) ∙ d))

-- ---- the numbers of these ids show the rows

low_seq : (v : Version) (n : ℕ) (rows : List Row) → HasRoom v n rows → (id : ℕ) (a : Account) → account_at rows id ≡ Some a → a.seq < seq_end v
low_seq v n [] room id a e = absurd (let z : None ≡ Some a = e in cc)
low_seq v n (r ∷ rows) room id a e = at (eqb r.id id) (sym (look_first r rows id) ∙ e) (low_seq v n rows room.1 id a)
  where
    at : (b : Bool) → cond b (Some (account_of r)) (account_at rows id) ≡ Some a → (account_at rows id ≡ Some a → a.seq < seq_end v) → a.seq < seq_end v
    at true e ih = let same : account_of r ≡ a = cc in let s : r.seq ≡ a.seq = ap (λ (x : Account). x.seq) same in let low = room.0 in omega arith
    at false e ih = ih e

-- the numbers of ids show the account of each
pub at_ids : (v : Version) (accounts : ℕ → Option Account) (ids : List ℕ) (id : ℕ) → (has_slot ids id ≡ true → shown_by v (numbers_of (accounts id)) ≡ accounts id)
    → (has_slot ids id ≡ false → accounts id ≡ None) → shown_at v (map (λ (i : ℕ). numbers_of (accounts i)) ids) (index_or_len ids id) ≡ accounts id
at_ids v accounts [] id some none = sym (none refl)
at_ids v accounts (i ∷ ids) id some none = by_test (eqb i id) refl (at_ids v accounts ids id)
  where
    later : shown_at v (map (λ (j : ℕ). numbers_of (accounts j)) (i ∷ ids)) (1 + index_or_len ids id) ≡ shown_at v (map (λ (j : ℕ). numbers_of (accounts j)) ids) (index_or_len ids id)
    later = let e : 1 + index_or_len ids id ≡ suc (index_or_len ids id) = omega arith in ap (shown_at v (map (λ (j : ℕ). numbers_of (accounts j)) (i ∷ ids))) e

    by_test : (b : Bool) → b ≡ eqb i id
        → ((has_slot ids id ≡ true → shown_by v (numbers_of (accounts id)) ≡ accounts id) → (has_slot ids id ≡ false → accounts id ≡ None)
        → shown_at v (map (λ (j : ℕ). numbers_of (accounts j)) ids) (index_or_len ids id) ≡ accounts id)
        → shown_at v (map (λ (j : ℕ). numbers_of (accounts j)) (i ∷ ids)) (cond (not b) (1 + index_or_len ids id) 0) ≡ accounts id
    by_test true e rest =
        let same : i ≡ id = eqb-true i id (sym e) in
        subst (λ (j : ℕ). shown_by v (numbers_of (accounts j)) ≡ accounts id) (sym same) (some (ap (λ (b : Bool). b || has_slot ids id) (sym e)))
    by_test false e rest = later ∙ rest
        (λ h. some (ap (λ (b : Bool). b || has_slot ids id) (sym e) ∙ h))
        (λ h. none (ap (λ (b : Bool). b || has_slot ids id) (sym e) ∙ h))

module _ (v : Version) (rows : List Row) (t : Option Transaction) (ledger : IsLedger rows) (room : HasRoom v 1 rows) (few : AreDeclared (declared_by t)) where
  abbrev ids : List ℕ
  ids = ids_for v rows (declared_by t)

  abbrev part : List Row
  part = rows_among ids rows

  abbrev one : List (Option Transaction)
  one = t ∷ []

  held : are_held v (ids_of rows) ids one ≡ true
  held = held_alone v rows t

  found : (id : ℕ) → has_slot ids id ≡ true → account_at part id ≡ account_at rows id
  found id h = account_at-among ids rows id ∙ ap (λ (b : Bool). cond b (account_at rows id) None) h

  nowhere : (id : ℕ) → has_slot ids id ≡ false → account_at part id ≡ None
  nowhere id h = account_at-among ids rows id ∙ ap (λ (b : Bool). cond b (account_at rows id) None) h

  there : (id : ℕ) → has_slot ids id ≡ true → shown_by v (numbers_of (account_at part id)) ≡ account_at part id
  there id h = shown_of v (account_at part id)
      (λ a is. low_seq v 1 part (room-among v 1 ids rows room) id a is)
      (λ first. ap is_some (found id h) ∙ known_by_ids rows id ∙ ids_there v rows (declared_by t) first id h)

  slots_show : rows_shown v ids (slot_numbers (ledger_of v ids part)) ≡ part
  slots_show = rows_same (rows_shown v ids (slot_numbers (ledger_of v ids part))) part
      (ascend-shown v ids (slot_numbers (ledger_of v ids part)) (ids_rise v rows (declared_by t) few)) (ledger-among ids rows ledger).ascending
      (λ id. account_at-shown v ids (slot_numbers (ledger_of v ids part)) (ids_rise v rows (declared_by t) few) (length-map ids (λ (i : ℕ). numbers_of (account_at part i))) id
      ∙ at_ids v (account_at part) ids id (there id) (nowhere id))

  -- ---- the plan of one transaction

  abbrev plan : PlanValue
  plan = record { version = v; ids = ids; txs = one; before = 0 ∷ []; after = [] ∷ [] }

  none_after : (p : ℕ) → after_of plan p ≡ []
  none_after zero = refl
  none_after (suc p) = refl

  none_before : (q : ℕ) → before_of plan q ≡ 0
  none_before zero = refl
  none_before (suc q) = refl

  no_edge : (p q : ℕ) → Edge (clash ids one) p q → ⊥
  unfolding clash
  no_edge p q (id, near) =
      let later : 1 ≤ q = (let low = near.earlier in omega arith) in
      let both = and_parts (has_slot ids id) _ near.here in
      let share = and_parts (declares (declared_at one p) id && declares (declared_at one q) id) _ both.1 in
      let second = (and_parts (declares (declared_at one p) id) (declares (declared_at one q) id) share.0).1 in
      both_ways (declares (declared_at one q) id) (ap (λ (ds : List Declared). declares ds id) (declared_beyond one q later)) second

  counted : (q : ℕ) → before_of plan q ≡ sum_below (λ p. times q (after_of plan p)) 1
  unfolding sum_below times
  counted q = none_before q

  is_plan : IsPlan plan
  is_plan = record {
    few_places = omega arith;
    few_slots = (let low = ids_few v rows (declared_by t) few in omega arith);
    ids_ascend = ids_rise v rows (declared_by t) few;
    covered = covered_by_held v (ids_of rows) ids one held;
    declared = all_declared one 1 (omega arith) (λ k l. let first : 0 ≡ k = omega arith in subst (λ (j : ℕ). AreDeclared (declared_at one j)) first few);
    ascending = λ p l. subst (AllPairs (λ x y. x < y)) (sym (none_after p)) (λ i j d low m. absurd (omega arith));
    edges = λ p q l. (
      (λ e. absurd (let no : list_any (λ (x : ℕ). eqb x q) [] ≡ true = ap (list_any (λ (x : ℕ). eqb x q)) (sym (none_after p)) ∙ e in let clear : false ≡ true = no in cc)),
      (λ e. absurd (no_edge p q e)),
    );
    counts = λ q l. counted q;
    least = λ q l. (let none = none_before q in omega arith);
  }

  can_run : CanRunOn plan (ledger_of v ids part)
  can_run = record {
    same_version = refl;
    same_slots = refl;
    is_ledger = ledger-among ids rows ledger;
    has_room = room-among v 1 ids rows room;
    slots_show = slots_show;
  }

  -- ---- its run

  ran : LeaveByRun one (ledger_of v ids part) (receipts_of v one rows) (state_after v one part)
  ran = record {
    plan = plan;
    is_plan = is_plan;
    txs_are = refl;
    can_run = can_run;
    left =
        let e = whole_runs_exist (scene_of plan (ledger_of v ids part)) (sound_of plan (ledger_of v ids part) is_plan can_run) in
        subst (λ (rs : List Receipt). RunLeaves plan (ledger_of v ids part) rs (state_after v one part))
        (part_receipts v (ids_of rows) ids one rows ledger (have_rows rows) held)
        (run_leaves plan (ledger_of v ids part) is_plan can_run e.0 e.1 e.2);
  }

  -- ---- what it leaves, put back

  declared_here : (id : ℕ) → is_declared_by one id ≡ true → declares (declared_by t) id ≡ true
  declared_here id d = at t d
    where
      at : (o : Option Transaction) → is_declared_by (o ∷ []) id ≡ true → declares (declared_by o) id ≡ true
      at None e = absurd (let no : false ≡ true = e in cc)
      at (Some u) e = ⊎_elim (λ h. h) (λ h. absurd (let no : false ≡ true = h in cc)) (or_cases (declares u.declared id) false e)

  agree : (id : ℕ) → is_declared_by one id ≡ true → account_at part id ≡ account_at rows id
  agree id d = by_test (has_slot ids id) refl
    where
      by_test : (b : Bool) → has_slot ids id ≡ b → account_at part id ≡ account_at rows id
      by_test true e = found id e
      by_test false e = nowhere id e ∙ sym (not_held v rows (declared_by t) id (declared_here id d) e).1

  -- in version One an account that was not there is not there afterwards
  still_none : (id : ℕ) → v ≡ One → account_at rows id ≡ None → account_at (state_after v one rows) id ≡ None
  still_none id first none = none_of (account_at (state_after v one rows) id)
      (ap (λ (w : Version). is_some (account_at (state_after w one rows) id)) first
      ∙ known_same (state_after One one rows) rows (ids_kept_by_fold one rows ledger) id ∙ ap is_some none)
    where
      none_of : (o : Option Account) → is_some o ≡ false → o ≡ None
      none_of None e = refl
      none_of (Some a) e = absurd (cc)

  put_back : (id : ℕ) → account_at (state_after v one rows) id ≡ cond (has_slot ids id) (account_at (state_after v one part) id) (account_at rows id)
  put_back id = by_test (has_slot ids id) refl
    where
      outside : has_slot ids id ≡ false → (d : Bool) → is_declared_by one id ≡ d → account_at (state_after v one rows) id ≡ account_at rows id
      outside e false d = fold_undeclared v one rows ledger id d
      outside e true d = let gone = not_held v rows (declared_by t) id (declared_here id d) e in still_none id gone.0 gone.1 ∙ sym gone.1

      by_test : (b : Bool) → has_slot ids id ≡ b → account_at (state_after v one rows) id ≡ cond b (account_at (state_after v one part) id) (account_at rows id)
      by_test true e = sym (fold_accounts v one part rows (ledger-among ids rows ledger) ledger agree id (found id e))
      by_test false e = outside e (is_declared_by one id) refl

  pub alone : SliceRuns v (t ∷ []) rows (receipts_of v (t ∷ []) rows) (state_after v (t ∷ []) rows)
  alone = record {
    ids = ids;
    held = held;
    part = state_after v one part;
    ran = ran;
    back = record { ascending = (ledger_kept_by_fold v one rows ledger).ascending; accounts = put_back };
  }

-- ---- one after another

pub all_alone : (v : Version) (txs : List (Option Transaction)) (rows : List Row) → IsLedger rows → HasRoom v (length txs) rows → DeclareInOrder txs
    → RunInSlices v txs rows (receipts_of v txs rows) (state_after v txs rows)
all_alone v [] rows ledger room few = no_slices v rows
all_alone v (t ∷ txs) rows ledger room few =
    let next : List Row = state_after v (t ∷ []) rows in
    let count : suc (length txs) ≡ length (t ∷ []) + length txs = omega arith in
    let left = room_kept v (t ∷ []) (length txs) rows (subst (λ (n : ℕ). HasRoom v n rows) count room) in
    sliced_then v (t ∷ []) txs rows next (state_after v txs next) (receipts_of v (t ∷ []) rows) (receipts_of v txs next)
    (one_slice v (t ∷ []) rows (receipts_of v (t ∷ []) rows) next (alone v rows t ledger (room_weaker v (suc (length txs)) 1 rows (omega arith) room) few.0))
    (all_alone v txs next (ledger_kept_by_fold v (t ∷ []) rows ledger) left few.1)
