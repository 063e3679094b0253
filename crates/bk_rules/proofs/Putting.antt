-- The numbers of a part, gathered and put back.
use Rattle.std.proofs.Common.{◌≡◌, ◌≢◌, ◌⊎◌, ℕ, zero, suc, ◌+◌, ◌^◌, ◌<◌, Bool, true, false, cond, eqb, ltb, List, [], ◌∷◌, length, map, get_or, set, Some, None, refl, sym, subst, ap, ◌∙◌, inl, inr, arith}
use Rattle.std.specs.Prelude.{slice_get, option_and_then}
use Rattle.std.proofs.lemmas.Bool.{cases_lt, eq-eqb, lt-ltb}
use Rattle.std.proofs.lemmas.Bool.Decides.{nat_tests}
use Rattle.std.proofs.lemmas.List.{length-map}
use Rattle.std.proofs.lemmas.List.Folds.{list_any_at}
use Rattle.std.proofs.lemmas.Option.{slice_get_past, slice_get-get_or}
use Rattle.std.proofs.Math.ListN.{length-set}
use Rattle.bk_base.specs.declared.genesis.Row.{Row}
use Rattle.bk_base.specs.declared.version.Version.{Version}
use Rattle.bk_base.specs.Genesis.{total_of}
use Rattle.bk_rules.specs.declared.account.Account.{Account}
use Rattle.bk_rules.specs.Rows.{IsLedger, account_at}
use Rattle.bk_rules.specs.Ledger.{Ledger, ledger_of, has_slot, numbers_of, shown_by, rows_shown, slot_numbers}
use Rattle.bk_rules.specs.Part.{AreIndexes, ArePutBack, HaveSlots, ids_at, rows_among, part_of}
use Rattle.bk_rules.specs.private.Slots.{index_or_len, shown, shown_at, IsOwn, AreOwn, AreSlots, numbers_or_absent, PutBelow}
use Rattle.bk_rules.proofs.RowLemmas.{and_left, and_both}
use Rattle.bk_rules.proofs.Finding.{Rises, rises_tail, rises_by_index, first_is}
use Rattle.bk_rules.proofs.Slots.{account_at-shown, ascend-shown}
use Rattle.bk_rules.proofs.Storing.{rows_same}
use Rattle.bk_rules.proofs.Stores.{index_reads, get-set_same, get-set_other}
use Rattle.bk_rules.proofs.Words.{numbers_shown}
use Rattle.bk_rules.proofs.Widening.{inside_if, outside_if}
use Rattle.bk_rules.proofs.Parts.{account_at-among, ascend-among, ledger-among}

-- ---- the ids of a part

indexes_tail : (n k : ℕ) (list : List ℕ) → AreIndexes n (k ∷ list) → AreIndexes n list
indexes_tail n k list idx = record { ascending = rises_tail k list idx.ascending; within = λ i low. idx.within (suc i) (omega arith) }

pub ids_ascend : (slots list : List ℕ) → Rises slots → AreIndexes (length slots) list → Rises (ids_at slots list)
ids_ascend slots [] up idx = refl
ids_ascend slots (k ∷ []) up idx = refl
ids_ascend slots (k ∷ j ∷ more) up idx =
    let first : ltb k j ≡ true = and_left (ltb k j) _ idx.ascending in
    let rise : get_or slots k 0 < get_or slots j 0 = rises_by_index slots up k j (grind (arith, nat_tests)) (idx.within 1 (omega arith)) in
    and_both (ltb (get_or slots k 0) (get_or slots j 0)) _ (lt-ltb _ _ rise) (ids_ascend slots (j ∷ more) up (indexes_tail (length slots) k (j ∷ more) idx))

-- the id at an index of the part
id_of_part : (slots list : List ℕ) (i : ℕ) → i < length list → get_or (ids_at slots list) i 0 ≡ get_or slots (get_or list i 0) 0
id_of_part slots [] i low = absurd (omega arith)
id_of_part slots (k ∷ list) zero low = refl
id_of_part slots (k ∷ list) (suc i) low = id_of_part slots list i (omega arith)

-- and the numbers there
numbers_of_part : (numbers : List Account) (list : List ℕ) (i : ℕ) → i < length list → slice_get (map (numbers_or_absent numbers) list) i ≡ Some (numbers_or_absent numbers (get_or list i 0))
numbers_of_part numbers [] i low = absurd (omega arith)
numbers_of_part numbers (k ∷ list) zero low = refl
numbers_of_part numbers (k ∷ list) (suc i) low = numbers_of_part numbers list i (omega arith)

-- where an id of the part is among all
module _ (slots list : List ℕ) (up : Rises slots) (idx : AreIndexes (length slots) list) (id : ℕ) where
  where_is : has_slot (ids_at slots list) id ≡ true → (index_or_len (ids_at slots list) id < length list) × (index_or_len slots id ≡ get_or list (index_or_len (ids_at slots list) id) 0)
  where_is has =
      let inside : index_or_len (ids_at slots list) id < length list = (let low = inside_if (ids_at slots list) id has in omega (arith, length-map list (λ (k : ℕ). get_or slots k 0))) in
      let reads = index_reads (ids_at slots list) id (inside_if (ids_at slots list) id has) in
      let at = id_of_part slots list (index_or_len (ids_at slots list) id) inside in
      (inside, first_is slots up id (get_or list (index_or_len (ids_at slots list) id) 0) (idx.within (index_or_len (ids_at slots list) id) inside) (sym at ∙ reads))

  -- and one that is not in it has none of the indexes
  nowhere : has_slot (ids_at slots list) id ≡ false → (j : ℕ) → j < length list → get_or list j 0 ≢ index_or_len slots id
  nowhere none j low same =
      let inside : get_or list j 0 < length slots = idx.within j low in
      let reads = index_reads slots id (omega arith) in
      let here : get_or (ids_at slots list) j 0 ≡ id = id_of_part slots list j low ∙ ap (λ (k : ℕ). get_or slots k 0) same ∙ reads in
      let has : has_slot (ids_at slots list) id ≡ true = list_any_at (λ (i : ℕ). eqb i id) (ids_at slots list) j 0 (omega (arith, low, length-map list (λ (k : ℕ). get_or slots k 0))) (eq-eqb _ _ here) in
      absurd (cc)

-- ---- a part that is gathered

module _ (v : Version) (slots : List ℕ) (numbers : List Account) (are : AreSlots v slots numbers) (list : List ℕ) (idx : AreIndexes (length slots) list) where
  inside_numbers : (i : ℕ) → i < length list → get_or list i 0 < length numbers
  inside_numbers i low = let same = are.same in let inside = idx.within i low in omega arith

  reads_number : (i : ℕ) → i < length list → slice_get (map (numbers_or_absent numbers) list) i ≡ slice_get numbers (get_or list i 0)
  reads_number i low = numbers_of_part numbers list i low ∙ sym (slice_get-get_or numbers (get_or list i 0) (numbers_of None) (inside_numbers i low))

  same_length : length (map (numbers_or_absent numbers) list) ≡ length (ids_at slots list)
  same_length = length-map list (numbers_or_absent numbers) ∙ sym (length-map list (λ (k : ℕ). get_or slots k 0))

  part_found : (id : ℕ) → account_at (rows_shown v (ids_at slots list) (map (numbers_or_absent numbers) list)) id ≡ account_at (rows_among (ids_at slots list) (rows_shown v slots numbers)) id
  part_found id =
      account_at-shown v (ids_at slots list) (map (numbers_or_absent numbers) list) (ids_ascend slots list are.ascending idx) same_length id
      ∙ by_test (has_slot (ids_at slots list) id) refl
      ∙ sym (account_at-among (ids_at slots list) (rows_shown v slots numbers) id)
    where
      by_test : (b : Bool) → has_slot (ids_at slots list) id ≡ b → shown_at v (map (numbers_or_absent numbers) list) (index_or_len (ids_at slots list) id) ≡ cond (has_slot (ids_at slots list) id) (account_at (rows_shown v slots numbers) id) None
      by_test true has =
          let at = where_is slots list are.ascending idx id has in
          ap (option_and_then (shown_by v)) (reads_number (index_or_len (ids_at slots list) id) at.0)
          ∙ ap (shown_at v numbers) (sym at.1)
          ∙ sym (account_at-shown v slots numbers are.ascending are.same id)
          ∙ ap (λ (b : Bool). cond b (account_at (rows_shown v slots numbers) id) None) (sym has)
      by_test false none =
          let past = outside_if (ids_at slots list) id none in
          ap (option_and_then (shown_by v)) (slice_get_past (map (numbers_or_absent numbers) list) (index_or_len (ids_at slots list) id) (omega (arith, past, same_length)))
          ∙ ap (λ (b : Bool). cond b (account_at (rows_shown v slots numbers) id) None) (sym none)

  pub part_rows : rows_shown v (ids_at slots list) (map (numbers_or_absent numbers) list) ≡ rows_among (ids_at slots list) (rows_shown v slots numbers)
  part_rows = let ledger = are.ledger in rows_same _ _ (ascend-shown v (ids_at slots list) _ (ids_ascend slots list are.ascending idx)) (ascend-among (ids_at slots list) (rows_shown v slots numbers) ledger.ascending) part_found

  part_own : AreOwn v (map (numbers_or_absent numbers) list)
  part_own k a e = elim (cases_lt k (length list)) [
    | inl low ↦ are.own (get_or list k 0) a (sym (reads_number k low) ∙ e)
    | inr past ↦ (let none = slice_get_past (map (numbers_or_absent numbers) list) k (omega (arith, past, length-map list (numbers_or_absent numbers))) in absurd (cc))
  ]

  pub part_ledger : IsLedger (rows_shown v (ids_at slots list) (map (numbers_or_absent numbers) list))
  part_ledger = subst (λ (rows : List Row). IsLedger rows) (sym part_rows) (ledger-among (ids_at slots list) (rows_shown v slots numbers) are.ledger)

  pub part_slots : AreSlots v (ids_at slots list) (map (numbers_or_absent numbers) list)
  part_slots = record { same = same_length; ascending = ids_ascend slots list are.ascending idx; ledger = part_ledger; own = part_own }

-- ---- numbers that are put back

pub put_none : (list : List ℕ) (part old : List Account) → PutBelow list part old old 0
put_none list part old = record {
  same = refl;
  written = λ j low. absurd (omega arith);
  kept = λ k none. refl;
  each = λ k a e. inl e;
}

module _ (list : List ℕ) (part old mid new : List Account) (n : ℕ) (x : Account) (idx : AreIndexes (length old) list) (low : n < length list) (same : length part ≡ length list) (s : PutBelow list part old mid n) (given : slice_get part n ≡ Some x) (is : new ≡ set mid (get_or list n 0) x) where
  inside : get_or list n 0 < length mid
  inside = let wide = s.same in let within = idx.within n low in omega arith

  written_at : (j : ℕ) → j < n + 1 → (b : Bool) → b ≡ eqb j n → slice_get new (get_or list j 0) ≡ slice_get part j
  written_at j lt true e =
      let here : n ≡ j = grind (arith, nat_tests) in
      subst (λ (i : ℕ). slice_get new (get_or list i 0) ≡ slice_get part i) here (ap (λ (xs : List Account). slice_get xs (get_or list n 0)) is ∙ get-set_same mid (get_or list n 0) x inside ∙ sym given)
  written_at j lt false e =
      let other : j ≢ n = grind (arith, nat_tests) in
      let below : j < n = omega arith in
      let rise = rises_by_index list idx.ascending j n below low in
      ap (λ (xs : List Account). slice_get xs (get_or list j 0)) is ∙ get-set_other mid (get_or list n 0) (get_or list j 0) x (λ at. absurd (omega (arith, rise, at))) ∙ s.written j below

  each_at : (k : ℕ) (a : Account) → slice_get new k ≡ Some a → (b : Bool) → b ≡ eqb (get_or list n 0) k → (slice_get old k ≡ Some a) ⊎ ((j : ℕ) × (slice_get part j ≡ Some a))
  each_at k a e true here =
      let at : get_or list n 0 ≡ k = grind (arith, nat_tests) in
      let there : slice_get new k ≡ Some x = ap (slice_get new) (sym at) ∙ ap (λ (xs : List Account). slice_get xs (get_or list n 0)) is ∙ get-set_same mid (get_or list n 0) x inside in
      inr (n, given ∙ sym there ∙ e)
  each_at k a e false here =
      let other : get_or list n 0 ≢ k = grind (arith, nat_tests) in
      s.each k a (sym (get-set_other mid (get_or list n 0) k x other) ∙ ap (λ (xs : List Account). slice_get xs k) (sym is) ∙ e)

  pub put_more : PutBelow list part old new (n + 1)
  put_more = record {
    same = (let wide = s.same in omega (arith, ap (λ (xs : List Account). length xs) is, length-set {A = Account}));
    written = λ j lt. written_at j lt (eqb j n) refl;
    kept = λ k none. ap (λ (xs : List Account). slice_get xs k) is ∙ get-set_other mid (get_or list n 0) k x (none n (omega arith)) ∙ s.kept k (λ j lt. none j (omega arith));
    each = λ k a e. each_at k a e (eqb (get_or list n 0) k) refl;
  }

module _ (v : Version) (slots list : List ℕ) (part old new : List Account) (are : AreSlots v slots old) (idx : AreIndexes (length slots) list) (some : AreSlots v (ids_at slots list) part) (put : PutBelow list part old new (length list)) where
  wide : length new ≡ length slots
  wide = put.same ∙ are.same

  put_found : (id : ℕ) → account_at (rows_shown v slots new) id ≡ cond (has_slot (ids_at slots list) id) (account_at (rows_shown v (ids_at slots list) part) id) (account_at (rows_shown v slots old) id)
  put_found id = account_at-shown v slots new are.ascending wide id ∙ by_test (has_slot (ids_at slots list) id) refl
    where
      by_test : (b : Bool) → has_slot (ids_at slots list) id ≡ b → shown_at v new (index_or_len slots id) ≡ cond (has_slot (ids_at slots list) id) (account_at (rows_shown v (ids_at slots list) part) id) (account_at (rows_shown v slots old) id)
      by_test true has =
          let at = where_is slots list are.ascending idx id has in
          ap (shown_at v new) at.1
          ∙ ap (option_and_then (shown_by v)) (put.written (index_or_len (ids_at slots list) id) at.0)
          ∙ sym (account_at-shown v (ids_at slots list) part some.ascending some.same id)
          ∙ ap (λ (b : Bool). cond b (account_at (rows_shown v (ids_at slots list) part) id) (account_at (rows_shown v slots old) id)) (sym has)
      by_test false none =
          ap (option_and_then (shown_by v)) (put.kept (index_or_len slots id) (nowhere slots list are.ascending idx id none))
          ∙ sym (account_at-shown v slots old are.ascending are.same id)
          ∙ ap (λ (b : Bool). cond b (account_at (rows_shown v (ids_at slots list) part) id) (account_at (rows_shown v slots old) id)) (sym none)

  pub put_rows : ArePutBack (ids_at slots list) (rows_shown v (ids_at slots list) part) (rows_shown v slots old) (rows_shown v slots new)
  put_rows = record { ascending = ascend-shown v slots new are.ascending; accounts = put_found }

  put_own : AreOwn v new
  put_own k a e = by_each (put.each k a e)
    where
      by_each : (slice_get old k ≡ Some a) ⊎ ((j : ℕ) × (slice_get part j ≡ Some a)) → IsOwn v a
      by_each (inl h) = are.own k a h
      by_each (inr (j, h)) = some.own j a h

  pub put_slots : total_of (rows_shown v slots new) < 2 ^ 63 → AreSlots v slots new
  put_slots within = record {
    same = wide;
    ascending = are.ascending;
    ledger = record { ascending = ascend-shown v slots new are.ascending; within = within };
    own = put_own;
  }

-- an account that is there has a slot
pub have_slots : (v : Version) (slots : List ℕ) (numbers : List Account) → AreSlots v slots numbers → HaveSlots slots (rows_shown v slots numbers)
have_slots v slots numbers are id none =
    let past = outside_if slots id none in
    let same = are.same in
    account_at-shown v slots numbers are.ascending are.same id ∙ ap (option_and_then (shown_by v)) (slice_get_past numbers (index_or_len slots id) (omega arith))

-- ---- the same of a state as contracts see it

module _ (v : Version) (slots : List ℕ) (numbers : List Account) (are : AreSlots v slots numbers) (l : Ledger) (is : shown v slots numbers ≡ l) (list : List ℕ) (idx : AreIndexes (length l.slots) list) (ids : List ℕ) (ids_are : ids ≡ ids_at l.slots list) (some : List Account) (some_are : some ≡ map (numbers_or_absent numbers) list) where
  inside_idx : AreIndexes (length slots) list
  inside_idx = subst (λ (x : Ledger). AreIndexes (length x.slots) list) (sym is) idx

  same_ids : ids_at slots list ≡ ids
  same_ids = ap (λ (x : Ledger). ids_at x.slots list) is ∙ sym ids_are

  pub state_slots : AreSlots v ids some
  state_slots = subst (λ (y : List ℕ × List Account). AreSlots v y.0 y.1) (λ i. (same_ids i, sym some_are i)) (part_slots v slots numbers are list inside_idx)

  rows_are : rows_shown v ids some ≡ rows_among ids (rows_shown v slots numbers)
  rows_are = subst (λ (y : List ℕ × List Account). rows_shown v y.0 y.1 ≡ rows_among y.0 (rows_shown v slots numbers)) (λ i. (same_ids i, sym some_are i)) (part_rows v slots numbers are list inside_idx)

  pub state_part : shown v ids some ≡ part_of ids l
  state_part = ap (ledger_of v ids) rows_are ∙ ap (λ (x : Ledger). part_of ids x) is

  pub state_shown : rows_shown v ids (slot_numbers (shown v ids some)) ≡ rows_shown v ids some
  state_shown = ap (rows_shown v ids) (sym (numbers_shown v ids some state_slots))

module _ (v : Version) (slots : List ℕ) (old : List Account) (are : AreSlots v slots old) (l : Ledger) (is : shown v slots old ≡ l) (w : Version) (ids : List ℕ) (part : List Account) (some : AreSlots w ids part) (p : Ledger) (p_is : shown w ids part ≡ p) (list : List ℕ) (idx : AreIndexes (length l.slots) list) (ids_are : p.slots ≡ ids_at l.slots list) (version : p.version ≡ l.version) (new : List Account) (put : PutBelow list part old new (length list)) where
  old_idx : AreIndexes (length slots) list
  old_idx = subst (λ (x : Ledger). AreIndexes (length x.slots) list) (sym is) idx

  part_version : w ≡ v
  part_version = ap (λ (x : Ledger). x.version) p_is ∙ version ∙ ap (λ (x : Ledger). x.version) (sym is)

  part_ids : ids ≡ ids_at slots list
  part_ids = ap (λ (x : Ledger). x.slots) p_is ∙ ids_are ∙ ap (λ (x : Ledger). ids_at x.slots list) (sym is)

  part_some : AreSlots v (ids_at slots list) part
  part_some = subst (λ (y : Version × List ℕ). AreSlots y.0 y.1 part) (λ i. (part_version i, part_ids i)) some

  pub back_rows : ArePutBack p.slots p.rows l.rows (rows_shown v slots new)
  back_rows =
      let ids_path : ids_at slots list ≡ p.slots = sym part_ids ∙ ap (λ (x : Ledger). x.slots) p_is in
      let rows_path : rows_shown v (ids_at slots list) part ≡ p.rows = (λ i. rows_shown (sym part_version i) (sym part_ids i) part) ∙ ap (λ (x : Ledger). x.rows) p_is in
      subst (λ (y : List ℕ × List Row × List Row). ArePutBack y.0 y.1 y.2 (rows_shown v slots new)) (λ i. (ids_path i, rows_path i, ap (λ (x : Ledger). x.rows) is i)) (put_rows v slots list part old new are old_idx part_some put)

  pub back_slots : ((rows : List Row) → ArePutBack p.slots p.rows l.rows rows → total_of rows < 2 ^ 63) → AreSlots v slots new
  back_slots within = put_slots v slots list part old new are old_idx part_some put (within (rows_shown v slots new) back_rows)
