-- A slice that is executed on the accounts that it touches.
use Rattle.std.proofs.Common.{◌≡◌, ℕ, ◌^◌, ◌<◌, Bool, true, false, ◌||◌, not, List, [], ◌∷◌, ◌++◌, length, Option, Some, None, is_some, refl, sym, ap, subst, ◌∙◌, arith}
use Rattle.std.specs.Arc.{arc_value}
use Rattle.std.specs.List.{list_all}
use Rattle.bk_base.specs.declared.genesis.Row.{Row}
use Rattle.bk_base.specs.declared.version.Version.{Version}
use Rattle.bk_base.specs.declared.version.Version.TheVariants.{One, Two}
use Rattle.bk_base.specs.Genesis.{ids_of, total_of}
use Rattle.bk_tx.specs.Transaction.{Transaction}
use Rattle.bk_tx.specs.declared.declared.Declared.{Declared}
use Rattle.bk_rules.specs.declared.receipt.Receipt.{Receipt}
use Rattle.bk_rules.specs.Rows.{IsLedger}
use Rattle.bk_rules.specs.Fold.{state_after, receipts_of, HasRoom}
use Rattle.bk_rules.specs.Ledger as rules
use Rattle.bk_rules.specs.Part.{ArePutBack, HaveSlots, are_held, is_held, is_held_id, part_of, rows_among}
use Rattle.bk_rules.proofs.Folding.{total_kept_by_fold}
use Rattle.bk_rules.proofs.Parts.{part_receipts, part_state, room-among}
use Rattle.bk_rules.proofs.RowLemmas.{and_left, and_right, and_both}
use Rattle.bk_rules.proofs.Kept.{known_by_ids}
use Rattle.bk_conflicts.specs.Plan.{IsPlan, PlanValue}
use Rattle.bk_conflicts.specs.SceneOf.{CanRunOn}
use Rattle.bk_steps.specs.Left.{LeaveByRun}
use Rattle.bk_pool.specs.Outcomes.{IsFoldOnto, RunLeavesOnto}
use Rattle.bk_ledger.specs.Ledger.{LedgerValue}
use Rattle.bk_ledger.specs.Executing.{HasRun}
use Rattle.bk_ledger.specs.declared.ready.Ready.{Ready}
use Rattle.bk_ledger.specs.private.Slices.{CanRunPart, IsRunOnto}
use Rattle.bk_ledger.specs.Sliced.{RunInSlices, SliceRuns}
use Rattle.bk_ledger.proofs.Sliced.{one_slice, slice_receipts}

-- ---- what is held and what is covered

-- slots that hold what transactions declare cover them
pub covered_by_held : (v : Version) (slots ids : List ℕ) (txs : List (Option Transaction)) → are_held v slots ids txs ≡ true → rules.are_covered v ids txs ≡ true
covered_by_held One slots ids [] held = refl
covered_by_held One slots ids (t ∷ txs) held = covered_by_held One slots ids txs (and_right _ _ held)
covered_by_held Two slots ids [] held = refl
covered_by_held Two slots ids (None ∷ txs) held = covered_by_held Two slots ids txs held
covered_by_held Two slots ids (Some t ∷ txs) held = and_both _ _ (and_left (list_all (λ (d : Declared). rules.has_slot ids d.id) t.declared) _ held) (covered_by_held Two slots ids txs (and_right (list_all (λ (d : Declared). rules.has_slot ids d.id) t.declared) _ held))

-- all slots hold what they cover
held_each : (slots : List ℕ) (ds : List Declared) → list_all (λ (d : Declared). is_held_id One slots slots d.id) ds ≡ true
held_each slots [] = refl
held_each slots (d ∷ ds) = and_both _ _ (either (rules.has_slot slots d.id)) (held_each slots ds)
  where
    either : (b : Bool) → (b || not b) ≡ true
    either true = refl
    either false = refl

pub held_by_all : (v : Version) (slots : List ℕ) (txs : List (Option Transaction)) → rules.are_covered v slots txs ≡ true → are_held v slots slots txs ≡ true
held_by_all One slots [] covered = refl
held_by_all One slots (None ∷ txs) covered = held_by_all One slots txs covered
held_by_all One slots (Some t ∷ txs) covered = and_both _ _ (held_each slots t.declared) (held_by_all One slots txs covered)
held_by_all Two slots [] covered = refl
held_by_all Two slots (None ∷ txs) covered = held_by_all Two slots txs covered
held_by_all Two slots (Some t ∷ txs) covered = and_both _ _ (and_left (list_all (λ (d : Declared). rules.has_slot slots d.id) t.declared) _ covered) (held_by_all Two slots txs (and_right (list_all (λ (d : Declared). rules.has_slot slots d.id) t.declared) _ covered))

-- what is held of the slots is held of the accounts that are there
held_there : (ids slots : List ℕ) (rows : List Row) → HaveSlots slots rows → (ds : List Declared) → list_all (λ (d : Declared). is_held_id One slots ids d.id) ds ≡ true
    → list_all (λ (d : Declared). is_held_id One (ids_of rows) ids d.id) ds ≡ true
held_there ids slots rows have [] h = refl
held_there ids slots rows have (d ∷ ds) h = and_both _ _ (one (rules.has_slot ids d.id) (rules.has_slot slots d.id) refl (and_left (is_held_id One slots ids d.id) _ h))
    (held_there ids slots rows have ds (and_right (is_held_id One slots ids d.id) _ h))
  where
    one : (b c : Bool) → rules.has_slot slots d.id ≡ c → (b || not c) ≡ true → (b || not (rules.has_slot (ids_of rows) d.id)) ≡ true
    one true c e k = refl
    one false true e k = absurd (let no : false ≡ true = k in cc)
    one false false e k = ap not (sym (known_by_ids rows d.id) ∙ ap is_some (have d.id e))

pub held_by_rows : (v : Version) (slots ids : List ℕ) (txs : List (Option Transaction)) (rows : List Row) → HaveSlots slots rows → are_held v slots ids txs ≡ true → are_held v (ids_of rows) ids txs ≡ true
held_by_rows v slots ids [] rows have h = refl
held_by_rows One slots ids (None ∷ txs) rows have h = held_by_rows One slots ids txs rows have h
held_by_rows One slots ids (Some t ∷ txs) rows have h = and_both _ _ (held_there ids slots rows have t.declared (and_left (is_held One slots ids (Some t)) _ h))
    (held_by_rows One slots ids txs rows have (and_right (is_held One slots ids (Some t)) _ h))
held_by_rows Two slots ids (t ∷ txs) rows have h = h

-- ---- executing

-- a whole run of a plan is one of its transactions
pub plan_ran : (plan : PlanValue) (l : rules.Ledger) (old new : List Receipt) → IsPlan plan → CanRunOn plan l → (s : rules.Ledger) → RunLeavesOnto plan l old new s → IsRunOnto plan.txs l old new s
plan_ran plan l old new is runs s (added, here, left) = (added, here, record { plan = plan; is_plan = is; txs_are = refl; can_run = runs; left = left })

module _ (r : Ready) (l : rules.Ledger) (runs : CanRunPart r l) (p : rules.Ledger) (is : p ≡ part_of (arc_value r.plan).ids l) where
  txs : List (Option Transaction)
  txs = (arc_value r.plan).txs

  ids : List ℕ
  ids = (arc_value r.plan).ids

  pub part_can_run : IsLedger p.rows → rules.rows_shown p.version p.slots (rules.slot_numbers p) ≡ p.rows → CanRunOn (arc_value r.plan) p
  part_can_run is_ledger shown =
      let planned = runs.planned in
      let version : p.version ≡ (arc_value r.plan).version = ap (λ (x : rules.Ledger). x.version) is ∙ sym planned.version_is in
      let slots : p.slots ≡ (arc_value r.plan).ids = ap (λ (x : rules.Ledger). x.slots) is in
      record {
        same_version = version;
        same_slots = slots;
        is_ledger = is_ledger;
        has_room = subst (λ (y : Version × List Row). HasRoom y.0 (length (arc_value r.plan).txs) y.1) (λ i. (sym planned.version_is i, ap (λ (x : rules.Ledger). x.rows) (sym is) i)) (room-among l.version (length (arc_value r.plan).txs) (arc_value r.plan).ids l.rows runs.has_room);
        slots_show = (λ i. rules.rows_shown (sym version i) (sym slots i) (rules.slot_numbers p)) ∙ shown;
      }

  module _ (old new : List Receipt) (after : rules.Ledger) (fold : IsFoldOnto (arc_value r.plan) p old new after) where
    after_is : after ≡ rules.ledger_of l.version (arc_value r.plan).ids (state_after l.version (arc_value r.plan).txs (rows_among (arc_value r.plan).ids l.rows))
    after_is = fold.state ∙ ap (λ (x : rules.Ledger). rules.ledger_of x.version x.slots (state_after x.version (arc_value r.plan).txs x.rows)) is

    pub after_slots : after.slots ≡ (arc_value r.plan).ids
    after_slots = ap (λ (x : rules.Ledger). x.slots) after_is

    receipts_are : new ≡ old ++ receipts_of l.version (arc_value r.plan).txs l.rows
    receipts_are =
        let planned = runs.planned in
        fold.receipts
        ∙ ap (λ (x : rules.Ledger). old ++ receipts_of x.version (arc_value r.plan).txs x.rows) is
        ∙ ap (λ (rs : List Receipt). old ++ rs) (part_receipts l.version l.slots (arc_value r.plan).ids (arc_value r.plan).txs l.rows runs.is_ledger runs.have_slots planned.held)

    -- what is put back is what the transactions leave of the whole
    back_is : (rows : List Row) → ArePutBack after.slots after.rows l.rows rows → rows ≡ state_after l.version (arc_value r.plan).txs l.rows
    back_is rows put =
        let planned = runs.planned in
        part_state l.version l.slots (arc_value r.plan).ids (arc_value r.plan).txs l.rows runs.is_ledger runs.have_slots planned.held rows
        (subst (λ (x : rules.Ledger). ArePutBack x.slots x.rows l.rows rows) after_is put)

    pub back_within : (rows : List Row) → ArePutBack after.slots after.rows l.rows rows → total_of rows < 2 ^ 63
    back_within rows put =
        let ledger = runs.is_ledger in
        let same : total_of rows ≡ total_of l.rows = ap total_of (back_is rows put) ∙ total_kept_by_fold l.version (arc_value r.plan).txs l.rows ledger in
        let within = ledger.within in
        omega (arith, same, within)

    -- the ledger after it
    sliced : (rows : List Row) → ArePutBack after.slots after.rows l.rows rows → IsRunOnto (arc_value r.plan).txs p old new after
        → RunInSlices l.version (arc_value r.plan).txs l.rows (receipts_of l.version (arc_value r.plan).txs l.rows) rows
    sliced rows put (added, _, run) =
        let planned = runs.planned in
        let slice : SliceRuns l.version (arc_value r.plan).txs l.rows added rows = record {
          ids = (arc_value r.plan).ids;
          held = held_by_rows l.version l.slots (arc_value r.plan).ids (arc_value r.plan).txs l.rows runs.have_slots planned.held;
          part = after.rows;
          ran = subst (λ (x : rules.Ledger). LeaveByRun (arc_value r.plan).txs x added after.rows) is run;
          back = subst (λ (ids : List ℕ). ArePutBack ids after.rows l.rows rows) after_slots put;
        } in
        subst (λ (rs : List Receipt). RunInSlices l.version (arc_value r.plan).txs l.rows rs rows)
        (slice_receipts l.version (arc_value r.plan).txs l.rows runs.is_ledger added rows slice)
        (one_slice l.version (arc_value r.plan).txs l.rows added rows slice)

    pub part_ran : (counts : List (Option ℕ)) (a b : LedgerValue) → a.state ≡ l → a.receipts ≡ old → b.counts ≡ a.counts ++ counts → b.receipts ≡ new → b.state.version ≡ l.version → ArePutBack after.slots after.rows l.rows b.state.rows → b.state.slots ≡ l.slots
        → IsRunOnto (arc_value r.plan).txs p old new after
        → HasRun counts (arc_value r.plan).txs a b
    part_ran counts a b state before counted received version put slots run = record {
      version = version ∙ ap (λ (x : rules.Ledger). x.version) (sym state);
      counts_are = counted;
      receipts = received ∙ receipts_are
          ∙ ap (λ (y : List Receipt × rules.Ledger). y.0 ++ receipts_of y.1.version (arc_value r.plan).txs y.1.rows) (λ i. (sym before i, sym state i));
      rows = back_is b.state.rows put ∙ ap (λ (x : rules.Ledger). state_after x.version (arc_value r.plan).txs x.rows) (sym state);
      slots = omega (arith, ap length slots, ap (λ (x : rules.Ledger). length x.slots) state);
      ran = λ _. subst (λ (x : rules.Ledger). RunInSlices x.version (arc_value r.plan).txs x.rows (receipts_of x.version (arc_value r.plan).txs x.rows) b.state.rows) (sym state)
          (sliced b.state.rows put run);
    }
