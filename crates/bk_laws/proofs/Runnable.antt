-- A plan of a feed can be run: each list of events is a whole run of its transactions, or has a fault.
use Rattle.std.proofs.Common.{◌≡◌, ◌⊎◌, ℕ, zero, suc, ◌<◌, ◌≤◌, List, [], ◌∷◌, length, Bool, true, false, ◌||◌, Option, None, Some, refl, sym, ap, subst, ◌∙◌, inl, inr, ⊎_elim, arith}
use Rattle.std.proofs.lemmas.Bool.{both_ways, cases_lt}
use Rattle.std.proofs.lemmas.List.{length-map}
use Rattle.bk_base.specs.declared.version.Version.{Version}
use Rattle.bk_base.specs.declared.version.Version.TheVariants.{One, Two}
use Rattle.bk_base.specs.Feed.{FeedValue, IsFeed, genesis_of}
use Rattle.bk_base.specs.Genesis.{AreAccounts, ids_of}
use Rattle.bk_base.proofs.Accounts.{genesis_accounts}
use Rattle.bk_tx.specs.Transaction.{Transaction}
use Rattle.bk_rules.specs.Fold.{HasRoom}
use Rattle.bk_rules.specs.Ledger.{Ledger, has_slot, has_slot_after, is_declared_by, numbers_of, shown_by, rows_shown, slot_numbers}
use Rattle.bk_rules.specs.Rows.{IsLedger, account_at}
use Rattle.bk_rules.proofs.Kept.{known_by_ids}
use Rattle.bk_rules.proofs.Slots.{account_at-shown, ascend-shown}
use Rattle.bk_rules.proofs.Storing.{rows_same}
use Rattle.bk_conflicts.specs.Plan.{PlanValue}
use Rattle.bk_conflicts.specs.Scene.{IsSound, Scene}
use Rattle.bk_conflicts.specs.SceneOf.{CanRunOn, scene_of}
use Rattle.bk_conflicts.specs.Words.{slot_of}
use Rattle.bk_conflicts.proofs.Folded.{is_folded}
use Rattle.bk_conflicts.proofs.Ran.{none_known, shown_there, some_slot}
use Rattle.bk_conflicts.proofs.Sound.{are_words, are_edges}
use Rattle.bk_steps.specs.Course.{Course, Phase, waiting, held, done, opened, IsDone}
use Rattle.bk_steps.specs.Laws.{OneFault, WholeRunsHaveNoFault}
use Rattle.bk_steps.specs.Refusals.{Allows, Refuses}
use Rattle.bk_steps.specs.Schedule.{RunsAmong, IsFirstRefused}
use Rattle.bk_steps.specs.declared.event.Event.{Event}
use Rattle.bk_base.specs.declared.refused.Refused as reason
use Rattle.bk_steps.specs.declared.outcome.ScheduleFault.TheVariants.{Refused, Unfinished}
use Rattle.bk_steps.proofs.Judging.{events_judged}
use Rattle.bk_tx.specs.Batches.{feed_transactions}
use Rattle.bk_ledger.proofs.Alone.{at_ids}
use Rattle.bk_apply.specs.Scheduling.{opening_of, IsPlanOfFeed}
use Rattle.bk_apply.proofs.Schedules.{feed_room, runs_on}
use Rattle.bk_laws.specs.Laws.{HasPlan, ScheduleAnswer, SchedulesTo, whole, not_whole}
use Rattle.bk_laws.proofs.Scheduling.{one_schedule_fault, same_ids, whole_schedules_have_no_fault}

-- ---- the slots of a ledger show its rows

-- an id without a slot afterwards had none before
none_before : (v : Version) (slots : List ℕ) (txs : List (Option Transaction)) (id : ℕ) → has_slot_after v slots txs id ≡ false → has_slot slots id ≡ false
none_before One slots txs id h = h
none_before Two slots txs id h = by_tests (has_slot slots id) (is_declared_by txs id) h
  where
    by_tests : (a b : Bool) → (a || b) ≡ false → a ≡ false
    by_tests true b e = e
    by_tests false b e = refl

-- in version One no slots are made
kept_by_one : (v : Version) (slots : List ℕ) (txs : List (Option Transaction)) (id : ℕ) → v ≡ One → has_slot_after v slots txs id ≡ has_slot slots id
kept_by_one One slots txs id e = refl
kept_by_one Two slots txs id e = absurd (let two : Two ≡ One = e in cc)

module _ (feed : FeedValue) (plan : PlanValue) (l : Ledger) (good : IsFeed feed) (of : IsPlanOfFeed feed plan l) where
  accounts : AreAccounts (genesis_of feed.frames)
  accounts = genesis_accounts feed.version feed.frames good

  rows_are : l.rows ≡ genesis_of feed.frames
  rows_are = of.prepared.rows

  version_is : l.version ≡ feed.version
  version_is = of.prepared.version

  ledger : IsLedger l.rows
  ledger = subst IsLedger (sym rows_are) (record { ascending = accounts.ascending; within = accounts.within })

  room : HasRoom l.version (length (feed_transactions feed.frames)) l.rows
  room = feed_room feed (feed_transactions feed.frames) (opening_of feed) l good accounts refl refl of.prepared

  all_slots : l.version ≡ One → ids_of l.rows ≡ l.slots
  all_slots one = ap ids_of rows_are ∙ same_ids (ids_of (genesis_of feed.frames)) l.slots accounts.ascending of.prepared.ascending
      (λ id. sym (of.prepared.slots id ∙ kept_by_one feed.version (ids_of (genesis_of feed.frames)) (feed_transactions feed.frames) id (sym version_is ∙ one)))

  there : (id : ℕ) → has_slot l.slots id ≡ true → shown_by l.version (numbers_of (account_at l.rows id)) ≡ account_at l.rows id
  there id h = at_slot (slot_of l.slots id) refl
    where
      at_slot : (o : Option ℕ) → slot_of l.slots id ≡ o → shown_by l.version (numbers_of (account_at l.rows id)) ≡ account_at l.rows id
      at_slot None e = absurd (both_ways (has_slot l.slots id) (some_slot l.slots id None e) h)
      at_slot (Some a) e = shown_there l.version l.slots (feed_transactions feed.frames) 0 l.rows ledger room all_slots id a e

  nowhere : (id : ℕ) → has_slot l.slots id ≡ false → account_at l.rows id ≡ None
  nowhere id h = sym (none_known (account_at l.rows id)
      (known_by_ids l.rows id ∙ (ap (λ (ids : List ℕ). has_slot ids id) (ap ids_of rows_are)
      ∙ none_before feed.version (ids_of (genesis_of feed.frames)) (feed_transactions feed.frames) id (sym (of.prepared.slots id) ∙ h))))

  slots_show : rows_shown l.version l.slots (slot_numbers l) ≡ l.rows
  slots_show = rows_same (rows_shown l.version l.slots (slot_numbers l)) l.rows
      (ascend-shown l.version l.slots (slot_numbers l) of.prepared.ascending) ledger.ascending
      (λ id. account_at-shown l.version l.slots (slot_numbers l) of.prepared.ascending (length-map l.slots (λ (i : ℕ). numbers_of (account_at l.rows i))) id
      ∙ at_ids l.version (account_at l.rows) l.slots id (there id) (nowhere id))

  can_run : CanRunOn plan l
  can_run = runs_on (feed_transactions feed.frames) l plan (of.version ∙ sym version_is) of.ids of.txs_are ledger slots_show room

  sound : IsSound (scene_of plan l)
  sound = record {
    are_words = are_words plan l;
    are_edges = are_edges plan l of.is_plan;
    is_folded = is_folded plan l of.is_plan can_run;
    few_places = of.is_plan.few_places;
    few_words = let a = of.is_plan.few_slots in omega arith;
  }

-- ---- events are done to the end, or one is refused

abbrev Ends : Scene → ℕ → Course → List Event → Type 0
Ends s n d es = (end : Course) × RunsAmong s n d es end

abbrev Stops : Scene → ℕ → Course → List Event → Type 0
Stops s n d es = (i : ℕ) × (why : reason.Refused) × IsFirstRefused s n d es i why

judged : (s : Scene) → IsSound s → (n : ℕ) (es : List Event) (d : Course) → Ends s n d es ⊎ Stops s n d es
judged s sound n [] d = inl (d, refl)
judged s sound n (e ∷ es) d = ⊎_elim
    (λ (h : (next : Course) × Allows s n d e next). ⊎_elim
    (λ (t : Ends s n h.0 es). inl (t.0, (h.0, h.1, t.1)))
    (λ (t : Stops s n h.0 es). inr (
      suc t.0,
      t.1,
      record {
        inside = (let low = t.2.inside in omega arith);
        course = t.2.course;
        runs = (h.0, h.1, t.2.runs);
        refused = t.2.refused;
      },
    ))
    (judged s sound n es h.0))
    (λ (h : (r : reason.Refused) × Refuses s n d e r). inr (0, h.0, record { inside = omega arith; course = d; runs = refl; refused = h.1 }))
    (events_judged s sound n d e)

-- ---- all places are done, or there is a least that is not

done_or_not : (x : Phase) → IsDone x ⊎ (IsDone x → ⊥)
done_or_not waiting = inr (λ h. h)
done_or_not (held w) = inr (λ h. h)
done_or_not (done st mv) = inl tt

abbrev DoneBelow : Course → ℕ → Type 0
DoneBelow d n = (p : ℕ) → p < n → IsDone (d.phase p)

abbrev LeftBelow : Course → ℕ → Type 0
LeftBelow d n = (p : ℕ) × (p < n) × (IsDone (d.phase p) → ⊥) × DoneBelow d p

one_more : (d : Course) (n : ℕ) → DoneBelow d n → IsDone (d.phase n) → DoneBelow d (suc n)
one_more d n all last p low = ⊎_elim
    (λ (l : p < n). all p l)
    (λ (ge : n ≤ p). let same : n ≡ p = omega arith in subst (λ (q : ℕ). IsDone (d.phase q)) same last)
    (cases_lt p n)

left_or_done : (d : Course) (n : ℕ) → DoneBelow d n ⊎ LeftBelow d n
left_or_done d zero = inl (λ p low. absurd (omega arith))
left_or_done d (suc n) = ⊎_elim
    (λ (all : DoneBelow d n). ⊎_elim
    (λ (last : IsDone (d.phase n)). inl (one_more d n all last))
    (λ (no : IsDone (d.phase n) → ⊥). inr (n, omega arith, no, all))
    (done_or_not (d.phase n)))
    (λ (left : LeftBelow d n). inr (left.0, (let low = left.1 in omega arith), left.2, left.3))
    (left_or_done d n)

-- ---- the law

module _ (no_fault : WholeRunsHaveNoFault) (one_fault : OneFault) (workers : ℕ) (events : List Event) (bytes : List ℕ) where
  answer_exists : HasPlan bytes → (answer : ScheduleAnswer) × SchedulesTo workers events bytes answer
  answer_exists (feed, good, spelled, (plan, l, of, _)) = ⊎_elim
      (λ (h : Ends (scene_of plan l) workers (opened (scene_of plan l)) events). ⊎_elim
      (λ (all : DoneBelow h.0 (scene_of plan l).places). (whole, (feed, good, spelled, (plan, l, of, (h.0, h.1, all)))))
      (λ (left : LeftBelow h.0 (scene_of plan l).places). (
        not_whole (Unfinished left.0),
        (tt, (feed, good, spelled, (plan, l, of, (h.0, h.1, record { inside = left.1; left = left.2; before = left.3 })))),
      ))
      (left_or_done h.0 (scene_of plan l).places))
      (λ (h : Stops (scene_of plan l) workers (opened (scene_of plan l)) events). (
        not_whole (Refused h.0 h.1),
        (tt, (feed, good, spelled, (plan, l, of, h.2))),
      ))
      (judged (scene_of plan l) (sound feed plan l good of) workers events (opened (scene_of plan l)))

  one_answer : (one other : ScheduleAnswer) → SchedulesTo workers events bytes one → SchedulesTo workers events bytes other → one ≡ other
  one_answer whole whole a b = refl
  one_answer whole (not_whole found) a b = absurd (whole_schedules_have_no_fault no_fault workers events bytes found b.0 a b.1)
  one_answer (not_whole found) whole a b = absurd (whole_schedules_have_no_fault no_fault workers events bytes found a.0 b a.1)
  one_answer (not_whole found) (not_whole other) a b = ap not_whole (one_schedule_fault one_fault workers events bytes found other a.0 b.0 a.1 b.1)

pub exactly_one_schedule_answer : WholeRunsHaveNoFault → OneFault → (workers : ℕ) (events : List Event) (bytes : List ℕ) → HasPlan bytes
    → (answer : ScheduleAnswer) × SchedulesTo workers events bytes answer × ((other : ScheduleAnswer) → SchedulesTo workers events bytes other → answer ≡ other)
exactly_one_schedule_answer no_fault one_fault workers events bytes h =
    let exists = answer_exists no_fault one_fault workers events bytes h in
    (exists.0, exists.1, λ other t. one_answer no_fault one_fault workers events bytes exists.0 other exists.1 t)
