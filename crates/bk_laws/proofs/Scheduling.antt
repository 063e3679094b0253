-- The schedules of a feed: plans of one feed differ in nothing that an event asks for.
use Rattle.std.proofs.Common.{◌≡◌, ◌≢◌, ℕ, ◌<◌, List, [], ◌∷◌, Bool, true, false, ◌||◌, refl, sym, ap, subst, ◌∙◌, ⊎_elim, arith}
use Rattle.std.proofs.lemmas.Bool.{and_parts, both_ways, cases_order, eq-eqb, eqb-true, ltb-true, or_cases}
use Rattle.std.specs.Prelude.{eqb, nat_lt, take, slice_index_or}
use Rattle.bk_base.specs.Feed.{FeedValue, IsFeed, spelling}
use Rattle.bk_base.specs.Numbers.{is_ascending}
use Rattle.bk_frames.proofs.OneReading.{one_feed}
use Rattle.bk_rules.specs.Ledger.{Ledger, has_slot, ledger_of, IsPrepared}
use Rattle.bk_conflicts.specs.Plan.{PlanValue, before_of, after_of}
use Rattle.bk_conflicts.specs.Scene.{Scene}
use Rattle.bk_conflicts.specs.SceneOf.{scene_of}
use Rattle.bk_steps.specs.Course.{Course, opened}
use Rattle.bk_steps.specs.Laws.{OneFault, WholeRunsHaveNoFault}
use Rattle.bk_steps.specs.Moves.{Moves, claims, reads_one, writes_one, finishes}
use Rattle.bk_steps.specs.Refusals.{Refuses, not_idle, not_ready, no_reader, not_read, read_late, no_writer, not_written, write_early, no_finisher, finish_early}
use Rattle.bk_steps.specs.Schedule.{RunsAmong, IsWholeAmong, IsFault, no_event}
use Rattle.bk_steps.specs.declared.event.Event.{Event}
use Rattle.bk_base.specs.declared.refused.Refused as reason
use Rattle.bk_steps.specs.declared.outcome.ScheduleFault.{ScheduleFault}
use Rattle.bk_steps.specs.declared.outcome.ScheduleFault.TheVariants.{Refused, Unfinished, OutOfMemory}
use Rattle.bk_tx.specs.Batches.{feed_transactions}
use Rattle.bk_apply.specs.Scheduling.{opening_of, IsNotWholeFor, IsOfEvents, IsPlanOfFeed, IsWholeFor}

-- ---- ids in ascending order are one list where they are the same

not_below : (x : ℕ) (xs : List ℕ) (id : ℕ) → is_ascending (x ∷ xs) ≡ true → has_slot xs id ≡ true → x < id
not_below x [] id a h = absurd (both_ways false refl h)
not_below x (y ∷ ys) id a h =
    let both = and_parts (nat_lt x y) (is_ascending (y ∷ ys)) a in
    let low : x < y = ltb-true x y both.0 in
    ⊎_elim
    (λ (e : eqb y id ≡ true). let same : y ≡ id = eqb-true y id e in omega arith)
    (λ (t : has_slot ys id ≡ true). let later : y < id = not_below y ys id both.1 t in omega arith)
    (or_cases (eqb y id) (has_slot ys id) h)

first_has : (y : ℕ) (ys : List ℕ) → has_slot (y ∷ ys) y ≡ true
first_has y ys = ap (λ (t : Bool). t || has_slot ys y) (eq-eqb y y refl)

later_ascend : (x : ℕ) (xs : List ℕ) → is_ascending (x ∷ xs) ≡ true → is_ascending xs ≡ true
later_ascend x [] a = refl
later_ascend x (y ∷ ys) a = (and_parts (nat_lt x y) (is_ascending (y ∷ ys)) a).1

-- the first of one list is not below that of the other
not_first : (x : ℕ) (xs : List ℕ) (y : ℕ) (ys : List ℕ) → is_ascending (y ∷ ys) ≡ true → has_slot (x ∷ xs) x ≡ has_slot (y ∷ ys) x → x < y → ⊥
not_first x xs y ys b h low = ⊎_elim
    (λ (e : eqb y x ≡ true). let same : y ≡ x = eqb-true y x e in omega arith)
    (λ (t : has_slot ys x ≡ true). let later : y < x = not_below y ys x b t in omega arith)
    (or_cases (eqb y x) (has_slot ys x) (sym h ∙ first_has x xs))

none_where : (b : Bool) → (b ≡ true → ⊥) → b ≡ false
none_where true h = absurd (h refl)
none_where false h = refl

rest_of : (a b p q : Bool) → a ≡ b → (a || p) ≡ (b || q) → (a ≡ true → p ≡ q) → p ≡ q
rest_of true b p q e h k = k refl
rest_of false true p q e h k = absurd (both_ways true (sym e) refl)
rest_of false false p q e h k = h

pub same_ids : (xs ys : List ℕ) → is_ascending xs ≡ true → is_ascending ys ≡ true → ((id : ℕ) → has_slot xs id ≡ has_slot ys id) → xs ≡ ys
same_ids [] [] a b h = refl
same_ids [] (y ∷ ys) a b h = absurd (both_ways (has_slot (y ∷ ys) y) (sym (h y)) (first_has y ys))
same_ids (x ∷ xs) [] a b h = absurd (both_ways (has_slot (x ∷ xs) x) (h x) (first_has x xs))
same_ids (x ∷ xs) (y ∷ ys) a b h =
    let e : x ≡ y = ⊎_elim
    (λ (same : x ≡ y). same)
    (λ off. ⊎_elim
    (λ (low : x < y). absurd (not_first x xs y ys b (h x) low))
    (λ (low : y < x). absurd (not_first y ys x xs a (sym (h y)) low))
    off)
    (cases_order x y) in
    let none = λ (id : ℕ) (z : ℕ) (zs : List ℕ) (c : is_ascending (z ∷ zs) ≡ true) (at : z ≡ id). none_where (has_slot zs id) (λ t. let low : z < id = not_below z zs id c t in omega arith) in
    let rest : (id : ℕ) → has_slot xs id ≡ has_slot ys id = λ id.
    rest_of (eqb x id) (eqb y id) (has_slot xs id) (has_slot ys id) (ap (λ (z : ℕ). eqb z id) e) (h id)
    (λ t. let at : x ≡ id = eqb-true x id t in none id x xs a at ∙ sym (none id y ys b (sym e ∙ at))) in
    let later : xs ≡ ys = same_ids xs ys (later_ascend x xs a) (later_ascend y ys b) rest in
    λ i. e i ∷ later i

-- ---- events ask nothing of edges

-- the scene with other edges
abbrev edged : Scene → (ℕ → ℕ) → (ℕ → List ℕ) → Scene
edged s before next = record s { before = before; next = next }

module _ (s : Scene) (before : ℕ → ℕ) (next : ℕ → List ℕ) where
  moves_there : (d after : Course) (e : Event) → Moves s d e after → Moves (edged s before next) d e after
  moves_there d after e (claims w p idle waits inside earlier) = claims w p idle waits inside earlier
  moves_there d after e (reads_one w p x rs mine declared) = reads_one w p x rs mine declared
  moves_there d after e (writes_one w p x v rs ws mine all may fresh value) = writes_one w p x v rs ws mine all may fresh value
  moves_there d after e (finishes w p st mv rs ws mine all wrote status moved) = finishes w p st mv rs ws mine all wrote status moved

  refuses_there : (n : ℕ) (d : Course) (e : Event) (why : reason.Refused) → Refuses s n d e why → Refuses (edged s before next) n d e why
  refuses_there n d e why (not_idle w p h) = not_idle w p h
  refuses_there n d e why (not_ready w p h i) = not_ready w p h i
  refuses_there n d e why (no_reader w x h) = no_reader w x h
  refuses_there n d e why (not_read w x p rs ws h i) = not_read w x p rs ws h i
  refuses_there n d e why (read_late w x p rs ws h i j) = read_late w x p rs ws h i j
  refuses_there n d e why (no_writer w x h) = no_writer w x h
  refuses_there n d e why (not_written w x p rs ws h i) = not_written w x p rs ws h i
  refuses_there n d e why (write_early w x p rs ws h i j) = write_early w x p rs ws h i j
  refuses_there n d e why (no_finisher w h) = no_finisher w h
  refuses_there n d e why (finish_early w p rs ws h i) = finish_early w p rs ws h i

  runs_there : (n : ℕ) (es : List Event) (d end : Course) → RunsAmong s n d es end → RunsAmong (edged s before next) n d es end
  runs_there n [] d end e = e
  runs_there n (e ∷ es) d end (after, allowed, rest) = (after, (allowed.0, moves_there d after e allowed.1), runs_there n es after end rest)

  whole_there : (n : ℕ) (es : List Event) → IsWholeAmong s n es → IsWholeAmong (edged s before next) n es
  whole_there n es (end, runs, all) = (end, runs_there n es (opened s) end runs, all)

  fault_there : (n : ℕ) (es : List Event) (found : ScheduleFault) → IsFault s n es found → IsFault (edged s before next) n es found
  fault_there n es (Refused index why) h = record {
    inside = h.inside;
    course = h.course;
    runs = runs_there n (take index es) (opened s) h.course h.runs;
    refused = refuses_there n h.course (slice_index_or es index no_event) why h.refused;
  }
  fault_there n es (Unfinished place) (end, runs, least) =
      (end, runs_there n es (opened s) end runs, record { inside = least.inside; left = least.left; before = least.before })
  fault_there n es OutOfMemory h = tt

-- ---- plans of one feed

same_scene : (plan other : PlanValue) (l m : Ledger) → other.version ≡ plan.version → other.ids ≡ plan.ids → other.txs ≡ plan.txs → m.rows ≡ l.rows
    → scene_of other m ≡ edged (scene_of plan l) (before_of other) (after_of other)
same_scene plan other l m version ids txs rows =
    λ i. scene_of (record { version = version i; ids = ids i; txs = txs i; before = other.before; after = other.after }) (ledger_of m.version m.slots (rows i))

same_slots : (feed : FeedValue) (l m : Ledger) → IsPrepared (feed_transactions feed.frames) (opening_of feed) l → IsPrepared (feed_transactions feed.frames) (opening_of feed) m
    → l.slots ≡ m.slots
same_slots feed l m one other = same_ids l.slots m.slots one.ascending other.ascending (λ id. one.slots id ∙ sym (other.slots id))

-- what is true of the execution of one plan of a feed, and is no matter of edges, is true of that of another
module _ (feed : FeedValue) (plan other : PlanValue) (l m : Ledger) (one : IsPlanOfFeed feed plan l) (two : IsPlanOfFeed feed other m) where
  there : scene_of other m ≡ edged (scene_of plan l) (before_of other) (after_of other)
  there = same_scene plan other l m
      (two.version ∙ sym one.version)
      (two.ids ∙ (same_slots feed m l two.prepared one.prepared ∙ sym one.ids))
      (two.txs_are ∙ sym one.txs_are)
      (two.prepared.rows ∙ sym one.prepared.rows)

  same_whole : (n : ℕ) (es : List Event) → IsWholeAmong (scene_of plan l) n es → IsWholeAmong (scene_of other m) n es
  same_whole n es h = subst (λ (s : Scene). IsWholeAmong s n es) (sym there) (whole_there (scene_of plan l) (before_of other) (after_of other) n es h)

  same_fault : (n : ℕ) (es : List Event) (found : ScheduleFault) → IsFault (scene_of plan l) n es found → IsFault (scene_of other m) n es found
  same_fault n es found h = subst (λ (s : Scene). IsFault s n es found) (sym there) (fault_there (scene_of plan l) (before_of other) (after_of other) n es found h)

-- ---- the laws

not_memory : (found : ScheduleFault) → IsOfEvents found → found ≢ OutOfMemory
not_memory found of e = subst IsOfEvents e of

of_feed : (feed other : FeedValue) (bytes : List ℕ) (plan : PlanValue) (l : Ledger) → IsFeed feed → IsFeed other → bytes ≡ spelling feed → bytes ≡ spelling other
    → IsPlanOfFeed other plan l → IsPlanOfFeed feed plan l
of_feed feed other bytes plan l good also spelled same of =
    subst (λ (f : FeedValue). IsPlanOfFeed f plan l) (one_feed other feed also good (sym same ∙ spelled)) of

pub one_schedule_fault : OneFault → (workers : ℕ) (events : List Event) (bytes : List ℕ) (found other : ScheduleFault) → IsOfEvents found → IsOfEvents other
    → IsNotWholeFor workers events found bytes → IsNotWholeFor workers events other bytes → found ≡ other
one_schedule_fault one_fault workers events bytes found other of also (feed, good, spelled, (plan, l, one, h)) (same, too, read, (again, m, two, g)) =
    one_fault (scene_of again m) workers events found other
    (same_fault feed plan again l m one (of_feed feed same bytes again m good too spelled read two) workers events found h) g
    (not_memory found of) (not_memory other also)

pub whole_schedules_have_no_fault : WholeRunsHaveNoFault → (workers : ℕ) (events : List Event) (bytes : List ℕ) (found : ScheduleFault) → IsOfEvents found
    → IsWholeFor workers events bytes → IsNotWholeFor workers events found bytes → ⊥
whole_schedules_have_no_fault no_fault workers events bytes found of (feed, good, spelled, (plan, l, one, h)) (same, too, read, (again, m, two, g)) =
    not_memory found of (no_fault (scene_of again m) workers events found
    (same_whole feed plan again l m one (of_feed feed same bytes again m good too spelled read two) workers events h) g)
