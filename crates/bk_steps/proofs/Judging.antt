-- Each event is allowed or refused, for one reason.
use Rattle.std.proofs.Common.{◌≡◌, ◌≢◌, ◌⊎◌, inl, inr, ⊎_elim, ℕ, zero, suc, ◌<◌, ◌≤◌, List, [], ◌∷◌, Bool, true, false, sym, refl, ap, ◌∙◌, subst, arith}
use Rattle.std.proofs.lemmas.Bool.{cases_eq, cases_lt, cases_Bool, both_ways}
use Rattle.bk_conflicts.specs.Scene.{Scene, IsSound}
use Rattle.bk_steps.specs.Course.{Course, Phase, waiting, held, done, Hand, free, busy, Has, HasRead, found, IsDone}
use Rattle.bk_steps.specs.Moves.{after_claim, after_read, after_write, after_finish, HasReadAll, HasWrittenAll, EarlierAreDone, Moves, claims, reads_one, writes_one, finishes}
use Rattle.bk_steps.specs.Refusals.{worker_of, Allows, Refuses, IsIdle, IsHolder, IsReady, not_idle, not_ready, no_reader, not_read, read_late, no_writer, not_written, write_early, no_finisher, finish_early}
use Rattle.bk_steps.specs.Laws.{EventsAreJudged, AllowedIsNotRefused, OneRefusal}
use Rattle.bk_steps.specs.declared.event.Event.{Event}
use Rattle.bk_steps.specs.declared.event.Event.TheVariants.{Claim, Read, Write, Finish}
use Rattle.bk_base.specs.declared.refused.Refused.{Refused}
use Rattle.bk_base.specs.declared.refused.Refused.TheVariants.{NotReady, NotIdle, NotHolder, NotDeclared, OutOfTurn}

-- ---- what can be decided

hand_cases : (h : Hand) → (h ≡ free) ⊎ ((p : ℕ) × (rs : List (ℕ × ℕ)) × (ws : List ℕ) × (h ≡ busy p rs ws))
hand_cases free = inl refl
hand_cases (busy p rs ws) = inr (p, rs, ws, refl)

waiting_cases : (f : Phase) → (f ≡ waiting) ⊎ (f ≢ waiting)
waiting_cases waiting = inl refl
waiting_cases (held w) = inr (λ e. cc)
waiting_cases (done st mv) = inr (λ e. cc)

done_cases : (f : Phase) → IsDone f ⊎ (¬ IsDone f)
done_cases waiting = inr (λ h. h)
done_cases (held w) = inr (λ h. h)
done_cases (done st mv) = inl tt

has_cases : (xs : List ℕ) (x : ℕ) → Has xs x ⊎ (¬ Has xs x)
has_cases [] x = inr (λ h. h)
has_cases (y ∷ ys) x = ⊎_elim
    (λ (e : y ≡ x). inl (inl e))
    (λ (n : y ≢ x). ⊎_elim (λ (h : Has ys x). inl (inr h)) (λ (m : ¬ Has ys x). inr (λ h. ⊎_elim n m h)) (has_cases ys x))
    (cases_eq y x)

read_cases : (rs : List (ℕ × ℕ)) (x : ℕ) → HasRead rs x ⊎ (¬ HasRead rs x)
read_cases [] x = inr (λ h. h)
read_cases (r ∷ rs) x = ⊎_elim
    (λ (e : r.0 ≡ x). inl (inl e))
    (λ (n : r.0 ≢ x). ⊎_elim (λ (h : HasRead rs x). inl (inr h)) (λ (m : ¬ HasRead rs x). inr (λ h. ⊎_elim n m h)) (read_cases rs x))
    (cases_eq r.0 x)

-- what can be decided of each number can be decided of all those below n that meet a test
all_cases : (D : ℕ → Type 0) (P : ℕ → Bool) → ((x : ℕ) → D x ⊎ (¬ D x)) → (n : ℕ)
    → ((x : ℕ) → x < n → P x ≡ true → D x) ⊎ (¬ ((x : ℕ) → x < n → P x ≡ true → D x))
all_cases D P told zero = inl (λ x l e. absurd (omega arith))
all_cases D P told (suc n) = ⊎_elim
    (λ (all : (x : ℕ) → x < n → P x ≡ true → D x). ⊎_elim
    (λ (yes_ : D n). inl (λ x l e. ⊎_elim
    (λ (same : x ≡ n). subst D (sym same) yes_)
    (λ (other : x ≢ n). all x (omega arith) e)
    (cases_eq x n)))
    (λ (not : ¬ D n). ⊎_elim
    (λ (hit : P n ≡ true). inr (λ g. not (g n (omega arith) hit)))
    (λ (miss : P n ≡ false). inl (λ x l e. ⊎_elim
    (λ (same : x ≡ n). absurd (both_ways (P n) miss (subst (λ (y : ℕ). P y ≡ true) same e)))
    (λ (other : x ≢ n). all x (omega arith) e)
    (cases_eq x n)))
    (cases_Bool (P n)))
    (told n))
    (λ (some : ¬ ((x : ℕ) → x < n → P x ≡ true → D x)). inr (λ g. some (λ x l e. g x (omega arith) e)))
    (all_cases D P told n)

earlier_cases : (s : Scene) (d : Course) (p : ℕ) → EarlierAreDone s d p ⊎ (¬ EarlierAreDone s d p)
earlier_cases s d p = all_cases (λ q. IsDone (d.phase q)) (λ q. s.clash q p) (λ q. done_cases (d.phase q)) p

read_all_cases : (s : Scene) → IsSound s → (p : ℕ) (rs : List (ℕ × ℕ)) → HasReadAll s p rs ⊎ (¬ HasReadAll s p rs)
read_all_cases s k p rs = ⊎_elim
    (λ (all : (x : ℕ) → x < s.words → s.declares p x ≡ true → HasRead rs x). inl (λ x e. all x (k.are_words.words_inside p x e) e))
    (λ (some : ¬ ((x : ℕ) → x < s.words → s.declares p x ≡ true → HasRead rs x)). inr (λ g. some (λ x l e. g x e)))
    (all_cases (HasRead rs) (s.declares p) (read_cases rs) s.words)

written_all_cases : (s : Scene) → IsSound s → (p : ℕ) (ws : List ℕ) → HasWrittenAll s p ws ⊎ (¬ HasWrittenAll s p ws)
written_all_cases s k p ws = ⊎_elim
    (λ (all : (x : ℕ) → x < s.words → s.writes p x ≡ true → Has ws x).
    inl (λ x e. all x (k.are_words.words_inside p x (k.are_words.written_declared p x e)) e))
    (λ (some : ¬ ((x : ℕ) → x < s.words → s.writes p x ≡ true → Has ws x)). inr (λ g. some (λ x l e. g x e)))
    (all_cases (Has ws) (s.writes p) (has_cases ws) s.words)

idle_cases : (workers : ℕ) (d : Course) (w : ℕ) → IsIdle workers d w ⊎ (¬ IsIdle workers d w)
idle_cases workers d w = ⊎_elim
    (λ (low : w < workers). ⊎_elim
    (λ (idle : d.hand w ≡ free). inl (low, idle))
    (λ h. inr (λ i. let no : free ≡ busy h.0 h.1 h.2 = sym i.1 ∙ h.3 in cc))
    (hand_cases (d.hand w)))
    (λ (high : workers ≤ w). inr (λ i. let low = i.0 in omega arith))
    (cases_lt w workers)

holder_cases : (workers : ℕ) (d : Course) (w : ℕ) → IsHolder workers d w ⊎ (¬ IsHolder workers d w)
holder_cases workers d w = ⊎_elim
    (λ (low : w < workers). ⊎_elim
    (λ (idle : d.hand w ≡ free). inr (λ h. let no : free ≡ busy h.0 h.1 h.2 = sym idle ∙ h.3.1 in cc))
    (λ h. inl (h.0, h.1, h.2, (low, h.3)))
    (hand_cases (d.hand w)))
    (λ (high : workers ≤ w). inr (λ h. let low = h.3.0 in omega arith))
    (cases_lt w workers)

ready_cases : (s : Scene) (d : Course) (p : ℕ) → IsReady s d p ⊎ (¬ IsReady s d p)
ready_cases s d p = ⊎_elim
    (λ (low : p < s.places). ⊎_elim
    (λ (waits : d.phase p ≡ waiting). ⊎_elim
    (λ (before : EarlierAreDone s d p). inl (low, waits, before))
    (λ (no : ¬ EarlierAreDone s d p). inr (λ r. no r.2))
    (earlier_cases s d p))
    (λ (no : d.phase p ≢ waiting). inr (λ r. no r.1))
    (waiting_cases (d.phase p)))
    (λ (high : s.places ≤ p). inr (λ r. let low = r.0 in omega arith))
    (cases_lt p s.places)

-- no write, or some
none_cases : (ws : List ℕ) → (ws ≡ []) ⊎ (¬ (ws ≡ []))
none_cases [] = inl refl
none_cases (x ∷ ws) = inr (λ e. cc)

-- ---- each event is judged

abbrev Verdict : Scene → ℕ → Course → Event → Type 0
Verdict s workers d e = ((next : Course) × Allows s workers d e next) ⊎ ((r : Refused) × Refuses s workers d e r)

judge_claim : (s : Scene) (workers : ℕ) (d : Course) (w p : ℕ) → Verdict s workers d (Claim w p)
judge_claim s workers d w p = ⊎_elim
    (λ (idle : IsIdle workers d w). ⊎_elim
    (λ (ready : IsReady s d p). inl (after_claim d w p, (idle.0, claims w p idle.1 ready.1 ready.0 ready.2)))
    (λ (no : ¬ IsReady s d p). inr (NotReady, not_ready w p idle no))
    (ready_cases s d p))
    (λ (no : ¬ IsIdle workers d w). inr (NotIdle, not_idle w p no))
    (idle_cases workers d w)

judge_read : (s : Scene) (workers : ℕ) (d : Course) (w x : ℕ) → Verdict s workers d (Read w x)
judge_read s workers d w x = ⊎_elim
    (λ (h : IsHolder workers d w). ⊎_elim
    (λ (decl : s.declares h.0 x ≡ true). ⊎_elim
    (λ (none : h.2 ≡ []). inl (
      after_read d w h.0 h.1 x,
      (h.3.0, reads_one w h.0 x h.1 (h.3.1 ∙ ap (busy h.0 h.1) none) decl),
    ))
    (λ (no : ¬ (h.2 ≡ [])). inr (OutOfTurn, read_late w x h.0 h.1 h.2 h.3 decl no))
    (none_cases h.2))
    (λ (miss : s.declares h.0 x ≡ false). inr (NotDeclared, not_read w x h.0 h.1 h.2 h.3 (λ e. both_ways (s.declares h.0 x) miss e)))
    (cases_Bool (s.declares h.0 x)))
    (λ (no : ¬ IsHolder workers d w). inr (NotHolder, no_reader w x no))
    (holder_cases workers d w)

judge_write : (s : Scene) → IsSound s → (workers : ℕ) (d : Course) (w x : ℕ) → Verdict s workers d (Write w x)
judge_write s k workers d w x = ⊎_elim
    (λ (h : IsHolder workers d w). ⊎_elim
    (λ (wr : s.writes h.0 x ≡ true). ⊎_elim
    (λ (all : HasReadAll s h.0 h.1). ⊎_elim
    (λ (old : Has h.2 x). inr (OutOfTurn, write_early w x h.0 h.1 h.2 h.3 wr (λ g. g.1 old)))
    (λ (fresh : ¬ Has h.2 x). inl (
      after_write d w h.0 h.1 h.2 x (s.effect h.0 (found h.1) x),
      (h.3.0, writes_one w h.0 x _ h.1 h.2 h.3.1 all wr fresh refl),
    ))
    (has_cases h.2 x))
    (λ (no : ¬ HasReadAll s h.0 h.1). inr (OutOfTurn, write_early w x h.0 h.1 h.2 h.3 wr (λ g. no g.0)))
    (read_all_cases s k h.0 h.1))
    (λ (miss : s.writes h.0 x ≡ false). inr (NotDeclared, not_written w x h.0 h.1 h.2 h.3 (λ e. both_ways (s.writes h.0 x) miss e)))
    (cases_Bool (s.writes h.0 x)))
    (λ (no : ¬ IsHolder workers d w). inr (NotHolder, no_writer w x no))
    (holder_cases workers d w)

judge_finish : (s : Scene) → IsSound s → (workers : ℕ) (d : Course) (w : ℕ) → Verdict s workers d (Finish w)
judge_finish s k workers d w = ⊎_elim
    (λ (h : IsHolder workers d w). ⊎_elim
    (λ (all : HasReadAll s h.0 h.1). ⊎_elim
    (λ (wrote : HasWrittenAll s h.0 h.2). inl (
      after_finish d w h.0 (s.status h.0 (found h.1)) (s.moved h.0 (found h.1)),
      (h.3.0, finishes w h.0 _ _ h.1 h.2 h.3.1 all wrote refl refl),
    ))
    (λ (no : ¬ HasWrittenAll s h.0 h.2). inr (OutOfTurn, finish_early w h.0 h.1 h.2 h.3 (λ g. no g.1)))
    (written_all_cases s k h.0 h.2))
    (λ (no : ¬ HasReadAll s h.0 h.1). inr (OutOfTurn, finish_early w h.0 h.1 h.2 h.3 (λ g. no g.0)))
    (read_all_cases s k h.0 h.1))
    (λ (no : ¬ IsHolder workers d w). inr (NotHolder, no_finisher w no))
    (holder_cases workers d w)

pub events_judged : EventsAreJudged
events_judged s k workers d (Claim w p) = judge_claim s workers d w p
events_judged s k workers d (Read w x) = judge_read s workers d w x
events_judged s k workers d (Write w x) = judge_write s k workers d w x
events_judged s k workers d (Finish w) = judge_finish s k workers d w

-- ---- and for one reason

-- what is said of the place, the reads and the writes of a hand is said of them however they are named
carry : (K : ℕ → List (ℕ × ℕ) → List ℕ → Type 0) (h : Hand) (p q : ℕ) (rs qs : List (ℕ × ℕ)) (ws us : List ℕ)
    → h ≡ busy p rs ws → h ≡ busy q qs us → K p rs ws → K q qs us
carry K h p q rs qs ws us a b k =
    let e : busy p rs ws ≡ busy q qs us = sym a ∙ b in
    let e1 : p ≡ q = cc in
    let e2 : rs ≡ qs = cc in
    let e3 : ws ≡ us = cc in
    subst (λ (y : ℕ × List (ℕ × ℕ) × List ℕ). K y.0 y.1 y.2) (λ i. (e1 i, e2 i, e3 i)) k

both_not : (s : Scene) (workers : ℕ) (d next : Course) (e : Event) (r : Refused) → worker_of e < workers → Moves s d e next
    → Refuses s workers d e r → ⊥
both_not s workers d next e r low (claims w p idle waits inside before) (not_idle _ _ bad) = bad (low, idle)
both_not s workers d next e r low (claims w p idle waits inside before) (not_ready _ _ _ bad) = bad (inside, waits, before)
both_not s workers d next e r low (reads_one w p x rs mine decl) (no_reader _ _ bad) = bad (p, rs, [], (low, mine))
both_not s workers d next e r low (reads_one w p x rs mine decl) (not_read _ _ q qs us b bad) =
    bad (carry (λ y _ _. s.declares y x ≡ true) (d.hand w) p q rs qs [] us mine b.1 decl)
both_not s workers d next e r low (reads_one w p x rs mine decl) (read_late _ _ q qs us b _ bad) =
    bad (carry (λ _ _ vs. vs ≡ []) (d.hand w) p q rs qs [] us mine b.1 refl)
both_not s workers d next e r low (writes_one w p x v rs ws mine all wr fresh value) (no_writer _ _ bad) = bad (p, rs, ws, (low, mine))
both_not s workers d next e r low (writes_one w p x v rs ws mine all wr fresh value) (not_written _ _ q qs us b bad) =
    bad (carry (λ y _ _. s.writes y x ≡ true) (d.hand w) p q rs qs ws us mine b.1 wr)
both_not s workers d next e r low (writes_one w p x v rs ws mine all wr fresh value) (write_early _ _ q qs us b _ bad) =
    bad (carry (λ y ys vs. HasReadAll s y ys × (¬ Has vs x)) (d.hand w) p q rs qs ws us mine b.1 (all, fresh))
both_not s workers d next e r low (finishes w p st mv rs ws mine all wrote is_st is_mv) (no_finisher _ bad) = bad (p, rs, ws, (low, mine))
both_not s workers d next e r low (finishes w p st mv rs ws mine all wrote is_st is_mv) (finish_early _ q qs us b bad) =
    bad (carry (λ y ys vs. HasReadAll s y ys × HasWrittenAll s y vs) (d.hand w) p q rs qs ws us mine b.1 (all, wrote))

pub allowed_not_refused : AllowedIsNotRefused
allowed_not_refused s workers d next e r (low, move) f = both_not s workers d next e r low move f

pub one_refusal : OneRefusal
one_refusal s workers d e r other (not_idle w p bad) (not_idle _ _ _) = refl
one_refusal s workers d e r other (not_idle w p bad) (not_ready _ _ idle _) = absurd (bad idle)
one_refusal s workers d e r other (not_ready w p idle bad) (not_idle _ _ busy_now) = absurd (busy_now idle)
one_refusal s workers d e r other (not_ready w p idle bad) (not_ready _ _ _ _) = refl
one_refusal s workers d e r other (no_reader w x bad) (no_reader _ _ _) = refl
one_refusal s workers d e r other (no_reader w x bad) (not_read _ _ q qs us b _) = absurd (bad (q, qs, us, b))
one_refusal s workers d e r other (no_reader w x bad) (read_late _ _ q qs us b _ _) = absurd (bad (q, qs, us, b))
one_refusal s workers d e r other (not_read w x p rs ws b bad) (no_reader _ _ nobody) = absurd (nobody (p, rs, ws, b))
one_refusal s workers d e r other (not_read w x p rs ws b bad) (not_read _ _ _ _ _ _ _) = refl
one_refusal s workers d e r other (not_read w x p rs ws b bad) (read_late _ _ q qs us c decl _) =
    absurd (bad (carry (λ y _ _. s.declares y x ≡ true) (d.hand w) q p qs rs us ws c.1 b.1 decl))
one_refusal s workers d e r other (read_late w x p rs ws b decl bad) (no_reader _ _ nobody) = absurd (nobody (p, rs, ws, b))
one_refusal s workers d e r other (read_late w x p rs ws b decl bad) (not_read _ _ q qs us c miss) =
    absurd (miss (carry (λ y _ _. s.declares y x ≡ true) (d.hand w) p q rs qs ws us b.1 c.1 decl))
one_refusal s workers d e r other (read_late w x p rs ws b decl bad) (read_late _ _ _ _ _ _ _ _) = refl
one_refusal s workers d e r other (no_writer w x bad) (no_writer _ _ _) = refl
one_refusal s workers d e r other (no_writer w x bad) (not_written _ _ q qs us b _) = absurd (bad (q, qs, us, b))
one_refusal s workers d e r other (no_writer w x bad) (write_early _ _ q qs us b _ _) = absurd (bad (q, qs, us, b))
one_refusal s workers d e r other (not_written w x p rs ws b bad) (no_writer _ _ nobody) = absurd (nobody (p, rs, ws, b))
one_refusal s workers d e r other (not_written w x p rs ws b bad) (not_written _ _ _ _ _ _ _) = refl
one_refusal s workers d e r other (not_written w x p rs ws b bad) (write_early _ _ q qs us c wr _) =
    absurd (bad (carry (λ y _ _. s.writes y x ≡ true) (d.hand w) q p qs rs us ws c.1 b.1 wr))
one_refusal s workers d e r other (write_early w x p rs ws b wr bad) (no_writer _ _ nobody) = absurd (nobody (p, rs, ws, b))
one_refusal s workers d e r other (write_early w x p rs ws b wr bad) (not_written _ _ q qs us c miss) =
    absurd (miss (carry (λ y _ _. s.writes y x ≡ true) (d.hand w) p q rs qs ws us b.1 c.1 wr))
one_refusal s workers d e r other (write_early w x p rs ws b wr bad) (write_early _ _ _ _ _ _ _ _) = refl
one_refusal s workers d e r other (no_finisher w bad) (no_finisher _ _) = refl
one_refusal s workers d e r other (no_finisher w bad) (finish_early _ q qs us b _) = absurd (bad (q, qs, us, b))
one_refusal s workers d e r other (finish_early w p rs ws b bad) (no_finisher _ nobody) = absurd (nobody (p, rs, ws, b))
one_refusal s workers d e r other (finish_early w p rs ws b bad) (finish_early _ _ _ _ _ _) = refl
