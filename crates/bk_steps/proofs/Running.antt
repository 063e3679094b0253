-- Runs keep what holds of a course, and whole runs end with the fold.
use Rattle.std.proofs.Common.{◌≡◌, ℕ, ◌≤◌, List, [], ◌∷◌, ◌++◌, true, sym, refl, ◌∙◌, subst, arith}
use Rattle.bk_conflicts.specs.Scene.{Scene, IsSound, Chain, status_at, moved_at}
use Rattle.bk_steps.specs.Course.{Course, Phase, waiting, held, done, busy, found, opened, IsDone, IsSettled}
use Rattle.bk_steps.specs.Moves.{after_write, after_finish, HasReadAll, HasWrittenAll, Moves, claims, reads_one, writes_one, finishes, Runs, IsReached, AllAreDone, IsWholeRun}
use Rattle.bk_steps.specs.Kept.{IsKept, IsFold}
use Rattle.bk_steps.specs.Laws.{EdgesAreConflicts, EndAlike}
use Rattle.bk_steps.specs.declared.event.Event.{Event}
use Rattle.bk_steps.proofs.Scenes.{writer_inside}
use Rattle.bk_steps.proofs.Found.{effect_fold, status_fold, moved_fold}
use Rattle.bk_steps.proofs.Owing.{closed}
use Rattle.bk_steps.proofs.Written.{written_done}
use Rattle.bk_steps.proofs.Claims.{keeps_opening, keeps_claim}
use Rattle.bk_steps.proofs.Turns.{keeps_read, keeps_write}
use Rattle.bk_steps.proofs.Finishes.{keeps_finish}

pub keeps_effect : (s : Scene) → IsSound s → (d : Course) (w p x : ℕ) (rs : List (ℕ × ℕ)) (ws : List ℕ)
    → IsKept s d → d.hand w ≡ busy p rs ws → HasReadAll s p rs → s.writes p x ≡ true
    → IsKept s (after_write d w p rs ws x (s.effect p (found rs) x))
keeps_effect s z d w p x rs ws k mine all wr = keeps_write s z d w p x (s.effect p (found rs) x) rs ws k mine wr
    (effect_fold s z p rs x (k.reads w p rs ws mine) all wr)

pub keeps_receipt : (s : Scene) → IsSound s → (d : Course) (w p : ℕ) (rs : List (ℕ × ℕ)) (ws : List ℕ)
    → IsKept s d → d.hand w ≡ busy p rs ws → HasReadAll s p rs → HasWrittenAll s p ws
    → IsKept s (after_finish d w p (s.status p (found rs)) (s.moved p (found rs)))
keeps_receipt s z d w p rs ws k mine all wrote =
    let fold = k.reads w p rs ws mine in
    keeps_finish s d w p (s.status p (found rs)) (s.moved p (found rs)) rs ws k mine wrote
    (status_fold s z p rs fold all) (moved_fold s z p rs fold all)

pub keeps_event : (s : Scene) → IsSound s → (d next : Course) (e : Event) → IsKept s d → Moves s d e next
    → IsKept s next
keeps_event s z d next e k (claims w p idle waits inside before) = keeps_claim s z d w p k idle waits inside before
keeps_event s z d next e k (reads_one w p x rs mine decl) = keeps_read s z d w p x rs k mine decl
keeps_event s z d next e k (writes_one w p x v rs ws mine all wr fresh value) = keeps_write s z d w p x v rs ws k mine wr
    (value ∙ effect_fold s z p rs x (k.reads w p rs ws mine) all wr)
keeps_event s z d next e k (finishes w p st mv rs ws mine all wrote is_st is_mv) =
    let fold = k.reads w p rs ws mine in
    keeps_finish s d w p st mv rs ws k mine wrote (is_st ∙ status_fold s z p rs fold all) (is_mv ∙ moved_fold s z p rs fold all)

pub keeps_run : (s : Scene) → IsSound s → (es : List Event) (d end : Course) → IsKept s d → Runs s d es end
    → IsKept s end
keeps_run s z [] d end k r = subst (IsKept s) (sym r) k
keeps_run s z (e ∷ es) d end k (next, move, rest) = keeps_run s z es next end (keeps_event s z d next e k move) rest

-- one event more
pub runs_then : (s : Scene) (es : List Event) (d end next : Course) (e : Event) → Runs s d es end → Moves s end e next
    → Runs s d (es ++ e ∷ []) next
runs_then s [] d end next e is move = (next, subst (λ (c : Course). Moves s c e next) is move, refl)
runs_then s (f ∷ fs) d end next e (mid, first, rest) move = (mid, first, runs_then s fs mid end next e rest move)

pub reached_then : (s : Scene) (d next : Course) (e : Event) → IsReached s d → Moves s d e next → IsReached s next
reached_then s d next e (es, runs) move = (es ++ e ∷ [], runs_then s es (opened s) d next e runs move)

-- where every place is done, each word is the fold's
pub values_at_end : (s : Scene) → IsSound s → (d : Course) (x : ℕ) → IsKept s d → AllAreDone s d
    → d.value x ≡ s.fold s.places x
values_at_end s z d x k all = k.values s.places x record {
  below = λ q l e. written_done d.hand x (d.phase q) (all q l);
  above = λ q l e a. absurd (let h = writer_inside s z q x e in let f : s.places ≤ q = l in omega arith);
}

pub done_parts : (f : Phase) → IsDone f → (st : ℕ) × (mv : ℕ) × (f ≡ done st mv)
done_parts waiting h = absurd h
done_parts (held w) h = absurd h
done_parts (done st mv) h = (st, mv, refl)

-- what is done has its receipt
pub receipt_of_done : (s : Scene) (d : Course) (p : ℕ) → IsKept s d → IsDone (d.phase p)
    → d.phase p ≡ done (status_at s p) (moved_at s p)
receipt_of_done s d p k h =
    let u = done_parts (d.phase p) h in
    let r = k.receipts p u.0 u.1 u.2 in u.2 ∙ (λ i. done (r.0 i) (r.1 i))

pub whole_run_fold : (s : Scene) → IsSound s → (es : List Event) (end : Course) → IsWholeRun s es end
    → IsFold s end
whole_run_fold s z es end (run, all) =
    let k = keeps_run s z es (opened s) end (keeps_opening s z) run in record {
      values = λ x. values_at_end s z end x k all;
      receipts = λ p l. receipt_of_done s end p k (all p l);
    }

pub ends_alike : (s : Scene) → IsSound s → (es others : List Event) (end other : Course) → IsWholeRun s es end
    → IsWholeRun s others other → EndAlike s end other
ends_alike s z es others end other run more =
    let a = whole_run_fold s z es end run in
    let b = whole_run_fold s z others other more in record {
      values = λ x. a.values x ∙ sym (b.values x);
      receipts = λ p l. a.receipts p l ∙ sym (b.receipts p l);
    }

pub done_settled : (f : Phase) → IsDone f → IsSettled f
done_settled waiting h = h
done_settled (held w) h = tt
done_settled (done st mv) h = tt

pub done_closed : (s : Scene) → IsSound s → EdgesAreConflicts s → (d : Course) → IsKept s d → (p q : ℕ)
    → Chain s p q → IsSettled (d.phase q) → IsDone (d.phase p)
done_closed s z edges d k p q c h =
    closed s (λ r. IsSettled (d.phase r)) (λ r. IsDone (d.phase r))
    (λ r t e settled. let u = edges r t e in k.earlier t r u.0 u.1 settled) (λ r. done_settled (d.phase r)) p q c h
