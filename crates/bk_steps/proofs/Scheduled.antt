-- One event more in a run of many.
use Rattle.std.proofs.Common.{ℕ, ◌<◌, ◌+◌, List, [], ◌∷◌, ◌++◌, length, get_or, take, refl, sym, ◌∙◌, subst}
use Rattle.std.proofs.lemmas.List.{take_more}
use Rattle.bk_rules.specs.Ledger.{Ledger}
use Rattle.bk_conflicts.specs.Plan.{PlanValue}
use Rattle.bk_conflicts.specs.Scene.{Scene}
use Rattle.bk_conflicts.specs.SceneOf.{scene_of}
use Rattle.bk_steps.specs.Course.{Course}
use Rattle.bk_steps.specs.Refusals.{Allows}
use Rattle.bk_steps.specs.Machine.{MachineValue, scene_in}
use Rattle.bk_steps.specs.Steps.{Steps}
use Rattle.bk_steps.specs.Schedule.{RunsAmong}
use Rattle.bk_steps.specs.private.Schedule.{HasRun}
use Rattle.bk_steps.specs.declared.event.Event.{Event}

runs_more : (s : Scene) (n : ℕ) (es : List Event) (d mid end : Course) (e : Event) → RunsAmong s n d es mid → Allows s n mid e end
    → RunsAmong s n d (es ++ e ∷ []) end
runs_more s n [] d mid end e is allowed = (end, subst (λ (c : Course). Allows s n c e end) is allowed, refl)
runs_more s n (f ∷ fs) d mid end e (next, first, rest) allowed = (next, first, runs_more s n fs next mid end e rest allowed)

pub run_more : (old mid new : MachineValue) (es : List Event) (e : Event) → HasRun old es mid → Steps mid e new
    → HasRun old (es ++ e ∷ []) new
run_more old mid new es e h s = record {
  same = record {
    plan = s.same.plan ∙ h.same.plan;
    opening = s.same.opening ∙ h.same.opening;
    workers = s.same.workers ∙ h.same.workers;
  };
  follows = λ d k. let r = h.follows d k in let f = s.follows r.0 r.2 in (
    f.next,
    runs_more (scene_in old) (length old.seats) es d r.0 f.next e r.1
        (subst (λ (y : PlanValue × Ledger × ℕ). Allows (scene_of y.0 y.1) y.2 r.0 e f.next)
        (λ i. (h.same.plan i, h.same.opening i, h.same.workers i)) f.allowed),
    f.shown,
  );
}

-- the next event of a list
pub run_next : (old mid new : MachineValue) (es : List Event) (i : ℕ) (e : Event) → i < length es → HasRun old (take i es) mid
    → Steps mid (get_or es i e) new → HasRun old (take (i + 1) es) new
run_next old mid new es i e low h s = subst (λ (xs : List Event). HasRun old xs new) (sym (take_more es i e low))
    (run_more old mid new (take i es) (get_or es i e) h s)
