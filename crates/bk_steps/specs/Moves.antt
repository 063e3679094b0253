-- The events that are allowed at a course, and the runs that they make.
use Rattle.std.specs.Prelude.{◌≡◌, ℕ, ◌<◌, List, [], ◌∷◌, true}
use Rattle.bk_conflicts.specs.Scene.{Scene}
use Rattle.bk_steps.specs.Course.{Course, waiting, held, done, free, busy, put, Has, HasRead, found, opened, IsDone}
use Rattle.bk_steps.specs.declared.event.Event.{Event}
use Rattle.bk_steps.specs.declared.event.Event.TheVariants.{Claim, Read, Write, Finish}

-- the worker holds the place, with nothing read or written
abbrev pub after_claim : Course → ℕ → ℕ → Course
after_claim d w p = record {
  phase = put d.phase p (held w);
  value = d.value;
  hand = put d.hand w (busy p [] []);
}

-- it has read one word more
abbrev pub after_read : Course → ℕ → ℕ → List (ℕ × ℕ) → ℕ → Course
after_read d w p rs x = record {
  phase = d.phase;
  value = d.value;
  hand = put d.hand w (busy p ((x, d.value x) ∷ rs) []);
}

-- it has written one word more
abbrev pub after_write : Course → ℕ → ℕ → List (ℕ × ℕ) → List ℕ → ℕ → ℕ → Course
after_write d w p rs ws x v = record {
  phase = d.phase;
  value = put d.value x v;
  hand = put d.hand w (busy p rs (x ∷ ws));
}

-- the place is done, and the worker holds nothing
abbrev pub after_finish : Course → ℕ → ℕ → ℕ → ℕ → Course
after_finish d w p st mv = record {
  phase = put d.phase p (done st mv);
  value = d.value;
  hand = put d.hand w free;
}

-- every word of the place was read
abbrev pub HasReadAll : Scene → ℕ → List (ℕ × ℕ) → Type 0
HasReadAll s p rs = (x : ℕ) → s.declares p x ≡ true → HasRead rs x

-- every word that the place may write was written
abbrev pub HasWrittenAll : Scene → ℕ → List ℕ → Type 0
HasWrittenAll s p ws = (x : ℕ) → s.writes p x ≡ true → Has ws x

-- each earlier place in conflict with it is done
abbrev pub EarlierAreDone : Scene → Course → ℕ → Type 0
EarlierAreDone s d p = (q : ℕ) → q < p → s.clash q p ≡ true → IsDone (d.phase q)

-- the event is allowed at the course, and makes the other of it; what is written, and the
-- receipt, are functions of what the worker read
pub data Moves (s : Scene) (d : Course) : Event → Course → Type 0 where
  claims : (w p : ℕ) → d.hand w ≡ free → d.phase p ≡ waiting → p < s.places
      → EarlierAreDone s d p
      → Moves s d (Claim w p) (after_claim d w p)
  reads_one : (w p x : ℕ) (rs : List (ℕ × ℕ)) → d.hand w ≡ busy p rs []
      → s.declares p x ≡ true
      → Moves s d (Read w x) (after_read d w p rs x)
  writes_one : (w p x v : ℕ) (rs : List (ℕ × ℕ)) (ws : List ℕ) → d.hand w ≡ busy p rs ws
      → HasReadAll s p rs → s.writes p x ≡ true → ¬ Has ws x → v ≡ s.effect p (found rs) x
      → Moves s d (Write w x) (after_write d w p rs ws x v)
  finishes : (w p st mv : ℕ) (rs : List (ℕ × ℕ)) (ws : List ℕ) → d.hand w ≡ busy p rs ws
      → HasReadAll s p rs → HasWrittenAll s p ws
      → st ≡ s.status p (found rs) → mv ≡ s.moved p (found rs)
      → Moves s d (Finish w) (after_finish d w p st mv)

-- the events are allowed one after the other, and lead from the one course to the other
abbrev pub Runs : Scene → Course → List Event → Course → Type 0
Runs s d [] end = end ≡ d
Runs s d (e ∷ es) end = (next : Course) × Moves s d e next × Runs s next es end

-- allowed events lead from the opening course to this one
abbrev pub IsReached : Scene → Course → Type 0
IsReached s d = (es : List Event) × Runs s (opened s) es d

-- every place is done
abbrev pub AllAreDone : Scene → Course → Type 0
AllAreDone s d = (p : ℕ) → p < s.places → IsDone (d.phase p)

-- an interleaving: a run from the opening course after which every place is done
abbrev pub IsWholeRun : Scene → List Event → Course → Type 0
IsWholeRun s es end = Runs s (opened s) es end × AllAreDone s end
