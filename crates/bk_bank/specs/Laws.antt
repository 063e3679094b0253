-- The words that are laid show the beginning, and each step on them is the event of the course that its row names, or
-- none.
use Rattle.std.specs.Prelude.{◌≡◌, ℕ, suc, ◌+◌, ◌-◌, ◌%◌, ◌^◌, ◌<◌, List, [], ◌∷◌, ◌++◌, length, Bool, true, false, Some, None, slice_index, slice_set}
use mathlib.Core.Option.{some}
use lib.ListN.{get_elem?}
use Rattle.atomic_table.specs.Table.{State, opening}
use Rattle.bk_conflicts.specs.Scene.{Scene, IsSound, status_at, moved_at}
use Rattle.bk_steps.specs.Course.{Course, Has, opened}
use Rattle.bk_steps.specs.Moves.{HasReadAll, HasWrittenAll}
use Rattle.bk_steps.specs.declared.event.Event.TheVariants.{Claim, Read, Write, Finish}
use Rattle.bk_bank.specs.declared.view.Stage.TheVariants.{Holding, Leaving}
use Rattle.bk_bank.specs.declared.view.View.{View}
use Rattle.bk_bank.specs.declared.setting.Setting.{Setting}
use Rattle.bk_bank.specs.Setting.{scene_of}
use Rattle.bk_bank.specs.Rule.{Shows, starting, state_word, moved_word}
use Rattle.bk_bank.specs.Plays.{IsAtRest, Learns, SawEarlier, stay, rested, pooled, spent}
use Rattle.bk_bank.specs.Steps.{IsLaid, Turns}

-- the table shows the course, and the seat id has the view
abbrev pub IsSeat : Scene → Course → State (Unit {0}) View → ℕ → View → Type 0
IsSeat s d t id v = Shows s d t × (get_elem? t.views id ≡ some v)

-- words that are laid for a sound scene show the course in which nothing has happened
abbrev pub LaidWordsShowOpening : Type 0
LaidWordsShowOpening = (s : Scene) (g : Setting) (words : List ℕ) → scene_of g ≡ s → IsSound s → IsLaid s words
    → Shows s (opened s) (opening words [] (starting g))

-- where the word of p is 0, its exchange for 2^62 is the claim of p
abbrev pub ClaimIsEvent : Type 0
ClaimIsEvent = (s : Scene) (d : Course) (t : State (Unit {0}) View) (id : ℕ) (v : View) (p : ℕ)
    → IsSeat s d t id v → IsAtRest v → p < s.places → slice_index t.words (state_word s p) ≡ 0
    → Turns s d t id (Some (Claim id p)) (state_word s p) (2 ^ 62)
    (λ w. (w.stage ≡ Holding p [] [] false) × SawEarlier w p)

-- a look at the word of p, as by a claim that is refused, is no event
abbrev pub LookIsNone : Type 0
LookIsNone = (s : Scene) (d : Course) (t : State (Unit {0}) View) (id : ℕ) (v : View) (p : ℕ)
    → IsSeat s d t id v → IsAtRest v → p < s.places
    → Turns s d t id None (state_word s p) (slice_index t.words (state_word s p))
    (λ w. Learns v w p (slice_index t.words (state_word s p)) × (w.stage ≡ v.stage))

-- a load of a word of the place that is held is a read of it, and finds the fold's value
abbrev pub ReadIsEvent : Type 0
ReadIsEvent = (s : Scene) (d : Course) (t : State (Unit {0}) View) (id : ℕ) (v : View) (p x : ℕ)
    (rs : List (ℕ × ℕ)) → IsSeat s d t id v → v.stage ≡ Holding p rs [] false → s.declares p x ≡ true
    → (slice_index t.words x ≡ s.fold p x) × Turns s d t id (Some (Read id x)) x (slice_index t.words x)
    (λ w. w ≡ stay v (Holding p ((x, slice_index t.words x) ∷ rs) [] false))

-- a store of the fold's next value, once all words were read, is a write of it
abbrev pub WriteIsEvent : Type 0
WriteIsEvent = (s : Scene) (d : Course) (t : State (Unit {0}) View) (id : ℕ) (v : View) (p x : ℕ)
    (rs : List (ℕ × ℕ)) (ws : List ℕ) (mv : Bool) → IsSeat s d t id v → v.stage ≡ Holding p rs ws mv
    → HasReadAll s p rs → s.writes p x ≡ true → ¬ Has ws x
    → Turns s d t id (Some (Write id x)) x (s.fold (suc p) x) (λ w. w ≡ stay v (Holding p rs (x ∷ ws) mv))

-- a store of the moved word of the place that is held is no event
abbrev pub MoveIsNone : Type 0
MoveIsNone = (s : Scene) (d : Course) (t : State (Unit {0}) View) (id : ℕ) (v : View) (p : ℕ)
    (rs : List (ℕ × ℕ)) (ws : List ℕ) (mv : Bool) → IsSeat s d t id v → v.stage ≡ Holding p rs ws mv
    → Turns s d t id None (moved_word s p) (moved_at s p) (λ w. w ≡ stay v (Holding p rs ws true))

-- a store of 2^63 and the status, once all is read and written, is the finish
abbrev pub FinishIsEvent : Type 0
FinishIsEvent = (s : Scene) (d : Course) (t : State (Unit {0}) View) (id : ℕ) (v : View) (p : ℕ)
    (rs : List (ℕ × ℕ)) (ws : List ℕ) → IsSeat s d t id v → v.stage ≡ Holding p rs ws true
    → HasReadAll s p rs → HasWrittenAll s p ws
    → Turns s d t id (Some (Finish id)) (state_word s p) (2 ^ 63 + status_at s p)
    (λ w. w ≡ stay v (Leaving p 0 0))

-- a subtraction of 1 from the word of the next successor is no event; what it finds is more than 0
abbrev pub ReleaseIsNone : Type 0
ReleaseIsNone = (s : Scene) (d : Course) (t : State (Unit {0}) View) (id : ℕ) (v : View) (p k f : ℕ)
    → IsSeat s d t id v → v.stage ≡ Leaving p k f → k < length (s.next p)
    → slice_index t.words (state_word s (slice_index (s.next p) k)) < 2 ^ 64
    → let i : ℕ = state_word s (slice_index (s.next p) k) in
    let n : ℕ = slice_index t.words i in
    (0 < n) × Turns s d t id None i ((n + (2 ^ 64 - 1)) % 2 ^ 64)
    (λ w. w ≡ stay v (Leaving p (suc k) n))

-- one seat becomes two, with one course shown before and after
abbrev pub SplitIsNone : Type 0
SplitIsNone = (s : Scene) (d : Course) (t : State (Unit {0}) View) (id : ℕ) (v : View)
    → IsSeat s d t id v → IsAtRest v
    → Shows s d record {
      words = t.words;
      homes = t.homes;
      views = slice_set t.views id (rested v) ++ rested v ∷ [];
    }

-- and two become one
abbrev pub JoinIsNone : Type 0
JoinIsNone = (s : Scene) (d : Course) (t : State (Unit {0}) View) (id other : ℕ) (v o : View)
    → IsSeat s d t id v → get_elem? t.views other ≡ some o → IsAtRest v → IsAtRest o
    → Shows s d record {
      words = t.words;
      homes = t.homes;
      views = slice_set (slice_set t.views id (pooled v o)) other spent;
    }
