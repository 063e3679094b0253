-- What the seat that takes a step on the words learns by it.
use Rattle.std.specs.Prelude.{◌≡◌, ◌≢◌, ℕ, suc, ◌+◌, ◌^◌, ◌<◌, ◌≤◌, ◌==◌, List, [], ◌∷◌, ◌++◌, length, Bool, true, false}
use Rattle.atomic_table.specs.Table.{Me, Step}
use Rattle.bk_conflicts.specs.Scene.{Scene, status_at}
use Rattle.bk_steps.specs.Course.{Has}
use Rattle.bk_bank.specs.Rule.{state_word, view_scene}
use Rattle.bk_bank.specs.Setting.{nowhere}
use Rattle.bk_bank.specs.declared.view.Stage.{Stage}
use Rattle.bk_bank.specs.declared.view.Stage.TheVariants.{Idle, Holding, Leaving, Spent}
use Rattle.bk_bank.specs.declared.view.View.{View}

-- a seat: what it owns, and what it knows
abbrev Sat : Type 0
Sat = Me (Unit {0}) View

-- a step on one word
abbrev At : Type 0
At = Step (Unit {0})

-- nothing is held, and nothing is left to release
abbrev pub at_rest : Scene → Stage → Bool
at_rest s Idle = true
at_rest s (Holding p rs ws mv) = false
at_rest s (Leaving p k f) = k == length (s.next p)
at_rest s Spent = false

-- the view is of a seat at rest
abbrev pub IsAtRest : View → Type 0
IsAtRest v = at_rest (view_scene v) v.stage ≡ true

-- what was read of the place that is held, the last first
abbrev pub reads_of : Stage → List (ℕ × ℕ)
reads_of (Holding p rs ws mv) = rs
reads_of _ = []

-- which words of the place that is held were written, the last first
abbrev pub writes_of : Stage → List ℕ
writes_of (Holding p rs ws mv) = ws
writes_of _ = []

-- what was found in the count of the successor that was released last
abbrev pub found_of : Stage → ℕ
found_of (Leaving p k f) = f
found_of _ = 0

-- the view holds p, whatever it has read and written, and its moved word is not
abbrev pub holding : View → ℕ → Stage
holding v p = Holding p (reads_of v.stage) (writes_of v.stage) false

-- the same execution and places seen, at another stage
abbrev pub stay : View → Stage → View
stay v st = record { setting = v.setting; seen = v.seen; stage = st }

-- what the one has seen done the other has
abbrev pub Grows : View → View → Type 0
Grows v w = (q : ℕ) → Has v.seen q → Has w.seen q

-- what the view v, which becomes w, learns from the state word n of p: a place seen done shows its
-- receipt, and what shows 2^63 or more is one
pub record Learns (v w : View) (p n : ℕ) : Type 0 where
  pub setting : w.setting ≡ v.setting
  pub grows : Grows v w
  pub known : Has v.seen p → n ≡ 2 ^ 63 + status_at (view_scene v) p
  pub done : 2 ^ 63 ≤ n → (n ≡ 2 ^ 63 + status_at (view_scene v) p) × Has w.seen p

-- each earlier place in conflict with p was seen done
abbrev pub SawEarlier : View → ℕ → Type 0
SawEarlier v p = (q : ℕ) → q < p → (view_scene v).clash q p ≡ true → Has v.seen q

-- what a load of the state word of a place shows a seat: the seat stays where it is
abbrev pub looked : At → Sat → ℕ → Sat → Type 0
looked at me n then = (then.1 ≡ me.1)
    × ((p : ℕ) → at.word ≡ state_word (view_scene me.0) p
    → Learns me.0 then.0 p n × (then.0.stage ≡ me.0.stage))

-- what a try to claim a place shows: where its word was 0, the seat holds the place, and has seen all
-- earlier places in conflict with it done; else it stays where it is
abbrev pub claimed : At → Sat → ℕ → Sat → Type 0
claimed at me n then = (then.1 ≡ me.1)
    × ((p : ℕ) → at.word ≡ state_word (view_scene me.0) p → Learns me.0 then.0 p n
    × (n ≡ 0 → (then.0.stage ≡ Holding p [] [] false) × SawEarlier then.0 p)
    × (n ≢ 0 → then.0.stage ≡ me.0.stage))

-- what a read shows: the value of the fold before the place, which the seat notes
abbrev pub has_read : At → Sat → ℕ → Sat → Type 0
has_read at me n then = (then.1 ≡ me.1)
    × ((p : ℕ) (rs : List (ℕ × ℕ)) → me.0.stage ≡ Holding p rs [] false
    → (then.0 ≡ stay me.0 (Holding p ((at.word, n) ∷ rs) [] false))
    × (n ≡ (view_scene me.0).fold p at.word))

-- a write: the seat notes the word
abbrev pub has_written : At → Sat → ℕ → Sat → Type 0
has_written at me n then = (then.1 ≡ me.1)
    × ((p : ℕ) (rs : List (ℕ × ℕ)) (ws : List ℕ) (mv : Bool) → me.0.stage ≡ Holding p rs ws mv
    → then.0 ≡ stay me.0 (Holding p rs (at.word ∷ ws) mv))

-- a write of how much the place moved: the seat notes that it is written
abbrev pub has_moved : At → Sat → ℕ → Sat → Type 0
has_moved at me n then = (then.1 ≡ me.1)
    × ((p : ℕ) (rs : List (ℕ × ℕ)) (ws : List ℕ) (mv : Bool) → me.0.stage ≡ Holding p rs ws mv
    → then.0 ≡ stay me.0 (Holding p rs ws true))

-- the status of the place is written: the seat leaves the place, and has released nothing yet
abbrev pub finished : At → Sat → ℕ → Sat → Type 0
finished at me n then = (then.1 ≡ me.1)
    × ((p : ℕ) (rs : List (ℕ × ℕ)) (ws : List ℕ) → me.0.stage ≡ Holding p rs ws true
    → then.0 ≡ stay me.0 (Leaving p 0 0))

-- the next successor is counted down: the seat notes the count that it found, which was above 0
abbrev pub released : At → Sat → ℕ → Sat → Type 0
released at me n then = (then.1 ≡ me.1)
    × ((p k f : ℕ) → me.0.stage ≡ Leaving p k f
    → (then.0 ≡ stay me.0 (Leaving p (suc k) n)) × (0 < n))

-- both parts of a pass that is split know what it knew
abbrev pub rested : View → View
rested v = stay v Idle

-- a pass with another joined to it knows what both knew
abbrev pub pooled : View → View → View
pooled v w = record { setting = v.setting; seen = v.seen ++ w.seen; stage = Idle }

-- a pass that was joined to another knows nothing
abbrev pub spent : View
spent = record { setting = nowhere; seen = []; stage = Spent }
