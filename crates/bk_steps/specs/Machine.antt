-- What a machine holds, and the courses that it shows.
use Rattle.std.specs.Prelude.{◌≡◌, ℕ, ◌<◌, ◌*◌, List, [], length, Bool, true, false, Option, None, Some, slice_index_or}
use Rattle.bk_rules.specs.Ledger.{Ledger}
use Rattle.bk_rules.specs.Numbers.{number_of}
use Rattle.bk_conflicts.specs.declared.words.WordRef.{WordRef}
use Rattle.bk_conflicts.specs.Plan.{PlanValue, IsPlan}
use Rattle.bk_conflicts.specs.Scene.{Scene}
use Rattle.bk_conflicts.specs.SceneOf.{CanRunOn, scene_of, reads_word}
use Rattle.bk_conflicts.specs.Words.{words_at}
use Rattle.bk_steps.specs.Course.{Course, Phase, waiting, held, done, Hand, free, busy, Has, HasRead, found}
use Rattle.bk_steps.specs.Kept.{IsKept}
use Rattle.bk_steps.specs.declared.stage.Stage.{Stage}
use Rattle.bk_steps.specs.declared.stage.Stage.TheVariants.{Waiting, Held, Done}
use Rattle.bk_steps.specs.declared.seat.Seat.{Seat}

-- the plan and the opening accounts, the word of each number, the stage of each place and the seat
-- of each worker
pub record MachineValue : Type 0 where
  pub plan : PlanValue
  pub opening : Ledger
  pub words : List ℕ
  pub stages : List Stage
  pub seats : List Seat

-- the execution that it runs
abbrev pub scene_in : MachineValue → Scene
scene_in m = scene_of m.plan m.opening

-- the phase that a stage shows
abbrev pub phase_of : Stage → Phase
phase_of Waiting = waiting
phase_of (Held w) = held w
phase_of (Done r) = done (number_of r.status) r.moved

-- the seat of a worker that is none
abbrev pub no_seat : Seat
no_seat = record { place = None; read = []; written = [] }

-- the stage of a place
abbrev pub stage_at : MachineValue → ℕ → Stage
stage_at m p = slice_index_or m.stages p Waiting

-- the seat of a worker
abbrev pub seat_at : MachineValue → ℕ → Seat
seat_at m w = slice_index_or m.seats w no_seat

-- a word past the end
abbrev pub no_word : WordRef
no_word = record { word = 0; writable = false }

-- the k-th word of a place
abbrev pub word_at : PlanValue → ℕ → ℕ → ℕ
word_at plan p k = (slice_index_or (words_at plan.ids plan.txs p) k no_word).word

-- what is noted of a word is what was read in it, last
abbrev pub NotedIs : ℕ → Option ℕ → List (ℕ × ℕ) → Type 0
NotedIs x None rs = ¬ HasRead rs x
NotedIs x (Some v) rs = HasRead rs x × (found rs x ≡ v)

-- the notes are of the words of the place, one each
abbrev pub AreNotes : PlanValue → ℕ → List (Option ℕ) → List (ℕ × ℕ) → Type 0
AreNotes plan p read rs = (k : ℕ) → k < length (words_at plan.ids plan.txs p)
    → NotedIs (word_at plan p k) (slice_index_or read k None) rs

-- a word is marked where it was written
abbrev pub MarkIs : ℕ → Bool → List ℕ → Type 0
MarkIs x true ws = Has ws x
MarkIs x false ws = ¬ Has ws x

-- the marks are of the words of the place, one each, and no other word was written
pub record AreMarks (plan : PlanValue) (p : ℕ) (written : List Bool) (ws : List ℕ) : Type 0 where
  pub marks : (k : ℕ) → k < length (words_at plan.ids plan.txs p)
      → MarkIs (word_at plan p k) (slice_index_or written k false) ws
  pub inside : (x : ℕ) → Has ws x → reads_word plan.ids plan.txs p x ≡ true

-- what a seat shows of its worker's hand
abbrev pub SeatIs : PlanValue → Seat → Hand → Type 0
SeatIs plan seat free = seat.place ≡ None
SeatIs plan seat (busy p rs ws) = (seat.place ≡ Some p) × AreNotes plan p seat.read rs
    × AreMarks plan p seat.written ws

-- the machine shows the course
pub record Shows (m : MachineValue) (d : Course) : Type 0 where
  pub values : (x : ℕ) → d.value x ≡ slice_index_or m.words x 0
  pub phases : (p : ℕ) → d.phase p ≡ phase_of (stage_at m p)
  pub hands : (w : ℕ) → SeatIs m.plan (seat_at m w) (d.hand w)

-- what each machine keeps: its plan can be executed on its opening accounts, it has a word for
-- each number and a stage for each place, and it shows a course that events lead to
pub record IsMachine (m : MachineValue) : Type 0 where
  pub is_plan : IsPlan m.plan
  pub can_run : CanRunOn m.plan m.opening
  pub words_long : length m.words ≡ 2 * length m.plan.ids
  pub stages_long : length m.stages ≡ length m.plan.txs
  pub course : (d : Course) × IsKept (scene_in m) d × Shows m d
