-- What is true of the fields of a bank, and of what its passes become.
use Rattle.std.specs.Prelude.{◌≡◌, ℕ, ◌^◌, ◌<◌, ◌≤◌, List, [], length, true}
use Rattle.atomic_table.specs.Seated.{TableId}
use Rattle.bk_conflicts.specs.Scene.{IsEdge}
use Rattle.bk_conflicts.specs.Plan.{PlanValue}
use Rattle.bk_bank.specs.declared.view.Stage.TheVariants.{Leaving}
use Rattle.bk_bank.specs.declared.view.About.{About}
use Rattle.bk_bank.specs.declared.view.View.{View}
use Rattle.bk_bank.specs.Setting.{scene_of, setting_of}
use Rattle.bk_bank.specs.Rule.{view_scene, width}
use Rattle.bk_bank.specs.Plays.{IsAtRest, holding, found_of}

-- the table has the words of the plan's scene
pub record IsBank (table : TableId) (about : About) (plan : PlanValue) : Type 0 where
  pub same_plan : about.plan.value ≡ plan
  pub no_slots : table.slots ≡ 0
  pub wide : table.words ≡ width (scene_of (setting_of about))
  pub few_places : (scene_of (setting_of about)).places < 2 ^ 31
  pub few_words : (scene_of (setting_of about)).words < 2 ^ 32
  pub declared_inside : (p x : ℕ) → (scene_of (setting_of about)).declares p x ≡ true
      → x < (scene_of (setting_of about)).words
  pub next_inside : (p q : ℕ) → IsEdge (scene_of (setting_of about)) p q
      → q < (scene_of (setting_of about)).places

-- a pass is at rest, and owns no slot
abbrev pub IsPass : View → List (ℕ × Unit {0}) → Type 0
IsPass view slots = IsAtRest view × (slots ≡ [])

-- a hold owns no slot, and holds its place
pub record IsHold (view : View) (slots : List (ℕ × Unit {0})) (place : ℕ) : Type 0 where
  pub none : slots ≡ []
  pub inside : place < (view_scene view).places
  pub holds : view.stage ≡ holding view place

-- a leaving owns no slot, and has left its place with so many successors released
pub record IsLeaving (view : View) (slots : List (ℕ × Unit {0})) (place next : ℕ) : Type 0 where
  pub none : slots ≡ []
  pub inside : place < (view_scene view).places
  pub room : next ≤ length ((view_scene view).next place)
  pub leaves : view.stage ≡ Leaving place next (found_of view.stage)
