-- What an execution is about, and its scene.
use Rattle.std.specs.Prelude.{ℕ, List, [], Bool, false, slice_index_or}
use Rattle.bk_base.specs.declared.version.Version.TheVariants.{One}
use Rattle.bk_rules.specs.Ledger.{Ledger, ledger_of}
use Rattle.bk_conflicts.specs.Scene.{Scene}
use Rattle.bk_conflicts.specs.SceneOf as executions
use Rattle.bk_conflicts.specs.Words as places
use Rattle.bk_conflicts.specs.Plan.{PlanValue}
use Rattle.bk_conflicts.specs.declared.words.WordRef.{WordRef}
use Rattle.bk_bank.specs.declared.setting.Setting.{Setting}
use Rattle.bk_bank.specs.declared.view.About.{About}

-- a plan and the ledger that it begins with
abbrev pub setting_with : PlanValue → Ledger → Setting
setting_with plan ledger = record { plan = plan; opening = ledger }

-- what a bank was made of
abbrev pub setting_of : About → Setting
setting_of a = setting_with a.plan.value a.opening.value

-- the execution, word by word
unfoldable pub scene_of : Setting → Scene
scene_of g = executions.scene_of g.plan g.opening

-- the words of a place
abbrev pub words_at : PlanValue → ℕ → List WordRef
words_at plan p = places.words_at plan.ids plan.txs p

-- a word past the end
abbrev pub no_word : WordRef
no_word = record { word = 0; writable = false }

-- the i-th of them, and whether the place may write it
abbrev pub word_at : PlanValue → ℕ → ℕ → ℕ
word_at plan p i = (slice_index_or (words_at plan p) i no_word).word

-- whether the place may write its i-th word
abbrev pub may_write : PlanValue → ℕ → ℕ → Bool
may_write plan p i = (slice_index_or (words_at plan p) i no_word).writable

-- an execution of nothing
abbrev pub nowhere : Setting
nowhere = setting_with record { version = One; ids = []; txs = []; before = []; after = [] } (ledger_of One [] [])
