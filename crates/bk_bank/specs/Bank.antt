-- What contracts see of a bank, and of what its passes become.
use Rattle.std.specs.Prelude.{◌≡◌, ◌≢◌, ℕ, suc, ◌<◌, length, slice_index_or}
use Rattle.atomic_table.specs.Seated.{TableId}
use Rattle.bk_conflicts.specs.Scene.{Scene}
use Rattle.bk_bank.specs.declared.setting.Setting.{Setting}
use Rattle.bk_bank.specs.declared.view.Stage.TheVariants.{Leaving}
use Rattle.bk_bank.specs.declared.view.View.{View}
use Rattle.bk_bank.specs.declared.view.About.{About}
use Rattle.bk_bank.specs.declared.bank.Step.{Step}
use Rattle.bk_bank.specs.declared.bank.Step.TheVariants.{Became, More, End}
use Rattle.bk_bank.specs.Setting.{scene_of, setting_of}
use Rattle.bk_bank.specs.Rule.{view_scene}
use Rattle.bk_bank.specs.Plays.{stay}

-- which table a bank has, and what its execution is about
pub record BankData : Type 0 where
  pub table : TableId
  pub setting : Setting

-- which table a pass is of, and what it knows
pub record PassData : Type 0 where
  pub table : TableId
  pub view : View

-- a hold has a place besides
pub record HoldData : Type 0 where
  pub table : TableId
  pub view : View
  pub place : ℕ

-- and a leaving the number of successors that it has released
pub record LeavingData : Type 0 where
  pub table : TableId
  pub view : View
  pub place : ℕ
  pub next : ℕ

-- the bank of this table, about this execution
abbrev pub bank_data : TableId → About → BankData
bank_data table about = record { table = table; setting = setting_of about }

-- the pass of this table that knows this
abbrev pub pass_data : TableId → View → PassData
pass_data table view = record { table = table; view = view }

-- the hold of this place
abbrev pub hold_data : TableId → View → ℕ → HoldData
hold_data table view place = record { table = table; view = view; place = place }

-- the leaving of this place, with so many successors released
abbrev pub leaving_data : TableId → View → ℕ → ℕ → LeavingData
leaving_data table view place next = record { table = table; view = view; place = place; next = next }

-- the execution of a bank, word by word
abbrev pub bank_scene : BankData → Scene
bank_scene b = scene_of b.setting

-- a table and a view are the bank's
abbrev pub IsOf : BankData → TableId → View → Type 0
IsOf b table view = (table ≡ b.table) × (view_scene view ≡ bank_scene b)

-- the pass is one of this bank
abbrev pub IsPassOf : BankData → PassData → Type 0
IsPassOf b p = IsOf b p.table p.view

-- the hold is one of this bank, of a place that the bank has
abbrev pub IsHoldOf : BankData → HoldData → Type 0
IsHoldOf b h = IsOf b h.table h.view × (h.place < (bank_scene b).places)

-- the leaving is one of this bank, of a place that the bank has
abbrev pub IsLeavingOf : BankData → LeavingData → Type 0
IsLeavingOf b l = IsOf b l.table l.view × (l.place < (bank_scene b).places)

-- the next successor of the place was counted down, from n
pub record CountsDown (s : Scene) (old new : LeavingData) (n : ℕ) : Type 0 where
  pub room : old.next < length (s.next old.place)
  pub one_more : new.next ≡ suc old.next
  pub view : new.view ≡ stay old.view (Leaving old.place (suc old.next) n)

-- what a release did: it took the next successor's count to 0, or not to 0, or none was left
abbrev pub Releases : Scene → LeavingData → LeavingData → Step → Type 0
Releases s old new (Became q) = CountsDown s old new 1 × (q ≡ slice_index_or (s.next old.place) old.next 0)
Releases s old new More = (n : ℕ) × CountsDown s old new n × (n ≢ 1)
Releases s old new End = (old.next ≡ length (s.next old.place)) × (new ≡ old)
