-- Some slots of a ledger.
use Rattle.std.specs.Prelude.{◌≡◌, ℕ, ◌^◌, ◌<◌, List, length}
use Rattle.bk_rules.specs.Part.{AreIndexes, ids_at}
use Rattle.bk_ledger.specs.declared.touched.Touched.{Touched}

-- the slots at some indexes, with their ids
pub record AreTouched (slots : List ℕ) (t : Touched) : Type 0 where
  pub indexes : AreIndexes (length slots) t.list.items
  pub ids_are : t.ids ≡ ids_at slots t.list.items
  pub few : length t.ids < 2 ^ 31
