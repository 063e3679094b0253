-- What the private functions of accounts say.
use Rattle.std.specs.Prelude.{ℕ, List, map}
use Rattle.std.specs.BTreeMap.{BTreeMap}
use Rattle.bk_base.specs.declared.genesis.Row.{Row}
use Rattle.bk_script.specs.declared.accounts.Held.{Held}

-- the account of this id
abbrev pub row_with : ℕ × Held → Row
row_with e = record { id = e.0; balance = e.1.balance; seq = e.1.seq }

-- the accounts of a map, in its order
abbrev pub rows_in : BTreeMap ℕ Held → List Row
rows_in held = map row_with held.entries
