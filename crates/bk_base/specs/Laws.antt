-- What the definitions of opening accounts say together.
use Rattle.std.specs.Prelude.{◌≡◌, List, ℕ, Some}
use Rattle.bk_base.specs.declared.genesis.Row.{Row}
use Rattle.bk_base.specs.Genesis.{IsGenesis, genesis_text, rows_of}
use Rattle.bk_base.specs.Numbers.{IsBytes}

-- what is read of a genesis encodes to the same bytes
abbrev pub GenesisIsSpelled : Type 0
GenesisIsSpelled = (payload : List ℕ) (rows : List Row) → IsBytes payload → rows_of payload ≡ Some rows → IsGenesis rows × (payload ≡ genesis_text rows)

-- the encoding of opening accounts is read as these
abbrev pub GenesisIsRead : Type 0
GenesisIsRead = (rows : List Row) → IsGenesis rows → rows_of (genesis_text rows) ≡ Some rows
