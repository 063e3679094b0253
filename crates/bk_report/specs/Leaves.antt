-- The tree of all accounts.
use Rattle.std.specs.Prelude.{ℕ, List, map}
use Rattle.bk_digest.specs.Tree.{root_of}
use Rattle.bk_base.specs.declared.genesis.Row.{Row}
use Rattle.bk_base.specs.Genesis.{row_text}

-- the leaves of accounts: id, balance and sequence number of each, eight bytes each, big-endian
abbrev pub leaves_of : List Row → List (List ℕ)
leaves_of rows = map row_text rows

-- the digest of a state: the root of the tree of its accounts
abbrev pub state_of : List Row → List ℕ
state_of rows = root_of (map row_text rows)
