-- What a prepared key has hashed.
use Rattle.std.specs.Prelude.{◌≡◌, ℕ, List}
use Rattle.sha2.specs.Hashers.{Holds256}
use Rattle.sha2.specs.Sha256.{compress, initial_hash_256}
use Rattle.bk_digest.specs.Mac.{key_block, padded_with}
use Rattle.bk_digest.specs.declared.mac.MacKey.{MacKey}

-- the hash value after a block under a pad
abbrev pub state_after : ℕ → List ℕ → List ℕ
state_after pad block = compress initial_hash_256 (padded_with pad block)

-- the key is prepared: its block has been hashed under the inner pad, and under the outer pad, by hashers
-- and as hash values
unfoldable pub IsPrepared : List ℕ → MacKey → Type 0
IsPrepared key mac =
    Holds256 mac.inner (padded_with 0x36 (key_block key))
    × Holds256 mac.outer (padded_with 0x5c (key_block key))
    × (mac.inner_state ≡ state_after 0x36 (key_block key))
    × (mac.outer_state ≡ state_after 0x5c (key_block key))
