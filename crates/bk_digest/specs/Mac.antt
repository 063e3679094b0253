-- HMAC with SHA-256 (RFC 2104).
use Rattle.std.specs.Prelude.{ℕ, ◌-◌, nat_lt, if◌then◌else◌, List, ◌++◌, length, map, replicate, bit_xor}
use Rattle.sha2.specs.Sha256.{sha256}

-- the key as a block of 64 bytes: SHA-256 of it where it is longer than a block, and then zero bytes
unfoldable pub key_block : List ℕ → List ℕ
key_block key = let short = (if nat_lt 64 (length key) then sha256 key else key) in short ++ replicate (64 - length short) 0

-- each byte of the block, exclusive-or the pad
abbrev pub padded_with : ℕ → List ℕ → List ℕ
padded_with pad block = map (λ b. bit_xor b pad) block

-- the tag of a text under a key: the outer pad is 0x5c and the inner pad is 0x36 (section 2)
unfoldable pub hmac_of : List ℕ → List ℕ → List ℕ
hmac_of key text =
    sha256 (map (λ b. bit_xor b 0x5c) (key_block key) ++ sha256 (map (λ b. bit_xor b 0x36) (key_block key) ++ text))
