-- Tags in lanes.
use Rattle.std.specs.Prelude.{◌≡◌, ℕ, List}
use Rattle.bk_digest.specs.Mac.{hmac_of}
use Rattle.bk_digest.specs.Prepared.{IsPrepared}
use Rattle.bk_digest.specs.declared.tags.ToTag.{ToTag}

-- the digest is the tag of the id under the key that was prepared
abbrev pub IsTagOf : ToTag → List ℕ → Type 0
IsTagOf t tag = (key : List ℕ) → IsPrepared key t.key.now → tag ≡ hmac_of key t.id
