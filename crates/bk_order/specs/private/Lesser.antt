-- The lesser of two digests that may be there.
use Rattle.std.specs.Prelude.{ℕ, List, Option, Some, None}
use Rattle.bk_evidence.specs.Collisions.{id_cmp}
use Rattle.bk_evidence.specs.private.Least.{least_of}

-- the one that is there, or the lesser of both
abbrev pub lesser_of : Option (List ℕ) → Option (List ℕ) → Option (List ℕ)
lesser_of None other = other
lesser_of (Some id) None = Some id
lesser_of (Some id) (Some digest) = Some (least_of id_cmp (Some id) digest)
