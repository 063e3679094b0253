use Rattle.std.proofs.Common.{◌∷◌, List, ℕ, length, map}
use Rattle.std.proofs.lemmas.List.{length-map, take_at}
use Rattle.bk_digest.specs.Digest.{tagged_of}
use Rattle.sha2.specs.Sha256.{sha256}
use Rattle.bk_digest.proofs.perfect.hash_leaves.Goals as goal

pub returns : goal.returns
unfolding tagged_of
returns g c =
    rw c.tagged_rows_into.ensures
    (take_at (map (λ (row : List ℕ). sha256 (0x00 ∷ row)) c.args.leaves.now) _ (length c.args.leaves.now) (length-map c.args.leaves.now _))
