use Rattle.std.proofs.Common.{◌≡◌, ◌∙◌, ◌*◌, ◌∷◌, [], List, ℕ, arith, length, map, take}
use Rattle.std.proofs.lemmas.List.{get_or-take, length-map, length-take-le, take_at}
use Rattle.sha2.specs.Sha256.{sha256}
use Rattle.bk_digest.specs.Digest.{tagged_of}
use Rattle.bk_digest.specs.private.Levels.{paired}
use Rattle.bk_digest.proofs.Levels.{rows_paired}
use Rattle.bk_digest.proofs.perfect.hash_level.Goals as goal

pub returns : goal.returns
unfolding tagged_of
returns c =
    let n = c.args.count in
    let pairs = c.pairs_of-pairs.result in
    let rows = take n pairs in
    let long : length rows ≡ n = length-take-le n pairs (omega (arith, c.pairs_of-pairs.ensures.room)) in
    let level : map (λ (row : List ℕ). sha256 (0x01 ∷ row)) rows ≡ paired (take (2 * n) c.args.hashes.now) =
    rows_paired n rows c.args.hashes.now long (omega arith) (λ i lt. get_or-take n pairs i [] lt ∙ c.pairs_of-pairs.ensures.rows i lt) in
    rw c.tagged_rows_into.ensures (take_at (map (λ (row : List ℕ). sha256 (0x01 ∷ row)) rows) _ n (length-map rows _ ∙ long) ∙ level)
