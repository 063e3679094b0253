use Rattle.std.proofs.Common.{ℕ, List, ◌++◌, length, ap}
use Rattle.std.proofs.lemmas.List.{drop-replicate}
use Rattle.bk_digest.proofs.mac.filled.Goals as goal

pub returns : goal.returns
returns c = rw c.copy_from_slice.ensures.after (ap (λ (t : List ℕ). c.args.bytes.now ++ t) (drop-replicate (length c.args.bytes.now) 64 0))
