use Rattle.std.proofs.Common.{◌*◌, arith}
use Rattle.std.proofs.lemmas.Bool.{eqb-true}
use Rattle.bk_digest.proofs.Levels.{twice_split}
use Rattle.bk_digest.proofs.tree.is_in_lanes.Goals as goal

pub returns-then-size-le-MAX_LEAVES : goal.returns-then-size-le-MAX_LEAVES
returns-then-size-le-MAX_LEAVES c = λ h.
    let k = c.split_size.result in
    (omega arith, twice_split c.args.size k c.split_size.ensures.0 (eqb-true c.args.size (2 * k) h))
