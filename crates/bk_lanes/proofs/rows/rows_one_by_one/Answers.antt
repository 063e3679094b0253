use Rattle.std.proofs.Common.{◌∷◌, List, ℕ, arith}
use Rattle.sha2.specs.Sha256.{sha256}
use Rattle.bk_lanes.proofs.Progress.{all_rows}
use Rattle.bk_lanes.proofs.rows.rows_one_by_one.Goals as goal

pub returns : goal.returns
returns g c =
    all_rows (λ (row : List ℕ). sha256 (c.args.first ∷ row)) c.args.rows.now c.each.out c.each.invariant.0
    (λ k lt. c.each.invariant.1 k (omega arith) lt)
