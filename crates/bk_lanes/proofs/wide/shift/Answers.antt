use Rattle.std.proofs.Common.{◌/◌, ◌^◌}
use Rattle.bk_lanes.proofs.Vectors.{itself, splatted, zipped}
use Rattle.bk_lanes.proofs.wide.shift.Goals as goal

pub returns : goal.returns
returns c = zipped (λ x k. x / 2 ^ k) _ _ _ _ (itself c.args.x c.fits-x.0) (splatted c.args.by)
