use Rattle.std.proofs.Common.{bit_xor}
use Rattle.bk_lanes.proofs.Vectors.{itself, zipped}
use Rattle.bk_lanes.proofs.wide.xor3.Goals as goal

pub returns : goal.returns
returns c =
    zipped bit_xor _ _ _ _ (zipped bit_xor _ _ _ _ (itself c.args.x c.fits-x.0) (itself c.args.y c.fits-y.0)) (itself c.args.z c.fits-z.0)
