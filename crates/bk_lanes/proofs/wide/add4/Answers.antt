use Rattle.sha2.specs.Sha256.{add32}
use Rattle.bk_lanes.proofs.Vectors.{itself, zipped}
use Rattle.bk_lanes.proofs.wide.add4.Goals as goal

pub returns : goal.returns
returns c =
    let two = zipped add32 _ _ _ _ (itself c.args.x c.fits-x.0) (itself c.args.y c.fits-y.0) in
    let three = zipped add32 _ _ _ _ two (itself c.args.z c.fits-z.0) in
    zipped add32 _ _ _ _ three (itself c.args.u c.fits-u.0)
