use Rattle.sha2.specs.Sha256.{add32}
use Rattle.bk_lanes.proofs.Vectors.{itself, zipped}
use Rattle.bk_lanes.proofs.wide.add.Goals as goal

pub returns : goal.returns
returns c = zipped add32 _ _ _ _ (itself c.args.x c.fits-x.0) (itself c.args.y c.fits-y.0)
