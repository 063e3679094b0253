use Rattle.std.proofs.Common.{bit_and, bit_xor, slice_index}
use Rattle.bk_lanes.proofs.ChMaj.{maj_short}
use Rattle.bk_lanes.proofs.Vectors.{itself, respelled, zipped}
use Rattle.bk_lanes.proofs.wide.maj.Goals as goal

pub returns : goal.returns
returns c =
    let x = itself c.args.x c.fits-x.0 in
    let y = itself c.args.y c.fits-y.0 in
    let z = itself c.args.z c.fits-z.0 in
    respelled _ _ _ (zipped bit_xor _ _ _ _ y (zipped bit_and _ _ _ _ (zipped bit_xor _ _ _ _ x y) (zipped bit_xor _ _ _ _ y z))) (λ i lt.
    maj_short (slice_index c.args.x i) (slice_index c.args.y i) (slice_index c.args.z i))
