use Rattle.std.proofs.Common.{bit_and, bit_xor, w32, slice_index}
use Rattle.bk_lanes.proofs.ChMaj.{ch_short}
use Rattle.bk_lanes.proofs.Vectors.{itself, lane_below, respelled, zipped}
use Rattle.bk_lanes.proofs.wide.ch.Goals as goal

pub returns : goal.returns
returns c =
    let x = itself c.args.x c.fits-x.0 in
    let y = itself c.args.y c.fits-y.0 in
    let z = itself c.args.z c.fits-z.0 in
    respelled _ _ _ (zipped bit_xor _ _ _ _ z (zipped bit_and _ _ _ _ x (zipped bit_xor _ _ _ _ y z))) (λ i lt.
    ch_short w32 (slice_index c.args.x i) (slice_index c.args.y i) (slice_index c.args.z i)
    (lane_below c.args.x i c.fits-x.0 c.fits-x.1 lt) (lane_below c.args.y i c.fits-y.0 c.fits-y.1 lt) (lane_below c.args.z i c.fits-z.0 c.fits-z.1 lt))
