use Rattle.std.proofs.Common.{◌≡◌, ◌*◌, ◌/◌, ◌-◌, ◌%◌, ◌^◌, bit_or, arith, refl}
use Rattle.bk_lanes.proofs.Vectors.{itself, respelled, splatted, zipped}
use Rattle.bk_lanes.proofs.wide.rotate.Goals as goal

-- the shifts of a rotation, as they are for any number of bits
pub returns : goal.returns
returns c =
    let x = itself c.args.x c.fits-x.0 in
    let right : c.args.by % 32 ≡ c.args.by = omega arith in
    let left : (32 - c.args.by % 32) % 32 ≡ 32 - c.args.by = omega arith in
    let low = zipped (λ x k. x / 2 ^ k) _ _ _ _ x (splatted c.args.by) in
    let high = zipped (λ x k. x * 2 ^ k % 2 ^ 32) _ _ _ _ x (splatted (32 - c.args.by)) in
    respelled _ _ _ (zipped bit_or _ _ _ _ low high) (λ i lt. rw (left, right) refl)
