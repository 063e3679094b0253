use Rattle.sha2.specs.Hashers.{Holds256}
use Rattle.bk_digest.specs.Mac.{hmac_of, key_block, padded_with}
use Rattle.bk_digest.proofs.mac.hmac.Goals as goal

pub returns : goal.returns
unfolding hmac_of
returns c =
    let inner : Holds256 c.hasher_of.result (padded_with 0x36 (key_block c.args.key.now)) = rw (← c.block_of-block.ensures) c.hasher_of.ensures in
    let outer : Holds256 c.hasher_of-2.result (padded_with 0x5c (key_block c.args.key.now)) = rw (← c.block_of-block.ensures) c.hasher_of-2.ensures in
    c.tag_after.ensures _ _ inner outer
