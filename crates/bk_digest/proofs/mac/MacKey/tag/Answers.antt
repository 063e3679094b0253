use Rattle.std.proofs.Common.{◌≡◌}
use Rattle.sha2.specs.Hashers.{Holds256}
use Rattle.bk_digest.specs.Mac.{hmac_of, key_block, padded_with}
use Rattle.bk_digest.specs.Prepared.{IsPrepared}
use Rattle.bk_digest.proofs.mac.MacKey.tag.Goals as goal

pub returns : goal.returns
unfolding hmac_of IsPrepared
returns c = λ key h.
    let same : c.unwrap.result ≡ c.args.self.now.inner = rw c.unwrap.ensures at c.clone.ensures.cases in
    let same2 : c.unwrap-2.result ≡ c.args.self.now.outer = rw c.unwrap-2.ensures at c.clone-2.ensures.cases in
    let inner : Holds256 c.unwrap.result (padded_with 0x36 (key_block key)) = rw same h.0 in
    let outer : Holds256 c.unwrap-2.result (padded_with 0x5c (key_block key)) = rw same2 h.1 in
    c.tag_after.ensures _ _ inner outer
