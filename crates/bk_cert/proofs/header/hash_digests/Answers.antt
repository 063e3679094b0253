use Rattle.std.proofs.Common.{ℕ, List, ◌++◌, take, subst}
use Rattle.std.specs.List.{concat}
use Rattle.sha2.specs.Hashers.{Holds256}
use Rattle.bk_cert.proofs.Texts.{written}
use Rattle.bk_cert.proofs.header.hash_digests.Goals as goal

pub loop-digest-preserved : goal.loop-digest-preserved
loop-digest-preserved c = λ m h.
    let i = c.loop-digest.digest-index in
    let held = c.update.ensures (m ++ concat (take i c.args.digests.now)) (c.loop-digest.invariant m h) in
    subst (λ (text : List ℕ). Holds256 c.update.new.self text) (written m c.args.digests.now i c.as_bytes.result.now c.digest-item.result c.loop-digest-test.true c.as_bytes.ensures.value c.digest-item.is) held
