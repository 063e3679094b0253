use Rattle.std.proofs.Common.{◌≡◌, ◌++◌, refl}
use Rattle.sha2.specs.Sha256.{sha256}
use Rattle.bk_digest.proofs.mac.tag_after.Goals as goal

pub returns : goal.returns
returns c = λ a b ha hb.
    let digest : c.finalize.result ≡ sha256 (a ++ c.args.text.now) = c.finalize.ensures _ (c.update.ensures _ ha) in
    let tag : c.finalize-2.result ≡ sha256 (b ++ c.finalize.result) = c.finalize-2.ensures _ (c.update-2.ensures _ hb) in
    rw (c.new.ensures, tag, digest) refl
