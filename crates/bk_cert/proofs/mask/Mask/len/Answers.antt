use Rattle.std.proofs.Common.{◌≡◌, ◌<◌, ◌≤◌, ℕ, List, ◌+◌, ◌*◌, length, get_or, ap, subst, ◌∙◌, arith}
use Rattle.std.specs.Int.RustNames.{count_ones}
use Rattle.bk_cert.proofs.Marks.{marked, counted_all, count_short}
use Rattle.bk_cert.proofs.Counts.{byte_counted}
use Rattle.bk_cert.proofs.mask.Mask.len.Goals as goal

-- one byte more, where the bytes are those of the mask
next_byte : (bytes mask : List ℕ) (j signers ones : ℕ) → bytes ≡ mask → get_or bytes j 0 < 256 → ones ≡ count_ones (get_or bytes j 0) → signers ≡ length (marked mask (8 * j)) → signers + ones ≡ length (marked mask (8 * (j + 1)))
next_byte bytes mask j signers ones same lt is so_far =
    byte_counted mask j signers ones (subst (λ (bs : List ℕ). get_or bs j 0 < 256) same lt) so_far (is ∙ ap (λ (bs : List ℕ). count_ones (get_or bs j 0)) same)

pub overflow_add-signers : goal.overflow_add-signers
overflow_add-signers c =
    let mask = c.args.self.now in
    let j = c.loop-byte.byte-index in
    let counted = next_byte c.self.inside.0 mask j c.loop-byte.signers c.ones_of-signers.result c.self.view_is c.ones_of-signers.ensures.fits c.ones_of-signers.ensures.ones c.loop-byte.invariant in
    let few : length (marked mask (8 * (j + 1))) ≤ 8 * (j + 1) = count_short mask (8 * (j + 1)) in
    omega (arith, counted, few, c.loop-byte-test.true)

pub loop-byte-preserved : goal.loop-byte-preserved
loop-byte-preserved c = next_byte c.self.inside.0 c.args.self.now c.loop-byte.byte-index c.loop-byte.signers c.ones_of-signers.result c.self.view_is c.ones_of-signers.ensures.fits c.ones_of-signers.ensures.ones c.loop-byte.invariant

pub returns-clause-signers : goal.returns-clause-signers
returns-clause-signers c =
    counted_all c.args.self.now (8 * c.loop-byte.byte-index) c.loop-byte.signers (omega (arith, c.loop-byte-test.false, c.loop-byte.auto.byte-index-end)) c.loop-byte.invariant

pub returns-clause-few : goal.returns-clause-few
returns-clause-few c =
    let few : length (marked c.args.self.now (8 * c.loop-byte.byte-index)) ≤ 8 * c.loop-byte.byte-index = count_short c.args.self.now (8 * c.loop-byte.byte-index) in
    let same : c.loop-byte.signers ≡ length (marked c.args.self.now (8 * c.loop-byte.byte-index)) = c.loop-byte.invariant in
    omega (arith, c.loop-byte.auto.byte-index-end)
