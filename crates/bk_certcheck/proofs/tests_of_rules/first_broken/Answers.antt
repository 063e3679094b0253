use Rattle.std.proofs.Common.{◌≡◌, ℕ, ◌≤◌, Bool, true, false, Contains, List, length, sym, subst, ◌∙◌}
use Rattle.bk_cert.specs.Mask.{signers_of}
use Rattle.bk_certcheck.proofs.Signers.{signers_are_members}
use Rattle.bk_certcheck.proofs.tests_of_rules.first_broken.Goals as goal

differ : (b : Bool) → b ≡ true → b ≡ false → ⊥
differ b t f = absurd cc

pub weight_of_signers-requires : goal.weight_of_signers-requires
weight_of_signers-requires c =
    let n : ℕ = length c.args.committee.now.keys in
    let same : c.mask.result.now ≡ c.mask-2.result.now = c.mask.ensures.same ∙ sym c.mask-2.ensures.same in
    let none : ((m : ℕ) × Contains (signers_of c.mask.result.now) m × (n ≤ m)) → ⊥ = λ there. differ c.marks_strangers.result (c.marks_strangers.ensures.1 there) c.if-marks_strangers.false in
    let len : length c.mask-2.result.now ≡ 16 = subst (λ (m : List ℕ). length m ≡ 16) (sym c.mask-2.ensures.same) c.mask-2.ensures.certificate.mask_sized in
    signers_are_members c.mask-2.result.now n len (subst (λ (mask : List ℕ). ((m : ℕ) × Contains (signers_of mask) m × (n ≤ m)) → ⊥) same none)
