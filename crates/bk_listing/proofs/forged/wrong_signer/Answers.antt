use Rattle.std.proofs.Common.{◌≡◌, ℕ, ◌<◌, length, Some, IsTrue, sym, ap, subst, ◌∙◌, arith}
use Rattle.bk_cert.specs.Mask.{is_signer}
use Rattle.bk_cert.specs.Values.{CertValue}
use Rattle.bk_certcheck.specs.declared.rule.Rule.TheVariants as rule
use Rattle.bk_certcheck.proofs.Signers.{signers_are_members}
use Rattle.bk_listing.proofs.forged.wrong_signer.Goals as goal

pub signer_of-requires-clause-members : goal.signer_of-requires-clause-members
signer_of-requires-clause-members c =
    let n : ℕ = length c.args.committee.now.keys in
    let both : Some c.in-Some.view ≡ Some c.requires.cert = sym c.in-Some.is ∙ c.of.ensures.exact ∙ c.requires.read in
    let same : c.requires.cert ≡ c.in-Some.view = cc in
    let sized = c.in-Some.ensures.found.0.mask_sized in
    subst (λ (v : CertValue). (member : ℕ) → IsTrue (is_signer v.mask member) → member < n) same
    (signers_are_members c.requires.cert.mask n (ap (λ (v : CertValue). length v.mask) same ∙ sized) (c.requires.none_before rule.Signer (omega arith)))
