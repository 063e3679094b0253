-- Payloads between two stages of a check.
use Rattle.std.specs.Prelude.{◌≡◌, ◌≢◌, ℕ, List, [], ◌∷◌, Option, Some, None}
use Rattle.bk_committee.specs.Payload.{CommitteeValue}
use Rattle.bk_cert.specs.Values.{CertValue}
use Rattle.bk_cert.specs.Reading.{certificate_of}
use Rattle.bk_cert.specs.Identity.{id_of}
use Rattle.bk_cert.specs.Tagging.{tags_under}
use Rattle.bk_cert.specs.Node.{with_id}
use Rattle.bk_certcheck.specs.Rules.{BreaksNoneBelow}
use Rattle.bk_certcheck.specs.Verdicts.{IsBroken}
use Rattle.bk_certcheck.specs.declared.rule.Rule.{Rule}
use Rattle.bk_certcheck.specs.declared.rule.Rule.TheVariants as rule
use Rattle.bk_certcheck.specs.declared.verdict.Verdict.{Verdict}
use Rattle.bk_certcheck.specs.declared.verdict.Verdict.TheVariants as verdict

-- the bytes are this certificate, and it breaks no rule before the last
abbrev pub IsLeft : CommitteeValue → List ℕ → CertValue → Type 0
IsLeft k bytes c = (certificate_of bytes ≡ Some c) × BreaksNoneBelow k c 7

-- each payload breaks the rule at its index first, or, where there is none, is the next certificate that is left
abbrev pub AreScreened : CommitteeValue → List (List ℕ) → List (Option Rule) → List CertValue
    → Type 0
AreScreened k [] [] [] = Unit {0}
AreScreened k [] [] (c ∷ left) = ⊥
AreScreened k [] (b ∷ broken) left = ⊥
AreScreened k (p ∷ payloads) [] left = ⊥
AreScreened k (p ∷ payloads) (Some r ∷ broken) left =
    IsBroken k p r × AreScreened k payloads broken left
AreScreened k (p ∷ payloads) (None ∷ broken) [] = ⊥
AreScreened k (p ∷ payloads) (None ∷ broken) (c ∷ left) =
    IsLeft k p c × AreScreened k payloads broken left

-- each of the certificates breaks no rule before the last
abbrev pub AreLeft : CommitteeValue → List CertValue → Type 0
AreLeft k [] = Unit {0}
AreLeft k (c ∷ left) = BreaksNoneBelow k c 7 × AreLeft k left

-- the tags that a certificate's signers have under its id
abbrev pub own_tags : CommitteeValue → CertValue → List (List ℕ)
own_tags k c = tags_under k.keys (id_of c.header) c.mask

-- the verdict on a certificate whose signers have these tags under its id
abbrev pub IsByTags : CertValue → List (List ℕ) → Verdict → Type 0
IsByTags c own (verdict.Good node) = (node ≡ with_id c.header) × (c.tags ≡ own)
IsByTags c own (verdict.Broken r) = (r ≡ rule.Tag) × (c.tags ≢ own)

-- the verdict on a certificate that breaks no rule before the last
abbrev pub IsLastVerdict : CommitteeValue → CertValue → Verdict → Type 0
IsLastVerdict k c v = IsByTags c (own_tags k c) v

-- each rule as a verdict, and the next of the verdicts where there is none
abbrev pub filled : List (Option Rule) → List Verdict → List Verdict
filled [] verdicts = []
filled (Some r ∷ broken) verdicts = verdict.Broken r ∷ filled broken verdicts
filled (None ∷ broken) [] = []
filled (None ∷ broken) (v ∷ verdicts) = v ∷ filled broken verdicts
