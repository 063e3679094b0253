-- What the bytes of a certificate are found to be: good, or broken by the least rule that they break.
use Rattle.std.specs.Prelude.{◌≡◌, ℕ, ◌<◌, List, Some, None}
use Rattle.bk_committee.specs.Payload.{CommitteeValue}
use Rattle.bk_cert.specs.Values.{CertValue}
use Rattle.bk_cert.specs.Reading.{certificate_of}
use Rattle.bk_cert.specs.Node.{Node, with_id}
use Rattle.bk_certcheck.specs.declared.rule.Rule.{Rule}
use Rattle.bk_certcheck.specs.declared.rule.Rule.TheVariants as rule
use Rattle.bk_certcheck.specs.declared.verdict.Verdict.{Verdict}
use Rattle.bk_certcheck.specs.declared.verdict.Verdict.TheVariants as verdict
use Rattle.bk_certcheck.specs.Rules.{Breaks, rule_number}

-- the bytes are a certificate of this header that breaks no rule
pub record IsGood (k : CommitteeValue) (bytes : List ℕ) (node : Node) : Type 0 where
  pub cert : CertValue
  pub read : certificate_of bytes ≡ Some cert
  pub breaks_none : (r : Rule) → ¬ Breaks k cert r
  pub is : node ≡ with_id cert.header

-- the bytes are a certificate that breaks this rule and none before it
pub record BreaksFirst (k : CommitteeValue) (bytes : List ℕ) (r : Rule) : Type 0 where
  pub cert : CertValue
  pub read : certificate_of bytes ≡ Some cert
  pub breaks : Breaks k cert r
  pub none_before : (other : Rule) → rule_number other < rule_number r → ¬ Breaks k cert other

-- the least rule that the bytes break: the first where they are no certificate
abbrev pub IsBroken : CommitteeValue → List ℕ → Rule → Type 0
IsBroken k bytes rule.Shape = certificate_of bytes ≡ None
IsBroken k bytes r = BreaksFirst k bytes r

-- the verdict on the bytes
abbrev pub IsVerdict : CommitteeValue → List ℕ → Verdict → Type 0
IsVerdict k bytes (verdict.Good node) = IsGood k bytes node
IsVerdict k bytes (verdict.Broken r) = IsBroken k bytes r
