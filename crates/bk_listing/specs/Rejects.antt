-- How many frames of certificates are rejected.
use Rattle.std.specs.Prelude.{◌≡◌, ℕ, List, [], ◌∷◌, ◌++◌, length}
use Rattle.bk_base.specs.declared.kind.Kind.{Kind}
use Rattle.bk_base.specs.declared.kind.Kind.TheVariants as kind
use Rattle.bk_base.specs.declared.version.Version.{Version}
use Rattle.bk_base.specs.Feed.{Frame}
use Rattle.bk_committee.specs.Payload.{CommitteeValue, committee_of}
use Rattle.bk_certcheck.specs.declared.rule.Rule.{Rule}
use Rattle.bk_certcheck.specs.declared.verdict.Verdict.{Verdict}
use Rattle.bk_certcheck.specs.declared.verdict.Verdict.TheVariants as verdict
use Rattle.bk_certcheck.specs.Verdicts.{IsVerdict}

-- the rule that a verdict names, none where the certificate is good
abbrev pub rules_by : Verdict → List Rule
rules_by (verdict.Good node) = []
rules_by (verdict.Broken r) = r ∷ []

-- the rule by which a frame with this kind and payload is rejected, if it is: a certificate by the least that it breaks, and
-- no other frame
abbrev pub IsRejectedBy : CommitteeValue → Kind → List ℕ → List Rule → Type 0
IsRejectedBy k kind.Certificate payload rules = (v : Verdict) × IsVerdict k payload v × (rules ≡ rules_by v)
IsRejectedBy k other payload rules = rules ≡ []

-- the rules by which these frames are rejected, in the order of the frames: one for each frame that is
abbrev pub AreRejectedBy : CommitteeValue → List Frame → List Rule → Type 0
AreRejectedBy k [] rules = rules ≡ []
AreRejectedBy k (f ∷ more) rules =
    (first : List Rule) × (later : List Rule) × IsRejectedBy k f.kind f.payload first
    × AreRejectedBy k more later × (rules ≡ first ++ later)

-- this many frames of a feed of this version are rejected, under the committee of frame 0
abbrev pub IsRejectedCount : Version → List Frame → ℕ → Type 0
IsRejectedCount version [] rejected = rejected ≡ 0
IsRejectedCount version (first ∷ more) rejected =
    (rules : List Rule) × AreRejectedBy (committee_of version first.payload) (first ∷ more) rules
    × (rejected ≡ length rules)
