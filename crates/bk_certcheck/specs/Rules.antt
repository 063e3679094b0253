-- The local rules of certificates.
use Rattle.std.specs.Prelude.{◌≡◌, ◌≢◌, ℕ, ◌<◌, ◌≤◌, ◌⊎◌, Bool, length, Contains, IsTrue, nat_lt, ◌==◌, ◌||◌, if◌then◌else◌}
use Rattle.std.specs.List.Sorted.{IsStrictlySortedBy}
use Rattle.std.specs.Ordering.{nat_cmp}
use Rattle.std.specs.Cmp.Lexicographic.{slice_cmp}
use Rattle.bk_base.specs.declared.version.Version.{Version}
use Rattle.bk_base.specs.declared.version.Version.TheVariants as version
use Rattle.bk_committee.specs.Payload.{CommitteeValue, sizes_of}
use Rattle.bk_committee.specs.Sizes.{Sizes, quorum, weight_of}
use Rattle.bk_cert.specs.Values.{HeaderValue, CertValue}
use Rattle.bk_cert.specs.Mask.{signers_of}
use Rattle.bk_cert.specs.Identity.{tags_by}
use Rattle.bk_certcheck.specs.declared.rule.TheConstants.{MOST_ROUND}
use Rattle.bk_certcheck.specs.declared.rule.Rule.{Rule}
use Rattle.bk_certcheck.specs.declared.rule.Rule.TheVariants as rule

-- the number of a rule
abbrev pub rule_number : Rule → ℕ
rule_number rule.Shape = 0
rule_number rule.Author = 1
rule_number rule.Round = 2
rule_number rule.Parents = 3
rule_number rule.ParentOrder = 4
rule_number rule.Signer = 5
rule_number rule.Quorum = 6
rule_number rule.Tag = 7

-- how many parents a certificate of a later round has at least: in version One as many as make a quorum, in version
-- Two one; whether they weigh a quorum, admission asks in both
abbrev pub least_parents : Version → Sizes → ℕ
least_parents version.One z = quorum z
least_parents version.Two z = 1

-- the header has a wrong number of parents: any in round 1, or too few or more than there are members in a later one
abbrev pub wrong_parents : CommitteeValue → HeaderValue → Bool
wrong_parents k h =
    if h.round == 1 then nat_lt 0 (length h.parents)
    else nat_lt (length h.parents) (least_parents k.version (sizes_of k)) || nat_lt (length k.keys) (length h.parents)

-- a certificate breaks this rule; it has a shape, so that it does not break the first
abbrev pub Breaks : CommitteeValue → CertValue → Rule → Type 0
Breaks k c rule.Shape = ⊥
Breaks k c rule.Author = length k.keys ≤ c.header.author
Breaks k c rule.Round = (c.header.round ≡ 0) ⊎ (MOST_ROUND < c.header.round)
Breaks k c rule.Parents = IsTrue (wrong_parents k c.header)
Breaks k c rule.ParentOrder = ¬ IsStrictlySortedBy (slice_cmp nat_cmp) c.header.parents
Breaks k c rule.Signer = (member : ℕ) × Contains (signers_of c.mask) member × (length k.keys ≤ member)
Breaks k c rule.Quorum = weight_of (sizes_of k) (signers_of c.mask) < quorum (sizes_of k)
Breaks k c rule.Tag = c.tags ≢ tags_by k.keys c.header (signers_of c.mask)

-- it breaks no rule whose number is below n
abbrev pub BreaksNoneBelow : CommitteeValue → CertValue → ℕ → Type 0
BreaksNoneBelow k c n = (r : Rule) → rule_number r < n → ¬ Breaks k c r
