-- Rules in the order of their numbers.
use Rattle.std.proofs.Common.{◌≡◌, ◌≢◌, ℕ, zero, suc, ◌+◌, ◌<◌, List, Option, Some, None, refl, sym, ap, subst, ◌∙◌, arith, inl, inr}
use Rattle.std.proofs.lemmas.Bool.{cases_lt}
use Rattle.bk_committee.specs.Payload.{CommitteeValue}
use Rattle.bk_cert.specs.Values.{CertValue}
use Rattle.bk_cert.specs.Reading.{certificate_of}
use Rattle.bk_cert.specs.Node.{Node, with_id}
use Rattle.bk_certcheck.specs.declared.rule.Rule.{Rule}
use Rattle.bk_certcheck.specs.declared.rule.Rule.TheVariants as rule
use Rattle.bk_certcheck.specs.declared.verdict.Verdict.{Verdict}
use Rattle.bk_certcheck.specs.declared.verdict.Verdict.TheVariants as verdict
use Rattle.bk_certcheck.specs.Rules.{Breaks, BreaksNoneBelow, rule_number}
use Rattle.bk_certcheck.specs.Verdicts.{IsGood, BreaksFirst, IsBroken, IsVerdict}

-- ---- one rule more

numbered : ℕ → Rule
numbered n = by n
  where
    by : ℕ → Rule
    by zero = rule.Shape
    by (suc zero) = rule.Author
    by (suc (suc zero)) = rule.Round
    by (suc (suc (suc zero))) = rule.Parents
    by (suc (suc (suc (suc zero)))) = rule.ParentOrder
    by (suc (suc (suc (suc (suc zero))))) = rule.Signer
    by (suc (suc (suc (suc (suc (suc zero)))))) = rule.Quorum
    by (suc (suc (suc (suc (suc (suc (suc n))))))) = rule.Tag

again : (r : Rule) → numbered (rule_number r) ≡ r
unfolding numbered
again rule.Shape = refl
again rule.Author = refl
again rule.Round = refl
again rule.Parents = refl
again rule.ParentOrder = refl
again rule.Signer = refl
again rule.Quorum = refl
again rule.Tag = refl

pub one_number : (r s : Rule) → rule_number r ≡ rule_number s → r ≡ s
one_number r s e = sym (again r) ∙ ap numbered e ∙ again s

pub last_number : (r : Rule) → rule_number r < 8
last_number rule.Shape = omega arith
last_number rule.Author = omega arith
last_number rule.Round = omega arith
last_number rule.Parents = omega arith
last_number rule.ParentOrder = omega arith
last_number rule.Signer = omega arith
last_number rule.Quorum = omega arith
last_number rule.Tag = omega arith

pub none_below_next : (k : CommitteeValue) (c : CertValue) (r : Rule) (n : ℕ) → n ≡ rule_number r + 1 → BreaksNoneBelow k c (rule_number r) → ¬ Breaks k c r → BreaksNoneBelow k c n
none_below_next k c r n e below not s lt h =
    elim (cases_lt (rule_number s) (rule_number r)) [
      | inl before ↦ below s before h
      | inr past ↦ not (subst (Breaks k c) (one_number s r (omega arith)) h)
    ]

-- ---- verdicts

pub broken_later : (k : CommitteeValue) (bytes : List ℕ) (r : Rule) → r ≢ rule.Shape → BreaksFirst k bytes r → IsBroken k bytes r
broken_later k bytes rule.Shape later first = absurd (later refl)
broken_later k bytes rule.Author later first = first
broken_later k bytes rule.Round later first = first
broken_later k bytes rule.Parents later first = first
broken_later k bytes rule.ParentOrder later first = first
broken_later k bytes rule.Signer later first = first
broken_later k bytes rule.Quorum later first = first
broken_later k bytes rule.Tag later first = first

-- what a broken rule says of the bytes
data Cases (k : CommitteeValue) (bytes : List ℕ) (r : Rule) : Type 0 where
  shapeless : r ≡ rule.Shape → certificate_of bytes ≡ None → Cases k bytes r
  shaped : BreaksFirst k bytes r → Cases k bytes r

cases : (k : CommitteeValue) (bytes : List ℕ) (r : Rule) → IsBroken k bytes r → Cases k bytes r
cases k bytes rule.Shape h = shapeless refl h
cases k bytes rule.Author h = shaped h
cases k bytes rule.Round h = shaped h
cases k bytes rule.Parents h = shaped h
cases k bytes rule.ParentOrder h = shaped h
cases k bytes rule.Signer h = shaped h
cases k bytes rule.Quorum h = shaped h
cases k bytes rule.Tag h = shaped h

one_cert : (o : Option CertValue) (c d : CertValue) → o ≡ Some c → o ≡ Some d → c ≡ d
one_cert o c d p q = cc

no_cert : (o : Option CertValue) (c : CertValue) → o ≡ Some c → o ≡ None → ⊥
no_cert o c p q = absurd cc

first_once : (k : CommitteeValue) (bytes : List ℕ) (r s : Rule) → BreaksFirst k bytes r → BreaksFirst k bytes s → r ≡ s
first_once k bytes r s a b =
    let same : b.cert ≡ a.cert = one_cert (certificate_of bytes) b.cert a.cert b.read a.read in
    let breaks : Breaks k a.cert s = subst (λ (c : CertValue). Breaks k c s) same b.breaks in
    let below : BreaksNoneBelow k a.cert (rule_number s) = subst (λ (c : CertValue). BreaksNoneBelow k c (rule_number s)) same b.none_before in
    elim (cases_lt (rule_number r) (rule_number s)) [
      | inl lt ↦ absurd (below r lt a.breaks)
      | inr ge ↦ elim (cases_lt (rule_number s) (rule_number r)) [
        | inl lt ↦ absurd (a.none_before s lt breaks)
        | inr le ↦ one_number r s (omega arith)
      ]
    ]

broken_once : (k : CommitteeValue) (bytes : List ℕ) (r s : Rule) → Cases k bytes r → Cases k bytes s → r ≡ s
broken_once k bytes r s (shapeless p none) (shapeless q none') = p ∙ sym q
broken_once k bytes r s (shapeless p none) (shaped b) = absurd (no_cert (certificate_of bytes) b.cert b.read none)
broken_once k bytes r s (shaped a) (shapeless q none) = absurd (no_cert (certificate_of bytes) a.cert a.read none)
broken_once k bytes r s (shaped a) (shaped b) = first_once k bytes r s a b

good_once : (k : CommitteeValue) (bytes : List ℕ) (a b : Node) → IsGood k bytes a → IsGood k bytes b → a ≡ b
good_once k bytes a b p q =
    let same : p.cert ≡ q.cert = one_cert (certificate_of bytes) p.cert q.cert p.read q.read in
    p.is ∙ ap (λ (c : CertValue). with_id c.header) same ∙ sym q.is

not_both : (k : CommitteeValue) (bytes : List ℕ) (a : Node) (r : Rule) → IsGood k bytes a → Cases k bytes r → ⊥
not_both k bytes a r p (shapeless q none) = no_cert (certificate_of bytes) p.cert p.read none
not_both k bytes a r p (shaped b) =
    let same : b.cert ≡ p.cert = one_cert (certificate_of bytes) b.cert p.cert b.read p.read in
    p.breaks_none r (subst (λ (c : CertValue). Breaks k c r) same b.breaks)

pub one_verdict : (k : CommitteeValue) (bytes : List ℕ) (one other : Verdict) → IsVerdict k bytes one → IsVerdict k bytes other → one ≡ other
one_verdict k bytes (verdict.Good a) (verdict.Good b) p q = ap verdict.Good (good_once k bytes a b p q)
one_verdict k bytes (verdict.Good a) (verdict.Broken s) p q = absurd (not_both k bytes a s p (cases k bytes s q))
one_verdict k bytes (verdict.Broken r) (verdict.Good b) p q = absurd (not_both k bytes b r q (cases k bytes r p))
one_verdict k bytes (verdict.Broken r) (verdict.Broken s) p q = ap verdict.Broken (broken_once k bytes r s (cases k bytes r p) (cases k bytes s q))
