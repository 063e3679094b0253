-- The rule and the words for bytes that are no certificate.
use Rattle.std.proofs.Common.{◌≡◌, ℕ, List, ◌++◌, codes, Option, Some, None, refl, sym, subst, ◌∙◌}
use Rattle.std.specs.Prelude.{option_map}
use Rattle.bk_base.specs.declared.kind.Kind.{Kind}
use Rattle.bk_base.specs.declared.kind.Kind.TheVariants as kind
use Rattle.bk_base.specs.Feed.{frame_of}
use Rattle.bk_committee.specs.Payload.{CommitteeValue}
use Rattle.bk_cert.specs.Values.{CertValue}
use Rattle.bk_cert.specs.Reading.{certificate_of}
use Rattle.bk_certcheck.specs.declared.rule.Rule.TheVariants as rule
use Rattle.bk_certcheck.specs.declared.rule.Rule.{Rule}
use Rattle.bk_certcheck.specs.declared.verdict.Verdict.{Verdict}
use Rattle.bk_certcheck.specs.declared.verdict.Verdict.TheVariants as verdict
use Rattle.bk_certcheck.specs.Verdicts.{IsBroken, IsVerdict}
use Rattle.bk_listing.specs.Listing.{cert_row, judged_words, rule_words, shape_words}
use Rattle.bk_listing.specs.Rejects.{rules_by}
use Rattle.bk_listing.specs.declared.rows.FrameRow.{FrameRow}
use Rattle.bk_listing.specs.private.FrameRow.{IsRow, row_rules, row_words}

no_two : (o : Option CertValue) (c : CertValue) → o ≡ None → o ≡ Some c → ⊥
no_two o c none some = absurd (let clash : None ≡ Some c = sym none ∙ some in cc)

-- bytes that are no certificate break the first rule
pub none_shape : (k : CommitteeValue) (payload : List ℕ) (r : Rule) → IsBroken k payload r → certificate_of payload ≡ None → r ≡ rule.Shape
none_shape k payload rule.Shape h none = refl
none_shape k payload rule.Author h none = absurd (no_two (certificate_of payload) h.cert none h.read)
none_shape k payload rule.Round h none = absurd (no_two (certificate_of payload) h.cert none h.read)
none_shape k payload rule.Parents h none = absurd (no_two (certificate_of payload) h.cert none h.read)
none_shape k payload rule.ParentOrder h none = absurd (no_two (certificate_of payload) h.cert none h.read)
none_shape k payload rule.Signer h none = absurd (no_two (certificate_of payload) h.cert none h.read)
none_shape k payload rule.Quorum h none = absurd (no_two (certificate_of payload) h.cert none h.read)
none_shape k payload rule.Tag h none = absurd (no_two (certificate_of payload) h.cert none h.read)

pub none_words : (payload : List ℕ) (r : Rule) → certificate_of payload ≡ None → r ≡ rule.Shape → codes "cert" ++ rule_words (Some rule.Shape) ≡ judged_words payload (verdict.Broken r)
none_words payload r none e = λ i. codes "cert" ++ shape_words (option_map cert_row (sym none i)) ++ rule_words (Some (sym e i))

-- the row of the frame of a certificate
pub cert_shown : (k : CommitteeValue) (of : Kind) (payload : List ℕ) (v : Verdict) (row : FrameRow) → of ≡ kind.Certificate → IsVerdict k payload v → row_words k row ≡ judged_words payload v
    → row_rules row ≡ rules_by v → IsRow k (frame_of of payload) row
cert_shown k of payload v row e h words by_rules =
    subst (λ (x : Kind). IsRow k (frame_of x payload) row) (sym e) ((v, h, words), (v, h, by_rules))
