use Rattle.std.proofs.Common.{◌≡◌, ◌<◌, ℕ, List, [], length, IsTrue, sym, subst, ◌∙◌, arith}
use Rattle.std.specs.List.{AllZip, flat_map}
use Rattle.rayon.proofs.ListFacts.{IfOk-then}
use Rattle.std.proofs.lemmas.List.{take_all}
use Rattle.bk_digest.specs.Mac.{hmac_of}
use Rattle.bk_digest.specs.Prepared.{IsPrepared}
use Rattle.bk_cert.specs.Mask.{is_signer}
use Rattle.bk_cert.specs.Tagging.{AreTagsOf}
use Rattle.bk_certcheck.specs.private.Stages.{own_tags}
use Rattle.bk_certcheck.specs.declared.rule.Rule.TheVariants as rule
use Rattle.bk_certcheck.proofs.Signers.{signers_are_members}
use Rattle.bk_cert.proofs.Wanted.{tags_found}
use Rattle.bk_certcheck.proofs.Stages.{left_at, id_at, want_next}
use Rattle.bk_certcheck.proofs.tagging.tags_of.Goals as goal

pub want_tags-requires : goal.want_tags-requires
want_tags-requires c =
    let n : ℕ = length c.args.committee.now.keys in
    subst (λ (mask : List ℕ). (member : ℕ) → IsTrue (is_signer mask member) → member < n) (sym c.mask.ensures.same)
    (signers_are_members c.index-left-k.result.mask n c.mask.ensures.certificate.mask_sized (left_at c.args.committee.now c.args.left.now c.loop-k.k c.index-left-k.result c.requires.left c.loop-k-test.true c.index-left-k.is rule.Signer (omega arith)))

pub loop-k-preserved : goal.loop-k-preserved
loop-k-preserved c =
    let view = c.index-left-k.result in
    let named = id_at c.args.left.now c.args.ids.now c.loop-k.k view [] c.requires.ids c.loop-k-test.true c.index-left-k.is in
    want_next c.args.committee.now c.args.left.now c.loop-k.k view c.loop-k.wanted.items c.want_tags.new.wanted.items c.mask.result.now c.new.result c.loop-k-test.true c.index-left-k.is c.mask.ensures.same (c.new.ensures ∙ named) c.in_ok-want_tags.ensures c.loop-k.invariant

pub returns : goal.returns
returns c =
    let own = own_tags c.args.committee.now in
    let all = take_all c.loop-k.k c.args.left.now c.loop-k-test.false in
    let are : AreTagsOf c.loop-k.wanted.items (flat_map own c.args.left.now) = subst (λ left. AreTagsOf c.loop-k.wanted.items (flat_map own left)) all c.loop-k.invariant in
    IfOk-then c.tags_each.result _ _ c.tags_each.ensures
    (λ tags h. tags_found c.loop-k.wanted.items (flat_map own c.args.left.now) tags.items are (subst (λ wanted. AllZip (λ t tag. (key : List ℕ) → IsPrepared key t.key.now → tag ≡ hmac_of key t.id) wanted tags.items) c.deref.ensures.value h))
