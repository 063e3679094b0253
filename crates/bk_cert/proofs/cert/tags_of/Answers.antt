use Rattle.std.proofs.Common.{◌≡◌, ℕ, List, [], sym, subst}
use Rattle.std.specs.List.{AllZip}
use Rattle.std.proofs.lemmas.Result.{IfOk-weaker}
use Rattle.bk_digest.specs.Mac.{hmac_of}
use Rattle.bk_digest.specs.Prepared.{IsPrepared}
use Rattle.bk_cert.specs.Tagging.{AreTagsOf, tags_under}
use Rattle.bk_cert.proofs.Wanted.{tags_found}
use Rattle.bk_cert.proofs.cert.tags_of.Goals as goal

pub returns : goal.returns
returns c =
    let none : AreTagsOf c.in_ok-wanted.wanted.items [] = subst (λ wanted. AreTagsOf wanted []) (sym c.in_ok-wanted.ensures.items) tt in
    let all : AreTagsOf c.want_tags.new.wanted.items (tags_under c.args.committee.now.keys c.args.id c.args.mask.now) = c.in_ok-want_tags.ensures [] none in
    IfOk-weaker c.tags_each.result _ _
    (λ tags h. tags_found c.want_tags.new.wanted.items (tags_under c.args.committee.now.keys c.args.id c.args.mask.now) tags.items all (subst (λ wanted. AllZip (λ t tag. (key : List ℕ) → IsPrepared key t.key.now → tag ≡ hmac_of key t.id) wanted tags.items) c.deref.ensures.value h))
    c.tags_each.ensures
