use Rattle.std.proofs.Common.{ℕ, List, [], length, get_or, ap, subst, ◌∙◌}
use Rattle.std.proofs.lemmas.List.{length-map}
use Rattle.bk_cert.specs.Mask.{signers_of}
use Rattle.bk_cert.specs.Spelling.{IsHeader}
use Rattle.bk_cert.proofs.Texts.{tags_sized}
use Rattle.bk_cert.proofs.cert.Cert.seal.Goals as goal

pub invariant_of-result : goal.invariant_of-result
invariant_of-result c =
    let members = signers_of c.of-mask.result in
    let key : ℕ → List ℕ = λ member. get_or c.args.committee.now.keys member [] in
    record {
      headed = subst IsHeader c.header.view_is c.header.invariant;
      mask_sized = c.of-mask.ensures.sized;
      tag_each = ap length c.in_ok-tags.ensures ∙ length-map members _;
      tags_sized = rw c.in_ok-tags.ensures (tags_sized key _ members);
    }

pub returns-clause-certificate : goal.returns-clause-certificate
returns-clause-certificate c = invariant_of-result c
