use Rattle.std.proofs.Common.{sym, subst, ◌∙◌}
use Rattle.bk_cert.specs.Spelling.{IsCertificate}
use Rattle.bk_cert.proofs.Texts.{same_cert}
use Rattle.bk_cert.proofs.cert.Cert.decode.Goals as goal

pub invariant_of-result : goal.invariant_of-result
invariant_of-result c =
    let v = c.in-Some.view in
    subst IsCertificate (sym (same_cert v c.in_ok-header.header c.mask.result.now c.in_ok-tags.tags.items c.in_ok-header.ensures c.mask.ensures.same (c.in_ok-tags.ensures ∙ c.tags.ensures.all))) c.tags.ensures.certificate
