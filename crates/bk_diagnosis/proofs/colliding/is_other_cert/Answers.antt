use Rattle.std.proofs.Common.{◌≡◌, Some, sym, ap, ◌∙◌}
use Rattle.std.specs.BTreeMap.{get}
use Rattle.bk_evidence.specs.Collisions.{id_cmp}
use Rattle.bk_diagnosis.proofs.OtherEntries.{cert_tested, cert_untested}
use Rattle.bk_diagnosis.proofs.colliding.is_other_cert.Goals as goal

pub cert_at-requires : goal.cert_at-requires
cert_at-requires c =
    let found : get id_cmp c.args.firsts.now c.args.cert.now.id ≡ Some c.in-Some.index =
    ap (get id_cmp c.args.firsts.now) (sym c.id.ensures) ∙ (sym c.get.ensures.value ∙ (sym c.copied.ensures ∙ c.in-Some.is)) in
    (c.requires.inside c.args.cert.now.id c.in-Some.index found).0

pub returns-in-None : goal.returns-in-None
returns-in-None c = cert_untested c.args.certs.now c.args.firsts.now c.requires c.args.cert.now
    (ap (get id_cmp c.args.firsts.now) (sym c.id.ensures) ∙ (sym c.get.ensures.value ∙ (sym c.copied.ensures ∙ c.in-None.is)))

pub returns-in-Some : goal.returns-in-Some
returns-in-Some c = cert_tested c.args.certs.now c.args.firsts.now c.requires c.args.cert.now c.in-Some.index c.cert_at.result.now c.has_other_header.result
    (ap (get id_cmp c.args.firsts.now) (sym c.id.ensures) ∙ (sym c.get.ensures.value ∙ (sym c.copied.ensures ∙ c.in-Some.is)))
    c.cert_at.ensures c.has_other_header.ensures
