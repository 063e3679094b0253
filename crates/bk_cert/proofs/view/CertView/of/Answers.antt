use Rattle.std.proofs.Common.{None, length, sym, ap, subst, ◌∙◌, arith}
use Rattle.bk_cert.specs.Values.{CertValue}
use Rattle.bk_cert.specs.Spelling.{IsHeader, header_text}
use Rattle.bk_cert.proofs.Grammar.{certificate_takes, is_none, header_cut}
use Rattle.bk_cert.proofs.view.CertView.of.Goals as goal

pub returns-in_err-parts-clause-none : goal.returns-in_err-parts-clause-none
returns-in_err-parts-clause-none c = rw c.from_residual.ensures (is_none c.args.bytes.now None c.in_err-parts.ensures)

pub header_len-requires : goal.header_len-requires
header_len-requires c =
    let good = certificate_takes c.args.bytes.now c.in_ok-parts.parts (λ i. omega (arith, c.type_inv.bytes i)) (sym c.in_ok-parts.ensures) in
    subst IsHeader (sym (ap (λ (v : CertValue). v.header) c.parts.view_is)) good.0.headed

pub slice_bounds-header_bytes-end : goal.slice_bounds-header_bytes-end
slice_bounds-header_bytes-end c =
    let good = certificate_takes c.args.bytes.now c.in_ok-parts.parts (λ i. omega (arith, c.type_inv.bytes i)) (sym c.in_ok-parts.ensures) in
    let same = ap (λ (v : CertValue). v.header) c.parts.view_is in
    let cut = header_cut c.args.bytes.now c.in_ok-parts.parts c.parts.inside.header c.header_len.result good.1 c.header_len.ensures same in
    c.header_len.ensures ∙ ap (λ h. length (header_text h)) same ∙ sym (ap length cut)

pub invariant_of-result : goal.invariant_of-result
invariant_of-result c =
    let good = certificate_takes c.args.bytes.now c.in_ok-parts.parts (λ i. omega (arith, c.type_inv.bytes i)) (sym c.in_ok-parts.ensures) in
    (good.0, header_cut c.args.bytes.now c.in_ok-parts.parts c.parts.inside.header c.header_len.result good.1 c.header_len.ensures (ap (λ (v : CertValue). v.header) c.parts.view_is))

pub returns-clause-found : goal.returns-clause-found
returns-clause-found c = certificate_takes c.args.bytes.now c.in_ok-parts.parts (λ i. omega (arith, c.type_inv.bytes i)) (sym c.in_ok-parts.ensures)
