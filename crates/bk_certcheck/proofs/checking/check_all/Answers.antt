use Rattle.std.proofs.Common.{ap, subst, ◌∙◌}
use Rattle.std.specs.Prelude.{IfOk}
use Rattle.std.specs.List.{AllZip}
use Rattle.rayon.specs.Lists.{iter_slice, min_len_base}
use Rattle.rayon.proofs.ToStd.{slice-AllZip}
use Rattle.bk_certcheck.specs.Verdicts.{IsVerdict}
use Rattle.bk_certcheck.proofs.Zips.{gathered}
use Rattle.bk_certcheck.proofs.checking.check_all.Goals as goal

pub returns : goal.returns
returns g c =
    let slice = ap (λ it. iter_slice (min_len_base it)) c.map.ensures.base ∙ ap (λ it. iter_slice it) c.with_min_len.ensures.base ∙ c.par_iter.ensures in
    let h = c.in_ok-verdicts.ensures in
    let chain = h.1 in
    let zipped = slice-AllZip chain.0 c.args.payloads.now (chain.1 ∙ slice) (λ bytes r. IfOk r (IsVerdict c.map.result.f.1.now bytes.now)) h.0 chain.2 in
    let all = gathered (λ v. v.items) (λ bytes r. IfOk r (IsVerdict c.map.result.f.1.now bytes.now)) (λ bytes v. IsVerdict c.map.result.f.1.now bytes.now v) (λ bytes v p. p) c.args.payloads.now h.0 c.in_ok-verdicts.verdicts zipped h.2 in
    subst (λ k. IfOk c.in_ok-verdicts.verdicts (λ vs. AllZip (λ bytes v. IsVerdict k.now bytes.now v) c.args.payloads.now vs.items)) (ap (λ f. f.1) c.map.ensures.f) all
