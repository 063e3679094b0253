use Rattle.std.proofs.Common.{ap, subst, ◌∙◌}
use Rattle.std.specs.Prelude.{IfOk}
use Rattle.std.specs.List.{AllZip}
use Rattle.rayon.specs.Lists.{iter_slice, min_len_base}
use Rattle.rayon.proofs.ToStd.{slice-AllZip}
use Rattle.bk_frames.specs.Cutting.{frames_in}
use Rattle.bk_certcheck.specs.Frames.{IsFound}
use Rattle.bk_certcheck.proofs.Zips.{gathered}
use Rattle.bk_certcheck.proofs.frames.find_parts.Goals as goal

pub returns : goal.returns
returns g c =
    let slice = ap (λ it. iter_slice (min_len_base it)) c.map.ensures.base ∙ ap (λ it. iter_slice it) c.with_min_len.ensures.base ∙ c.par_iter.ensures in
    let h = c.in_ok-found.ensures in
    let chain = h.1 in
    let zipped = slice-AllZip chain.0 c.args.parts.now (chain.1 ∙ slice) (λ part r. IfOk r (λ out. AllZip (IsFound c.map.result.f.1.now) (frames_in part.now) out.items)) h.0 chain.2 in
    let all = gathered (λ v. v.items) (λ part r. IfOk r (λ out. AllZip (IsFound c.map.result.f.1.now) (frames_in part.now) out.items)) (λ part out. AllZip (IsFound c.map.result.f.1.now) (frames_in part.now) out.items) (λ part out p. p) c.args.parts.now h.0 c.in_ok-found.found zipped h.2 in
    subst (λ k. IfOk c.in_ok-found.found (λ founds. AllZip (λ part found. AllZip (IsFound k.now) (frames_in part.now) found.items) c.args.parts.now founds.items)) (ap (λ f. f.1) c.map.ensures.f) all
