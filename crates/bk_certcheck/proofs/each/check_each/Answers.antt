use Rattle.std.proofs.Common.{map, subst}
use Rattle.std.specs.List.{AllZip}
use Rattle.rayon.proofs.ListFacts.{IfOk-then}
use Rattle.bk_certcheck.specs.Verdicts.{IsVerdict}
use Rattle.bk_certcheck.specs.private.Stages.{IsLastVerdict}
use Rattle.bk_certcheck.proofs.Stages.{are_left, filled_all, AllZip-from_map}
use Rattle.bk_certcheck.proofs.each.check_each.Goals as goal

pub judge_left-requires : goal.judge_left-requires
judge_left-requires c = rw c.deref.ensures.value (are_left c.args.committee.now (map (λ bytes. bytes.now) c.args.payloads.now) c.in_ok-screened.screened.broken.items c.in_ok-screened.screened.left.items c.in_ok-screened.ensures)

pub returns : goal.returns
returns c =
    let k = c.args.committee.now in
    let s = c.in_ok-screened.screened in
    let verdicts = c.in_ok-verdicts.verdicts.items in
    let last : AllZip (IsLastVerdict k) s.left.items verdicts = subst (λ left. AllZip (IsLastVerdict k) left verdicts) c.deref.ensures.value c.in_ok-verdicts.ensures in
    let all = filled_all k (map (λ bytes. bytes.now) c.args.payloads.now) s.broken.items s.left.items verdicts c.in_ok-screened.ensures last in
    IfOk-then c.fill.result _ _ c.fill.ensures
    (λ vs h. AllZip-from_map (λ bytes. bytes.now) (IsVerdict k) c.args.payloads.now vs.items (rw (h, c.deref-2.ensures.value) all))
