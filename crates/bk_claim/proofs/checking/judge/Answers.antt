use Rattle.std.proofs.Common.{◌∙◌}
use Rattle.std.proofs.lemmas.Result.{err_from_is_err_and}
use Rattle.bk_claim.specs.Claims.{good}
use Rattle.bk_claim.specs.declared.verdict.Verdict.TheVariants as verdict
use Rattle.bk_claim.proofs.Judged.{all_out, differs_shown, part_of_good, part_out, same_shown}
use Rattle.bk_claim.proofs.checking.judge.Goals as goal

pub returns-in_err-push_all-in-Some-clause-stop : goal.returns-in_err-push_all-in-Some-clause-stop
returns-in_err-push_all-in-Some-clause-stop g c =
    let p = err_from_is_err_and c.from_residual-in_err-push_all-in-Some.result c.from_residual-in_err-push_all-in-Some.ensures.1 in
    let fault = c.in_err-push_all-in-Some.ensures.fault in
    let right = c.args.right.now in
    rw (p.1, p.2) (
      c.in_ok-found.ensures.works,
      fault.fails,
      part_out (g.S.Source.state c.args.claimed.now) (g.S.Source.state c.compare_claim.new.claimed) c.in_ok-found.field-0 right c.args.status verdict.Differs c.deref.result.now
          c.in_err-push_all-in-Some.field-0.0.written (g.K.Sink.state c.args.sink.now) (g.K.Sink.state c.push_all.new.sink) c.in_ok-found.ensures.given
          (λ claim compared. differs_shown c.in_ok-found.field-0 right claim c.args.status c.in-Some.found c.deref.result.now compared c.in-Some.is (c.deref.ensures.value ∙ c.in_ok-text-in-Some.ensures))
          fault.short fault.out,
    )

pub returns-in_ok-push_all-in-Some-clause-given : goal.returns-in_ok-push_all-in-Some-clause-given
returns-in_ok-push_all-in-Some-clause-given g c =
    let right = c.args.right.now in
    all_out (g.S.Source.state c.args.claimed.now) (g.S.Source.state c.compare_claim.new.claimed) c.in_ok-found.field-0 right c.args.status verdict.Differs c.deref.result.now
    (g.K.Sink.state c.args.sink.now) (g.K.Sink.state c.push_all.new.sink) c.in_ok-found.ensures.given
    (λ claim compared. differs_shown c.in_ok-found.field-0 right claim c.args.status c.in-Some.found c.deref.result.now compared c.in-Some.is (c.deref.ensures.value ∙ c.in_ok-text-in-Some.ensures))
    c.in_ok-push_all-in-Some.ensures.ok.1

pub returns-in_err-push_all-in-None-clause-stop : goal.returns-in_err-push_all-in-None-clause-stop
returns-in_err-push_all-in-None-clause-stop g c =
    let p = err_from_is_err_and c.from_residual-in_err-push_all-in-None.result c.from_residual-in_err-push_all-in-None.ensures.1 in
    let fault = c.in_err-push_all-in-None.ensures.fault in
    rw (p.1, p.2) (
      c.in_ok-found.ensures.works,
      fault.fails,
      part_of_good c.args.status (g.S.Source.state c.args.claimed.now) (g.S.Source.state c.compare_claim.new.claimed) c.in_ok-found.field-0 c.args.right.now
          c.in_err-push_all-in-None.field-0.0.written (g.K.Sink.state c.args.sink.now) (g.K.Sink.state c.push_all-in-None.new.sink) c.in_ok-found.ensures.given c.in-None.is
          fault.short fault.out,
    )

pub returns-in_ok-push_all-in-None-clause-given : goal.returns-in_ok-push_all-in-None-clause-given
returns-in_ok-push_all-in-None-clause-given g c =
    let right = c.args.right.now in
    all_out (g.S.Source.state c.args.claimed.now) (g.S.Source.state c.compare_claim.new.claimed) c.in_ok-found.field-0 right c.args.status c.good.result good
    (g.K.Sink.state c.args.sink.now) (g.K.Sink.state c.push_all-in-None.new.sink) c.in_ok-found.ensures.given
    (λ claim compared. same_shown c.in_ok-found.field-0 right claim c.args.status c.good.result good compared c.in-None.is (c.good.ensures right))
    c.in_ok-push_all-in-None.ensures.ok.1
