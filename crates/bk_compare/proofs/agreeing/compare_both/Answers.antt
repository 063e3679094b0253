use Rattle.std.proofs.Common.{sym, subst}
use Rattle.std.proofs.lemmas.Result.{err_from_is_err_and}
use Rattle.bk_results.specs.declared.compare_stop.CompareStop.TheVariants as why
use Rattle.bk_results.specs.declared.differ.Differ.{Differ}
use Rattle.bk_results.specs.declared.differ.Differ.TheVariants as differ
use Rattle.bk_compare.specs.FeedAgreement.{ComparisonStops, FeedsCompared, FeedsDiffer, sources}
use Rattle.bk_compare.proofs.FeedEnds.{both_gave, compare_stops, ended_differ, one_setup}
use Rattle.bk_compare.proofs.agreeing.compare_both.Goals as goal

pub returns-in_err-agreed-in-Ok-clause-stop : goal.returns-in_err-agreed-in-Ok-clause-stop
returns-in_err-agreed-in-Ok-clause-stop g c =
    let p = err_from_is_err_and c.from_residual.result c.from_residual.ensures.1 in
    rw (p.1, p.2) (compare_stops c.in_err-agreed-in-Ok.field-0.0 c.follow_to_end.new.follower (g.S.Source.state c.args.first.now) (g.S.Source.state c.follow_to_end.new.source) (g.T.Source.state c.args.second.now) (g.T.Source.state c.compare_with.new.source) c.in-Ok.ensures.works.0 c.in-Ok.ensures.ended c.in_err-agreed-in-Ok.ensures.stop)

pub returns-in-Ok-found_of-clause-agree : goal.returns-in-Ok-found_of-clause-agree
returns-in-Ok-found_of-clause-agree g c =
    both_gave c.follow_to_end.new.follower c.compare_with.new.other (λ f h. FeedsCompared c.args.strict f h c.in-Ok-found_of.compared) (g.S.Source.state c.args.first.now) (g.S.Source.state c.follow_to_end.new.source) (g.T.Source.state c.args.second.now) (g.T.Source.state c.compare_with.new.source)
    c.in-Ok.ensures.ended c.in_ok-agreed-in-Ok.ensures.ended c.in-Ok-found_of.ensures.found

pub returns-in-Err-found_of-clause-stop : goal.returns-in-Err-found_of-clause-stop
returns-in-Err-found_of-clause-stop g c =
    let one = c.follow_to_end.new.follower in
    let other = c.compare_with.new.other in
    let first = g.S.Source.state c.args.first.now in
    let first' = g.S.Source.state c.follow_to_end.new.source in
    let second = g.T.Source.state c.args.second.now in
    let second' = g.T.Source.state c.compare_with.new.source in
    let setup = one_setup one other c.in_ok-agreed-in-Ok.agreed c.in_ok-agreed-in-Ok.ensures.agree in
    subst (λ (d : Differ). ComparisonStops (why.Differ d) (sources first second) (sources first' second')) (sym c.in-Err-found_of.ensures.memory) (
      (c.in-Ok.ensures.works.0, c.in_ok-agreed-in-Ok.ensures.sound),
      both_gave one other (FeedsDiffer differ.Memory) first first' second second' c.in-Ok.ensures.ended c.in_ok-agreed-in-Ok.ensures.ended
          (λ bytes more x y. ended_differ one other bytes more x y differ.Memory setup),
    )
