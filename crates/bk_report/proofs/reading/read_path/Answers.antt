use Rattle.std.proofs.Common.{◌≡◌, ◌<◌, length, rules}
use Rattle.std.proofs.lemmas.List.Elements.{All-push, All-same}
use Rattle.bk_report.specs.Proofs.{IsDigest}
use Rattle.bk_report.proofs.ProofPaths.{left_first, next_of, left_next, left_none}
use Rattle.bk_report.proofs.reading.read_path.Goals as goal

pub loop-rest-init : goal.loop-rest-init
loop-rest-init c = record {
  left = λ path all e. left_first path _ _ c.new-path.ensures.items all e;
  digests = search rules;
}

pub loop-rest-preserved : goal.loop-rest-preserved
loop-rest-preserved c =
    let some : 0 < length c.loop-rest.rest.now = search rules in
    record {
      left = λ path all e.
          let n = next_of path _ _ some (c.loop-rest.invariant.left path all e) in
          let there = c.in-Some.ensures.found n.first _ n.digest n.text in
          left_next path _ _ _ _ c.in-Some.line.0 n there.0 there.1 c.in_ok-push.ensures.items;
      digests = All-same IsDigest _ _ c.in_ok-push.ensures.items (All-push IsDigest _ _ c.loop-rest.invariant.digests c.in-Some.ensures.digest);
    }

pub returns-in_default-clause-found : goal.returns-in_default-clause-found
returns-in_default-clause-found c = λ path all e.
    let some : 0 < length c.loop-rest.rest.now = search rules in
    let n = next_of path _ _ some (c.loop-rest.invariant.left path all e) in
    c.in_default.ensures.found n.first _ n.digest n.text

pub returns-clause-found : goal.returns-clause-found
returns-clause-found c = λ path all e.
    let none : length c.loop-rest.rest.now ≡ 0 = search rules in
    left_none path _ _ none (c.loop-rest.invariant.left path all e)
