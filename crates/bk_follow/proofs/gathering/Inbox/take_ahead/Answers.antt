use Rattle.std.proofs.Common.{◌≡◌, ◌∷◌, [], Option, Some, subst}
use Rattle.std.specs.Prelude.{MatchOption}
use Rattle.bk_order.specs.Ahead.{JudgedValue}
use Rattle.bk_base.specs.Feed.{Frame}
use Rattle.std.proofs.Common.{List}
use Rattle.bk_follow.specs.private.Gathering.{HasGathered}
use Rattle.bk_follow.proofs.JudgedAhead.{can_take_first, none_ahead, took_first}
use Rattle.bk_follow.proofs.Openings.{stays_itself, stays_then}
use Rattle.bk_follow.proofs.gathering.Inbox.take_ahead.Goals as goal

pub groups-init : goal.groups-init
groups-init g c = record {
  come = (c.requires.come.0, c.requires.come.1, c.requires.come.2);
  opened = c.requires.come.3;
  takes = λ bytes taken h. (taken, h);
  stays = stays_itself c.args.self.now.opened.book;
}

pub take_judged-requires : goal.take_judged-requires
take_judged-requires g c = record {
  come =
      let w = c.groups.invariant.come in
      can_take_first w.0 w.1 c.groups.self c.groups.ahead c.pop.new.self (c.groups.ahead.groups ≡ []) w.2 c.groups.invariant.opened (Some c.in-Some.judged) (subst (λ (o : Option JudgedValue). MatchOption o (c.pop.new.self ≡ c.groups.ahead) (λ j. j.committee ≡ c.groups.ahead.committee)) c.in-Some.is c.in_ok-judged.ensures.by) (subst (λ (o : Option JudgedValue). MatchOption o (c.groups.ahead.groups ≡ []) (λ j. c.groups.ahead.groups ≡ j.frames ∷ c.pop.new.self.groups)) c.in-Some.is c.in_ok-judged.ensures.popped);
}

pub groups-preserved : goal.groups-preserved
groups-preserved g c =
    let by = (subst (λ (o : Option JudgedValue). MatchOption o (c.pop.new.self ≡ c.groups.ahead) (λ j. j.committee ≡ c.groups.ahead.committee)) c.in-Some.is c.in_ok-judged.ensures.by) in
    let popped = (subst (λ (o : Option JudgedValue). MatchOption o (c.groups.ahead.groups ≡ []) (λ j. c.groups.ahead.groups ≡ j.frames ∷ c.pop.new.self.groups)) c.in-Some.is c.in_ok-judged.ensures.popped) in
    let w = c.groups.invariant.come in
    let m = took_first w.0 w.1 c.groups.self c.take_judged.new.opened c.groups.ahead c.pop.new.self (c.groups.ahead.groups ≡ []) w.2 c.groups.invariant.opened (Some c.in-Some.judged) c.pop.ensures.committee by popped c.in_ok-take_judged-in-Some.ensures.takes in
    record {
      come = (w.0, m.0.0, m.0.1);
      opened = m.1;
      takes = λ bytes taken h.
          let w = c.groups.invariant.takes bytes taken h in
          (took_first bytes w.0 c.groups.self c.take_judged.new.opened c.groups.ahead c.pop.new.self (c.groups.ahead.groups ≡ []) w.1 c.groups.invariant.opened (Some c.in-Some.judged) c.pop.ensures.committee by popped c.in_ok-take_judged-in-Some.ensures.takes).0;
      stays = stays_then c.args.self.now.opened.book c.groups.self.opened.book c.take_judged.new.opened.book c.groups.invariant.stays c.in_ok-take_judged-in-Some.ensures.stays;
    }

pub returns-in-None-clause-takes : goal.returns-in-None-clause-takes
returns-in-None-clause-takes g c = λ bytes taken h.
    let w = c.groups.invariant.takes bytes taken h in
    (w.0, subst (λ (fs : List Frame). HasGathered bytes w.0 fs c.groups.self) (none_ahead c.groups.ahead (subst (λ (o : Option JudgedValue). MatchOption o (c.groups.ahead.groups ≡ []) (λ j. c.groups.ahead.groups ≡ j.frames ∷ c.pop.new.self.groups)) c.in-None.is c.in_ok-judged.ensures.popped)) w.1)
