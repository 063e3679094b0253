use Rattle.std.proofs.Common.{subst}
use Rattle.bk_picture.specs.private.Last.{IsLatest}
use Rattle.bk_picture.proofs.LastRounds.{last_of_both}
use Rattle.bk_picture.proofs.last.last_of.Goals as goal

pub returns : goal.returns
returns c =
    last_of_both c.args.rounds.now.sizes c.args.rounds.now.held c.in_ok-waiting.waiting.items c.top.result
    c.latest_of.result c.later-last.result c.later-last.ensures
    c.top.ensures.highest c.in_ok-waiting.ensures
    (subst (λ places. IsLatest places c.latest_of.result) c.deref.ensures.value c.latest_of.ensures)
    c.top.ensures.reached
