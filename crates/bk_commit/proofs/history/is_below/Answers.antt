use Rattle.std.proofs.Common.{◌≡◌, arith}
use Rattle.std.proofs.lemmas.Bool.{false≢true}
use Rattle.bk_commit.proofs.Levels.{level_first, level_next, reached_round, level_at}
use Rattle.bk_commit.proofs.Last.{present_member}
use Rattle.bk_commit.proofs.history.is_below.Goals as goal

pub returns-then-a-b : goal.returns-then-a-b
returns-then-a-b c = (
  (λ f. absurd (false≢true f)),
  (λ h. let low = reached_round c.args.rounds.now.sizes c.args.rounds.now.held c.args.a c.args.b h in absurd (omega (arith, low, c.if-a-b.true))),
)

pub loop-round-init : goal.loop-round-init
loop-round-init c = record {
  level = level_first c.args.rounds.now.sizes c.args.rounds.now.held c.args.a c.first_level-level.result c.first_level-level.ensures;
  low = omega arith;
  high = omega arith;
}

pub loop-round-preserved : goal.loop-round-preserved
loop-round-preserved c = record {
  level = level_next c.args.rounds.now.sizes c.args.rounds.now.held c.args.a c.loop-round.round c.loop-round.level c.next_level-level.result (omega arith)
      c.loop-round.invariant.high c.loop-round.invariant.level c.next_level-level.ensures;
  low = omega arith;
  high = omega arith;
}

pub returns : goal.returns
returns c = level_at c.args.rounds.now.sizes c.args.rounds.now.held c.args.a c.args.b c.loop-round.level c.loop-round.round c.has.result c.loop-round.invariant.level
    (let e : c.loop-round.round ≡ c.args.b.round = omega arith in e) c.has.ensures

pub first_level-level-requires : goal.first_level-level-requires
first_level-level-requires c = let low = present_member c.args.rounds.now.sizes c.args.rounds.now.held c.args.a c.sound.ensures.good c.requires.from in omega (arith, low, c.members.ensures.is, c.members.ensures.few)

pub has-requires : goal.has-requires
has-requires c = let low = present_member c.args.rounds.now.sizes c.args.rounds.now.held c.args.b c.sound.ensures.good c.requires.to in omega (arith, low, c.members.ensures.is, c.members.ensures.few)
