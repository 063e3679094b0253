use Rattle.std.proofs.Common.{◌≡◌, ◌↔◌, ◌-◌, ◌+◌, ◌<◌, ℕ, subst, arith}
use Rattle.std.proofs.lemmas.Bool.{both_ways}
use Rattle.bk_rounds.specs.Members.{Has}
use Rattle.bk_committee.specs.Sizes.{leader}
use Rattle.bk_cert.specs.declared.place.CertRef.{CertRef}
use Rattle.bk_commit.proofs.Levels.{level_first}
use Rattle.bk_commit.proofs.Back.{way_starts, way_passes, way_meets}
use Rattle.bk_commit.proofs.Onward.{way_halts}
use Rattle.bk_commit.proofs.committing.way_back.Goals as goal

pub loop-round-init : goal.loop-round-init
loop-round-init c = (
  rw c.new-back.ensures.items (way_starts c.args.rounds.now.sizes c.args.rounds.now.held c.args.last c.first_level-level.result c.requires.anchor.present
      (level_first c.args.rounds.now.sizes c.args.rounds.now.held c.args.last c.first_level-level.result c.first_level-level.ensures)),
  c.requires.above,
)

pub loop-round-preserved-then-has_leader : goal.loop-round-preserved-then-has_leader
loop-round-preserved-then-has_leader c =
    let z = c.args.rounds.now.sizes in
    let held = c.args.rounds.now.held in
    let round : ℕ = c.loop-round.round in
    let test : c.args.floor + 1 < round = c.loop-round-test.true in
    let next = c.next_level-level.result in
    let p : CertRef = record { round = round - 1; author = leader z (round - 1) } in
    let marked = c.has_leader.ensures.0 c.if-has_leader.true in
    let first = c.first_level-level-then-has_leader.result in (
      rw (c.in_ok-push.ensures.items, c.leader.ensures.is) (way_meets z held c.args.last c.loop-round.back.items round c.loop-round.level next first
          (omega arith) c.loop-round.invariant.0 c.next_level-level.ensures marked.0 marked.1
          (λ present. level_first z held p first (subst (λ (a : ℕ). (x : ℕ) → Has first x ↔ (x ≡ a)) c.leader.ensures.is c.first_level-level-then-has_leader.ensures))),
      omega arith,
    )

pub loop-round-preserved : goal.loop-round-preserved
loop-round-preserved c =
    let round : ℕ = c.loop-round.round in
    let test : c.args.floor + 1 < round = c.loop-round-test.true in (
      way_passes c.args.rounds.now.sizes c.args.rounds.now.held c.args.last c.loop-round.back.items c.loop-round.round c.loop-round.level c.next_level-level.result
          (omega arith) c.loop-round.invariant.0 c.next_level-level.ensures
          (λ h. both_ways _ c.if-has_leader.false (c.has_leader.ensures.1 h)),
      omega arith,
    )

pub returns : goal.returns
returns c = way_halts c.args.rounds.now.sizes c.args.rounds.now.held c.args.last c.loop-round.back.items c.loop-round.round c.loop-round.level c.args.floor
    c.requires.anchor c.loop-round.invariant.1 c.loop-round-test.false c.loop-round.invariant.0
