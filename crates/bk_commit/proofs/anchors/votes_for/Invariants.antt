use Rattle.std.proofs.Common.{◌<◌, ◌↔◌, ℕ}
use Rattle.bk_rounds.specs.Votes.{VotesFor}
use Rattle.bk_rounds.specs.Members.{Has}
use Rattle.bk_commit.proofs.anchors.votes_for.Given as goal

abbrev pub invariant-loop-x : goal.invariant-loop-x
invariant-loop-x l = (x : ℕ) → Has l.voters x ↔ ((x < l.x) × VotesFor l.rounds.sizes l.rounds.held l.a x)
