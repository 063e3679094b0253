use Rattle.std.proofs.Common.{◌≡◌, take, map}
use Rattle.bk_committee.proofs.Weights.{number}
use Rattle.bk_committee.proofs.reading.numbers_of.Given as goal

abbrev pub invariant-loop-four : goal.invariant-loop-four
invariant-loop-four l = l.numbers.items ≡ map number (take l.four-index l.pieces)
