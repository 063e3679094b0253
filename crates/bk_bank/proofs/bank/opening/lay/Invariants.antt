use Rattle.std.proofs.Common.{◌≡◌, ◌+◌, ◌*◌, ◌<◌, length, vec_len, vec_capacity}
use Rattle.bk_bank.specs.private.Laying.{Laid}
use Rattle.bk_bank.proofs.bank.opening.lay.Given as goal

abbrev pub invariant-loop-place : goal.invariant-loop-place
invariant-loop-place l = record {
  laid : Laid l.plan l.state l.words.items l.place;
  len : vec_len l.words ≡ vec_len l.initial.words + 2 * l.place;
  room : vec_len l.initial.words + 2 * length l.plan.txs < vec_capacity l.words;
}
