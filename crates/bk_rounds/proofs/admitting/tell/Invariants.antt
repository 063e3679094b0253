use Rattle.std.proofs.Common.{◌≡◌, ◌≤◌, length, map, take, vec_len, vec_capacity}
use Rattle.bk_rounds.specs.private.Tied.{IsTold, place_at}
use Rattle.bk_rounds.proofs.admitting.tell.Given as goal

abbrev pub invariant-loop-k : goal.invariant-loop-k
invariant-loop-k l = record {
  same : length l.sets ≡ length l.slots;
  room : length l.out ≤ vec_capacity l.answer;
  len : vec_len l.answer ≡ l.k-index;
  answer : l.answer.items ≡ map (place_at l.slots) (take l.k-index l.out);
  told : IsTold l.slots l.fn.sets l.sets (take l.k-index l.out) l.fn.top l.highest;
}
