use Rattle.std.proofs.Common.{◌≡◌, ◌++◌, take}
use Rattle.bk_conflicts.specs.private.Words.{words_of_slots}
use Rattle.bk_conflicts.proofs.words.push_words.Given as goal

abbrev pub invariant-loop-x : goal.invariant-loop-x
invariant-loop-x l = record {
  so_far : l.items.items ≡ l.fn.items.items ++ words_of_slots (take l.x-index l.xs);
}
