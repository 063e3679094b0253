use Rattle.std.proofs.Common.{◌≡◌, ◌<◌, length, map, take, All}
use Rattle.bk_rounds.specs.private.Numbered.{id_of}
use Rattle.bk_rounds.specs.private.Names.{Grows}
use Rattle.bk_rounds.proofs.names.numbers_of.Given as goal

abbrev pub invariant-loop-id : goal.invariant-loop-id
invariant-loop-id l = record {
  grows : Grows l.fn.names l.names;
  ids : map (id_of l.names.slots) l.numbers.items ≡ take l.id-index l.ids;
  inside : All (λ p. p < length l.names.slots) l.numbers.items;
}
