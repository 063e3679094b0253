-- The words of slots.
use Rattle.std.specs.Prelude.{List, Some}
use Rattle.std.specs.List.{flat_map}
use Rattle.bk_conflicts.specs.Words.{words_in}
use Rattle.bk_conflicts.specs.declared.words.WordRef.{WordRef}
use Rattle.bk_conflicts.specs.declared.words.Access.{Access}

-- two words each
abbrev pub words_of_slots : List Access → List WordRef
words_of_slots xs = flat_map (λ (x : Access). words_in x.writable (Some x.slot)) xs
