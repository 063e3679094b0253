-- The words so far are at the end of the list.
use Rattle.std.proofs.Common.{◌≡◌, ◌++◌, map}
use Rattle.std.specs.Prelude.{take}
use Rattle.bk_cli.proofs.words.push_words.Given as goal

abbrev pub invariant-loop-word : goal.invariant-loop-word
invariant-loop-word g l = map (λ w. w.now) l.list.items ≡ map (λ w. w.now) l.initial.list.items ++ map g.S.AsStr.text (take l.word-index l.words)
