use Rattle.std.proofs.Common.{◌≡◌, map, drop}
use Rattle.bk_script.specs.Words.{each_of, number_of}
use Rattle.bk_script.proofs.Each.{with_front}
use Rattle.bk_script.proofs.words.numbers.Given as goal

abbrev pub invariant-loop-word : goal.invariant-loop-word
invariant-loop-word l = with_front l.numbers.items (each_of number_of (drop l.word-index (map (λ p. p.now) l.words))) ≡ each_of number_of (map (λ p. p.now) l.words)
