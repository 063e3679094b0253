use Rattle.std.proofs.Common.{drop}
use Rattle.bk_cli.specs.CommandLine.{IsOneOf, all_words}
use Rattle.bk_cli.proofs.verb.Verb.of.Given as goal

abbrev pub invariant-loop-verb : goal.invariant-loop-verb
invariant-loop-verb l = IsOneOf (drop l.verb-index all_words) l.word
