use Rattle.std.proofs.Common.{sym, ◌∙◌}
use Rattle.bk_cli.proofs.WordLemmas.{next_word, no_word}
use Rattle.bk_cli.proofs.verb.Verb.of.Goals as goal

pub loop-verb-preserved : goal.loop-verb-preserved
loop-verb-preserved c = next_word c.args.word.now c.word.result.now c.loop-verb.verb-index _ c.loop-verb-test.true c.word.ensures (sym c.eq.ensures ∙ c.if-eq.false) c.loop-verb.invariant

pub unreachable-requires : goal.unreachable-requires
unreachable-requires c = no_word c.args.word.now c.loop-verb.verb-index c.loop-verb-test.false c.loop-verb.invariant
