-- An option goes on, and another word ends them.
use Rattle.std.proofs.Common.{◌∙◌, sym, ap, arith}
use Rattle.bk_cli.specs.Words.{is_common}
use Rattle.bk_cli.proofs.LeadLemmas.{ends_here, goes_on}
use Rattle.bk_cli.proofs.words.lead_of.Goals as goal

pub returns-then-not-is_common-clause-lead : goal.returns-then-not-is_common-clause-lead
returns-then-not-is_common-clause-lead g c =
    omega (
      arith,
      c.loop-at.invariant,
      ends_here g.S.AsStr.text c.args.words.now c.loop-at.at c.index-words-at.result c.index-words-at.is c.loop-at-test.true
          (ap is_common (sym c.as_str.ensures) ∙ sym c.if-not-is_common.ensures),
    )

pub loop-at-preserved : goal.loop-at-preserved
loop-at-preserved g c =
    omega (
      arith,
      c.loop-at.invariant,
      goes_on g.S.AsStr.text c.args.words.now c.loop-at.at c.index-words-at.result c.index-words-at.is c.loop-at-test.true
          (ap is_common (sym c.as_str.ensures) ∙ sym c.if-not-is_common.ensures),
    )
