-- Each argument is added to those before it.
use Rattle.std.proofs.Common.{◌≡◌, IfSome, sym, subst, List}
use Rattle.std.proofs.lemmas.List.{take_all}
use Rattle.std.proofs.lemmas.List.Sums.{fold_more}
use Rattle.std.specs.List.{fold}
use Rattle.clap.specs.Words.{App}
use Rattle.bk_cli.specs.Commands.{with_part}
use Rattle.bk_cli.specs.declared.parts.Part.{Part}
use Rattle.bk_cli.proofs.commands.with_parts.Goals as goal

pub loop-part-preserved : goal.loop-part-preserved
loop-part-preserved c = λ a h. subst (λ (b : App). IfSome c.arg-line.result (λ it. it ≡ b))
    (sym (fold_more with_part a c.args.parts.now c.loop-part.part-index _ c.loop-part-test.true))
    (c.arg-line.ensures _ _ (c.loop-part.invariant a h) c.arg.ensures)

pub returns : goal.returns
returns c = λ a h. subst (λ (ps : List Part). IfSome c.loop-part.line (λ it. it ≡ fold with_part a ps))
    (take_all c.loop-part.part-index c.args.parts.now c.loop-part-test.false) (c.loop-part.invariant a h)
