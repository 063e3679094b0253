use Rattle.std.proofs.Common.{◌≡◌, IfSome, take}
use Rattle.std.specs.List.{fold}
use Rattle.clap.specs.Words.{App}
use Rattle.bk_cli.specs.Commands.{with_part}
use Rattle.bk_cli.proofs.commands.with_parts.Given as goal

abbrev pub invariant-loop-part : goal.invariant-loop-part
invariant-loop-part l = (a : App) → IfSome l.fn.line (λ c. c ≡ a) → IfSome l.line (λ c. c ≡ fold with_part a (take l.part-index l.parts))
