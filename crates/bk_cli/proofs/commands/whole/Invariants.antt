use Rattle.std.proofs.Common.{◌≡◌, IfSome, take}
use Rattle.std.specs.List.{fold}
use Rattle.bk_cli.specs.Commands.{program, with_command}
use Rattle.bk_cli.specs.declared.verb.TheConstants.{ALL}
use Rattle.bk_cli.proofs.commands.whole.Given as goal

abbrev pub invariant-loop-verb : goal.invariant-loop-verb
invariant-loop-verb l = IfSome l.line (λ c. c ≡ fold with_command program (take l.verb-index ALL))
