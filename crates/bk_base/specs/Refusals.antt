-- The numbers of refused events.
use Rattle.std.specs.Prelude.{ℕ}
use Rattle.bk_base.specs.declared.refused.Refused.{Refused}
use Rattle.bk_base.specs.declared.refused.Refused.TheVariants.{NotReady, NotIdle, NotHolder, NotDeclared, OutOfTurn}

-- the number of a refusal
abbrev pub code_of : Refused → ℕ
code_of NotReady = 1
code_of NotIdle = 2
code_of NotHolder = 3
code_of NotDeclared = 4
code_of OutOfTurn = 5
