-- Steps of judging a line. The first that finds a fault decides.
use Rattle.std.specs.Prelude.{Result, Ok, Err}
use Rattle.bk_results.specs.declared.script_fault.ScriptCode.{ScriptCode}

-- one step of judging after another: the first that finds a fault decides
infixl 10 ◌>>=◌
abbrev pub ◌>>=◌ : {A B : Type 0} → Result A ScriptCode → (A → Result B ScriptCode) → Result B ScriptCode
Ok x >>= f = f x
Err found >>= f = Err found
