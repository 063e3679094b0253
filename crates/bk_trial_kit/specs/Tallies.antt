-- what a comparison does to a tally
use Rattle.std.specs.Prelude.{ℕ, ◌+◌, ◌-◌, ◌^◌, min}
use Rattle.bk_trial_kit.specs.declared.tally.Tally.{Tally}

-- one more, as far as eight bytes count
abbrev pub one_more : ℕ → ℕ
one_more n = min (n + 1) (2 ^ 64 - 1)

-- one comparison more came out right
abbrev pub one_more_passed : Tally → Tally
one_more_passed t = record { passed = one_more t.passed; failed = t.failed }

-- one comparison more did not
abbrev pub one_more_failed : Tally → Tally
one_more_failed t = record { passed = t.passed; failed = one_more t.failed }
