-- The options that were passed, and those that come.
use Rattle.std.proofs.Common.{◌≡◌, ◌+◌, map}
use Rattle.std.specs.Prelude.{drop}
use Rattle.bk_cli.specs.Words.{lead}
use Rattle.bk_cli.proofs.words.lead_of.Given as goal

abbrev pub invariant-loop-at : goal.invariant-loop-at
invariant-loop-at g l = lead (map g.S.AsStr.text l.words) ≡ l.at + lead (drop l.at (map g.S.AsStr.text l.words))
