use Rattle.std.proofs.Common.{◌↔◌, ℕ, take}
use Rattle.bk_rounds.specs.Members.{Has}
use Rattle.bk_rounds.specs.private.Tied.{IsAuthorIn}
use Rattle.bk_rounds.proofs.admitting.authors_of.Given as goal

abbrev pub invariant-loop-p : goal.invariant-loop-p
invariant-loop-p l = (x : ℕ) → Has l.set x ↔ IsAuthorIn l.slots (take l.p-index l.numbers) x
