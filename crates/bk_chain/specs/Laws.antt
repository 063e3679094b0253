-- What holds of all texts of links.
use Rattle.std.specs.Prelude.{◌≡◌, ℕ, List, Result, Ok, Err}
use Rattle.bk_chain.specs.declared.verdict.Verdict.{Verdict}
use Rattle.bk_chain.specs.Chain.{HasLinksFault, HasVerdict}

-- a text comes to a verdict on its links, or to a fault in this line
abbrev pub ComesTo : List ℕ → Result Verdict ℕ → Type 0
ComesTo text (Ok v) = HasVerdict text v
ComesTo text (Err line) = HasLinksFault text line

-- every text comes to exactly one of a fault, a good chain and a broken one, with one line, one sum and one reason
abbrev pub OneResult : Type 0
OneResult = (text : List ℕ) → (r : Result Verdict ℕ) × ComesTo text r
    × ((other : Result Verdict ℕ) → ComesTo text other → other ≡ r)
