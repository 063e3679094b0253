-- The answer to an offer of a new id.
use Rattle.std.specs.Prelude.{ℕ, List, Option, Some, None}
use Rattle.bk_evidence.specs.declared.offer.Offer.{Offer}
use Rattle.bk_evidence.specs.declared.offer.Offer.TheVariants as offer

-- by the least id that its place had before
abbrev pub offer_of : Option (List ℕ) → Offer
offer_of None = offer.New
offer_of (Some id) = offer.Twin id
