-- The certificates that are held, each a header under its id.
use Rattle.std.specs.Prelude.{◌≡◌, ◌≢◌, ℕ, List, [], ◌∷◌, ◌++◌, Option, Contains}
use Rattle.std.specs.List.{find}
use Rattle.std.specs.Str.{bytes_eq}
use Rattle.bk_cert.specs.Node.{Node}
use Rattle.bk_cert.specs.Place.{place_of}
use Rattle.bk_evidence.specs.Collisions.{IsAtMost, CollidesBy, IsCollisionBy, NoCollisionBy}
use Rattle.bk_evidence.specs.Twins.{IsIdAt}
use Rattle.bk_evidence.specs.declared.offer.Offer.{Offer}
use Rattle.bk_evidence.specs.declared.offer.Offer.TheVariants as offer

-- one id has two headers
abbrev pub Collides : List Node → List ℕ → Type 0
Collides held id = CollidesBy (λ (c : Node). c.id) held id

-- the least id that has two headers
abbrev pub IsCollision : List Node → List ℕ → Type 0
IsCollision held id = IsCollisionBy (λ (c : Node). c.id) held id

-- one id is of one header
abbrev pub NoCollision : List Node → Type 0
NoCollision held = NoCollisionBy (λ (c : Node). c.id) held

-- no certificate with this id is held
abbrev pub IsNewId : List Node → List ℕ → Type 0
IsNewId held id = (d : Node) → Contains held d → d.id ≢ id

-- the certificate that is held under an id: the one that was stored first
abbrev pub cert_with : List Node → List ℕ → Option Node
cert_with held id = find (λ (c : Node). bytes_eq c.id id) held

-- what an offer of a certificate answers where these are held
abbrev pub IsOffer : List Node → Node → Offer → Type 0
IsOffer held c offer.New =
    IsNewId held c.id × ((id : List ℕ) → IsIdAt held (place_of c) id → ⊥)
IsOffer held c offer.Repeat = Contains held c
IsOffer held c (offer.Twin least) =
    IsNewId held c.id × IsIdAt held (place_of c) least
    × ((id : List ℕ) → IsIdAt held (place_of c) id → IsAtMost least id)
IsOffer held c offer.Collision =
    (Contains held c → ⊥) × ((d : Node) × Contains held d × (d.id ≡ c.id))

-- what is held after an offer: a repeat changes nothing
abbrev pub held_after : List Node → Node → Offer → List Node
held_after held c offer.New = held ++ c ∷ []
held_after held c offer.Repeat = held
held_after held c (offer.Twin least) = held ++ c ∷ []
held_after held c offer.Collision = held ++ c ∷ []
