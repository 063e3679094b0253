-- The votes that are added up.
use Rattle.std.specs.Prelude.{◌≡◌, ◌≢◌, ◌==◌, ℕ, ◌+◌, ◌-◌, ◌*◌, ◌/◌, ◌%◌, ◌^◌, ◌<◌, ◌≤◌, ◌⊎◌, List, Contains, length, slice_index_or, if◌then◌else◌}
use Rattle.bk_committee.specs.Sizes.{Sizes, faulty, weight}
use Rattle.bk_cert.specs.Node.{Node}
use Rattle.bk_cert.specs.declared.place.CertRef.{CertRef}
use Rattle.bk_rounds.specs.Votes.{VotesIn, WeighExactly}
use Rattle.bk_rounds.specs.declared.votes.Votes.{Votes}

-- what is kept as the weight of a round's votes; an even round has none
abbrev pub kept_at : Votes → ℕ → ℕ
kept_at v round = if round % 2 == 1 then slice_index_or v.weights.items (round / 2) 0 else 0

-- the votes of a round have an entry
abbrev pub HasEntry : Votes → ℕ → Type 0
HasEntry v round = round / 2 < length v.weights.items

-- There is an entry for each two held certificates. With an admitted one there is one in each round
-- before, so its round is no greater than their number, and it has an entry to vote in.
abbrev pub HaveEntries : List Node → Votes → Type 0
HaveEntries held v = length held ≤ 2 * length v.weights.items + 1

-- the weight of each round's votes is kept, without those of the certificates that are left
abbrev pub IsTally : Sizes → List Node → List CertRef → Votes → Type 0
IsTally z held left v = (round : ℕ) → WeighExactly z
    (λ x. VotesIn z held round x × (Contains left (record { round = round + 1; author = x }) → ⊥))
    (kept_at v round)

-- the votes of a round have an entry, and this weight can be added
pub record CanRaise (v : Votes) (round weight : ℕ) : Type 0 where
  pub odd : round % 2 ≡ 1
  pub entry : HasEntry v round
  pub small : kept_at v round + weight < 2 ^ 64

-- this weight is added there, and nowhere else
pub record IsRaised (round weight : ℕ) (old new : Votes) : Type 0 where
  pub here : kept_at new round ≡ kept_at old round + weight
  pub other : (r : ℕ) → r ≢ round → kept_at new r ≡ kept_at old r
  pub stay : length new.weights.items ≡ length old.weights.items

-- the vote of the certificate at a place is added, where it is one, and no other
pub record IsCast (z : Sizes) (held : List Node) (place : CertRef) (old new : Votes) : Type 0 where
  pub here : (VotesIn z held (place.round - 1) place.author
      × (kept_at new (place.round - 1) ≡ kept_at old (place.round - 1) + weight z place.author))
      ⊎ ((VotesIn z held (place.round - 1) place.author → ⊥)
      × (kept_at new (place.round - 1) ≡ kept_at old (place.round - 1)))
  pub other : (r : ℕ) → r ≢ place.round - 1 → kept_at new r ≡ kept_at old r

-- the greatest round whose votes weigh more than the bound; 0 where there is none
pub record IsNewest (bound : ℕ) (v : Votes) : Type 0 where
  pub above : (round : ℕ) → bound < kept_at v round → round ≤ v.newest
  pub is : 0 < v.newest → bound < kept_at v v.newest

-- the newest of the rounds so far is known, and each that may be voted has an entry
pub record AreKept (z : Sizes) (held : List Node) (v : Votes) : Type 0 where
  pub newest : IsNewest (faulty z) v
  pub entries : HaveEntries held v

-- the votes of what is held are added up
pub record AreCounted (z : Sizes) (held : List Node) (v : Votes) : Type 0 where
  pub tally : (round : ℕ) → WeighExactly z (VotesIn z held round) (kept_at v round)
  pub newest : IsNewest (faulty z) v
  pub entries : HaveEntries held v
