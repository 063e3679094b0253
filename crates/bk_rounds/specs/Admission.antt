-- What is held, and what of it is admitted.
use Rattle.std.specs.Prelude.{◌≡◌, ℕ, zero, suc, ◌+◌, ◌<◌, ◌≤◌, List, [], Contains}
use Rattle.std.specs.List.Sorted.{IsStrictlySortedBy}
use Rattle.std.specs.Ordering.{nat_cmp}
use Rattle.std.specs.Cmp.Lexicographic.{slice_cmp}
use Rattle.bk_committee.specs.Sizes.{Sizes, members, quorum, Weigh}
use Rattle.bk_cert.specs.Node.{Node}
use Rattle.bk_cert.specs.Place.{place_of}
use Rattle.bk_cert.specs.declared.place.CertRef.{CertRef}

-- Admitted in this round: held, of this round and, past round 1, each parent's id is that of a
-- certificate admitted in the round before, and the authors of these weigh a quorum.
unfoldable pub IsAdmittedIn : Sizes → List Node → ℕ → Node → Type 0
IsAdmittedIn z held zero c = ⊥
IsAdmittedIn z held (suc r) c =
    Contains held c × (c.header.round ≡ r + 1)
    × (0 < r → (p : List ℕ) → Contains c.header.parents p → (d : Node) × IsAdmittedIn z held r d × (d.id ≡ p))
    × (0 < r → Weigh z (λ x. (d : Node) × IsAdmittedIn z held r d × (d.header.author ≡ x) × Contains c.header.parents d.id) (quorum z))

-- admitted in its own round
abbrev pub IsAdmitted : Sizes → List Node → Node → Type 0
IsAdmitted z held c = IsAdmittedIn z held c.header.round c

-- held, and not admitted
pub record IsWaiting (z : Sizes) (held : List Node) (c : Node) : Type 0 where
  pub is_held : Contains held c
  pub not_admitted : IsAdmitted z held c → ⊥

-- a waiting certificate has this place
abbrev pub WaitsAt : Sizes → List Node → CertRef → Type 0
WaitsAt z held a = (c : Node) × IsWaiting z held c × (place_of c ≡ a)

-- the admitted certificate of this place
pub record StandsAt (z : Sizes) (held : List Node) (a : CertRef) (c : Node) : Type 0 where
  pub admitted : IsAdmitted z held c
  pub place : place_of c ≡ a

-- an admitted certificate has this place
abbrev pub IsPresent : Sizes → List Node → CertRef → Type 0
IsPresent z held a = (c : Node) × StandsAt z held a c

-- the last round that a certificate may be of
abbrev pub last_round : ℕ
last_round = 1000000

-- What the table needs to know of a certificate, which the local rules say: its author is a member, its round is 1 to 1,000,000,
-- its parents ascend, and in round 1 it has none.
pub record IsFit (z : Sizes) (c : Node) : Type 0 where
  pub member : c.header.author < members z
  pub from_one : 1 ≤ c.header.round
  pub to_last : c.header.round ≤ last_round
  pub ascending : IsStrictlySortedBy (slice_cmp nat_cmp) c.header.parents
  pub first : c.header.round ≡ 1 → c.header.parents ≡ []

-- each held certificate is fit
abbrev pub AreFit : Sizes → List Node → Type 0
AreFit z held = (c : Node) → Contains held c → IsFit z c
