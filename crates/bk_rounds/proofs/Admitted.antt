-- What admission gives.
use Rattle.std.proofs.Common.{◌≡◌, ℕ, zero, suc, ◌+◌, ◌<◌, List, sym, ◌∙◌, subst, add-one}
use Rattle.std.specs.List.{Contains}
use Rattle.bk_committee.specs.Sizes.{Sizes, Weigh, quorum}
use Rattle.bk_cert.specs.Node.{Node}
use Rattle.bk_rounds.specs.Admission.{IsAdmittedIn, IsAdmitted}

pub admitted_held : (z : Sizes) (held : List Node) (r : ℕ) (c : Node) → IsAdmittedIn z held r c → Contains held c
unfolding IsAdmittedIn
admitted_held z held zero c h = absurd h
admitted_held z held (suc r) c h = h.0

pub admitted_round : (z : Sizes) (held : List Node) (r : ℕ) (c : Node) → IsAdmittedIn z held r c → c.header.round ≡ r
unfolding IsAdmittedIn
admitted_round z held zero c h = absurd h
admitted_round z held (suc r) c h = h.1 ∙ add-one r

pub admitted_here : (z : Sizes) (held : List Node) (r : ℕ) (c : Node) → IsAdmittedIn z held r c → IsAdmitted z held c
admitted_here z held r c h = subst (λ m. IsAdmittedIn z held m c) (sym (admitted_round z held r c h)) h

-- an id that an admitted certificate of the round has
abbrev pub IsNamed : Sizes → List Node → ℕ → List ℕ → Type 0
IsNamed z held r p = (d : Node) × IsAdmittedIn z held r d × (d.id ≡ p)

-- the author of an admitted certificate of the round that c names
abbrev pub IsParent : Sizes → List Node → ℕ → Node → ℕ → Type 0
IsParent z held r c x = (d : Node) × IsAdmittedIn z held r d × (d.header.author ≡ x) × Contains c.header.parents d.id

-- past round 1 the parents of an admitted certificate are admitted in the round before
pub parent_named : (z : Sizes) (held : List Node) (r : ℕ) (c : Node) → 0 < r → c.header.round ≡ r + 1 → IsAdmitted z held c
    → (p : List ℕ) → Contains c.header.parents p → IsNamed z held r p
unfolding IsAdmittedIn
parent_named z held r c low e h =
    let there : IsAdmittedIn z held (suc r) c = subst (λ m. IsAdmittedIn z held m c) (e ∙ add-one r) h in
    there.2 low

-- and their authors weigh a quorum
pub parents_weigh : (z : Sizes) (held : List Node) (r : ℕ) (c : Node) → 0 < r → c.header.round ≡ r + 1 → IsAdmitted z held c
    → Weigh z (IsParent z held r c) (quorum z)
unfolding IsAdmittedIn
parents_weigh z held r c low e h =
    let there : IsAdmittedIn z held (suc r) c = subst (λ m. IsAdmittedIn z held m c) (e ∙ add-one r) h in
    there.3 low
