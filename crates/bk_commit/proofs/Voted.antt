-- An anchor whose voters weigh f + 1 is in the history of whatever is admitted two rounds later or more.
use Rattle.std.proofs.Common.{◌≡◌, ℕ, zero, suc, ◌+◌, ◌-◌, ◌/◌, ◌<◌, ◌≤◌, List, refl, sym, ap, ◌∙◌, subst, arith}
use Rattle.bk_cert.specs.declared.place.CertRef.{CertRef}
use Rattle.bk_committee.specs.Sizes.{Sizes, Weigh, faulty, quorum}
use Rattle.bk_cert.specs.Node.{Node}
use Rattle.bk_cert.specs.Place.{place_of}
use Rattle.bk_rounds.specs.Admission.{IsAdmitted, IsPresent}
use Rattle.bk_rounds.specs.Links.{Links}
use Rattle.bk_rounds.specs.Votes.{VotesFor}
use Rattle.bk_commit.specs.Ordering.{InHistory}
use Rattle.bk_cert.proofs.Refs.{same_place}
use Rattle.bk_rounds.proofs.Admitted.{admitted_round, admitted_here, IsParent, parents_weigh}
use Rattle.bk_rounds.proofs.Counting.{shared}
use Rattle.bk_rounds.proofs.Grown.{link_to}

heavier : (n : ℕ) → n < (n - 1) / 3 + 1 + (n - (n - 1) / 3)
heavier n = omega arith

-- whoever is admitted has a parent by a member that votes
parent_votes : (z : Sizes) (held : List Node) (a : CertRef) (r : ℕ) (child : Node) → Weigh z (VotesFor z held a) (faulty z + 1) → 0 < r → child.header.round ≡ r + 1
    → IsAdmitted z held child → (x : ℕ) × VotesFor z held a x × IsParent z held r child x
parent_votes z held a r child votes low e h =
    shared z (VotesFor z held a) (IsParent z held r child) (faulty z + 1) (quorum z) votes (parents_weigh z held r child low e h) (heavier _)

-- an anchor that is voted is in the history of what is admitted k rounds after those two
later : (z : Sizes) (held : List Node) (a : CertRef) → Weigh z (VotesFor z held a) (faulty z + 1)
    → (k : ℕ) (c : CertRef) → IsPresent z held c → c.round ≡ a.round + 2 + k → InHistory z held c a
later z held a votes zero c (child, at) e =
    let r : ℕ = a.round + 1 in
    let round_is : child.header.round ≡ r + 1 = ap (λ (p : CertRef). p.round) at.place ∙ (e ∙ omega arith) in
    let (x, vote, (d, h, author, names)) = parent_votes z held a r child votes (omega arith) round_is at.admitted in
    let there : place_of d ≡ record { round = r; author = x } = same_place _ _ (admitted_round z held r d h) author in
    (2, (place_of d, link_to z held c child at r d h names (omega arith), (a, subst (λ (p : CertRef). Links z held p a) (sym there) vote, refl)))
later z held a votes (suc k) c (child, at) e =
    let r : ℕ = a.round + 2 + k in
    let e' : c.round ≡ r + 1 = omega arith in
    let round_is : child.header.round ≡ r + 1 = ap (λ (p : CertRef). p.round) at.place ∙ e' in
    let (x, vote, (d, h, author, names)) = parent_votes z held a r child votes (omega arith) round_is at.admitted in
    let below = later z held a votes k (place_of d)
    (d, record { admitted = admitted_here z held r d h; place = refl }) (admitted_round z held r d h) in
    (suc below.0, (place_of d, link_to z held c child at r d h names e', below.1))

-- An anchor whose voters weigh f + 1 is in the history of each certificate admitted two rounds later or more.
pub voted_in_history : (z : Sizes) (held : List Node) (a c : CertRef) → Weigh z (VotesFor z held a) (faulty z + 1)
    → IsPresent z held c → a.round + 2 ≤ c.round → InHistory z held c a
voted_in_history z held a c votes present far =
    later z held a votes (c.round - (a.round + 2)) c present (omega arith)
