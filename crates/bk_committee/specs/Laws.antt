-- What the definitions of a committee say together.
use Rattle.std.specs.Prelude.{◌≡◌, ℕ, ◌+◌, ◌*◌, ◌%◌, ◌<◌, ◌≤◌, ◌↔◌, List, Some, None, IsTrue}
use Rattle.std.specs.List.{AllByRecursion}
use Rattle.bk_base.specs.Numbers.{IsBytes}
use Rattle.bk_base.specs.Committee.{is_committee}
use Rattle.bk_base.specs.declared.version.Version.{Version}
use Rattle.bk_committee.specs.Payload.{CommitteeValue, IsCommittee, committee_bytes, committee_of, bad_of}
use Rattle.bk_committee.specs.Sizes.{Sizes, members, total, faulty, quorum, leader, leader_of}

-- a payload that is a committee is the encoding of the one that it is read as
abbrev pub CommitteeIsEncoded : Type 0
CommitteeIsEncoded = (version : Version) (payload : List ℕ) → IsBytes payload → IsTrue (is_committee version payload)
    → IsCommittee (committee_of version payload) × (payload ≡ committee_bytes (committee_of version payload))

-- the encoding of a committee is a payload that is read as it
abbrev pub CommitteeIsRead : Type 0
CommitteeIsRead = (c : CommitteeValue) → IsCommittee c
    → IsTrue (is_committee c.version (committee_bytes c)) × (committee_of c.version (committee_bytes c) ≡ c)

-- nothing is wrong with exactly the payloads that are committees
abbrev pub GoodIsCommittee : Type 0
GoodIsCommittee = (version : Version) (payload : List ℕ) → (bad_of version payload ≡ None) ↔ IsTrue (is_committee version payload)

-- where each member weighs 1, all together weigh as much as there are members
abbrev pub HeadsAreWeights : Type 0
HeadsAreWeights = (z : Sizes) → AllByRecursion (λ w. w ≡ 1) z.weights → total z ≡ members z

-- the faulty weight is the most that three times as much is still less than all
abbrev pub FaultyIsFloor : Type 0
FaultyIsFloor = (z : Sizes) → 1 ≤ total z → (3 * faulty z + 1 ≤ total z) × (total z ≤ 3 * faulty z + 3)

-- a quorum and the faulty weight are together all
abbrev pub QuorumAndFaultyAreAll : Type 0
QuorumAndFaultyAreAll = (z : Sizes) → quorum z + faulty z ≡ total z

-- a quorum and 1 more than the faulty weight are together more than all
abbrev pub QuorumMeetsFaulty : Type 0
QuorumMeetsFaulty = (z : Sizes) → total z < quorum z + (faulty z + 1)

-- two quorums are together more than all and the faulty weight
abbrev pub QuorumsMeet : Type 0
QuorumsMeet = (z : Sizes) → 1 ≤ total z → total z + faulty z < quorum z + quorum z

-- a leader is a member
abbrev pub LeadersAreMembers : Type 0
LeadersAreMembers = (z : Sizes) (round : ℕ) → 1 ≤ members z → leader z round < members z

-- the odd rounds 1, 3, 5 and so on are led by members 0, 1, 2 and so on, and after the last by the first again
abbrev pub OddRoundsInTurn : Type 0
OddRoundsInTurn = (z : Sizes) (k : ℕ) → leader_of z (2 * k + 1) ≡ Some (k % members z)

-- nobody leads an even round
abbrev pub EvenRoundsUnled : Type 0
EvenRoundsUnled = (z : Sizes) (k : ℕ) → leader_of z (2 * k) ≡ None
