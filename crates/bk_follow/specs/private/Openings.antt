-- What the first two frames of a feed open.
use Rattle.std.specs.Prelude.{◌≡◌, ℕ, List, [], ◌∷◌, ◌++◌, Option, Some, None, IsTrue}
use Rattle.bk_base.specs.declared.version.Version.{Version}
use Rattle.bk_base.specs.Committee.{is_committee}
use Rattle.bk_base.specs.Feed.{Frame, feed_of}
use Rattle.bk_base.specs.Genesis.{is_genesis}
use Rattle.bk_committee.specs.Payload.{CommitteeValue, committee_of}
use Rattle.bk_follow.specs.Follower.{BookValue, IsBookOf, FollowsBy, StaysSettled}

-- the payload is that of the first frame, and the others are left
abbrev pub IsFirstOf : List ℕ → List Frame → List Frame → Type 0
IsFirstOf payload old new = (f : Frame) × (old ≡ f ∷ new) × (f.payload ≡ payload)

-- the first of these frames, if there is one, holds a committee
abbrev pub HeadIsCommittee : Version → List Frame → Type 0
HeadIsCommittee version [] = Unit {0}
HeadIsCommittee version (f ∷ more) = IsTrue (is_committee version f.payload)

-- the first of these frames, if there is one, holds opening accounts
abbrev pub HeadIsGenesis : List Frame → Type 0
HeadIsGenesis [] = Unit {0}
HeadIsGenesis (f ∷ more) = IsTrue (is_genesis f.payload)

-- the committee is read of the first frame, where there is none yet
abbrev pub OpensFirst : Version → Option CommitteeValue → List Frame → Option CommitteeValue → List Frame
    → Type 0
OpensFirst version (Some k) old committee new = (committee ≡ Some k) × (new ≡ old)
OpensFirst version None [] committee new = (committee ≡ None) × (new ≡ [])
OpensFirst version None (f ∷ more) committee new =
    (committee ≡ Some (committee_of version f.payload)) × (new ≡ more)

-- the book is that of a first frame with this committee and of this second one
abbrev pub IsOpening : CommitteeValue → Frame → BookValue → Type 0
IsOpening k second b =
    ((version : Version) (first : Frame) → k ≡ committee_of version first.payload
    → IsBookOf (feed_of version (first ∷ second ∷ [])) b)
    × StaysSettled None (Some b)

-- the book is opened with the second frame, where the committee of the first is there
abbrev pub OpensSecond : Option CommitteeValue → List Frame → Option CommitteeValue → Option BookValue
    → List Frame → Type 0
OpensSecond None old committee book new = (committee ≡ None) × (book ≡ None) × (new ≡ old)
OpensSecond (Some k) [] committee book new = (committee ≡ Some k) × (book ≡ None) × (new ≡ [])
OpensSecond (Some k) (g ∷ more) committee book new =
    (b : BookValue) × (book ≡ Some b) × IsOpening k g b × (new ≡ more)

-- of all frames these are left, the others are followed, and where there is no book yet none is left
pub record IsOpened (version : Version) (all : List Frame) (committee : Option CommitteeValue)
    (book : Option BookValue) (left : List Frame) : Type 0 where
  pub front : List Frame
  pub parts : all ≡ front ++ left
  pub follows : FollowsBy version front committee book
  pub whole : book ≡ None → left ≡ []
