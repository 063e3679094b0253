-- What the definitions of committed anchors say together.
use Rattle.std.specs.Prelude.{◌≡◌, ◌+◌, ◌≤◌, List, Contains}
use Rattle.bk_committee.specs.Sizes.{Sizes}
use Rattle.bk_cert.specs.Node.{Node}
use Rattle.bk_cert.specs.Clear.{IsClear}
use Rattle.bk_cert.specs.declared.place.CertRef.{CertRef}
use Rattle.bk_rounds.specs.Admission.{IsPresent}
use Rattle.bk_rounds.specs.Votes.{IsVoted}
use Rattle.bk_commit.specs.Ordering.{InHistory, IsWayBack, IsCommitted}
use Rattle.bk_commit.specs.Growth.{IsPartOf, IsPrefix}

-- an anchor whose voters weigh more than the faulty is in the history of whatever is admitted
-- two rounds later or more
abbrev pub VotedIsReached : Type 0
VotedIsReached = (z : Sizes) (held : List Node) (a c : CertRef) → IsVoted z held a
    → IsPresent z held c → a.round + 2 ≤ c.round → InHistory z held c a

-- where the one held set is part of the other, its committed anchors begin the other's
abbrev pub AnchorsGrow : Type 0
AnchorsGrow = (z : Sizes) (small large : List Node) (xs ys : List CertRef) → IsClear large
    → IsPartOf small large → IsCommitted z small xs → IsCommitted z large ys → IsPrefix xs ys

-- an anchor has one way back
abbrev pub OneWayBack : Type 0
OneWayBack = (z : Sizes) (held : List Node) (a : CertRef) (ps qs : List CertRef)
    → IsWayBack z held a ps → IsWayBack z held a qs → ps ≡ qs

-- the committed anchors are one list, whatever order the certificates came in
abbrev pub OneListOfAnchors : Type 0
OneListOfAnchors = (z : Sizes) (one other : List Node) (xs ys : List CertRef) → IsClear one
    → IsClear other
    → IsPartOf one other → IsPartOf other one → IsCommitted z one xs → IsCommitted z other ys
    → xs ≡ ys

-- a committed anchor is an admitted certificate
abbrev pub CommittedIsPresent : Type 0
CommittedIsPresent = (z : Sizes) (held : List Node) (xs : List CertRef) → IsCommitted z held xs
    → (a : CertRef) → Contains xs a → IsPresent z held a
