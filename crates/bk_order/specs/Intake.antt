-- What an intake is to its callers.
use Rattle.std.specs.Prelude.{◌≡◌, ℕ, ◌+◌, Bool, List, [], None, length}
use Rattle.bk_base.specs.Feed.{Frame}
use Rattle.bk_committee.specs.Payload.{CommitteeValue}
use Rattle.bk_cert.specs.Node.{Node}
use Rattle.bk_evidence.specs.Batches.{Batch}
use Rattle.bk_order.specs.declared.reject.Reject.{Reject}
use Rattle.bk_order.specs.Frames.{AreCerts, AreBatches, AreRejects}
use Rattle.bk_order.specs.Orders.{IsOrderOf, Ordered, ordered_with}
use Rattle.bk_order.specs.Stops.{HasNoStop}
use Rattle.bk_order.specs.Tally.{IsTallyOf}
use Rattle.bk_order.specs.declared.tally.Tally.{Tally}

-- the number of the first frame that is taken: those of the committee and the genesis are 0 and 1
abbrev pub first_later_frame : ℕ
first_later_frame = 2

-- the number of the next frame, and what is held, rejected and counted of those before
pub record Kept : Type 0 where
  pub next : ℕ
  pub certs : List Node
  pub batches : List Batch
  pub rejected : List Reject
  pub tally : Tally

-- a committee, what is kept, the order as it was settled last, and whether memory ran out in a call
pub record Taken : Type 0 where
  pub committee : CommitteeValue
  pub kept : Kept
  pub ordered : Ordered
  pub failed : Bool

-- this is what is kept of these frames, in whatever pieces they were taken
pub record IsKeptOf (k : CommitteeValue) (frames : List Frame) (kept : Kept) : Type 0 where
  pub next : kept.next ≡ first_later_frame + length frames
  pub certs : AreCerts k frames kept.certs
  pub batches : AreBatches frames kept.batches
  pub rejected : AreRejects k first_later_frame frames kept.rejected
  pub tally : IsTallyOf k frames kept.tally

-- these frames were taken
abbrev pub HasTaken : List Frame → Taken → Type 0
HasTaken frames v = IsKeptOf v.committee frames v.kept

-- the order of the frames of which this is kept, where they have no stop, has this many certificates
abbrev pub HasAsOrder : CommitteeValue → Kept → ℕ → Type 0
HasAsOrder k kept n =
    (frames : List Frame) → IsKeptOf k frames kept → HasNoStop k frames
    → (o : Ordered) × IsOrderOf k frames o × (n ≡ length o.order)

-- nothing is ordered
abbrev pub nothing_ordered : Ordered
nothing_ordered = ordered_with [] [] (record { list = []; missing = None })
