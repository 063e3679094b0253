-- What comparing two books finds.
use Rattle.std.specs.Prelude.{◌≡◌, ◌≢◌, ◌≤◌, ◌⊎◌, ℕ, false, List, ◌++◌, length}
use Rattle.bk_base.specs.Feed.{Frame}
use Rattle.bk_order.specs.Intake.{HasAsOrder, HasTaken}
use Rattle.bk_order.specs.Stops.{HasNoStop, IsStop}
use Rattle.bk_order.specs.declared.stop.Stop.{Stop}
use Rattle.bk_order.specs.declared.stop.Stop.TheVariants as stop
use Rattle.bk_results.specs.declared.differ.Agreed.{Agreed}
use Rattle.bk_results.specs.declared.differ.SetupPart.{SetupPart}
use Rattle.bk_results.specs.declared.differ.SetupPart.TheVariants as part
use Rattle.bk_results.specs.declared.differ.Differ.{Differ}
use Rattle.bk_results.specs.declared.differ.Differ.TheVariants as differ
use Rattle.bk_follow.specs.Follower.{BookValue, receipts_of_executed}

-- the difference that a stop is
abbrev pub differ_of : Stop → Differ
differ_of (stop.Collision id) = differ.Collision id
differ_of (stop.Twins e) = differ.Twins e.round e.author e.first e.second

-- the lesser of two numbers
abbrev pub IsLesser : ℕ → ℕ → ℕ → Type 0
IsLesser n a b = ((n ≡ a) × (a ≤ b)) ⊎ ((n ≡ b) × (b ≤ a))

-- two books are of one committee, with its version, and of the same opening accounts
pub record HaveSameSetup (b c : BookValue) : Type 0 where
  pub committee : b.taken.committee ≡ c.taken.committee
  pub opening : b.opening ≡ c.opening

-- this holds of the frames of both together
abbrev pub OfTaken : BookValue → BookValue → (List Frame → Type 0) → Type 0
OfTaken b c holds =
    (fs gs : List Frame) → HasTaken fs b.taken → HasTaken gs c.taken → holds (fs ++ gs)

-- the order of all that was taken has this many certificates
abbrev pub HasOrderOf : BookValue → ℕ → Type 0
HasOrderOf b n = b.taken.failed ≡ false → HasAsOrder b.taken.committee b.taken.kept n

-- they are of one setup, nothing stops them, and these are the shorter lengths: of the orders of all that was taken, and of
-- the receipts
pub record BooksAgree (b c : BookValue) (a : Agreed) : Type 0 where
  pub setup : HaveSameSetup b c
  pub clear : OfTaken b c (HasNoStop b.taken.committee)
  pub first : ℕ
  pub second : ℕ
  pub first_is : HasOrderOf b first
  pub second_is : HasOrderOf c second
  pub certs : IsLesser a.certs first second
  pub places : IsLesser a.places (length (receipts_of_executed b.executed)) (length (receipts_of_executed c.executed))

-- the first part in which their setups differ
abbrev pub BooksUnlike : BookValue → BookValue → SetupPart → Type 0
BooksUnlike b c part.Absent = ⊥
BooksUnlike b c part.Version = b.taken.committee.version ≢ c.taken.committee.version
BooksUnlike b c part.Committee =
    (b.taken.committee.version ≡ c.taken.committee.version) × (b.taken.committee ≢ c.taken.committee)
BooksUnlike b c part.Accounts = (b.taken.committee ≡ c.taken.committee) × (b.opening ≢ c.opening)

-- why they differ
abbrev pub BooksDiffer : BookValue → BookValue → Differ → Type 0
BooksDiffer b c (differ.Setup part) = BooksUnlike b c part
BooksDiffer b c (differ.Collision id) =
    HaveSameSetup b c × OfTaken b c (λ fs. IsStop b.taken.committee fs (stop.Collision id))
BooksDiffer b c (differ.Twins round author first second) =
    HaveSameSetup b c × OfTaken b c (λ fs. IsStop b.taken.committee fs
    (stop.Twins (record { round = round; author = author; first = first; second = second })))
BooksDiffer b c differ.Memory = HaveSameSetup b c
