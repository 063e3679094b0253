-- The places of a table that is out, and the one that a fault names.
use Rattle.std.proofs.Common.{inl, inr, ◌∙◌, ℕ, ◌<◌, ◌≤◌, List, ◌++◌, length, ap, append_assoc, length-append, arith}
use Rattle.std.proofs.lemmas.List.Concat.{flat_map-append}
use Rattle.bk_base.specs.Feed.{FeedValue, spelling}
use Rattle.bk_commit.specs.Growth.{IsPrefix}
use Rattle.bk_frames.specs.Device.{Device}
use Rattle.bk_order.specs.Orders.{Ordered}
use Rattle.bk_order.proofs.Sets.{frames_grow}
use Rattle.bk_results.specs.declared.status.Status.{Status}
use Rattle.bk_tx.specs.Batches.{transactions_in, transactions_of}
use Rattle.bk_answer.specs.RunReport.{committee_in, later_frames, HasNoStopIn, HasPlaceIn, IsOrderIn}
use Rattle.bk_tail.specs.Tailing.{TableBefore, TableSoFar}
use Rattle.bk_tail.specs.private.Putting.{TableUpTo}

pub prefix_then : {X : Type 0} (xs ys zs : List X) → IsPrefix xs ys → IsPrefix ys zs → IsPrefix xs zs
prefix_then xs ys zs h k = (h.0 ++ k.0, k.1 ∙ ap (λ t. t ++ k.0) h.1 ∙ append_assoc xs h.0 k.0)

-- more batches have more places
more_places : (xs ys : List (List ℕ)) → IsPrefix xs ys → length (transactions_of xs) ≤ length (transactions_of ys)
more_places xs ys (rest, e) =
    let all = ap (λ (ps : List (List ℕ)). length (transactions_of ps)) e in
    let two = ap length (flat_map-append transactions_in xs rest) in
    let sum = length-append (transactions_of xs) (transactions_of rest) in
    omega (arith, all, two, sum)

-- a feed has the places of its order, and no others
pub below_order : (feed : FeedValue) (o : Ordered) → HasNoStopIn feed → IsOrderIn feed o → (place : ℕ) → HasPlaceIn feed place → place < length (transactions_of o.payloads.list)
below_order feed o clear is place (_, (p, its, low)) =
    let begins = (frames_grow (committee_in feed) (later_frames feed) (later_frames feed) p o (λ c i. i) clear its is).2 in
    let more = more_places p.payloads.list o.payloads.list begins in
    omega (arith, low, more)

module _ (text : FeedValue → Status → List ℕ → Type 0) (old new : Device) where
  -- what is out stays where more comes
  pub so_far_longer : (bytes all : List ℕ) → IsPrefix bytes all → TableSoFar text old new bytes → TableSoFar text old new all
  so_far_longer bytes all longer (works, inl none) = (works, inl none)
  so_far_longer bytes all longer (works, inr (feed, (good, begins), end, out)) = (works, inr (feed, (good, prefix_then (spelling feed) bytes all begins longer), end, out))

  pub before_longer : (place : ℕ) (bytes all : List ℕ) → IsPrefix bytes all → TableBefore text place old new bytes → TableBefore text place old new all
  before_longer place bytes all longer (works, inl none) = (works, inl none)
  before_longer place bytes all longer (works, inr (feed, (good, begins), apart, end, out)) = (works, inr (feed, (good, prefix_then (spelling feed) bytes all begins longer), apart, end, out))

  pub up_to_longer : (count : ℕ) (bytes all : List ℕ) → IsPrefix bytes all → TableUpTo text count old new bytes → TableUpTo text count old new all
  up_to_longer count bytes all longer (works, inl none) = (works, inl none)
  up_to_longer count bytes all longer (works, inr (feed, (good, begins), below, end, out)) = (works, inr (feed, (good, prefix_then (spelling feed) bytes all begins longer), below, end, out))

  -- whatever its places are
  pub out_so_far : (count : ℕ) (bytes : List ℕ) → TableUpTo text count old new bytes → TableSoFar text old new bytes
  out_so_far count bytes (works, inl none) = (works, inl none)
  out_so_far count bytes (works, inr (feed, begins, below, end, out)) = (works, inr (feed, begins, end, out))

  -- a later place is none of them
  pub out_before : (count place : ℕ) (bytes : List ℕ) → count ≤ place → TableUpTo text count old new bytes → TableBefore text place old new bytes
  out_before count place bytes high (works, inl none) = (works, inl none)
  out_before count place bytes high (works, inr (feed, begins, below, end, out)) = (works, inr (feed, begins, (λ has. absurd (let low = below place has in omega (arith, low, high))), end, out))
