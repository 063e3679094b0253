-- The places that a Follower has executed.
use Rattle.std.proofs.Common.{◌≡◌, ◌∙◌, ℕ, ◌<◌, ◌≤◌, List, [], ◌∷◌, length, Option, Some, None, refl, sym, ap, subst, arith}
use Rattle.std.specs.Prelude.{IfSome}
use Rattle.bk_base.specs.declared.version.Version.{Version}
use Rattle.bk_base.specs.Feed.{Frame, genesis_of}
use Rattle.bk_committee.specs.Payload.{CommitteeValue}
use Rattle.bk_frames.proofs.CutJoining.{none_before_magic}
use Rattle.bk_order.specs.Intake.{nothing_ordered}
use Rattle.bk_order.specs.Orders.{Ordered}
use Rattle.bk_rules.proofs.Folding.{length-receipts}
use Rattle.bk_tx.specs.Batches.{transactions_of}
use Rattle.bk_follow.specs.Follower.{BookValue, Followed, Follows, HasCome, IsSettled, executed_in, receipts_in, receipts_of_executed}
use Rattle.bk_tail.proofs.Growing.{book_at}

-- before there is a book there are not two frames
few_frames : (o : Option Version) (frames : List Frame) (k : Option CommitteeValue) (book : Option BookValue) → book ≡ None → Follows o frames k book → (o ≡ None → frames ≡ []) → length frames < 2
few_frames None frames k book none f short = let e = ap length (short refl) in omega (arith, e)
few_frames (Some v) [] k book none f short = omega arith
few_frames (Some v) (x ∷ []) k book none f short = omega arith
few_frames (Some v) (x ∷ y ∷ more) k book none (b, is, _) short = absurd (let e : None ≡ Some b = sym none ∙ is in cc)

-- the order whose table is put is executed
pub done_executed : (bytes : List ℕ) (frames : List Frame) (v : Followed) (done : Ordered) → HasCome bytes frames v → IsSettled frames v → (length frames < 2 → done ≡ nothing_ordered) → IfSome v.book (λ b. done ≡ b.taken.ordered)
    → length (transactions_of done.payloads.list) ≤ length (receipts_in v.book)
done_executed bytes frames v done come settled few last = by_book v.book refl
  where
    by_book : (o : Option BookValue) → v.book ≡ o → length (transactions_of done.payloads.list) ≤ length (receipts_in v.book)
    by_book None e =
        let short = few_frames v.cut.version frames v.committee v.book e come.follows (λ none. (none_before_magic bytes frames v.cut come.cuts none).0) in
        let zero : length (transactions_of done.payloads.list) ≡ 0 = ap (λ (o : Ordered). length (transactions_of o.payloads.list)) (few short) in
        omega (arith, zero)
    by_book (Some b) e =
        let current = (book_at bytes frames v b come settled e).current in
        let version = (book_at bytes frames v b come settled e).version in
        let is : done ≡ b.taken.ordered = subst (λ (o : Option BookValue). IfSome o (λ x. done ≡ x.taken.ordered)) e last in
        let same : receipts_in v.book ≡ current.done.receipts = ap receipts_of_executed (ap executed_in e ∙ current.is_done) in
        let each : length current.done.receipts ≡ length (transactions_of b.taken.ordered.payloads.list) = ap length current.executed.receipts ∙ length-receipts version (transactions_of b.taken.ordered.payloads.list) (genesis_of frames) in
        let all : length (receipts_in v.book) ≡ length (transactions_of done.payloads.list) = ap length same ∙ each ∙ ap (λ (o : Ordered). length (transactions_of o.payloads.list)) (sym is) in
        omega (arith, all)
