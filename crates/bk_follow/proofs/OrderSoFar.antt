-- The order of what a Follower has so far.
use Rattle.std.proofs.Common.{◌≡◌, ℕ, ◌<◌, ◌≤◌, List, [], ◌∷◌, length, Option, Some, None, refl, sym, ap, subst, ◌∙◌, arith}
use Rattle.bk_base.specs.declared.version.Version.{Version}
use Rattle.bk_base.specs.declared.genesis.Row.{Row}
use Rattle.bk_frames.specs.Cutting.{Cut}
use Rattle.bk_base.specs.Feed.{Frame, FeedValue, feed_of}
use Rattle.bk_frames.proofs.CutJoining.{none_before_magic}
use Rattle.bk_committee.specs.Payload.{CommitteeValue}
use Rattle.bk_order.specs.Intake.{Taken, Kept, IsKeptOf, HasTaken}
use Rattle.bk_order.specs.Stops.{HasNoStop}
use Rattle.bk_results.specs.declared.fault.Fault.{Fault}
use Rattle.bk_results.specs.declared.fault.Fault.TheVariants as fault
use Rattle.bk_ledger.specs.Ledger.{LedgerValue}
use Rattle.bk_follow.specs.Follower.{BookValue, Followed, FollowsBy, Follows, HasCome, executed_in}
use Rattle.bk_answer.specs.RunReport.{later_frames}
use Rattle.bk_follow.specs.Ordering.{FindsOrder, IsOrdered, IsOrderedBy, OrderFails, anchors_in, certs_in}
use Rattle.bk_follow.specs.private.Books.{IsGoodBook, BookSettleFails}
use Rattle.bk_follow.specs.private.Ledgers.{book_with}
use Rattle.bk_follow.specs.private.Ordered.{BookOrderFails}
use Rattle.bk_follow.specs.private.Parts.{after_fault}
use Rattle.bk_follow.proofs.QueryStops.{nothing_stops}
use Rattle.bk_follow.proofs.Books.{IsSettling, clear_in, order_in_feed, whole_part}
use Rattle.bk_follow.proofs.Following.{follower_of, good_of, come_on, settle_fails}

-- ---- a book

-- the order of what was taken is that of the feed, and what was executed stays
pub orders_book : (feed : FeedValue) (intake now : Taken) (ledger : Option LedgerValue) (opening : List Row) → IsSettling intake now → IsGoodBook feed (book_with intake ledger opening) → IsOrdered feed (book_with now ledger opening)
orders_book feed intake now ledger opening s good =
    let b = good.book in
    let clear = s.clear (later_frames feed) b.taken in
    let taken : HasTaken (later_frames feed) now = subst (λ (p : CommitteeValue × Kept). IsKeptOf p.0 (later_frames feed) p.1) (λ i. (sym s.same i, sym s.kept i)) b.taken in
    let order = s.order (later_frames feed) taken (subst (λ (k : CommitteeValue). HasNoStop k (later_frames feed)) (sym s.same) clear) in
    let found = order_in_feed feed (book_with intake ledger opening) now b s.same order in
    record {
      book = record {
        opening = b.opening;
        committee = s.same ∙ b.committee;
        taken = taken;
        works = s.works;
        found = whole_part feed now.ordered found;
        order = b.order;
        before = b.before;
        done = b.done;
        is_done = b.is_done;
        executed = b.executed;
      };
      clear = clear_in feed (book_with intake ledger opening) b clear;
      ordered = found;
    }

-- ---- a Follower

-- the order of the book is that of the frames
pub finds_order : (cut : Cut) (committee : Option CommitteeValue) (book : Option BookValue) (stands : Option Fault) (b new : BookValue) → book ≡ Some b → ((feed : FeedValue) → IsGoodBook feed b → IsOrdered feed new) → new.executed ≡ b.executed
    → FindsOrder (follower_of cut committee book stands) (follower_of cut committee (Some new) stands) new.taken.ordered.anchors new.taken.ordered.order
finds_order cut committee book stands b new is h same =
    let old = follower_of cut committee book stands in
    record {
      come = λ bytes frames come.
          let g = good_of bytes frames old b come is in
          let o = h (feed_of g.version frames) g.good in (
            come_on bytes frames cut committee new stands old b refl come g come.works o.book,
            subst (λ (w : Option Version). IsOrderedBy w frames (Some new)) (sym g.known) o,
          );
      order = record {
        none = λ bytes frames come few. let g = good_of bytes frames old b come is in absurd (few_opened frames few g.good.opened);
        ordered = λ bytes frames come two.
            let g = good_of bytes frames old b come is in
            let o = h (feed_of g.version frames) g.good in
            (g.version, g.known, record { clear = o.clear; order = new.taken.ordered; is_order = o.ordered; anchors_are = refl; certs_are = refl });
      };
      executed = same ∙ sym (ap executed_in is);
      cut = refl;
    }
  where
    few_opened : (frames : List Frame) → length frames < 2 → 2 ≤ length frames → ⊥
    few_opened frames few two = omega (arith, few, two)

-- the genesis is not among the frames where there is no book yet
no_genesis : (bytes : List ℕ) (frames : List Frame) (v : Followed) → HasCome bytes frames v → v.book ≡ None → 2 ≤ length frames → ⊥
no_genesis bytes frames v come none two = by_version v.cut.version refl
  where
    no_book : (version : Version) (fs : List Frame) → 2 ≤ length fs → FollowsBy version fs v.committee None → ⊥
    no_book version [] le h = absurd (omega (arith, le))
    no_book version (f ∷ []) le h = absurd (omega (arith, le))
    no_book version (f ∷ g ∷ more) le h = absurd (let e = h.1 in cc)

    by_version : (o : Option Version) → v.cut.version ≡ o → ⊥
    by_version None e = let at = none_before_magic bytes frames v.cut come.cuts e in omega (arith, two, ap length at.0)
    by_version (Some version) e = no_book version frames two (subst (FollowsBy version frames v.committee) none (subst (λ (w : Option Version). Follows w frames v.committee v.book) e come.follows))

-- nothing is to be ordered where there is no book
of_none : (version : Option Version) (frames : List Frame) → IsOrderedBy version frames None
of_none None frames = tt
of_none (Some version) frames = tt

-- nothing is ordered then
pub none_ordered_yet : (v : Followed) → v.book ≡ None → FindsOrder v v (anchors_in v.book) (certs_in v.book)
none_ordered_yet v none = record {
  come = λ bytes frames come. (
    come,
    subst (λ (b : Option BookValue). IsOrderedBy v.cut.version frames b) (sym none) (of_none v.cut.version frames),
  );
  order = record {
    none = λ bytes frames come few. (ap anchors_in none, ap certs_in none);
    ordered = λ bytes frames come two. absurd (no_genesis bytes frames v come none two);
  };
  executed = refl;
  cut = refl;
}

-- ---- refusals

-- why the order of a book was not settled is why a settle would fail
pub as_settle : (f : Fault) (old new : BookValue) → BookOrderFails old new f → BookSettleFails old new f
as_settle (fault.Feed found) old new h = absurd h
as_settle (fault.Collision id) old new h = h
as_settle (fault.Equivocation round author first second) old new h = h
as_settle (fault.Unfinished place) old new h = absurd h
as_settle (fault.Write written) old new h = absurd h
as_settle fault.Memory old new h = h

-- and why the Follower has no order
pub order_fails : (f : Fault) (cut : Cut) (committee : Option CommitteeValue) (book : Option BookValue) (stands : Option Fault) (b new : BookValue) (now : Followed) → book ≡ Some b → stands ≡ None → now ≡ after_fault f (follower_of cut committee (Some new) None) → BookOrderFails b new f
    → OrderFails (follower_of cut committee book stands) now f
order_fails (fault.Feed found) cut committee book stands b new now is none e h = absurd h
order_fails (fault.Collision id) cut committee book stands b new now is none e h = settle_fails (fault.Collision id) cut committee book stands b new now is none e h
order_fails (fault.Equivocation round author first second) cut committee book stands b new now is none e h = settle_fails (fault.Equivocation round author first second) cut committee book stands b new now is none e h
order_fails (fault.Unfinished place) cut committee book stands b new now is none e h = absurd h
order_fails (fault.Write written) cut committee book stands b new now is none e h = absurd h
order_fails fault.Memory cut committee book stands b new now is none e h = (e, nothing_stops (follower_of cut committee book stands) b is h)
