-- Where feeds end that are followed, and whether two of them agree.
use Rattle.std.proofs.Common.{◌≡◌, ◌≤◌, ℕ, Bool, true, List, [], ◌∷◌, length, Option, Some, refl, sym, ap, subst, ◌∙◌, ◌⊎◌, inl, inr, ⊎_elim, arith}
use Rattle.std.specs.Prelude.{IfErr, OnOk, Result, Ok, Err}
use Rattle.std.proofs.lemmas.List.Elements.{Contains-append_left, Contains-append_right}
use Rattle.bk_base.specs.declared.version.Version.{Version}
use Rattle.bk_frames.specs.Device.{Device, Works, IfKnown, GaveAll}
use Rattle.bk_base.specs.Feed.{Frame, FeedValue, feed_of}
use Rattle.bk_committee.specs.Payload.{CommitteeValue}
use Rattle.bk_commit.specs.Growth.{IsPartOf}
use Rattle.bk_order.specs.Agreement.{OneBegins}
use Rattle.bk_order.specs.Orders.{Ordered}
use Rattle.bk_order.specs.Stops.{HasNoStop, IsStop}
use Rattle.bk_order.specs.declared.stop.Stop.{Stop}
use Rattle.bk_order.specs.declared.stop.Stop.TheVariants as stop
use Rattle.bk_order.proofs.OneReading.{no_stop, one_ordered}
use Rattle.bk_order.proofs.Sets.{none_in_part}
use Rattle.bk_results.specs.declared.compare_stop.CompareStop.{CompareStop}
use Rattle.bk_results.specs.declared.compare_stop.CompareStop.TheVariants as why
use Rattle.bk_results.specs.declared.differ.Agreed.{Agreed}
use Rattle.bk_results.specs.declared.differ.Differ.{Differ}
use Rattle.bk_results.specs.declared.differ.Differ.TheVariants as differ
use Rattle.bk_results.specs.declared.fault.Fault.{Fault}
use Rattle.bk_results.specs.declared.fault.Fault.TheVariants as fault
use Rattle.bk_follow.specs.Ordering.{HasOrderOf}
use Rattle.bk_follow.specs.Agreement.{Agree, AgreeInOrder, OneBeginsFor, HaveOneSetup, frames_together, HaveNoStop, HaveStop, settled_in, OfBoth, FollowersAgree, FollowersDiffer}
use Rattle.bk_results.specs.Devices.{AreFeed}
use Rattle.bk_answer.specs.Outcomes.{IsOutcomeOf}
use Rattle.bk_compare.specs.FeedAgreement.{FeedsCompared, FeedsDiffer, OfTheirFeeds, BothGave, Sources, FollowFails, ComparisonStops, sources}
use Rattle.bk_compare.specs.declared.compared.Compared.{Compared}
use Rattle.bk_answer.specs.Gaps.{IsGapIn}
use Rattle.bk_follow.specs.Queries.{missing_in}
use Rattle.bk_follow.specs.Finishing.{OfFeed, Closes, CloseFails}
use Rattle.bk_follow.specs.Follower.{BookValue, Followed, Follows, FollowsBy, IsBookOf, IsCurrent, ordered_in, receipts_of_executed}
use Rattle.bk_follow.specs.Queries.{rows_of_executed}
use Rattle.bk_follow.specs.Replaying.{AllHasCome}
use Rattle.bk_answer.specs.RunReport.{committee_in, later_frames, IsOrderIn, IsStopIn, HasPlaceIn, HasPlace}
use Rattle.bk_answer.specs.Flaws.{IsFlawIf}
use Rattle.bk_compare.specs.private.Ends.{HasStopIn, HasEnded, Ends, EndsNot, OfEnded, ComparisonStopsWith, IsDifferOf}
use Rattle.bk_follow.specs.Stopping.{stops}
use Rattle.bk_follow.proofs.ComparedBooks.{version_is}
use Rattle.bk_frames.proofs.Devices.{gave_all, known_of}
use Rattle.bk_follow.proofs.RunAnswers.{of_given, cut_short}

-- ---- one feed

-- a settled book of a feed has its outcome
outcome_in : (feed : FeedValue) (b : BookValue) → IsCurrent feed b → IsOutcomeOf feed (settled_in (Some b))
outcome_in feed b h = record {
  clear = h.clear;
  ordered = h.ordered;
  receipts = ap receipts_of_executed h.is_done ∙ h.executed.receipts;
  rows = ap rows_of_executed h.is_done ∙ h.executed.rows;
}

-- the book that there is
outcome_of_book : (feed : FeedValue) (book : Option BookValue) → ((b : BookValue) × (book ≡ Some b) × IsCurrent feed b) → IsOutcomeOf feed (settled_in book)
outcome_of_book feed book (b, is, current) = subst (λ (o : Option BookValue). IsOutcomeOf feed (settled_in o)) (sym is) (outcome_in feed b current)

-- a feed that was closed has ended
pub ends_closed : (old new : Followed) → Closes old new → Ends old new
ends_closed old new h = λ bytes frames come.
    let end = h.current bytes frames come in
    record {
      frames = frames;
      come = (h.settled bytes frames come).0;
      version = end.version;
      known = ap (λ c. c.version) h.cut ∙ end.known;
      good = end.good;
      spelled = end.spelled;
      end = inr (outcome_of_book (feed_of end.version frames) new.book end.holds);
    }

-- and so has one that something stops
ends_stopped : (old new : Followed) (f : Fault) → new ≡ old → OfFeed old (λ feed. IsStopIn feed f) → ((feed : FeedValue) → IsStopIn feed f → HasStopIn feed) → Ends old new
ends_stopped old new f same stopped shown = subst (Ends old) (sym same) (λ bytes frames come.
    let end = stopped bytes frames come in
    record {
      frames = frames;
      come = come;
      version = end.version;
      known = end.known;
      good = end.good;
      spelled = end.spelled;
      end = inl (shown (feed_of end.version frames) end.holds);
    })

pub ends_by_stop : (f : Fault) (old new : Followed) → stops f ≡ true → CloseFails old new f → Ends old new
ends_by_stop (fault.Feed found) old new e h = absurd cc
ends_by_stop (fault.Collision id) old new e h = ends_stopped old new (fault.Collision id) h.1 h.0 (λ feed s. (stop.Collision id, s))
ends_by_stop (fault.Equivocation round author first second) old new e h =
    ends_stopped old new (fault.Equivocation round author first second) h.1 h.0 (λ feed s. (stop.Twins (record { round = round; author = author; first = first; second = second }), s))
ends_by_stop (fault.Unfinished place) old new e h = absurd cc
ends_by_stop (fault.Write written) old new e h = absurd cc
ends_by_stop fault.Memory old new e h = absurd cc

-- ---- one source

-- what a source has has ended
pub source_ended : (known now : Device) (v w : Followed) → GaveAll known now (λ bytes. AllHasCome bytes v) → Ends v w → GaveAll known now (λ bytes. HasEnded bytes w)
source_ended known now v w (given, gives, whole, (frames, come)) ends = (given, gives, whole, ends given frames come)

-- why it has not
pub source_not : (f : Fault) (known now : Device) (v : Followed) → Works known now → GaveAll known now (λ bytes. AllHasCome bytes v) → EndsNot v f → FollowFails f known now
source_not (fault.Feed found) known now v works come h = cut_short known now v found works come h
source_not (fault.Collision id) known now v works come h = absurd h
source_not (fault.Equivocation round author first second) known now v works come h = absurd h
source_not (fault.Unfinished place) known now v works come h =
    (works, of_given known now v (λ feed. HasPlaceIn feed place) (λ bytes. HasPlace bytes place) come h (λ bytes feed good spelled there. record { feed = feed; good = good; spelled = spelled; holds = there }))
source_not (fault.Write written) known now v works come h = absurd h
source_not fault.Memory known now v works come h = works

-- ---- two feeds

-- nothing stops a part of frames that nothing stops
part_unstopped : (k : CommitteeValue) (part whole : List Frame) (s : Stop) → IsPartOf part whole → HasNoStop k whole → IsStop k part s → ⊥
part_unstopped k part whole s into none h = no_stop k part s (none_in_part k part whole into none h.certs h.batches h.are_certs h.are_batches) h

-- an end of a feed that nothing stops is its outcome
outcome_of_end : (feed : FeedValue) (v : Followed) → HasStopIn feed ⊎ IsOutcomeOf feed (settled_in v.book) → (HasStopIn feed → ⊥) → IsOutcomeOf feed (settled_in v.book)
outcome_of_end feed v end none = ⊎_elim (λ (s : HasStopIn feed). absurd (none s)) (λ (o : IsOutcomeOf feed (settled_in v.book)). o) end

-- the book of a feed whose frames have come
book_of : (version : Version) (frames : List Frame) (committee : Option CommitteeValue) (book : Option BookValue) → 2 ≤ length frames → FollowsBy version frames committee book → (b : BookValue) × (book ≡ Some b) × IsBookOf (feed_of version frames) b
book_of version [] committee book two h = absurd (omega (arith, two))
book_of version (first ∷ []) committee book two h = absurd (omega (arith, two))
book_of version (first ∷ second ∷ more) committee book two h = h

-- a Follower that has followed a feed to its end, which nothing stops, has its order
order_made : (bytes : List ℕ) (v : Followed) (x : HasEnded bytes v) → (HasStopIn (feed_of x.version x.frames) → ⊥) → HasOrderOf v (feed_of x.version x.frames)
order_made bytes v x none =
    let o = outcome_of_end (feed_of x.version x.frames) v x.end none in
    let followed : FollowsBy x.version x.frames v.committee v.book = subst (λ (w : Option Version). Follows w x.frames v.committee v.book) x.known x.come.follows in
    let found = book_of x.version x.frames v.committee v.book x.good.opened followed in (
      x.good,
      (
        found.0,
        found.1,
        record {
          book = found.2;
          clear = o.clear;
          ordered = subst (λ (book : Option BookValue). IsOrderIn (feed_of x.version x.frames) (ordered_in book)) found.1 o.ordered;
        },
      ),
    )

-- the missing batch of an outcome is where its order stops
gap_of_outcome : (feed : FeedValue) (book : Option BookValue) → IsOutcomeOf feed (settled_in book) → IsGapIn feed (missing_in book)
gap_of_outcome feed book o = record { clear = o.clear; ordered = ordered_in book; order = o.ordered; missing_is = refl }

-- what holds of both Followers holds of the feeds that have come to them
both_feeds : (one other : Followed) (holds : FeedValue → FeedValue → Type 0) (bytes more : List ℕ) → OfBoth one other holds → (x : HasEnded bytes one) (y : HasEnded more other) → holds (feed_of x.version x.frames) (feed_of y.version y.frames)
both_feeds one other holds bytes more h x y =
    let p = h bytes x.frames x.come in
    let q = p.2 more y.frames y.come in
    subst (λ (t : Version × Version). holds (feed_of t.0 x.frames) (feed_of t.1 y.frames)) (λ i. (version_is p.0 x.version one.cut.version p.1 x.known i, version_is q.0 y.version other.cut.version q.1 y.known i)) q.2

module _ (one other : Followed) (bytes more : List ℕ) (x : HasEnded bytes one) (y : HasEnded more other) where
  abbrev left : FeedValue
  left = feed_of x.version x.frames

  abbrev right : FeedValue
  right = feed_of y.version y.frames

  spelled_so : (holds : FeedValue → FeedValue → Type 0) → holds left right → OfTheirFeeds bytes more holds
  spelled_so holds it = record { one = left; other = right; good = x.good; other_good = y.good; spelled = x.spelled; other_spelled = y.spelled; holds = it }

  left_clear : HaveNoStop left right → HasStopIn left → ⊥
  left_clear none (s, h) = part_unstopped (committee_in left) (later_frames left) (frames_together left right) s
      (λ f t. Contains-append_left (later_frames left) (later_frames right) f t) none.1 h

  right_clear : HaveNoStop left right → HasStopIn right → ⊥
  right_clear none (s, h) = part_unstopped (committee_in left) (later_frames right) (frames_together left right) s
      (λ f t. Contains-append_right (later_frames left) (later_frames right) f t) none.1
      (subst (λ (k : CommitteeValue). IsStop k (later_frames right) s) (sym none.0.committee) h)

  -- the orders of both are those that the Followers have found
  as_found : (a : Agreed) → FollowersAgree one other a → HaveNoStop left right → IsOutcomeOf left (settled_in one.book) → IsOutcomeOf right (settled_in other.book)
      → Agree (settled_in one.book) (settled_in other.book) a
  as_found a h clear end also =
      let o = both_feeds one other (λ f g. AgreeInOrder f g a.certs) bytes more h.orders x y in
      let here : o.order ≡ ordered_in one.book = one_ordered (committee_in left) (later_frames left) o.order (ordered_in one.book) end.clear o.is_order end.ordered in
      let there : o.also ≡ ordered_in other.book = one_ordered (committee_in right) (later_frames right) o.also (ordered_in other.book) also.clear o.also_is also.ordered in
      record {
        anchors = subst (λ (p : Ordered × Ordered). OneBegins p.0.anchors p.1.anchors) (λ i. (here i, there i)) o.anchors;
        certs = subst (λ (p : Ordered × Ordered). OneBeginsFor a.certs p.0.order p.1.order) (λ i. (here i, there i)) o.certs;
        places = h.places;
        rows = h.rows;
      }

  clear_so : (a : Agreed) → FollowersAgree one other a → HaveNoStop left right
  clear_so a h = both_feeds one other HaveNoStop bytes more h.clear x y

  -- nothing stops either feed, and each Follower has the order of its own
  pub left_order : (a : Agreed) → FollowersAgree one other a → HasOrderOf one left
  left_order a h = order_made bytes one x (left_clear (clear_so a h))

  pub right_order : (a : Agreed) → FollowersAgree one other a → HasOrderOf other right
  right_order a h = order_made more other y (right_clear (clear_so a h))

  pub ended_agree : (strict : Bool) (c : Compared) → c.first ≡ missing_in one.book → c.second ≡ missing_in other.book → FollowersAgree one other c.agreed → IsFlawIf strict left c.first_flaw → IsFlawIf strict right c.second_flaw → OfTheirFeeds bytes more (λ f g. FeedsCompared strict f g c)
  ended_agree strict c first second h flaw also_flaw =
      let clear : HaveNoStop left right = clear_so c.agreed h in
      let outcome : IsOutcomeOf left (settled_in one.book) = outcome_of_end left one x.end (left_clear clear) in
      let also : IsOutcomeOf right (settled_in other.book) = outcome_of_end right other y.end (right_clear clear) in
      spelled_so (λ f g. FeedsCompared strict f g c) (record {
        agree = record {
          clear = clear;
          end = settled_in one.book;
          also = settled_in other.book;
          outcome = outcome;
          also_outcome = also;
          agree = as_found c.agreed h clear outcome also;
        };
        first = subst (IsGapIn left) (sym first) (gap_of_outcome left one.book outcome);
        second = subst (IsGapIn right) (sym second) (gap_of_outcome right other.book also);
        first_flaw = flaw;
        second_flaw = also_flaw;
      })

  pub ended_differ : (d : Differ) → FollowersDiffer one other d → OfTheirFeeds bytes more (FeedsDiffer d)
  ended_differ (differ.Setup part) h = spelled_so (FeedsDiffer (differ.Setup part)) (h.0 bytes more x.frames y.frames x.version y.version x.come y.come x.known y.known)
  ended_differ (differ.Collision id) h = spelled_so (FeedsDiffer (differ.Collision id)) (both_feeds one other (λ f g. HaveStop f g (stop.Collision id)) bytes more h x y)
  ended_differ (differ.Twins round author first second) h =
      spelled_so (FeedsDiffer (differ.Twins round author first second))
      (both_feeds one other (λ f g. HaveStop f g (stop.Twins (record { round = round; author = author; first = first; second = second }))) bytes more h x y)
  ended_differ differ.Memory h = spelled_so (FeedsDiffer differ.Memory) (both_feeds one other HaveOneSetup bytes more h x y)

-- ---- two sources

-- Followers that agree have one setup
pub one_setup : (one other : Followed) (a : Agreed) → FollowersAgree one other a → FollowersDiffer one other differ.Memory
one_setup one other a h bytes frames come =
    let p = h.clear bytes frames come in
    (p.0, p.1, λ more gs also. let q = p.2 more gs also in (q.0, q.1, q.2.0))

pub differs_with : (one other : Followed) (old new : Device) (d : Differ) → Works old new → GaveAll old new (λ more. HasEnded more other) → FollowersDiffer one other d → ComparisonStopsWith (why.Differ d) one old new
differs_with one other old new d works ended h = (works, λ bytes x. gave_all old new (λ more. HasEnded more other) (λ more. OfTheirFeeds bytes more (FeedsDiffer d)) ended (λ more y. ended_differ one other bytes more x y d h))

-- what holds holds with a result
pub on_ok : (result : Result Agreed CompareStop) (P : Type 0) → P → OnOk result P
on_ok (Ok a) P h = h
on_ok (Err e) P h = tt

differs_by : (e : CompareStop) (one other : Followed) (old new : Device) → Works old new → GaveAll old new (λ more. HasEnded more other) → IsDifferOf one other e → ComparisonStopsWith e one old new
differs_by (why.First found) one other old new works ended h = absurd h
differs_by (why.Second found) one other old new works ended h = absurd h
differs_by (why.Differ found) one other old new works ended h = differs_with one other old new found works ended h

pub stops_by : (result : Result Agreed CompareStop) (one other : Followed) (old new : Device) → Works old new → GaveAll old new (λ more. HasEnded more other) → IfErr result (IsDifferOf one other) → IfErr result (λ e. ComparisonStopsWith e one old new)
stops_by (Ok a) one other old new works ended h = tt
stops_by (Err e) one other old new works ended h = differs_by e one other old new works ended h

-- and of both sources
pub both_gave : (one other : Followed) (holds : FeedValue → FeedValue → Type 0) (first first' second second' : Device) → GaveAll first first' (λ bytes. HasEnded bytes one) → GaveAll second second' (λ more. HasEnded more other)
    → OfEnded one other holds → BothGave (sources first second) (sources first' second') holds
both_gave one other holds first first' second second' ended also h =
    gave_all first first' (λ bytes. HasEnded bytes one) (λ bytes. GaveAll second second' (λ more. OfTheirFeeds bytes more holds)) ended
    (λ bytes x. gave_all second second' (λ more. HasEnded more other) (λ more. OfTheirFeeds bytes more holds) also (λ more y. h bytes more x y))

-- what holds of the bytes that both gave holds of those that are known
pub both_known : (old new : Sources) (holds : FeedValue → FeedValue → Type 0) → BothGave old new holds → IfKnown old.first (λ bytes. IfKnown old.second (λ more. OfTheirFeeds bytes more holds))
both_known old new holds h =
    known_of old.first new.first (λ bytes. IfKnown old.second (λ more. OfTheirFeeds bytes more holds))
    (gave_all old.first new.first (λ bytes. GaveAll old.second new.second (λ more. OfTheirFeeds bytes more holds)) (λ bytes. IfKnown old.second (λ more. OfTheirFeeds bytes more holds)) h
    (λ bytes k. known_of old.second new.second (λ more. OfTheirFeeds bytes more holds) k))

-- a feed that has ended is a feed
is_feed : (old new : Device) (one : Followed) → GaveAll old new (λ bytes. HasEnded bytes one) → GaveAll old new AreFeed
is_feed old new one ended = gave_all old new (λ bytes. HasEnded bytes one) AreFeed ended (λ bytes x. (feed_of x.version x.frames, x.good, x.spelled))

pub compare_stops : (e : CompareStop) (one : Followed) (first first' second second' : Device) → Works first first' → GaveAll first first' (λ bytes. HasEnded bytes one) → ComparisonStopsWith e one second second' → ComparisonStops e (sources first second) (sources first' second')
compare_stops (why.First found) one first first' second second' works ended h = absurd h
compare_stops (why.Second found) one first first' second second' works ended h = (works, is_feed first first' one ended, h)
compare_stops (why.Differ found) one first first' second second' works ended h =
    ((works, h.0), gave_all first first' (λ bytes. HasEnded bytes one) (λ bytes. GaveAll second second' (λ more. OfTheirFeeds bytes more (FeedsDiffer found))) ended (λ bytes x. h.1 bytes x))
