-- What stops a Follower's queries.
use Rattle.std.proofs.Common.{◌≡◌, ◌≤◌, List, [], ◌∷◌, length, Option, Some, None, sym, subst, ◌∙◌, arith}
use Rattle.bk_base.specs.declared.version.Version.{Version}
use Rattle.bk_base.specs.Feed.{Frame, FeedValue, feed_of}
use Rattle.bk_results.specs.declared.fault.Fault.{Fault}
use Rattle.bk_results.specs.declared.fault.Fault.TheVariants as fault
use Rattle.bk_answer.specs.RunReport.{HasNoStopIn, IsStopIn}
use Rattle.bk_follow.specs.Follower.{BookValue, Followed, FollowsBy, Follows}
use Rattle.bk_follow.specs.Queries.{NothingStops, IsStopSoFar}
use Rattle.bk_follow.specs.private.Books.{IsGoodBook}
use Rattle.bk_follow.proofs.Following.{good_of, of_frames}

-- nothing stops the frames where nothing stops their book
pub nothing_stops : (v : Followed) (b : BookValue) → v.book ≡ Some b → ((feed : FeedValue) → IsGoodBook feed b → HasNoStopIn feed) → NothingStops v
nothing_stops v b is h = λ bytes frames version come known two.
    let g = good_of bytes frames v b come is in
    let same : g.version ≡ version = let e : Some g.version ≡ Some version = sym g.known ∙ known in cc in
    subst (λ (x : Version). HasNoStopIn (feed_of x frames)) same (h (feed_of g.version frames) g.good)

-- nor where there is no book yet
pub none_stops : (v : Followed) → v.book ≡ None → NothingStops v
none_stops v none = λ bytes frames version come known two.
    absurd (no_book version frames two (subst (FollowsBy version frames v.committee) none (subst (λ (w : Option Version). Follows w frames v.committee v.book) known come.follows)))
  where
    no_book : (version : Version) (fs : List Frame) → 2 ≤ length fs → FollowsBy version fs v.committee None → ⊥
    no_book version [] le h = absurd (omega (arith, le))
    no_book version (f ∷ []) le h = absurd (omega (arith, le))
    no_book version (f ∷ g ∷ more) le h = absurd (let e = h.1 in cc)

-- the stop of a book is that of the frames
pub query_fails : (f : Fault) (v : Followed) (b : BookValue) (feed : FeedValue) → v.book ≡ Some b → IsGoodBook feed b → ((other : FeedValue) → IsGoodBook other b → IsStopIn other f) → IsStopSoFar v f
query_fails (fault.Feed found) v b feed is good h = absurd (h feed good)
query_fails (fault.Collision id) v b feed is good h = of_frames v b (λ other. IsStopIn other (fault.Collision id)) is h
query_fails (fault.Equivocation round author first second) v b feed is good h = of_frames v b (λ other. IsStopIn other (fault.Equivocation round author first second)) is h
query_fails (fault.Unfinished place) v b feed is good h = absurd (h feed good)
query_fails (fault.Write written) v b feed is good h = absurd (h feed good)
query_fails fault.Memory v b feed is good h = absurd (h feed good)
