-- What a settle and an end do to a Follower.
use Rattle.std.proofs.Common.{◌≡◌, ℕ, ◌+◌, ◌≤◌, List, [], ◌∷◌, ◌++◌, length, Option, Some, None, refl, sym, ap, subst, ◌∙◌, arith}
use Rattle.std.specs.Prelude.{IfSome}
use Rattle.std.proofs.KnownBytes.{Keeps-refl}
use Rattle.std.proofs.lemmas.List.{append-nil}
use Rattle.bk_base.specs.declared.version.Version.{Version}
use Rattle.bk_frames.specs.Device.{Device}
use Rattle.bk_base.specs.Feed.{Frame, FeedValue, IsFeed, feed_of, spelling}
use Rattle.bk_frames.specs.Cutting.{Cut, Cuts, IsOpen, fresh}
use Rattle.bk_frames.proofs.CutJoining.{bytes_so_far, ends_as_feed}
use Rattle.bk_committee.specs.Payload.{CommitteeValue}
use Rattle.bk_results.specs.declared.fault.Fault.{Fault}
use Rattle.bk_results.specs.declared.fault.Fault.TheVariants as fault
use Rattle.bk_results.specs.Devices.{IsUntouched}
use Rattle.bk_answer.specs.RunReport.{HasNoStopIn, IsStopIn, HasPlaceIn}
use Rattle.bk_follow.specs.Follower.{BookValue, Followed, IsBookOf, IsCurrent, FollowsBy, Follows, HasCome, Settles, SettleFails, OfFrames, IsSettledBy, receipts_of_executed, receipts_in, broken, unfed}
use Rattle.bk_follow.specs.Finishing.{OfFeed, Closes, CloseFails}
use Rattle.bk_follow.specs.private.Books.{IsGoodBook, BookSettleFails}
use Rattle.bk_follow.specs.private.Parts.{EndsHere, after_fault}
use Rattle.bk_follow.specs.Queries.{EndsNot}
use Rattle.bk_follow.specs.Stopping.{kept_fault}
use Rattle.bk_follow.proofs.Openings.{with_book, follows_book}

-- a Follower of these parts
abbrev pub follower_of : Cut → Option CommitteeValue → Option BookValue → Option Fault → Followed
follower_of cut committee book stands = record { cut = cut; committee = committee; book = book; fault = stands }

-- what has come makes a good book of a version
pub record IsOfGoodBook (frames : List Frame) (v : Followed) (b : BookValue) : Type 0 where
  pub version : Version
  pub known : v.cut.version ≡ Some version
  pub good : IsGoodBook (feed_of version frames) b

pub good_of : (bytes : List ℕ) (frames : List Frame) (v : Followed) (b : BookValue) → HasCome bytes frames v → v.book ≡ Some b → IsOfGoodBook frames v b
good_of bytes frames v b come is = by_version v.cut.version refl
  where
    by_version : (o : Option Version) → v.cut.version ≡ o → IsOfGoodBook frames v b
    by_version None e =
        let none = (subst (λ (w : Option Version). Follows w frames v.committee v.book) e come.follows).1 in
        absurd (let e : None ≡ Some b = sym none ∙ is in cc)
    by_version (Some version) e =
        let follows = subst (λ (w : Option Version). Follows w frames v.committee v.book) e come.follows in
        let opened = with_book version frames v.committee b (subst (FollowsBy version frames v.committee) is follows) in
        record {
          version = version;
          known = e;
          good = record { good = (bytes_so_far bytes frames v.cut version come.cuts e).0.good; opened = opened.two; book = opened.book };
        }

-- the same has come where the book is another of these frames
pub come_on : (bytes : List ℕ) (frames : List Frame) (cut : Cut) (committee : Option CommitteeValue) (b : BookValue) (stands : Option Fault) (old : Followed) (o : BookValue) → old.cut ≡ cut → HasCome bytes frames old → (g : IsOfGoodBook frames old o) → stands ≡ None
    → IsBookOf (feed_of g.version frames) b → HasCome bytes frames (follower_of cut committee (Some b) stands)
come_on bytes frames cut committee b stands old o same come g works book = record {
  cuts = subst (Cuts fresh bytes frames) same come.cuts;
  is_open = subst IsOpen same come.is_open;
  reads = sym (ap (λ (c : Cut). c.fault) same) ∙ come.reads;
  follows = subst (λ (w : Option Version). Follows w frames committee (Some b)) (sym g.known ∙ ap (λ (c : Cut). c.version) same) (follows_book g.version frames committee b g.good.opened book);
  works = works;
}

settled_by : (version : Version) (o : Option Version) (frames : List Frame) (b : BookValue) → o ≡ Some version → IsCurrent (feed_of version frames) b → IsSettledBy o frames (Some b)
settled_by version o frames b e current = subst (λ (w : Option Version). IsSettledBy w frames (Some b)) (sym e) current

-- a settle of the book is one of the Follower
pub settles_now : (cut : Cut) (committee : Option CommitteeValue) (book : Option BookValue) (stands : Option Fault) (b new : BookValue) (n : ℕ) → book ≡ Some b → ((feed : FeedValue) → IsGoodBook feed b → IsCurrent feed new)
    → length (receipts_of_executed new.executed) ≡ length (receipts_of_executed b.executed) + n → Settles (follower_of cut committee book stands) (follower_of cut committee (Some new) stands) n
settles_now cut committee book stands b new n is current count = record {
  settled = λ bytes frames come.
      let g = good_of bytes frames (follower_of cut committee book stands) b come is in
      let now = current (feed_of g.version frames) g.good in
      (come_on bytes frames cut committee new stands (follower_of cut committee book stands) b refl come g come.works now.book, settled_by g.version cut.version frames new g.known now);
  new_places = subst (λ (o : Option BookValue). length (receipts_of_executed new.executed) ≡ length (receipts_in o) + n) (sym is) count;
  cut = refl;
}

-- nothing is settled where there is no book
pub settles_none : (v : Followed) → v.book ≡ None → Settles v v 0
settles_none v none = record {
  settled = λ bytes frames come. (come, none_settled v.cut.version frames v.book none);
  new_places = omega arith;
  cut = refl;
}
  where
    none_settled : (o : Option Version) (frames : List Frame) (book : Option BookValue) → book ≡ None → IsSettledBy o frames book
    none_settled None frames book e = tt
    none_settled (Some version) frames book e = subst (λ (x : Option BookValue). IfSome x (λ b. IsCurrent (feed_of version frames) b)) (sym e) tt

-- after a fault that is not kept the book is as it was
pub stop_same : (f : Fault) (old new : BookValue) → kept_fault f ≡ None → BookSettleFails old new f → new ≡ old
stop_same (fault.Feed found) old new none h = absurd h
stop_same (fault.Collision id) old new none h = h.0
stop_same (fault.Equivocation round author first second) old new none h = h.0
stop_same (fault.Unfinished place) old new none h = absurd cc
stop_same (fault.Write written) old new none h = absurd h
stop_same fault.Memory old new none h = absurd cc

-- the facts of the feed that the frames are, from those of its book
pub of_frames : (v : Followed) (b : BookValue) (holds : FeedValue → Type 0) → v.book ≡ Some b → ((feed : FeedValue) → IsGoodBook feed b → holds feed) → OfFrames v holds
of_frames v b holds is h = λ bytes frames come. let g = good_of bytes frames v b come is in (g.version, g.known, h (feed_of g.version frames) g.good)

-- why the book was not settled is why the Follower was not
pub settle_fails : (f : Fault) (cut : Cut) (committee : Option CommitteeValue) (book : Option BookValue) (stands : Option Fault) (b new : BookValue) (now : Followed) → book ≡ Some b → stands ≡ None → now ≡ after_fault f (follower_of cut committee (Some new) None) → BookSettleFails b new f
    → SettleFails (follower_of cut committee book stands) now f
settle_fails (fault.Feed found) cut committee book stands b new now is none e h = absurd h
settle_fails (fault.Collision id) cut committee book stands b new now is none e h =
    (e ∙ (λ i. follower_of cut committee ((ap Some h.0 ∙ sym is) i) (sym none i)), of_frames (follower_of cut committee book stands) b (λ feed. IsStopIn feed (fault.Collision id)) is h.1)
settle_fails (fault.Equivocation round author first second) cut committee book stands b new now is none e h =
    (e ∙ (λ i. follower_of cut committee ((ap Some h.0 ∙ sym is) i) (sym none i)), of_frames (follower_of cut committee book stands) b (λ feed. IsStopIn feed (fault.Equivocation round author first second)) is h.1)
settle_fails (fault.Unfinished place) cut committee book stands b new now is none e h =
    (e, of_frames (follower_of cut committee book stands) b (λ feed. HasPlaceIn feed place) is h.0, subst (λ (o : Option BookValue). length (receipts_in o) ≤ place) (sym is) h.1)
settle_fails (fault.Write written) cut committee book stands b new now is none e h = absurd h
settle_fails fault.Memory cut committee book stands b new now is none e h = (e, of_frames (follower_of cut committee book stands) b HasNoStopIn is h)

-- ---- the end of a feed

-- what has come is a feed, where it ends with a frame after the genesis
pub feed_of_book : (bytes : List ℕ) (frames : List Frame) (v : Followed) (b : BookValue) → HasCome bytes frames v → (g : IsOfGoodBook frames v b) → v.cut.kept ≡ [] → IsFeed (feed_of g.version frames) × (bytes ≡ spelling (feed_of g.version frames))
feed_of_book bytes frames v b come g none =
    let so_far = (bytes_so_far bytes frames v.cut g.version come.cuts g.known).0 in
    (record { good = g.good.good; opened = g.good.opened }, so_far.spelled ∙ ap (λ (k : List ℕ). spelling (feed_of g.version frames) ++ k) none ∙ append-nil (spelling (feed_of g.version frames)))

-- there is a book then
pub book_at_end : (bytes : List ℕ) (frames : List Frame) (v : Followed) → HasCome bytes frames v → v.cut.kept ≡ [] → 2 ≤ v.cut.index → v.book ≡ None → ⊥
book_at_end bytes frames v come kept two none =
    let end = ends_as_feed bytes frames v.cut come.cuts kept two in
    let follows = subst (λ (w : Option Version). Follows w frames v.committee v.book) end.1 come.follows in
    no_book end.0 frames end.2.opened (subst (FollowsBy end.0 frames v.committee) none follows)
  where
    no_book : (version : Version) (fs : List Frame) → 2 ≤ length fs → FollowsBy version fs v.committee None → ⊥
    no_book version [] le h = absurd (omega (arith, le))
    no_book version (f ∷ []) le h = absurd (omega (arith, le))
    no_book version (f ∷ g ∷ more) le h = absurd (let e = h.1 in cc)

pub of_feed : (v : Followed) (b : BookValue) (holds : FeedValue → Type 0) → v.book ≡ Some b → v.cut.kept ≡ [] → ((feed : FeedValue) → IsFeed feed → IsGoodBook feed b → holds feed) → OfFeed v holds
of_feed v b holds is none h = λ bytes frames come.
    let g = good_of bytes frames v b come is in
    let feed = feed_of_book bytes frames v b come g none in
    record { version = g.version; known = g.known; good = feed.0; spelled = feed.1; holds = h (feed_of g.version frames) feed.0 g.good }

pub untouched : (d : Device) → IsUntouched d d
untouched d = (refl, Keeps-refl d.bytes)

there_is : (book : Option BookValue) (P : BookValue → Type 0) → (book ≡ None → ⊥) → IfSome book P → (b : BookValue) × (book ≡ Some b) × P b
there_is None P some h = absurd (some refl)
there_is (Some b) P some h = (b, refl, h)

-- what holds of the whole frames so far holds of the feed that ends here
pub of_end : (v : Followed) (holds : FeedValue → Type 0) → EndsHere v → OfFrames v holds → OfFeed v holds
of_end v holds ends h = λ bytes frames come.
    let end = ends_as_feed bytes frames v.cut come.cuts ends.kept ends.two in
    let o = h bytes frames come in
    let same : o.0 ≡ end.0 = let e : Some o.0 ≡ Some end.0 = sym o.1 ∙ end.1 in cc in
    record { version = end.0; known = end.1; good = end.2; spelled = end.3; holds = subst (λ (w : Version). holds (feed_of w frames)) same o.2 }

-- what holds of the book of each version holds of the one of the feed
pub book_of_end : (old new : Followed) (P : FeedValue → BookValue → Type 0) → EndsHere old → new.cut ≡ old.cut
    → ((bytes : List ℕ) (frames : List Frame) → HasCome bytes frames old → HasCome bytes frames new × ((version : Version) → new.cut.version ≡ Some version → IfSome new.book (P (feed_of version frames))))
    → OfFeed old (λ feed. (b : BookValue) × (new.book ≡ Some b) × P feed b)
book_of_end old new P ends same h = λ bytes frames come.
    let end = ends_as_feed bytes frames old.cut come.cuts ends.kept ends.two in
    let after = h bytes frames come in
    record {
      version = end.0;
      known = end.1;
      good = end.2;
      spelled = end.3;
      holds = there_is new.book (P (feed_of end.0 frames))
          (book_at_end bytes frames new after.0 (ap (λ (c : Cut). c.kept) same ∙ ends.kept) (subst (λ (c : Cut). 2 ≤ c.index) (sym same) ends.two))
          (after.1 end.0 (ap (λ (c : Cut). c.version) same ∙ end.1));
    }

-- a settle of a feed that ends here closes it
pub closes : (old mid new : Followed) (n : ℕ) → EndsHere old → mid ≡ old → Settles mid new n → Closes old new
closes old mid new n ends same settled =
    let s = subst (λ (v : Followed). Settles v new n) same settled in
    record {
      come = ends.come;
      settled = s.settled;
      cut = s.cut;
      current = book_of_end old new (λ feed b. IsCurrent feed b) ends s.cut (λ bytes frames come.
          let after = s.settled bytes frames come in
          (after.0, λ version known. subst (λ (w : Option Version). IsSettledBy w frames new.book) known after.1));
    }

-- why it does not end here is why it was not closed
pub close_unended : (f : Fault) (old new : Followed) → EndsNot old f × (new ≡ broken f) → CloseFails old new f
close_unended (fault.Feed found) old new h = h
close_unended (fault.Collision id) old new h = absurd h.0
close_unended (fault.Equivocation round author first second) old new h = absurd h.0
close_unended (fault.Unfinished place) old new h = absurd h.0
close_unended (fault.Write written) old new h = absurd h.0
close_unended fault.Memory old new h = absurd h.0

-- and so is why it was not settled
pub close_unsettled : (f : Fault) (old new : Followed) → EndsHere old → SettleFails old new f → CloseFails old new f
close_unsettled (fault.Feed found) old new ends h = absurd h
close_unsettled (fault.Collision id) old new ends h = (of_end old (λ feed. IsStopIn feed (fault.Collision id)) ends h.1, h.0)
close_unsettled (fault.Equivocation round author first second) old new ends h = (of_end old (λ feed. IsStopIn feed (fault.Equivocation round author first second)) ends h.1, h.0)
close_unsettled (fault.Unfinished place) old new ends h = (of_end old (λ feed. HasPlaceIn feed place) ends h.1, h.0, h.2)
close_unsettled (fault.Write written) old new ends h = absurd h
close_unsettled fault.Memory old new ends h = (of_end old HasNoStopIn ends h.1, h.0)

some_book : (b c : BookValue) → Some b ≡ Some c → b ≡ c
some_book b c same = cc

-- the book of a feed that was closed is settled
current_of : (feed : FeedValue) (book : Option BookValue) (b : BookValue) → book ≡ Some b → ((c : BookValue) × (book ≡ Some c) × IsCurrent feed c) → IsCurrent feed b
current_of feed book b is (c, same, current) = subst (IsCurrent feed) (some_book c b (sym same ∙ is)) current

-- what holds of each feed whose settled book this is
pub on_closed : (old new : Followed) (b : BookValue) (holds : FeedValue → Type 0) → Closes old new → new.book ≡ Some b → ((feed : FeedValue) → IsFeed feed → IsCurrent feed b → holds feed) → OfFeed old holds
on_closed old new b holds closed is h = λ bytes frames come.
    let e = closed.current bytes frames come in
    record { version = e.version; known = e.known; good = e.good; spelled = e.spelled; holds = h (feed_of e.version frames) e.good (current_of (feed_of e.version frames) new.book b is e.holds) }

-- it is one of a feed
pub settled_now : (old new : Followed) → Closes old new → (feed : FeedValue) × IsFeed feed × (b : BookValue) × (new.book ≡ Some b) × IsCurrent feed b
settled_now old new closed =
    let e = closed.current closed.come.0 closed.come.1 closed.come.2 in
    (feed_of e.version closed.come.1, e.good, e.holds.0, e.holds.1, e.holds.2)

-- a Follower that works keeps no fault
pub no_fault : (stands : Option Fault) (P : Fault → Type 0) → stands ≡ None → IfSome stands P
no_fault stands P none = subst (λ (o : Option Fault). IfSome o P) (sym none) tt

-- a stop leaves all as it was
unkept : (f : Fault) (left : Followed) → kept_fault f ≡ None → after_fault f left ≡ left
unkept (fault.Feed found) left none = absurd cc
unkept (fault.Collision id) left none = refl
unkept (fault.Equivocation round author first second) left none = refl
unkept (fault.Unfinished place) left none = absurd cc
unkept (fault.Write written) left none = absurd cc
unkept fault.Memory left none = absurd cc

-- where no fault is kept
pub left_now : (f : Fault) (left : Followed) (cut : Cut) (committee : Option CommitteeValue) (book : Option BookValue) (stands : Option Fault) → stands ≡ None → stands ≡ kept_fault f → follower_of cut committee book stands ≡ after_fault f left → follower_of cut committee book None ≡ left
left_now f left cut committee book stands none kept e = (λ i. follower_of cut committee book (sym none i)) ∙ (e ∙ unkept f left (sym kept ∙ none))

-- a Follower that works keeps no fault, so it need not be empty
pub works_unbroken : (stands : Option Fault) (v : Followed) → stands ≡ None → IfSome stands (λ _. v ≡ unfed)
works_unbroken stands v none = subst (λ (o : Option Fault). IfSome o (λ _. v ≡ unfed)) (sym none) tt

-- one that keeps a fault holds nothing else
pub broken_by : (stands : Option Fault) (f : Fault) (cut : Cut) (committee : Option CommitteeValue) (book : Option BookValue) → follower_of cut committee book None ≡ unfed → stands ≡ Some f → follower_of cut committee book stands ≡ broken f
broken_by stands f cut committee book empty kept = λ i. follower_of (empty i).cut (empty i).committee (empty i).book (kept i)

pub all_broken : (stands : Option Fault) (cut : Cut) (committee : Option CommitteeValue) (book : Option BookValue) (v : Followed) → follower_of cut committee book stands ≡ v → IfSome stands (λ _. follower_of cut committee book None ≡ unfed) → IfSome stands (λ f. v ≡ broken f)
all_broken None cut committee book v is empty = tt
all_broken (Some f) cut committee book v is empty = sym is ∙ broken_by (Some f) f cut committee book empty refl

pub kept_broken : (stands : Option Fault) (f : Fault) (cut : Cut) (committee : Option CommitteeValue) (book : Option BookValue) → stands ≡ Some f → IfSome stands (λ _. follower_of cut committee book None ≡ unfed) → follower_of cut committee book stands ≡ broken f
kept_broken stands f cut committee book kept empty = broken_by stands f cut committee book (subst (λ (o : Option Fault). IfSome o (λ _. follower_of cut committee book None ≡ unfed)) kept empty) kept
