-- A feed of which frames are judged ahead of those that are taken.
use Rattle.std.proofs.Common.{◌≡◌, ◌+◌, ◌<◌, ◌≤◌, ◌^◌, length, length-append, List, ℕ, [], ◌∷◌, ◌++◌, true, Bool, Option, Some, None, refl, sym, ap, subst, ◌∙◌, arith}
use Rattle.std.specs.Prelude.{flat_map, MatchOption}
use Rattle.std.proofs.lemmas.List.{append-nil}
use Rattle.std.proofs.lemmas.List.Concat.{flat_map-append}
use Rattle.std.specs.Global.{Vec}
use Rattle.bk_base.specs.declared.kind.Kind.{Kind}
use Rattle.bk_base.specs.declared.version.Version.{Version}
use Rattle.bk_base.specs.Feed.{Frame, feed_of}
use Rattle.bk_committee.specs.Payload.{CommitteeValue}
use Rattle.bk_frames.specs.Device.{Device, Ends}
use Rattle.bk_frames.specs.Cutting.{Cut, Cuts, fresh, frames_in}
use Rattle.bk_order.specs.Ahead.{AheadValue, JudgedValue}
use Rattle.bk_follow.specs.declared.gathering.Inbox.{Inbox}
use Rattle.bk_follow.specs.declared.opening.Opened.{Opened}
use Rattle.bk_follow.specs.Follower.{BookValue, Follows, FollowsBy, IsBookOf}
use Rattle.bk_follow.proofs.Gathered.{followed_by, group_all, group_came, pulled_taken, took}
use Rattle.bk_follow.proofs.Openings.{follows_book, room_for_more, with_book}
use Rattle.bk_follow.specs.private.Gathering.{HasGathered, HasPulled, HasPulledAll, PullsGroup}
use Rattle.bk_follow.specs.private.Ahead.{CanTakeJudged, HasPulledAhead, IsOpenFor, TakesJudged, frames_ahead}

-- ---- frames that were judged are taken

-- there is room for their numbers
pub judged_room : (j : JudgedValue) (o : Opened) (book : BookValue) → CanTakeJudged (Some j) o → o.book ≡ Some book → book.taken.kept.next + length j.frames < 2 ^ 64
judged_room j o book (open_, (version, before, h)) is =
    room_for_more version before j.frames book (with_book version before o.committee book (subst (λ (b : Option BookValue). FollowsBy version before o.committee b) is h.follows)) h.good

pub judged_taken : (j : JudgedValue) (o : Opened) (book new : BookValue) → CanTakeJudged (Some j) o → o.book ≡ Some book → new.taken.committee ≡ book.taken.committee
    → ((version : Version) (before : List Frame) → 2 ≤ length before → IsBookOf (feed_of version before) book → IsBookOf (feed_of version (before ++ j.frames)) new) → TakesJudged (Some j) o (record { committee = o.committee; key = o.key; book = Some new })
judged_taken j o book new (open_, come) is mine takes =
    let same : book ≡ open_.0 = some_is book open_.0 (sym is ∙ open_.1) in (
      (new, refl, mine ∙ ap (λ (b : BookValue). b.taken.committee) same ∙ open_.2),
      λ version before h.
          let w = with_book version before o.committee book (subst (λ (b : Option BookValue). FollowsBy version before o.committee b) is h) in
          follows_book version (before ++ j.frames) o.committee new (omega (arith, w.two, length-append before j.frames)) (takes version before w.two w.book),
    )
  where
    some_is : (a b : BookValue) → Some a ≡ Some b → a ≡ b
    some_is a b e = cc

-- ---- the first group that is judged

-- a book is open, so the version is known
follows_open : (o : Option Version) (taken : List Frame) (k : Option CommitteeValue) (book : Option BookValue) (b : BookValue) → Follows o taken k book → book ≡ Some b → (version : Version) × (o ≡ Some version) × FollowsBy version taken k book
follows_open None taken k book b h e = absurd (let none : None ≡ Some b = sym h.1 ∙ e in cc)
follows_open (Some version) taken k book b h e = (version, refl, h)

pub none_ahead : (a : AheadValue) → a.groups ≡ [] → frames_ahead a ≡ []
none_ahead a none = ap (λ (gs : List (List Frame)). flat_map (λ fs. fs) gs) none

one_more : (gs : List (List Frame)) (waiting : List Frame) → flat_map (λ fs. fs) (gs ++ waiting ∷ []) ≡ flat_map (λ fs. fs) gs ++ waiting
one_more gs waiting = flat_map-append (λ fs. fs) gs (waiting ∷ []) ∙ ap (λ (fs : List Frame). flat_map (λ fs. fs) gs ++ fs) (append-nil waiting)

-- nothing is judged yet
pub ahead_begins : (start now : Device) (g : Inbox) (a : AheadValue) → HasPulled start now [] g → IsOpenFor a.committee g.opened → a.groups ≡ [] → HasPulledAhead start now a g
ahead_begins start now g a p open_ none = (subst (λ (fs : List Frame). HasPulled start now fs g) (sym (none_ahead a none)) p, open_)

-- the first can be taken. What is known where there is none does not matter
pub can_take_first : (bytes : List ℕ) (taken : List Frame) (g : Inbox) (a left : AheadValue) (none : Type 0) → HasGathered bytes taken (frames_ahead a) g → IsOpenFor a.committee g.opened → (found : Option JudgedValue)
    → MatchOption found (left ≡ a) (λ j. j.committee ≡ a.committee) → MatchOption found none (λ j. a.groups ≡ j.frames ∷ left.groups) → CanTakeJudged found g.opened
can_take_first bytes taken g a left none h open_ None by popped = tt
can_take_first bytes taken g a left none h open_ (Some j) by popped =
    let v = follows_open g.cutter.version taken g.opened.committee g.opened.book open_.0 h.follows open_.1 in
    ((open_.0, open_.1, open_.2 ∙ sym by), (v.0, taken, followed_by bytes taken (frames_ahead a) g h v.0 v.1 j.frames (frames_ahead left) (ap (λ (gs : List (List Frame)). flat_map (λ fs. fs) gs) popped)))

-- and is taken
pub took_first : (bytes : List ℕ) (taken : List Frame) (g : Inbox) (o : Opened) (a left : AheadValue) (none : Type 0) → HasGathered bytes taken (frames_ahead a) g → IsOpenFor a.committee g.opened → (found : Option JudgedValue) → left.committee ≡ a.committee
    → MatchOption found (left ≡ a) (λ j. j.committee ≡ a.committee) → MatchOption found none (λ j. a.groups ≡ j.frames ∷ left.groups) → TakesJudged found g.opened o
    → ((more : List Frame) × HasGathered bytes more (frames_ahead left) (record { cutter = g.cutter; opened = o })) × IsOpenFor left.committee o
took_first bytes taken g o a left none h open_ None same by popped takes = (
  (
    taken,
    record {
      cuts = subst (λ (v : AheadValue). Cuts fresh bytes (taken ++ frames_ahead v) g.cutter) (sym by) h.cuts;
      is_open = h.is_open;
      reads = h.reads;
      follows = subst (λ (p : Opened). Follows g.cutter.version taken p.committee p.book) (sym takes) h.follows;
    },
  ),
  subst (λ (p : Opened). IsOpenFor left.committee p) (sym takes) (open_.0, open_.1, open_.2 ∙ sym same),
)
took_first bytes taken g o a left none h open_ (Some j) same by popped takes =
    let v = follows_open g.cutter.version taken g.opened.committee g.opened.book open_.0 h.follows open_.1 in (
      (
        taken ++ j.frames,
        took bytes taken (frames_ahead a) g h j.frames (frames_ahead left) (ap (λ (gs : List (List Frame)). flat_map (λ fs. fs) gs) popped) o
            (subst (λ (w : Option Version). Follows w (taken ++ j.frames) o.committee o.book) (sym v.1) (takes.1 v.0 taken v.2)),
      ),
      (takes.0.0, takes.0.1, takes.0.2 ∙ by ∙ sym same),
    )

-- ---- the next group is pulled and judged

module _ (now later : Device) (g : Inbox) (o : Opened) (a left pushed : AheadValue) (none : Type 0) (found : Option JudgedValue) (same : left.committee ≡ a.committee) (by : MatchOption found (left ≡ a) (λ j. j.committee ≡ a.committee)) (popped : MatchOption found none (λ j. a.groups ≡ j.frames ∷ left.groups))
    (takes : TakesJudged found g.opened o) (before after : List (Kind × Vec ℕ)) (empty : before ≡ []) (d : Cut) (end : Bool) (group : PullsGroup now later before after g.cutter d end) (kept : pushed.committee ≡ left.committee) (push : pushed.groups ≡ left.groups ++ frames_in after ∷ [])
    (start : Device) (p : HasPulledAhead start now a g) where
  first : ((more : List Frame) × HasGathered p.0.bytes more (frames_ahead left) (record { cutter = g.cutter; opened = o })) × IsOpenFor left.committee o
  first = took_first p.0.bytes p.0.taken g o a left none p.0.come p.1 found same by popped takes

  between : HasPulled start now (frames_ahead left) (record { cutter = g.cutter; opened = o })
  between = pulled_taken start now (frames_ahead a) (frames_ahead left) g (record { cutter = g.cutter; opened = o }) p.0 first.0

  all_pushed : frames_ahead left ++ frames_in after ≡ frames_ahead pushed
  all_pushed = sym (one_more left.groups (frames_in after)) ∙ ap (λ (gs : List (List Frame)). flat_map (λ fs. fs) gs) (sym push)

  pub came_ahead : HasPulledAhead start later pushed (record { cutter = d; opened = o })
  came_ahead = (
    subst (λ (fs : List Frame). HasPulled start later fs (record { cutter = d; opened = o })) all_pushed (group_came now before empty (record { cutter = g.cutter; opened = o }) start (frames_ahead left) between later after d end group),
    (first.1.0, first.1.1, first.1.2 ∙ sym kept),
  )

  pub all_ahead : end ≡ true → Ends 0 start now → HasPulledAll start later (frames_ahead pushed) (record { cutter = d; opened = o })
  all_ahead ended before_it = subst (λ (fs : List Frame). HasPulledAll start later fs (record { cutter = d; opened = o })) all_pushed (group_all now before empty (record { cutter = g.cutter; opened = o }) start (frames_ahead left) between later after d end group ended before_it)
