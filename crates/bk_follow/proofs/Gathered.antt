-- A feed whose bytes are cut before their frames are taken.
use Rattle.std.proofs.Common.{◌≡◌, ℕ, ◌+◌, ◌⊎◌, inl, inr, List, [], ◌∷◌, ◌++◌, length, Bool, true, Option, Some, None, refl, sym, ap, subst, ◌∙◌, arith, append_assoc}
use Rattle.std.proofs.lemmas.List.{append-nil}
use Rattle.std.specs.Global.{Vec}
use Rattle.bk_base.specs.declared.version.Version.{Version}
use Rattle.bk_base.specs.declared.kind.Kind.{Kind}
use Rattle.bk_base.specs.Feed.{AreGoodFrom, Frame, frame_text}
use Rattle.bk_frames.specs.declared.fault.FeedFault.{FeedFault}
use Rattle.bk_frames.specs.Cutting.{Cut, Cuts, in_magic, past_magic, in_frames, fresh, IsOpen, frames_in}
use Rattle.bk_frames.specs.Device.{CanBeUsed, Device, Ends, GaveAll, Works}
use Rattle.bk_frames.specs.Pulling.{Refuses}
use Rattle.bk_frames.specs.Reading.{IsPulled}
use Rattle.bk_frames.proofs.CutJoining.{bytes_so_far, cuts_then, none_before_magic}
use Rattle.bk_frames.proofs.Devices.{gives_none}
use Rattle.bk_follow.specs.Follower.{FollowsBy, Follows, Followed, HasCome, unfed}
use Rattle.bk_follow.specs.Replaying.{AllHasCome}
use Rattle.bk_follow.specs.private.Books.{HasFollowed}
use Rattle.bk_follow.specs.private.Gathering.{CanPull, CanTake, HasGathered, HasPulled, HasPulledAll, OfPulled, PullsGroup, TakesAll, TakesNext}
use Rattle.bk_follow.specs.private.Parts.{followed}
use Rattle.bk_follow.specs.declared.gathering.Inbox.{Inbox}
use Rattle.bk_follow.specs.declared.opening.Opened.{Opened}

front_empty : {X : Type 0} (xs ys : List X) → xs ++ ys ≡ [] → xs ≡ []
front_empty [] ys e = refl
front_empty (x ∷ xs) ys e = absurd cc

-- a cutter that knows a version knew it before, or knew none
version_stays : (a b : Cut) (piece : List ℕ) (more : List Frame) (version : Version) → Cuts a piece more b → b.version ≡ Some version → (a.version ≡ None) ⊎ (a.version ≡ Some version)
version_stays a b piece more version (in_magic old new i o none text) e = inl old
version_stays a b piece more version (past_magic v old new text good i o) e = inl old
version_stays a b piece more version (in_frames v old new text good i o) e = let same : v ≡ version = cc in inr (old ∙ ap Some same)

-- a cutter that knows no version knew none before
no_version_before : (a b : Cut) (piece : List ℕ) (more : List Frame) → Cuts a piece more b → b.version ≡ None → a.version ≡ None
no_version_before a b piece more (in_magic old new i o none text) e = old
no_version_before a b piece more (past_magic v old new text good i o) e = absurd cc
no_version_before a b piece more (in_frames v old new text good i o) e = absurd cc

-- the frames before the last ones are good
good_front : (version : Version) (index offset : ℕ) (xs ys : List Frame) → AreGoodFrom version index offset (xs ++ ys) → AreGoodFrom version index offset xs
good_front version index offset [] ys h = tt
good_front version index offset (x ∷ xs) ys h = (h.0, good_front version (index + 1) (offset + length (frame_text x)) xs ys h.1)

module _ (bytes : List ℕ) (taken left : List Frame) (g : Inbox) (h : HasGathered bytes taken left g) where
  -- what is followed, as the version is known
  follows_in : (o : Option Version) → g.cutter.version ≡ o → Follows o taken g.opened.committee g.opened.book
  follows_in o known = subst (λ (w : Option Version). Follows w taken g.opened.committee g.opened.book) known h.follows

  none_taken : g.cutter.version ≡ None → taken ≡ []
  none_taken none = front_empty taken left (none_before_magic bytes (taken ++ left) g.cutter h.cuts none).0

  -- the same in the version that is known later
  follows_then : (version : Version) → (g.cutter.version ≡ None) ⊎ (g.cutter.version ≡ Some version) → FollowsBy version taken g.opened.committee g.opened.book
  follows_then version (inl none) = subst (λ (fs : List Frame). FollowsBy version fs g.opened.committee g.opened.book) (sym (none_taken none)) (follows_in None none)
  follows_then version (inr known) = follows_in (Some version) known

  follows_on : (new : Cut) (piece : List ℕ) (more : List Frame) → Cuts g.cutter piece more new → (o : Option Version) → new.version ≡ o → Follows o taken g.opened.committee g.opened.book
  follows_on new piece more cuts None e = follows_in None (no_version_before g.cutter new piece more cuts e)
  follows_on new piece more cuts (Some version) e = follows_then version (version_stays g.cutter new piece more version cuts e)

  -- more bytes were cut
  pub gathered_by : (new : Cut) (piece : List ℕ) (more : List Frame) → Cuts g.cutter piece more new → (all : List ℕ) (next : List Frame) → Cuts fresh all (taken ++ next) new → IsOpen new → new.fault ≡ None → HasGathered all taken next (record { cutter = new; opened = g.opened })
  gathered_by new piece more cuts all next so_far is_open reads = record { cuts = so_far; is_open = is_open; reads = reads; follows = follows_on new piece more cuts new.version refl }

  regrouped : (next rest : List Frame) → left ≡ next ++ rest → taken ++ left ≡ (taken ++ next) ++ rest
  regrouped next rest parts = ap (λ (fs : List Frame). taken ++ fs) parts ∙ sym (append_assoc taken next rest)

  -- the first of the frames that are left are good ones
  pub followed_by : (version : Version) → g.cutter.version ≡ Some version → (next rest : List Frame) → left ≡ next ++ rest → HasFollowed version taken next g.opened.committee g.opened.book
  followed_by version known next rest parts = record {
    follows = follows_in (Some version) known;
    good = good_front version 0 4 (taken ++ next) rest (subst (AreGoodFrom version 0 4) (regrouped next rest parts) (bytes_so_far bytes (taken ++ left) g.cutter version h.cuts known).0.good);
  }

  -- and are taken
  pub took : (next rest : List Frame) → left ≡ next ++ rest → (o : Opened) → Follows g.cutter.version (taken ++ next) o.committee o.book → HasGathered bytes (taken ++ next) rest (record { cutter = g.cutter; opened = o })
  took next rest parts o follows = record { cuts = subst (λ (fs : List Frame). Cuts fresh bytes fs g.cutter) (regrouped next rest parts) h.cuts; is_open = h.is_open; reads = h.reads; follows = follows }

  -- all that are left can be taken
  pub can_take : (version : Option Version) → g.cutter.version ≡ version → CanTake version left g.opened
  can_take None known = tt
  can_take (Some version) known = (taken, followed_by version known left [] (sym (append-nil left)))

  follows_next : (version : Option Version) → g.cutter.version ≡ version → (o : Opened) → TakesNext version left g.opened o → Follows version (taken ++ left) o.committee o.book
  follows_next None known o same = subst (λ (p : Opened). (p.committee ≡ None) × (p.book ≡ None)) (sym same) (follows_in None known)
  follows_next (Some version) known o takes = takes taken (follows_in (Some version) known)

  pub took_all : (version : Option Version) → g.cutter.version ≡ version → (o : Opened) → TakesNext version left g.opened o → HasGathered bytes (taken ++ left) [] (record { cutter = g.cutter; opened = o })
  took_all version known o takes =
      took left [] (sym (append-nil left)) o (subst (λ (w : Option Version). Follows w (taken ++ left) o.committee o.book) (sym known) (follows_next version known o takes))

  -- where none are left all has come
  pub all_come : (v : Followed) → v ≡ followed g.cutter g.opened → left ≡ [] → HasCome bytes taken v
  all_come v is none = subst (λ (w : Followed). HasCome bytes taken w) (sym is) (record {
    cuts = subst (λ (fs : List Frame). Cuts fresh bytes fs g.cutter) (ap (λ (fs : List Frame). taken ++ fs) none ∙ append-nil taken) h.cuts;
    is_open = h.is_open;
    reads = h.reads;
    follows = h.follows;
    works = refl;
  })

-- ---- a piece

-- a piece came, and its frames are left
pub piece_left : (bytes : List ℕ) (frames : List Frame) (cut new : Cut) (o : Opened) (piece : List ℕ) (more : List Frame) → HasCome bytes frames (followed cut o) → Cuts cut piece more new → (new.fault ≡ None) × IsOpen new
    → HasGathered (bytes ++ piece) frames more (record { cutter = new; opened = o })
piece_left bytes frames cut new o piece more come cuts ready =
    gathered_by bytes frames [] (record { cutter = cut; opened = o })
    (record { cuts = subst (λ (fs : List Frame). Cuts fresh bytes fs cut) (sym (append-nil frames)) come.cuts; is_open = come.is_open; reads = come.reads; follows = come.follows })
    new piece more cuts (bytes ++ piece) more (cuts_then fresh cut new bytes piece frames more come.cuts cuts) ready.1 ready.0

-- they are taken
pub piece_taken : (bytes : List ℕ) (frames : List Frame) (new : Cut) (o after : Opened) (more : List Frame) (version : Option Version) → HasGathered bytes frames more (record { cutter = new; opened = o }) → new.version ≡ version → TakesNext version more o after
    → (out : List Frame) × HasCome bytes (frames ++ out) (followed new after)
piece_taken bytes frames new o after more version h known takes =
    (more, all_come bytes (frames ++ more) [] (record { cutter = new; opened = after }) (took_all bytes frames more (record { cutter = new; opened = o }) h version known after takes) (followed new after) refl refl)

-- ---- what a source gave

-- before the first byte
pub none_pulled : (start : Device) (g : Inbox) → followed g.cutter g.opened ≡ unfed → HasPulled start start [] g
none_pulled start g first = record {
  bytes = [];
  taken = [];
  works = refl;
  gave = gives_none start;
  come = record {
    cuts = subst (Cuts fresh [] []) (sym (ap (λ (v : Followed). v.cut) first)) (in_magic refl refl refl refl refl refl);
    is_open = subst IsOpen (sym (ap (λ (v : Followed). v.cut) first)) (λ some. absurd (omega (arith, some)));
    reads = ap (λ (v : Followed). v.cut.fault) first;
    follows = subst (λ (v : Followed). Follows v.cut.version [] v.committee v.book) (sym first) (refl, refl);
  };
}

-- the frames that are left are taken
pub pulled_taken : (start now : Device) (left next : List Frame) (g w : Inbox) (p : HasPulled start now left g) → ((taken : List Frame) × HasGathered p.bytes taken next w) → HasPulled start now next w
pulled_taken start now left next g w p (taken, come) = record { bytes = p.bytes; taken = taken; works = p.works; gave = p.gave; come = come }

pub all_taken : (start now : Device) (left : List Frame) (g w : Inbox) → TakesAll left g w → HasPulledAll start now left g → HasPulledAll start now [] w
all_taken start now left g w takes (given, gives, whole, (taken, come)) = (given, gives, whole, takes given taken come)

-- all that was gathered has come
pub source_come : (start now : Device) (g : Inbox) (v : Followed) → v ≡ followed g.cutter g.opened → HasPulledAll start now [] g → GaveAll start now (λ bytes. AllHasCome bytes v)
source_come start now g v is (given, gives, whole, (taken, h)) = (given, gives, whole, (taken, all_come given taken [] g h v is refl))

module _ (now : Device) (before : List (Kind × Vec ℕ)) (none : before ≡ []) (g : Inbox) (start : Device) (left : List Frame) (p : HasPulled start now left g) where
  cut_so_far : IsPulled start now p.bytes ((p.taken ++ left) ++ frames_in before) g.cutter
  cut_so_far = record {
    works = p.works;
    gave = p.gave;
    cuts = subst (λ (fs : List Frame). Cuts fresh p.bytes fs g.cutter) (sym (ap (λ (t : List (Kind × Vec ℕ)). (p.taken ++ left) ++ frames_in t) none ∙ append-nil (p.taken ++ left))) p.come.cuts;
    is_open = p.come.is_open;
    reads = p.come.reads;
  }

  -- the next group can be pulled
  pub can_pull : CanPull now before g.cutter
  can_pull = (start, p.bytes, p.taken ++ left, cut_so_far)

  -- or that is refused
  pub pull_refused : (later : Device) (fault : FeedFault) → OfPulled now before g.cutter (λ start bytes taken. Refuses fault start later) → Refuses fault start later
  pull_refused later fault refused = refused start p.bytes (p.taken ++ left) cut_so_far

  module _ (later : Device) (after : List (Kind × Vec ℕ)) (d : Cut) (end : Bool) (group : PullsGroup now later before after g.cutter d end) where
    pub group_works : Works start later
    group_works = (group.pulls start p.bytes (p.taken ++ left) cut_so_far).1.pulled.works

    group_left : (bytes : List ℕ) → IsPulled start later bytes ((p.taken ++ left) ++ frames_in after) d → HasGathered bytes p.taken (left ++ frames_in after) (record { cutter = d; opened = g.opened })
    group_left bytes q =
        gathered_by p.bytes p.taken left g p.come d group.cuts.0 (frames_in group.cuts.1.0) group.cuts.1.2 bytes (left ++ frames_in after)
        (subst (λ (fs : List Frame). Cuts fresh bytes fs d) (append_assoc p.taken left (frames_in after)) q.cuts) q.is_open q.reads

    -- its frames are left
    pub group_came : HasPulled start later (left ++ frames_in after) (record { cutter = d; opened = g.opened })
    group_came =
        let q = (group.pulls start p.bytes (p.taken ++ left) cut_so_far).1 in
        record { bytes = p.bytes ++ q.came; taken = p.taken; works = q.pulled.works; gave = q.pulled.gave; come = group_left (p.bytes ++ q.came) q.pulled }

    pub group_all : end ≡ true → Ends 0 start now → HasPulledAll start later (left ++ frames_in after) (record { cutter = d; opened = g.opened })
    group_all ended before_it =
        let e = group.all ended start p.bytes (p.taken ++ left) cut_so_far before_it in
        (e.0, e.2.gave, e.1, (p.taken, group_left e.0 e.2))

-- a source that still works can be used as before
pub usable_then : (start now later : Device) → Works start now → Works start later → CanBeUsed now → CanBeUsed later
usable_then start now later works then sound = omega (arith, works, then, sound)
