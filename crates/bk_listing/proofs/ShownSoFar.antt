-- What is listed so far, and what a call leaves.
use Rattle.std.proofs.Common.{◌≡◌, ℕ, ◌+◌, ◌^◌, ◌<◌, ◌≤◌, inl, inr, List, [], ◌∷◌, ◌++◌, length, take, Option, Some, None, refl, sym, ap, subst, ◌∙◌, arith, append_assoc, length-append}
use Rattle.std.specs.Prelude.{IfErr, OnOk, Ok, Err}
use Rattle.std.specs.declared.result.Result.{Result}
use Rattle.std.specs.List.{flat_map}
use Rattle.std.specs.Global.{Vec}
use Rattle.std.proofs.KnownBytes.{Appends-nil, Appends-kept, Keeps-refl}
use Rattle.std.proofs.lemmas.List.{append-nil}
use Rattle.std.proofs.lemmas.List.Concat.{flat_map-append, flat_map-cons}
use Rattle.bk_base.specs.declared.kind.Kind.{Kind}
use Rattle.bk_base.specs.declared.version.Version.{Version}
use Rattle.bk_base.specs.declared.limits.TheConstants.{MOST_FEED}
use Rattle.bk_base.specs.declared.version.Version.TheVariants as version
use Rattle.bk_frames.specs.declared.fault.FaultCode.{FaultCode}
use Rattle.bk_frames.specs.declared.fault.FaultCode.TheVariants as code
use Rattle.bk_frames.specs.declared.fault.FeedFault.{FeedFault}
use Rattle.bk_frames.specs.Device.{Device, Works, Fails, Ends, GaveAll, Gives, IsWhole, Receives, IfKnown}
use Rattle.bk_base.specs.Feed.{Frame, feed_of, spelling, frame_text, AreGoodFrom, IsFeed}
use Rattle.bk_frames.specs.FirstFault.{HasFault}
use Rattle.bk_frames.specs.Pulling.{ByCode, FrontCallsForMemoryAt, Gave, Refuses, StopsAt}
use Rattle.bk_frames.specs.Cutting.{Cut, fresh, frames_in}
use Rattle.bk_frames.specs.Reading.{AreFront, IsPulled, Pulls}
use Rattle.bk_frames.proofs.Devices.{appends_then, gives_none, take_past}
use Rattle.bk_frames.proofs.CutJoining.{bytes_so_far, none_before_magic, ends_as_feed, spelling_then}
use Rattle.bk_frames.proofs.Pulls.{ended_short, front_here, none_pulled}
use Rattle.bk_results.specs.declared.fault.Fault.{Fault}
use Rattle.bk_results.specs.declared.fault.Fault.TheVariants as fault
use Rattle.bk_results.specs.Devices.{Devices, IsUntouched}
use Rattle.bk_listing.specs.Listing.{IsListing}
use Rattle.bk_listing.specs.Answers.{IsListingTo, no_frames, of_frames, AllIsListed, HasForged, HasRejected, IsListedTo, FailsOnceAtMost, ListFails}
use Rattle.bk_listing.specs.declared.listing.FrameReader.{FrameReader}
use Rattle.bk_listing.specs.declared.lister.Lister.{Lister}
use Rattle.bk_listing.specs.private.FrameRow.{HasListed, ListsMore, MoreFails, GoesOn, PushFails}
use Rattle.bk_listing.specs.private.Listed.{AreListed, CanBe, CanList, IsEmptied, ListsWaiting, WaitingFails, LeavesBy, EndsBy, HasShown, waiting}
use Rattle.bk_listing.proofs.Rejected.{few_rejected}

back_empty : {X : Type 0} (xs ys : List X) → xs ++ ys ≡ [] → ys ≡ []
back_empty [] ys e = e
back_empty (x ∷ xs) ys e = absurd cc

-- ---- the frames that wait fit

good_long : (v : Version) (index offset : ℕ) (frames : List Frame) → offset ≤ MOST_FEED → AreGoodFrom v index offset frames → offset + length (flat_map frame_text frames) ≤ MOST_FEED
good_long v index offset [] le good = omega (arith, le)
good_long v index offset (f ∷ more) le good =
    let rest = good_long v (index + 1) (offset + length (frame_text f)) more good.0.framed.inside good.1 in
    omega (arith, rest, ap length (flat_map-cons frame_text f more), length-append (frame_text f) (flat_map frame_text more))

frame_each : (frames : List Frame) → length frames ≤ length (flat_map frame_text frames)
frame_each [] = omega arith
frame_each (f ∷ more) = let rest = frame_each more in omega (arith, rest, ap length (flat_map-cons frame_text f more), length-append (frame_text f) (flat_map frame_text more))

pub waiting_fits : (v : Version) (taken ws : List Frame) (text : List ℕ) (l : Lister) → HasListed v taken text l → AreGoodFrom v 0 4 (taken ++ ws) → (l.place.index + length ws < 2 ^ 64) × (l.place.offset + length (flat_map frame_text ws) < 2 ^ 64) × (l.rejected ≤ l.place.index)
waiting_fits v taken ws text l h good =
    let all = good_long v 0 4 (taken ++ ws) (omega arith) good in
    let split = ap length (flat_map-append frame_text taken ws) in
    let joined = length-append (flat_map frame_text taken) (flat_map frame_text ws) in
    (omega (arith, h.index, all, split, joined, frame_each taken, frame_each ws), omega (arith, h.offset, all, split, joined), omega (arith, h.index, few_rejected v taken l.rejected h.rejected))

-- ---- the frames that wait are listed

pub none_listed : (taken : List Frame) (text : List ℕ) (r : FrameReader) (l m : Lister) (old new : Device) → CanList taken text r l → r.cutter.version ≡ None → m ≡ l → new ≡ old → ListsWaiting taken text r m old new
none_listed taken text r l m old new h none same kept =
    let nothing : waiting r ≡ [] = h.none none in
    let frames : taken ++ waiting r ≡ taken = ap (λ (fs : List Frame). taken ++ fs) nothing ∙ append-nil taken in
    let whole : text ++ [] ≡ text = append-nil text in
    record {
      lines = [];
      out = rw kept (refl, Appends-nil old.bytes);
      listed = λ v can. rw frames (rw whole (rw same (h.listed v can)));
      written = rw whole (ap (λ (x : Lister). x.written) same ∙ h.written);
    }

pub all_listed : (taken : List Frame) (text : List ℕ) (r : FrameReader) (l m : Lister) (v : Version) (old new : Device) → CanList taken text r l → r.cutter.version ≡ Some v → ListsMore v (waiting r) l m old new → ListsWaiting taken text r m old new
all_listed taken text r l m v old new h known (lines, next, out, written) = record {
  lines = lines;
  out = out;
  listed = λ w can. let same : v ≡ w = subst (λ (o : Option Version). CanBe o w) known can in
      subst (λ (u : Version). HasListed u (taken ++ waiting r) (text ++ lines) m) same (next taken text (h.listed v (subst (λ (o : Option Version). CanBe o v) (sym known) refl)));
  written = written ∙ ap (λ (n : ℕ). n + length lines) h.written ∙ sym (length-append text lines);
}

pub more_fails : (f : Fault) (taken : List Frame) (text : List ℕ) (r : FrameReader) (l : Lister) (v : Version) (old new : Device) → CanList taken text r l → r.cutter.version ≡ Some v → MoreFails f v (waiting r) l old new → WaitingFails f taken text r old new
more_fails (fault.Feed found) taken text r l v old new h known no_way = absurd no_way
more_fails (fault.Collision id) taken text r l v old new h known no_way = absurd no_way
more_fails (fault.Equivocation round author first second) taken text r l v old new h known no_way = absurd no_way
more_fails (fault.Unfinished place) taken text r l v old new h known no_way = absurd no_way
more_fails (fault.Write written) taken text r l v old new h known (lines, next, (fails, part, is, short, out)) =
    (fails, v, known, lines, next taken text (h.listed v (subst (λ (o : Option Version). CanBe o v) (sym known) refl)), part, is ∙ ap (λ (n : ℕ). n + part) h.written, short, out)
more_fails fault.Memory taken text r l v old new h known kept = kept

pub untouched : (d : Device) → IsUntouched d d
untouched d = (refl, Keeps-refl d.bytes)

pub push_more : (f : Fault) (v : Version) (frames : List Frame) (l m : Lister) (lines out : List ℕ) (old new : Device) → GoesOn v frames l m lines → m.written ≡ l.written → out ≡ lines → PushFails f m.written out old new → MoreFails f v frames l old new
push_more (fault.Feed found) v frames l m lines out old new next same whole no_way = absurd no_way
push_more (fault.Collision id) v frames l m lines out old new next same whole no_way = absurd no_way
push_more (fault.Equivocation round author first second) v frames l m lines out old new next same whole no_way = absurd no_way
push_more (fault.Unfinished place) v frames l m lines out old new next same whole no_way = absurd no_way
push_more (fault.Write written) v frames l m lines out old new next same whole fails =
    (lines, λ before text h. (next before text h).listing, subst (λ (p : ℕ × List ℕ). PushFails (fault.Write written) p.0 p.1 old new) (λ j. (same j, whole j)) fails)
push_more fault.Memory v frames l m lines out old new next same whole kept = kept

-- ---- before a fault

pub leaves_fault : (found : FeedFault) (taken : List Frame) (text : List ℕ) (r : FrameReader) (l : Lister) (old new : Device) (f : Fault) → WaitingFails f taken text r old new → LeavesBy found f taken text r l old new
leaves_fault found taken text r l old new (fault.Feed g) h = absurd h
leaves_fault found taken text r l old new (fault.Collision id) h = h
leaves_fault found taken text r l old new (fault.Equivocation round author first second) h = h
leaves_fault found taken text r l old new (fault.Unfinished place) h = h
leaves_fault found taken text r l old new (fault.Write written) h = h
leaves_fault found taken text r l old new fault.Memory h = h

pub ends_fault : (taken : List Frame) (text : List ℕ) (r : FrameReader) (l : Lister) (old new : Device) (f : Fault) → WaitingFails f taken text r old new → EndsBy f taken text r l old new
ends_fault taken text r l old new (fault.Feed g) h = absurd h
ends_fault taken text r l old new (fault.Collision id) h = h
ends_fault taken text r l old new (fault.Equivocation round author first second) h = h
ends_fault taken text r l old new (fault.Unfinished place) h = h
ends_fault taken text r l old new (fault.Write written) h = h
ends_fault taken text r l old new fault.Memory h = h

-- ---- the whole call

pub can_list : (old now : Devices) (r : FrameReader) (l : Lister) → (h : HasShown old now r l) → CanList h.taken h.text r l
can_list old now r l h = record {
  listed = h.listed;
  written = h.written;
  good = λ v known. (bytes_so_far h.bytes (h.taken ++ waiting r) r.cutter v h.pulled.cuts known).0.good;
  none = λ none. back_empty h.taken (waiting r) (none_before_magic h.bytes (h.taken ++ waiting r) r.cutter h.pulled.cuts none).0;
}

front_good : (given : List ℕ) (offset : ℕ) (o : Option Version) (frames : List Frame) (v : Version) → o ≡ Some v → AreFront given offset o frames → AreGoodFrom v 0 4 frames
front_good given offset o frames v known h = (subst (λ (w : Option Version). AreFront given offset w frames) known h).1.good

front_none : (given : List ℕ) (offset : ℕ) (o : Option Version) (frames : List Frame) → o ≡ None → AreFront given offset o frames → frames ≡ []
front_none given offset o frames none h = (subst (λ (w : Option Version). AreFront given offset w frames) none h).1

-- the frames before a fault can be listed
pub can_list_front : (given : List ℕ) (offset : ℕ) (taken : List Frame) (text : List ℕ) (r : FrameReader) (l : Lister) → AreFront given offset r.cutter.version (taken ++ waiting r) → AreListed taken text r l → l.written ≡ length text → CanList taken text r l
can_list_front given offset taken text r l front listed written = record {
  listed = listed;
  written = written;
  good = λ v known. front_good given offset r.cutter.version (taken ++ waiting r) v known front;
  none = λ none. back_empty taken (waiting r) (front_none given offset r.cutter.version (taken ++ waiting r) none front);
}

-- the listing of the front of bytes is the listing up to its end
listing_to : (given : List ℕ) (offset : ℕ) (frames : List Frame) (text : List ℕ) (o : Option Version) → AreFront given offset o frames → ((v : Version) → CanBe o v → IsListing v frames text) → IsListingTo given offset text
listing_to given offset frames text None front listed = no_frames front.0 (subst (λ (fs : List Frame). IsListing version.One fs text) front.1 (listed version.One tt))
listing_to given offset frames text (Some v) front listed = of_frames (feed_of v frames) front.0 front.1 front.2 (listed v refl)

received : (a b c : Device) (text lines : List ℕ) → Receives a b text → Receives b c lines → Receives a c (text ++ lines)
received a b c text lines one two = appends_then a.bytes b.bytes c.bytes text lines one two

-- what can be the version later can be it now, where a version that is known stays
pub can_stay : (o p : Option Version) → ((v : Version) → o ≡ Some v → p ≡ Some v) → (v : Version) → CanBe p v → CanBe o v
can_stay None p stays v can = tt
can_stay (Some known) p stays v can = subst (λ (q : Option Version). CanBe q v) (stays known refl) can

-- more was read
abbrev pub read_on : (old now later : Devices) (r s : FrameReader) (l : Lister) (count : ℕ) → (h : HasShown old now r l) → Pulls old.source later.source h.bytes (h.taken ++ waiting s) s.cutter count
    → ((v : Version) → r.cutter.version ≡ Some v → s.cutter.version ≡ Some v) → later.sink ≡ now.sink → HasShown old later s l
read_on old now later r s l count h more stays same = record {
  taken = h.taken;
  text = h.text;
  bytes = h.bytes ++ more.came;
  pulled = more.pulled;
  listed = λ v can. h.listed v (can_stay r.cutter.version s.cutter.version stays v can);
  written = h.written;
  works = subst (λ (d : Device). Works old.sink d) (sym same) h.works;
  out = subst (λ (d : Device). Receives old.sink d h.text) (sym same) h.out;
}

-- the frames that waited are listed
pub list_on : (old now later : Devices) (r s : FrameReader) (l m : Lister) → (h : HasShown old now r l) → ListsWaiting h.taken h.text r m now.sink later.sink → IsEmptied r s → later.source ≡ now.source → HasShown old later s m
list_on old now later r s l m h w e same =
    let frames : (h.taken ++ waiting r) ++ waiting s ≡ h.taken ++ waiting r = ap (λ (fs : List (Kind × Vec ℕ)). (h.taken ++ waiting r) ++ frames_in fs) e.none_waits ∙ append-nil (h.taken ++ waiting r) in
    record {
      taken = h.taken ++ waiting r;
      text = h.text ++ w.lines;
      bytes = h.bytes;
      pulled = subst (λ (p : Device × List Frame × Cut). IsPulled old.source p.0 h.bytes p.1 p.2) (λ j. (sym same j, sym frames j, sym e.cutter j)) h.pulled;
      listed = λ v can. w.listed v (subst (λ (c : Cut). CanBe c.version v) e.cutter can);
      written = w.written;
      works = w.out.0 ∙ h.works;
      out = received old.sink now.sink later.sink h.text w.lines h.out w.out.1;
    }

-- of a feed whose bytes all came all frames are listed, and counted where they are rejected, and the first that is
-- rejected for its tags is found
pub all_shown : (old now later : Devices) (r : FrameReader) (l m : Lister) → (h : HasShown old now r l) → ListsWaiting h.taken h.text r m now.sink later.sink → (r.cutter.kept ≡ []) × (2 ≤ r.cutter.index) → later.source ≡ now.source
    → IsWhole old.source later.source h.bytes
    → GaveAll old.source later.source (AllIsListed old.sink later.sink) × GaveAll old.source later.source (HasRejected m.rejected) × GaveAll old.source later.source (HasForged m.forged)
all_shown old now later r l m h w ends same all = (
  (h.bytes, gave, all, (feed_of z.0 frames, z.2, z.3, h.text ++ w.lines, listed.listing, received old.sink now.sink later.sink h.text w.lines h.out w.out.1)),
  (h.bytes, gave, all, record { feed = feed_of z.0 frames; good = z.2; spelled = z.3; holds = listed.rejected }),
  (h.bytes, gave, all, record { feed = feed_of z.0 frames; good = z.2; spelled = z.3; holds = listed.forged }),
)
  where
    frames : List Frame
    frames = h.taken ++ waiting r

    gave : Gives old.source later.source h.bytes
    gave = subst (λ (d : Device). Gives old.source d h.bytes) (sym same) h.pulled.gave

    z : (v : Version) × (r.cutter.version ≡ Some v) × IsFeed (feed_of v frames) × (h.bytes ≡ spelling (feed_of v frames))
    z = ends_as_feed h.bytes frames r.cutter h.pulled.cuts ends.0 ends.1

    listed : HasListed z.0 frames (h.text ++ w.lines) m
    listed = w.listed z.0 (subst (λ (o : Option Version). CanBe o z.0) (sym z.1) refl)

-- ---- faults

from_code : (e : FaultCode) (P Q R G : Type 0) → (P → G) → (Q → G) → (R → G) → ByCode e P Q R → G
from_code code.Read P Q R G p q r h = p h
from_code code.Memory P Q R G p q r h = q h
from_code code.Magic P Q R G p q r h = r h
from_code code.Truncated P Q R G p q r h = r h
from_code code.Kind P Q R G p q r h = r h
from_code code.Length P Q R G p q r h = r h
from_code code.Committee P Q R G p q r h = r h
from_code code.Genesis P Q R G p q r h = r h
from_code code.Extra P Q R G p q r h = r h

refuses_once : (found : FeedFault) (a b : Device) → Refuses found a b → FailsOnceAtMost a b
refuses_once found a b h =
    from_code found.code (Fails a b × Gave a b (λ given. StopsAt given found.offset)) (Works a b × Gave a b (λ given. FrontCallsForMemoryAt given found.offset)) (Works a b × Gave a b (λ given. HasFault given found) × IfKnown a (λ bytes. HasFault bytes found) × (found.code ≡ code.Truncated → Ends 1 a b)) (FailsOnceAtMost a b)
    (λ x. inr x.0) (λ x. inl x.0) (λ x. inl x.0) h

good_front : (v : Version) (index offset : ℕ) (xs ys : List Frame) → AreGoodFrom v index offset (xs ++ ys) → AreGoodFrom v index offset xs
good_front v index offset [] ys h = tt
good_front v index offset (x ∷ xs) ys h = (h.0, good_front v (index + 1) (offset + length (frame_text x)) xs ys h.1)

-- what is listed is the listing of a front
listing_of_front : (given : List ℕ) (offset : ℕ) (taken ws : List Frame) (text : List ℕ) (o : Option Version) → AreFront given offset o (taken ++ ws) → ((v : Version) → CanBe o v → IsListing v taken text) → (at : ℕ) × IsListingTo given at text
listing_of_front given offset taken ws text None front listed =
    (0, no_frames refl (subst (λ (fs : List Frame). IsListing version.One fs text) (front_empty taken ws front.1) (listed version.One tt)))
  where
    front_empty : (xs ys : List Frame) → xs ++ ys ≡ [] → xs ≡ []
    front_empty [] ys e = refl
    front_empty (x ∷ xs) ys e = absurd cc
listing_of_front given offset taken ws text (Some v) (rest, begins, place) listed = (
  length (spelling (feed_of v taken)),
  of_frames (feed_of v taken) (flat_map frame_text ws ++ rest) (record {
    spelled = begins.spelled ∙ ap (λ (t : List ℕ). t ++ rest) (spelling_then v taken ws) ∙ append_assoc (spelling (feed_of v taken)) (flat_map frame_text ws) rest;
    good = good_front v 0 4 taken ws begins.good;
  }) refl (listed v refl),
)

module _ (old now later : Devices) (taken : List Frame) (text : List ℕ) (r : FrameReader) (l : Lister) (given : List ℕ) (offset : ℕ) (front : AreFront given offset r.cutter.version (taken ++ waiting r)) (gave : Gives old.source later.source given)
    (once : FailsOnceAtMost old.source later.source) (listed : AreListed taken text r l) (works : Works old.sink now.sink) (out : Receives old.sink now.sink text) where
  -- frames that were to be listed are not
  pub waiting_fault : (f : Fault) → WaitingFails f taken text r now.sink later.sink → ListFails f old later
  waiting_fault (fault.Feed g) h = absurd h
  waiting_fault (fault.Collision id) h = h
  waiting_fault (fault.Equivocation round author first second) h = h
  waiting_fault (fault.Unfinished place) h = h
  waiting_fault (fault.Write written) (fails, v, known, lines, listing, part, is, short, more) =
      let here = subst (λ (o : Option Version). AreFront given offset o (taken ++ waiting r)) known front in (
        once,
        fails ∙ ap (λ (n : ℕ). n + 1) works,
        (
          given,
          gave,
          (
            offset,
            text ++ lines,
            of_frames (feed_of v (taken ++ waiting r)) here.0 here.1 here.2 listing,
            omega (arith, is, short, length-append text lines),
            subst (λ (t : List ℕ). Receives old.sink later.sink t) (sym (take_past text lines part written is)) (received old.sink now.sink later.sink text (take part lines) out more),
          ),
        ),
      )
  waiting_fault fault.Memory (kept, none) =
      let to = listing_of_front given offset taken (waiting r) text r.cutter.version front (λ v can. (listed v can).listing) in
      (once, kept ∙ works, (given, gave, (to.0, (text, to.1, Appends-kept old.sink.bytes now.sink.bytes later.sink.bytes text out none))))

  -- all frames before the fault are listed
  pub front_listed : (m : Lister) → ListsWaiting taken text r m now.sink later.sink → Works old.sink later.sink × Gave old.source later.source (IsListedTo offset old.sink later.sink)
  front_listed m w =
      (w.out.0 ∙ works, (given, gave, (text ++ w.lines, listing_to given offset (taken ++ waiting r) (text ++ w.lines) r.cutter.version front (λ v can. (w.listed v can).listing), received old.sink now.sink later.sink text w.lines out w.out.1)))

-- before a fault that was read
pub before_fault : (old now later : Devices) (r s : FrameReader) (l m : Lister) (found : FeedFault) (f : Fault) → (h : HasShown old now r l) → Refuses found old.source later.source × Gave old.source later.source (λ given. AreFront given found.offset s.cutter.version (h.taken ++ waiting s))
    → ((v : Version) → r.cutter.version ≡ Some v → s.cutter.version ≡ Some v) → LeavesBy found f h.taken h.text s m now.sink later.sink → ListFails f old later
before_fault old now later r s l m found f h (refused, (given, gave, front)) stays leaves = by_fault f leaves
  where
    once : FailsOnceAtMost old.source later.source
    once = refuses_once found old.source later.source refused

    listed : AreListed h.taken h.text s l
    listed v can = h.listed v (can_stay r.cutter.version s.cutter.version stays v can)

    by_fault : (g : Fault) → LeavesBy found g h.taken h.text s m now.sink later.sink → ListFails g old later
    by_fault (fault.Feed g) (same, w) =
        let all = front_listed old now later h.taken h.text s l given found.offset front gave once listed h.works h.out m w in
        subst (λ (x : FeedFault). ListFails (fault.Feed x) old later) (sym same) (refused, all.0, all.1)
    by_fault (fault.Collision id) no_way = absurd no_way
    by_fault (fault.Equivocation round author first second) no_way = absurd no_way
    by_fault (fault.Unfinished place) no_way = absurd no_way
    by_fault (fault.Write written) fails = waiting_fault old now later h.taken h.text s l given found.offset front gave once listed h.works h.out (fault.Write written) fails
    by_fault fault.Memory fails = waiting_fault old now later h.taken h.text s l given found.offset front gave once listed h.works h.out fault.Memory fails

own_front : (old now : Devices) (r : FrameReader) (l : Lister) → (h : HasShown old now r l) → AreFront h.bytes r.cutter.offset r.cutter.version (h.taken ++ waiting r)
own_front old now r l h = front_here h.bytes (h.taken ++ waiting r) r.cutter r.cutter.offset h.pulled.cuts refl

-- in the midst of the feed
pub midst_fault : (old now later : Devices) (r : FrameReader) (l : Lister) (f : Fault) → (h : HasShown old now r l) → later.source ≡ now.source → WaitingFails f h.taken h.text r now.sink later.sink → ListFails f old later
midst_fault old now later r l f h same fails =
    waiting_fault old now later h.taken h.text r l h.bytes r.cutter.offset (own_front old now r l h) (subst (λ (d : Device). Gives old.source d h.bytes) (sym same) h.pulled.gave) (inl (subst (λ (d : Device). Works old.source d) (sym same) h.pulled.works)) h.listed h.works h.out f fails

-- at the end of the feed
pub end_fault : (old now later : Devices) (r : FrameReader) (l m : Lister) (f : Fault) → (h : HasShown old now r l) → later.source ≡ now.source → IsWhole old.source now.source h.bytes → EndsBy f h.taken h.text r m now.sink later.sink → ListFails f old later
end_fault old now later r l m (fault.Feed found) h same all (short, w) =
    let refused : Refuses found old.source later.source = subst (λ (d : Device). Refuses found old.source d) (sym same) (ended_short old.source now.source h.bytes (h.taken ++ waiting r) r.cutter found h.pulled all short) in
    let gave = subst (λ (d : Device). Gives old.source d h.bytes) (sym same) h.pulled.gave in
    let listed = front_listed old now later h.taken h.text r l h.bytes r.cutter.offset (own_front old now r l h) gave (refuses_once found old.source later.source refused) h.listed h.works h.out m w in
    (refused, listed.0, subst (λ (n : ℕ). Gave old.source later.source (IsListedTo n old.sink later.sink)) (sym (ap (λ (x : FeedFault). x.offset) short.is)) listed.1)
end_fault old now later r l m (fault.Collision id) h same all no_way = absurd no_way
end_fault old now later r l m (fault.Equivocation round author first second) h same all no_way = absurd no_way
end_fault old now later r l m (fault.Unfinished place) h same all no_way = absurd no_way
end_fault old now later r l m (fault.Write written) h same all fails = midst_fault old now later r l (fault.Write written) h same fails
end_fault old now later r l m fault.Memory h same all fails = midst_fault old now later r l fault.Memory h same fails

-- before the first byte
pub none_shown : (old : Devices) (r : FrameReader) (l : Lister) → r.cutter ≡ fresh → r.frames.items ≡ [] → ((v : Version) → HasListed v [] [] l) → l.written ≡ 0 → HasShown old old r l
none_shown old r l begun none listed written = record {
  taken = [];
  text = [];
  bytes = [];
  pulled = subst (λ (fs : List (Kind × Vec ℕ)). IsPulled old.source old.source [] (frames_in fs) r.cutter) (sym none) (none_pulled old.source r.cutter begun);
  listed = λ v can. listed v;
  written = written;
  works = refl;
  out = Appends-nil old.sink.bytes;
}

-- memory ran out before the first byte
pub no_memory : (old : Devices) → ListFails fault.Memory old old
no_memory old = (inl refl, refl, ([], gives_none old.source, (0, ([], no_frames refl refl, Appends-nil old.sink.bytes))))

-- ---- results

pub ok_two : {T E : Type 0} (r : Result T E) (A B C : Type 0) → OnOk r A → OnOk r B → (A → B → C) → OnOk r C
ok_two (Ok x) A B C a b f = f a b
ok_two (Err e) A B C a b f = tt

pub err_on : {T E : Type 0} (r : Result T E) (P Q : E → Type 0) → IfErr r P → ((e : E) → P e → Q e) → IfErr r Q
err_on (Ok x) P Q p f = tt
err_on (Err e) P Q p f = f e p
