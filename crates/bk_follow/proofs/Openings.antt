-- The first two frames, and the frames that a piece makes whole.
use Rattle.std.proofs.Common.{◌≡◌, true, false, ℕ, zero, suc, ◌+◌, ◌*◌, ◌^◌, ◌<◌, ◌≤◌, List, [], ◌∷◌, ◌++◌, length, take, drop, Option, Some, None, refl, sym, ap, subst, ◌∙◌, arith, length-append}
use Rattle.std.specs.Prelude.{◌==◌, IsSome, IsTrue, is_some, slice_index_or, unwrap_or}
use Rattle.std.proofs.lemmas.List.{length-map, append-nil, length-drop}
use Rattle.std.proofs.lemmas.Bool.{eqb-true}
use Rattle.std.specs.Global.{Vec}
use Rattle.bk_base.specs.declared.version.Version.{Version}
use Rattle.bk_base.specs.declared.kind.Kind.{Kind}
use Rattle.bk_base.specs.declared.limits.TheConstants.{MOST_FEED}
use Rattle.bk_base.specs.Feed.{Frame, FeedValue, frame_of, frame_text, AreGoodFrom, feed_of, genesis_of}
use Rattle.bk_base.specs.declared.genesis.Row.{Row}
use Rattle.bk_base.specs.Committee.{is_committee}
use Rattle.bk_base.specs.Genesis.{is_genesis, rows_of}
use Rattle.bk_frames.specs.Cutting.{frames_in}
use Rattle.bk_committee.specs.Payload.{CommitteeValue, committee_of}
use Rattle.bk_answer.specs.RunReport.{committee_in, later_frames}
use Rattle.bk_follow.specs.Follower.{BookValue, IsBookOf, FollowsBy, StaysSettled, counts_of_executed, receipts_in, receipts_of_executed}
use Rattle.bk_follow.specs.private.Books.{HasFollowed}
use Rattle.bk_follow.specs.private.Openings.{HeadIsCommittee, HeadIsGenesis, IsFirstOf, IsOpening, OpensFirst, OpensSecond, IsOpened}

-- nothing is whole where there is neither a committee nor a book
pub before_first : (version : Version) (before : List Frame) → FollowsBy version before None None → before ≡ []
before_first version [] h = refl
before_first version (f ∷ []) h = absurd cc
before_first version (f ∷ g ∷ more) h = absurd (let e = h.1 in cc)

-- the committee is that of the one frame that is whole
pub record IsFirst (version : Version) (before : List Frame) (k : CommitteeValue) : Type 0 where
  pub first : Frame
  pub all : before ≡ first ∷ []
  pub committee : k ≡ committee_of version first.payload

pub after_first : (version : Version) (before : List Frame) (k : CommitteeValue) → FollowsBy version before (Some k) None → IsFirst version before k
after_first version [] k h = absurd (let e = h.0 in cc)
after_first version (f ∷ []) k h = record { first = f; all = refl; committee = let e = h.0 in cc }
after_first version (f ∷ g ∷ more) k h = absurd (let e = h.1 in cc)

-- where there is a book the first two frames are whole, and it is theirs
pub record IsOpenedBy (version : Version) (before : List Frame) (b : BookValue) : Type 0 where
  pub two : 2 ≤ length before
  pub book : IsBookOf (feed_of version before) b

pub with_book : (version : Version) (before : List Frame) (committee : Option CommitteeValue) (b : BookValue) → FollowsBy version before committee (Some b) → IsOpenedBy version before b
with_book version [] committee b h = absurd (let e = h.1 in cc)
with_book version (f ∷ []) committee b h = absurd (let e = h.1 in cc)
with_book version (f ∷ g ∷ more) committee b h =
    let same : h.0 ≡ b = let e = h.1 in cc in
    record { two = omega arith; book = subst (IsBookOf (feed_of version (f ∷ g ∷ more))) same h.2 }

pub follows_book : (version : Version) (frames : List Frame) (committee : Option CommitteeValue) (b : BookValue) → 2 ≤ length frames → IsBookOf (feed_of version frames) b → FollowsBy version frames committee (Some b)
follows_book version [] committee b two book = absurd (omega (arith, two))
follows_book version (f ∷ []) committee b two book = absurd (omega (arith, two))
follows_book version (f ∷ g ∷ more) committee b two book = (b, refl, book)

-- ---- how many frames there can be

pub frames_long : (out : List (Kind × Vec ℕ)) → length (frames_in out) ≡ length out
frames_long out = length-map out (λ (f : Kind × Vec ℕ). record { kind = f.0; payload = f.1.items })

pub frames_few : (v : Version) (index offset : ℕ) (frames : List Frame) → offset ≤ MOST_FEED → AreGoodFrom v index offset frames → 5 * length frames + offset ≤ MOST_FEED
frames_few v index offset [] le good = omega (arith, le)
frames_few v index offset (f ∷ frames) le good =
    omega (arith, frames_few v (index + 1) (offset + length (frame_text f)) frames good.0.framed.inside good.1)

-- there is room for the numbers of the next frames
pub room_for_more : (version : Version) (before more : List Frame) (b : BookValue) → IsOpenedBy version before b → AreGoodFrom version 0 4 (before ++ more) → b.taken.kept.next + length more < 2 ^ 64
room_for_more version before more b opened good =
    let long : b.taken.kept.next ≡ 2 + length (drop 2 before) = opened.book.taken.next in
    omega (arith, long, length-drop 2 before, opened.two, frames_few version 0 4 (before ++ more) (omega arith) good, length-append before more)

-- ---- the first two frames

-- a list of no length is empty
pub empty_items : {X : Type 0} (n : ℕ) (xs : List X) → n ≡ length xs → true ≡ (n == 0) → xs ≡ []
empty_items n [] same e = refl
empty_items n (x ∷ xs) same e = absurd (let none = eqb-true n 0 (sym e) in omega (arith, none, same))

-- and another has a first one
pub some_items : (n : ℕ) → false ≡ (n == 0) → 0 < n
some_items zero e = absurd cc
some_items (suc n) e = omega arith

pub none_there : {X : Type 0} (o : Option X) → is_some o ≡ false → o ≡ None
none_there None e = refl
none_there (Some x) e = absurd cc

-- the first of these frames is taken out
pub first_taken : (old new : List (Kind × Vec ℕ)) (f : Kind × Vec ℕ) → 0 < length old → f ≡ slice_index_or old 0 f → new ≡ take 0 old ++ drop 1 old → IsFirstOf f.1.items (frames_in old) (frames_in new)
first_taken [] new f lt is rest = absurd (omega (arith, lt))
first_taken (g ∷ more) new f lt is rest = (
  frame_of g.0 g.1.items,
  ap (λ (fs : List (Kind × Vec ℕ)). frame_of g.0 g.1.items ∷ frames_in fs) (sym rest),
  ap (λ (x : Kind × Vec ℕ). x.1.items) (sym is),
)

pub none_is_none : {X : Type 0} (o : Option X) → is_some o ≡ true → o ≡ None → ⊥
none_is_none None e n = absurd cc
none_is_none (Some x) e n = absurd cc

-- ---- what the first two frames hold

good_committee : (version : Version) (frames : List Frame) → AreGoodFrom version 0 4 frames → HeadIsCommittee version frames
good_committee version [] good = tt
good_committee version (f ∷ more) good = good.0.committee refl

good_genesis : (version : Version) (offset : ℕ) (frames : List Frame) → AreGoodFrom version 1 offset frames → HeadIsGenesis frames
good_genesis version offset [] good = tt
good_genesis version offset (f ∷ more) good = good.0.genesis refl

pub head_first : (version : Version) (before more : List Frame) (committee : Option CommitteeValue) (book : Option BookValue) → HasFollowed version before more committee book
    → committee ≡ None → book ≡ None → HeadIsCommittee version more
head_first version before more committee book h c b =
    let follows : FollowsBy version before None None = subst (λ (y : Option CommitteeValue × Option BookValue). FollowsBy version before y.0 y.1) (λ i. (c i, b i)) h.follows in
    good_committee version more (subst (λ (fs : List Frame). AreGoodFrom version 0 4 (fs ++ more)) (before_first version before follows) h.good)

second_head : (version : Version) (first : Frame) (more : List Frame) → AreGoodFrom version 0 4 (first ∷ more) → HeadIsGenesis more
second_head version first more good = good_genesis version _ more good.1

no_some : {X : Type 0} (o : Option X) → o ≡ None → IsSome o → ⊥
no_some o e h = absurd (let n = subst IsSome e h in cc)

pub head_second : (version : Version) (before f0 f1 : List Frame) (c0 c1 : Option CommitteeValue) → OpensFirst version c0 f0 c1 f1 → HasFollowed version before f0 c0 None
    → IsSome c1 → HeadIsGenesis f1
head_second version before f0 f1 (Some k) c1 one h some =
    let e = after_first version before k h.follows in
    subst HeadIsGenesis (sym one.1) (second_head version e.first f0 (subst (λ (fs : List Frame). AreGoodFrom version 0 4 (fs ++ f0)) e.all h.good))
head_second version before [] f1 None c1 one h some = absurd (no_some c1 one.0 some)
head_second version before (f ∷ more) f1 None c1 one h some =
    subst HeadIsGenesis (sym one.1) (second_head version f more (subst (λ (fs : List Frame). AreGoodFrom version 0 4 (fs ++ (f ∷ more))) (before_first version before h.follows) h.good))

-- the payload that is taken out is that of the first frame
pub taken_committee : (version : Version) (payload : List ℕ) (old new : List Frame) → IsFirstOf payload old new → HeadIsCommittee version old → IsTrue (is_committee version payload)
taken_committee version payload [] new h head = absurd (let p = h.1 in cc)
taken_committee version payload (f ∷ more) new h head =
    let first : h.0 ≡ f = let p = h.1 in cc in
    subst (λ (p : List ℕ). IsTrue (is_committee version p)) (sym (ap (λ (x : Frame). x.payload) first) ∙ h.2) head

pub taken_genesis : (payload : List ℕ) (old new : List Frame) → IsFirstOf payload old new → HeadIsGenesis old → IsTrue (is_genesis payload)
taken_genesis payload [] new h head = absurd (let p = h.1 in cc)
taken_genesis payload (f ∷ more) new h head =
    let first : h.0 ≡ f = let p = h.1 in cc in
    subst (λ (p : List ℕ). IsTrue (is_genesis p)) (sym (ap (λ (x : Frame). x.payload) first) ∙ h.2) head

pub is_there : {X : Type 0} (o : Option X) → is_some o ≡ true → IsSome o
is_there None e = absurd cc
is_there (Some x) e = e

-- a committee is there already
pub first_stands : (version : Version) (committee : Option CommitteeValue) (frames : List Frame) → is_some committee ≡ true → OpensFirst version committee frames committee frames
first_stands version None frames e = absurd cc
first_stands version (Some k) frames e = (refl, refl)

-- no frame came
pub first_waits : (version : Version) (committee : Option CommitteeValue) (old new : List (Kind × Vec ℕ)) → is_some committee ≡ false → (old ≡ []) × (new ≡ []) → OpensFirst version committee (frames_in old) committee (frames_in new)
first_waits version (Some k) old new e h = absurd cc
first_waits version None [] new e h = (refl, ap frames_in h.1)
first_waits version None (f ∷ more) new e h = absurd (let p = h.0 in cc)

-- its first frame came
pub first_opens : (version : Version) (committee : Option CommitteeValue) (payload : List ℕ) (old new : List Frame) (k : CommitteeValue) → is_some committee ≡ false → IsFirstOf payload old new → k ≡ committee_of version payload → OpensFirst version committee old (Some k) new
first_opens version (Some j) payload old new k e h same = absurd cc
first_opens version None payload [] new k e h same = absurd (let p = h.1 in cc)
first_opens version None payload (f ∷ more) new k e h same =
    let first : h.0 ≡ f = let p = h.1 in cc in
    let rest : new ≡ more = let p = h.1 in cc in
    (ap Some (same ∙ ap (committee_of version) (sym h.2 ∙ ap (λ (x : Frame). x.payload) first)), rest)

-- there is no committee
pub second_early : (committee : Option CommitteeValue) (frames : List Frame) → is_some committee ≡ false → OpensSecond committee frames committee None frames
second_early (Some k) frames e = absurd cc
second_early None frames e = (refl, refl, refl)

-- no second frame came
pub second_waits : (committee : Option CommitteeValue) (old new : List (Kind × Vec ℕ)) → is_some committee ≡ true → (old ≡ []) × (new ≡ []) → OpensSecond committee (frames_in old) committee None (frames_in new)
second_waits None old new e h = absurd cc
second_waits (Some k) [] new e h = (refl, refl, ap frames_in h.1)
second_waits (Some k) (f ∷ more) new e h = absurd (let p = h.0 in cc)

-- the book of the second frame
pub opening_is : (k : CommitteeValue) (payload : List ℕ) (rows : List Row) (b : BookValue) (second : Frame) → second.payload ≡ payload → rows_of payload ≡ Some rows
    → ((feed : FeedValue) → later_frames feed ≡ [] → k ≡ committee_in feed → rows ≡ genesis_of feed.frames → IsBookOf feed b) → StaysSettled None (Some b) → IsOpening k second b
opening_is k payload rows b second same read book nothing =
    let spelled : rows_of second.payload ≡ Some rows = ap rows_of same ∙ read in
    (λ version first e. book (feed_of version (first ∷ second ∷ [])) refl e (sym (ap (λ (o : Option (List Row)). unwrap_or o []) spelled)), nothing)

-- the second frame came
pub second_opens : (k : CommitteeValue) (after : Option CommitteeValue) (payload : List ℕ) (old new : List Frame) (b : BookValue) → IsFirstOf payload old new → ((second : Frame) → second.payload ≡ payload → IsOpening k second b)
    → OpensSecond (Some k) old after (Some b) new
second_opens k after payload [] new b h opens = absurd (let p = h.1 in cc)
second_opens k after payload (g ∷ more) new b h opens =
    let second : g ≡ h.0 = let p = h.1 in cc in
    let rest : new ≡ more = let p = h.1 in cc in
    (b, refl, opens g (ap (λ (x : Frame). x.payload) second ∙ h.2), rest)

-- there is a book already
pub opened_stands : (version : Version) (before frames : List Frame) (committee : Option CommitteeValue) (book : Option BookValue) → is_some book ≡ true → FollowsBy version before committee book → IsOpened version (before ++ frames) committee book frames
opened_stands version before frames committee None e h = absurd cc
opened_stands version before frames committee (Some b) e h = record { front = before; parts = refl; follows = h; whole = λ p. absurd cc }

-- what the second frame opens after the first
second_opened : (version : Version) (first : Frame) (k : CommitteeValue) (old : List Frame) (committee : Option CommitteeValue) (book : Option BookValue) (left : List Frame) → k ≡ committee_of version first.payload → OpensSecond (Some k) old committee book left
    → IsOpened version (first ∷ old) committee book left
second_opened version first k [] committee book left same h = record {
  front = first ∷ [];
  parts = ap (λ (fs : List Frame). first ∷ fs) (sym h.2);
  follows = (h.0 ∙ ap Some same, h.1);
  whole = λ p. h.2;
}
second_opened version first k (g ∷ more) committee book left same h = record {
  front = first ∷ g ∷ [];
  parts = ap (λ (fs : List Frame). first ∷ g ∷ fs) (sym h.3);
  follows = (h.0, h.1, h.2.0 version first same);
  whole = λ p. absurd (let e = sym p ∙ h.1 in cc);
}

-- what the first two frames open where there is no book
pub opened_now : (version : Version) (before : List Frame) (c0 c1 c2 : Option CommitteeValue) (f0 f1 f2 : List Frame) (book : Option BookValue) → OpensFirst version c0 f0 c1 f1 → OpensSecond c1 f1 c2 book f2 → FollowsBy version before c0 None
    → IsOpened version (before ++ f0) c2 book f2
opened_now version before None c1 c2 [] f1 f2 book one two h =
    let e = before_first version before h in
    let two : OpensSecond None [] c2 book f2 = subst (λ (y : Option CommitteeValue × List Frame). OpensSecond y.0 y.1 c2 book f2) (λ i. (one.0 i, one.1 i)) two in
    subst (λ (fs : List Frame). IsOpened version (fs ++ []) c2 book f2) (sym e) (record { front = []; parts = sym two.2; follows = (two.0, two.1); whole = λ p. two.2 })
opened_now version before None c1 c2 (f ∷ more) f1 f2 book one two h =
    let e = before_first version before h in
    let two : OpensSecond (Some (committee_of version f.payload)) more c2 book f2 = subst (λ (y : Option CommitteeValue × List Frame). OpensSecond y.0 y.1 c2 book f2) (λ i. (one.0 i, one.1 i)) two in
    subst (λ (fs : List Frame). IsOpened version (fs ++ (f ∷ more)) c2 book f2) (sym e) (second_opened version f (committee_of version f.payload) more c2 book f2 refl two)
opened_now version before (Some k) c1 c2 f0 f1 f2 book one two h =
    let e = after_first version before k h in
    let two : OpensSecond (Some k) f0 c2 book f2 = subst (λ (y : Option CommitteeValue × List Frame). OpensSecond y.0 y.1 c2 book f2) (λ i. (one.0 i, one.1 i)) two in
    subst (λ (fs : List Frame). IsOpened version (fs ++ f0) c2 book f2) (sym e.all) (second_opened version e.first k f0 c2 book f2 e.committee two)

-- in the book that is opened nothing is ordered or executed
pub opened_stays : (c1 c2 : Option CommitteeValue) (f1 f2 : List Frame) (book : Option BookValue) → OpensSecond c1 f1 c2 book f2 → StaysSettled None book
opened_stays None c2 f1 f2 book h = subst (StaysSettled None) (sym h.1) (refl, refl, refl)
opened_stays (Some k) c2 [] f2 book h = subst (StaysSettled None) (sym h.1) (refl, refl, refl)
opened_stays (Some k) c2 (g ∷ more) f2 book h = subst (StaysSettled None) (sym h.1) h.2.1

-- ---- what was settled stays

pub stays_itself : (book : Option BookValue) → StaysSettled book book
stays_itself None = (refl, refl, refl)
stays_itself (Some b) = (b, refl, refl, refl)

pub stays_then : (o p q : Option BookValue) → StaysSettled o p → StaysSettled p q → StaysSettled o q
stays_then None None q h then = then
stays_then None (Some b) q h then = subst (StaysSettled None) (sym then.1) (then.2 ∙ h.0, ap receipts_of_executed then.3 ∙ h.1, ap counts_of_executed then.3 ∙ h.2)
stays_then (Some o) None q h then = absurd (let e = h.1 in cc)
stays_then (Some o) (Some b) q h then =
    let same : b ≡ h.0 = let e = h.1 in cc in
    (then.0, then.1, then.2 ∙ ap (λ (x : BookValue). x.taken.ordered) same ∙ h.2, then.3 ∙ ap (λ (x : BookValue). x.executed) same ∙ h.3)

pub receipts_stay : (o p : Option BookValue) → StaysSettled o p → receipts_in p ≡ receipts_in o
receipts_stay None p h = h.1
receipts_stay (Some b) p h = ap receipts_in h.1 ∙ ap receipts_of_executed h.3

-- ---- the frames after them

-- where there is no book all frames are followed
pub opened_whole : (version : Version) (all left : List Frame) (committee : Option CommitteeValue) (book : Option BookValue) → book ≡ None → IsOpened version all committee book left → FollowsBy version all committee book
opened_whole version all left committee book e o =
    subst (λ (fs : List Frame). FollowsBy version fs committee book) (sym (o.parts ∙ ap (λ (fs : List Frame). o.front ++ fs) (o.whole e) ∙ append-nil o.front)) o.follows

-- and where there is one it takes the others
pub took_left : (version : Version) (all left : List Frame) (committee : Option CommitteeValue) (b new : BookValue) → IsOpened version all committee (Some b) left
    → ((v : Version) (before : List Frame) → 2 ≤ length before → IsBookOf (feed_of v before) b → IsBookOf (feed_of v (before ++ left)) new) → FollowsBy version all committee (Some new)
took_left version all left committee b new o took =
    let w = with_book version o.front committee b o.follows in
    subst (λ (fs : List Frame). FollowsBy version fs committee (Some new)) (sym o.parts) (follows_book version (o.front ++ left) committee new (omega (arith, w.two, length-append o.front left)) (took version o.front w.two w.book))

-- there is room for their numbers
pub room_for_left : (version : Version) (before more : List Frame) (left : List (Kind × Vec ℕ)) (c0 c1 : Option CommitteeValue) (book : Option BookValue) (b : BookValue) → HasFollowed version before more c0 book → IsOpened version (before ++ more) c1 (Some b) (frames_in left)
    → b.taken.kept.next + length left < 2 ^ 64
room_for_left version before more left c0 c1 book b h o =
    let w = with_book version o.front c1 b o.follows in
    let room = room_for_more version o.front (frames_in left) b w (subst (AreGoodFrom version 0 4) o.parts h.good) in
    omega (arith, room, frames_long left)
