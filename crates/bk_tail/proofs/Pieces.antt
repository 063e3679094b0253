-- One piece of a feed that is followed: what has come after it, or why it ended there.
use Rattle.std.proofs.Common.{◌≡◌, ℕ, ◌+◌, ◌<◌, ◌≤◌, true, false, List, [], ◌∷◌, ◌++◌, length, refl, sym, ap, subst, ◌∙◌, append-nil, length-append, arith}
use Rattle.std.specs.Io.KnownBytes.{IsAtEnd}
use Rattle.bk_base.specs.Feed.{Frame, FeedValue, feed_of}
use Rattle.bk_commit.specs.Growth.{IsPrefix}
use Rattle.bk_frames.specs.Cutting.{Cut}
use Rattle.bk_base.specs.declared.limits.TheConstants.{MOST_FEED}
use Rattle.bk_frames.specs.Device.{Device, Fails, Gives, IfKnown, IsWhole, Works}
use Rattle.bk_frames.specs.Reading.{IsPulled, room_of}
use Rattle.bk_frames.specs.declared.fault.FaultCode.TheVariants as code
use Rattle.bk_frames.specs.declared.pulling.TheConstants.{PIECE}
use Rattle.bk_frames.proofs.Devices.{gives_kept, gives_none, gives_then}
use Rattle.bk_frames.proofs.Pulls.{all_pulled, ended_short, pull_failed, refused_piece}
use Rattle.bk_frames.proofs.PulledBytes.{open_short, so_long}
use Rattle.bk_results.specs.declared.fault.Fault.{Fault}
use Rattle.bk_results.specs.declared.fault.Fault.TheVariants as fault
use Rattle.bk_answer.specs.RunReport.{HasPlaceIn, IsStopIn}
use Rattle.bk_follow.specs.Finishing.{CloseFails, Closes, OfFeed}
use Rattle.bk_follow.specs.Follower.{FeedFails, Followed, HasCome, OfFrames, SettleFails, Settles, Takes, receipts_in, unfed}
use Rattle.bk_frames.specs.Cutting.{in_magic}
use Rattle.bk_tail.specs.Tailing.{OfWholeFrames}
use Rattle.bk_tail.specs.private.Steps.{AdvanceFails, Advanced, GaveAfter, HasFollowed}

-- before the first byte
pub none_followed : (start : Device) (v : Followed) → v ≡ unfed → HasFollowed start start [] [] v
none_followed start v is = subst (HasFollowed start start [] []) (sym is) (record {
  works = refl;
  gave = gives_none start;
  come = record {
    cuts = in_magic refl refl refl refl refl refl;
    is_open = λ some. absurd (omega (arith, some));
    reads = refl;
    follows = (refl, refl);
    works = refl;
  };
})

pub whole_prefix : {X : Type 0} (xs : List X) → IsPrefix xs xs
whole_prefix xs = ([], sym (append-nil xs))

-- as the reader of feeds has it
pulled : (start now : Device) (bytes : List ℕ) (frames : List Frame) (v : Followed) → HasFollowed start now bytes frames v → IsPulled start now bytes frames v.cut
pulled start now bytes frames v h = record { works = h.works; gave = h.gave; cuts = h.come.cuts; is_open = h.come.is_open; reads = h.come.reads }

-- ---- what is said of the whole frames

pub of_frames : (v : Followed) (bytes : List ℕ) (frames : List Frame) (holds : FeedValue → Type 0) → OfFrames v holds → HasCome bytes frames v → OfWholeFrames bytes holds
of_frames v bytes frames holds of come =
    let o = of bytes frames come in
    (feed_of o.0 frames, (v.cut, come.cuts, come.is_open, o.1), o.2)

of_feed : (v : Followed) (bytes : List ℕ) (frames : List Frame) (holds : FeedValue → Type 0) → OfFeed v holds → HasCome bytes frames v → OfWholeFrames bytes holds
of_feed v bytes frames holds of come =
    let e = of bytes frames come in
    (feed_of e.version frames, (v.cut, come.cuts, come.is_open, e.known), e.holds)

gave_now : (start now : Device) (bytes : List ℕ) (holds : List ℕ → Type 0) → Gives start now bytes → holds bytes → GaveAfter start now bytes holds
gave_now start now bytes holds gave h = (bytes, gave, (whole_prefix bytes, h))

-- ---- the source failed

pub read_fails : (f : Fault) (offset : ℕ) (start now later : Device) (bytes : List ℕ) (frames : List Frame) (v : Followed) → f ≡ fault.Feed (record { offset = offset; code = code.Read }) → offset ≡ v.cut.offset → Gives now later [] → Fails now later
    → HasFollowed start now bytes frames v → (executed : ℕ) → AdvanceFails f start later bytes executed
read_fails f offset start now later bytes frames v is at kept fails h executed = subst (λ (g : Fault). AdvanceFails g start later bytes executed) (sym is) (
  pull_failed start now later bytes frames v.cut offset (pulled start now bytes frames v h) kept fails at,
  gave_now start later bytes (λ given. Unit {0}) (gives_kept start now later bytes h.gave kept) tt,
)

-- ---- the source is at its end

no_items : (piece : List ℕ) → length piece ≡ 0 → piece ≡ []
no_items [] e = refl
no_items (b ∷ piece) e = absurd (omega (arith, e))

pub nothing_more : (start now later : Device) (bytes piece : List ℕ) (frames : List Frame) (v : Followed) → length piece ≡ 0 → Gives now later piece → Works now later → HasFollowed start now bytes frames v → HasFollowed start later bytes frames v
nothing_more start now later bytes piece frames v none gave works h = record {
  works = works ∙ h.works;
  gave = subst (Gives start later) (ap (λ (t : List ℕ). bytes ++ t) (no_items piece none) ∙ append-nil bytes) (gives_then start now later bytes piece h.gave gave);
  come = h.come;
}

pub all_given : (start now later : Device) (bytes piece : List ℕ) (frames : List Frame) (v : Followed) → length piece ≡ 0 → Gives now later piece → IsAtEnd later.bytes → HasFollowed start now bytes frames v → IfKnown start (λ given. given ≡ bytes)
all_given start now later bytes piece frames v none gave end h =
    all_pulled start now later bytes frames v.cut (pulled start now bytes frames v h) (subst (Gives now later) (no_items piece none) gave) end

pub close_fails : (f : Fault) (start now : Device) (bytes : List ℕ) (frames : List Frame) (v w : Followed) → CloseFails v w f → IsWhole start now bytes → HasFollowed start now bytes frames v → AdvanceFails f start now bytes (length (receipts_in v.book))
close_fails (fault.Feed found) start now bytes frames v w c all h =
    (ended_short start now bytes frames v.cut found (pulled start now bytes frames v h) all c.0, gave_now start now bytes (λ given. Unit {0}) h.gave tt)
close_fails (fault.Collision id) start now bytes frames v w c all h =
    (h.works, gave_now start now bytes _ h.gave (of_feed v bytes frames (λ feed. IsStopIn feed (fault.Collision id)) c.0 h.come))
close_fails (fault.Equivocation round author one other) start now bytes frames v w c all h =
    (h.works, gave_now start now bytes _ h.gave (of_feed v bytes frames (λ feed. IsStopIn feed (fault.Equivocation round author one other)) c.0 h.come))
close_fails (fault.Unfinished place) start now bytes frames v w c all h =
    (c.2, h.works, gave_now start now bytes _ h.gave (of_feed v bytes frames (λ feed. HasPlaceIn feed place) c.0 h.come))
close_fails (fault.Write written) start now bytes frames v w c all h = absurd c
close_fails fault.Memory start now bytes frames v w c all h = (h.works, gave_now start now bytes (λ given. Unit {0}) h.gave tt)

pub closed : (start now : Device) (bytes : List ℕ) (frames : List Frame) (v w : Followed) → Closes v w → IfKnown start (λ given. given ≡ bytes) → HasFollowed start now bytes frames v → Advanced start now bytes frames w true
closed start now bytes frames v w c all h =
    let s = c.settled bytes frames h.come in
    let e = c.current bytes frames h.come in
    record {
      all = bytes;
      whole = frames;
      longer = whole_prefix bytes;
      more = whole_prefix frames;
      followed = record { works = h.works; gave = h.gave; come = s.0 };
      settled = s.1;
      ends = λ _. (all, record { version = e.version; known = ap (λ (x : Cut). x.version) c.cut ∙ e.known; good = e.good; spelled = e.spelled; holds = e.holds });
    }

-- ---- a piece that is refused

pub feed_fails : (f : Fault) (start now later : Device) (bytes piece : List ℕ) (frames : List Frame) (v : Followed) → Gives now later piece → Works now later → length piece ≤ PIECE → FeedFails v piece f → HasFollowed start now bytes frames v → (executed : ℕ) → AdvanceFails f start later bytes executed
feed_fails (fault.Feed found) start now later bytes piece frames v gave works few r h executed = (
  refused_piece start now later bytes piece frames v.cut found (pulled start now bytes frames v h) gave works few r,
  (bytes ++ piece, gives_then start now later bytes piece h.gave gave, ((piece, refl), tt)),
)
feed_fails (fault.Collision id) start now later bytes piece frames v gave works few r h executed = absurd r
feed_fails (fault.Equivocation round author one other) start now later bytes piece frames v gave works few r h executed = absurd r
feed_fails (fault.Unfinished place) start now later bytes piece frames v gave works few r h executed = absurd r
feed_fails (fault.Write written) start now later bytes piece frames v gave works few r h executed = absurd r
feed_fails fault.Memory start now later bytes piece frames v gave works few r h executed =
    (works ∙ h.works, (bytes ++ piece, gives_then start now later bytes piece h.gave gave, ((piece, refl), tt)))

-- ---- a piece that is taken

pub taken : (start now later : Device) (bytes piece : List ℕ) (frames : List Frame) (v w : Followed) → Gives now later piece → Works now later → Takes v piece w → HasFollowed start now bytes frames v
    → (more : List Frame) × HasFollowed start later (bytes ++ piece) (frames ++ more) w
taken start now later bytes piece frames v w gave works takes h =
    let t = takes bytes frames h.come in
    (t.0, record { works = works ∙ h.works; gave = gives_then start now later bytes piece h.gave gave; come = t.1 })

pub settle_fails : (f : Fault) (start now : Device) (bytes piece : List ℕ) (frames : List Frame) (w u : Followed) → SettleFails w u f → HasFollowed start now (bytes ++ piece) frames w → (executed : ℕ) → length (receipts_in w.book) ≡ executed → AdvanceFails f start now bytes executed
settle_fails (fault.Feed found) start now bytes piece frames w u s h executed same = absurd s
settle_fails (fault.Collision id) start now bytes piece frames w u s h executed same =
    (h.works, (bytes ++ piece, h.gave, ((piece, refl), of_frames w (bytes ++ piece) frames (λ feed. IsStopIn feed (fault.Collision id)) s.1 h.come)))
settle_fails (fault.Equivocation round author one other) start now bytes piece frames w u s h executed same =
    (h.works, (bytes ++ piece, h.gave, ((piece, refl), of_frames w (bytes ++ piece) frames (λ feed. IsStopIn feed (fault.Equivocation round author one other)) s.1 h.come)))
settle_fails (fault.Unfinished place) start now bytes piece frames w u s h executed same =
    (subst (λ (n : ℕ). n ≤ place) same s.2, h.works, (bytes ++ piece, h.gave, ((piece, refl), of_frames w (bytes ++ piece) frames (λ feed. HasPlaceIn feed place) s.1 h.come)))
settle_fails (fault.Write written) start now bytes piece frames w u s h executed same = absurd s
settle_fails fault.Memory start now bytes piece frames w u s h executed same = (h.works, (bytes ++ piece, h.gave, ((piece, refl), tt)))

pub settled : (start now : Device) (bytes piece : List ℕ) (frames more : List Frame) (w u : Followed) (count : ℕ) → Settles w u count → HasFollowed start now (bytes ++ piece) (frames ++ more) w → Advanced start now bytes frames u false
settled start now bytes piece frames more w u count s h =
    let e = s.settled (bytes ++ piece) (frames ++ more) h.come in
    record {
      all = bytes ++ piece;
      whole = frames ++ more;
      longer = (piece, refl);
      more = (more, refl);
      followed = record { works = h.works; gave = h.gave; come = e.0 };
      settled = e.1;
      ends = λ e. absurd (let e : false ≡ true = e in cc);
    }

-- there is less room after it
pub nearer : (start now later : Device) (bytes piece : List ℕ) (frames more : List Frame) (v w u : Followed) → u.cut ≡ w.cut → 0 < length piece → HasFollowed start now bytes frames v → HasFollowed start later (bytes ++ piece) more w → room_of u.cut < room_of v.cut
nearer start now later bytes piece frames more v w u same some h k =
    subst (λ (c : Cut). room_of c < room_of v.cut) (sym same) (falls (so_long bytes frames v.cut h.come.cuts) (so_long (bytes ++ piece) more w.cut k.come.cuts) (open_short (bytes ++ piece) more w.cut k.come.cuts k.come.is_open) (length-append bytes piece))
  where
    falls : length bytes ≡ v.cut.offset + length v.cut.kept → length (bytes ++ piece) ≡ w.cut.offset + length w.cut.kept → w.cut.offset + length w.cut.kept ≤ MOST_FEED + 4 → length (bytes ++ piece) ≡ length bytes + length piece → room_of w.cut < room_of v.cut
    falls a b c d = omega (arith, a, b, c, d, some)
