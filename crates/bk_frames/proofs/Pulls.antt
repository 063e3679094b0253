-- Pulling a feed in pieces: what has come, and what a refusal says of all bytes.
use Rattle.std.proofs.Common.{◌≡◌, ℕ, ◌+◌, ◌<◌, ◌≤◌, List, [], ◌∷◌, ◌++◌, length, Option, Some, None, refl, sym, ap, subst, ◌∙◌, arith, append_assoc, length-append}
use Rattle.std.specs.Prelude.{IfSome}
use Rattle.std.specs.Global.{Vec}
use Rattle.std.specs.Io.KnownBytes.{Consumes, IsAtEnd}
use Rattle.std.proofs.lemmas.List.{append-nil, map-append}
use Rattle.bk_base.specs.declared.kind.Kind.{Kind}
use Rattle.bk_base.specs.declared.version.Version.{Version}
use Rattle.bk_frames.specs.declared.pulling.TheConstants.{PIECE}
use Rattle.bk_frames.specs.declared.fault.FaultCode.TheVariants as code
use Rattle.bk_frames.specs.declared.fault.FeedFault.{FeedFault}
use Rattle.bk_frames.specs.Device.{Device, Works, Fails, Gives, IfKnown, GaveAll, Ends, ends_of, IsWhole}
use Rattle.bk_base.specs.Feed.{Frame, feed_of, spelling, FeedValue}
use Rattle.bk_frames.specs.FirstFault.{HasFault}
use Rattle.bk_frames.specs.Pulling.{Gave, StopsAt, FrontCallsForMemoryAt, Refuses}
use Rattle.bk_frames.specs.Cutting.{Cut, Cuts, CutsInto, IsOpen, ShowsFault, Reaches, RefusesInto, RefusesPiece, EndsShort, fresh, in_magic, past_magic, in_frames, frames_in}
use Rattle.bk_frames.specs.Reading.{AreFront, IsPulled, room_of}
use Rattle.bk_frames.proofs.Devices.{ends_at, ends_then, gives_kept, gives_none, gives_then}
use Rattle.bk_frames.proofs.FrameFaults.{by_code}
use Rattle.bk_frames.proofs.CutJoining.{bytes_so_far, none_before_magic, cuts_then, fault_is_the_feeds, memory_is_the_feeds, stops, ends_cut_short}
use Rattle.bk_frames.proofs.FrontAndWhole.{fault_stays, frames_stay}
use Rattle.bk_frames.proofs.PulledBytes.{so_long, open_short}

-- before the first byte
pub none_pulled : (start : Device) (c : Cut) → c ≡ fresh → IsPulled start start [] [] c
none_pulled start c is = subst (λ (d : Cut). IsPulled start start [] [] d) (sym is) (record {
  works = refl;
  gave = gives_none start;
  cuts = in_magic refl refl refl refl refl refl;
  is_open = λ some. absurd (omega (arith, some));
  reads = refl;
})

frames_joined : (taken : List Frame) (before more after : List (Kind × Vec ℕ)) → after ≡ before ++ more → (taken ++ frames_in before) ++ frames_in more ≡ taken ++ frames_in after
frames_joined taken before more after is =
    append_assoc taken (frames_in before) (frames_in more) ∙ ap (λ (t : List Frame). taken ++ t) (sym (map-append _ before more) ∙ ap frames_in (sym is))

-- one piece more
pub piece_pulled : (start now later : Device) (bytes piece : List ℕ) (taken : List Frame) (before after : List (Kind × Vec ℕ)) (c d : Cut) → IsPulled start now bytes (taken ++ frames_in before) c → Gives now later piece → Works now later
    → CutsInto c piece before after d → d.fault ≡ None → IsOpen d → IsPulled start later (bytes ++ piece) (taken ++ frames_in after) d
piece_pulled start now later bytes piece taken before after c d p gave works cuts reads is_open = record {
  works = works ∙ p.works;
  gave = gives_then start now later bytes piece p.gave gave;
  cuts = subst (λ (fs : List Frame). Cuts fresh (bytes ++ piece) fs d) (frames_joined taken before cuts.0 after cuts.1)
      (cuts_then fresh c d bytes piece (taken ++ frames_in before) (frames_in cuts.0) p.cuts cuts.2);
  is_open = is_open;
  reads = reads;
}

-- there is less room after it
pub room_falls : (bytes piece : List ℕ) (before more : List Frame) (c d : Cut) → Cuts fresh bytes before c → Cuts c piece more d → IsOpen d → 0 < length piece → room_of d < room_of c
room_falls bytes piece before more c d cuts next is_open some =
    let all = cuts_then fresh c d bytes piece before more cuts next in
    omega (arith, so_long bytes before c cuts, so_long (bytes ++ piece) (before ++ more) d all, open_short (bytes ++ piece) (before ++ more) d all is_open, length-append bytes piece, some)

-- the source is at its end: it gave nothing, and there was room for more
pub all_pulled : (start now later : Device) (bytes : List ℕ) (frames : List Frame) (c : Cut) → IsPulled start now bytes frames c → Gives now later [] → IsAtEnd later.bytes → IfKnown start (λ whole. whole ≡ bytes)
all_pulled start now later bytes frames c p nothing end = by_known start.bytes later.bytes (gives_then start now later bytes [] p.gave nothing).known end
  where
    by_known : (a b : Option (List ℕ)) → Consumes a b (bytes ++ []) → IsAtEnd b → IfSome a (λ whole. whole ≡ bytes)
    by_known None b gave end = tt
    by_known (Some all) None gave end = absurd gave
    by_known (Some all) (Some left) gave end = gave ∙ ap (λ (t : List ℕ). (bytes ++ []) ++ t) end ∙ append-nil (bytes ++ []) ∙ append-nil bytes

-- it did not end before, and so these are all that it had, and it ended once
pub whole_pulled : (start now later : Device) (bytes : List ℕ) (frames : List Frame) (c : Cut) (n : ℕ) → IsPulled start now bytes frames c → Ends 0 start now → Gives now later [] → IsAtEnd later.bytes → Ends (ends_of n 1) now later → n ≡ 0 → IsWhole start later bytes
whole_pulled start now later bytes frames c n p before nothing end last zero =
    (all_pulled start now later bytes frames c p nothing end, ends_then start now later before (ends_at n now later last zero))

-- a piece was refused: what all bytes show, or where memory ran out
pub refused_piece : (start now later : Device) (bytes piece : List ℕ) (frames : List Frame) (c : Cut) (found : FeedFault) → IsPulled start now bytes frames c → Gives now later piece → Works now later → length piece ≤ PIECE → RefusesPiece c piece found → Refuses found start later
refused_piece start now later bytes piece frames c found p gave works few r =
    by_code found.code ⊥ (Reaches c piece found.offset) (ShowsFault c piece found) (Fails start later × Gave start later (λ given. StopsAt given found.offset)) (Works start later × Gave start later (λ given. FrontCallsForMemoryAt given found.offset))
    (Works start later × Gave start later (λ given. HasFault given found) × IfKnown start (λ all. HasFault all found) × (found.code ≡ code.Truncated → Ends 1 start later))
    (λ h. absurd h)
    (λ h. (same, (bytes ++ piece, came, memory_is_the_feeds bytes piece frames c found.offset p.cuts h few)))
    (λ h. let shown = fault_is_the_feeds bytes piece frames c found p.cuts h in (same, (bytes ++ piece, came, shown), by_known start.bytes later.bytes came.known shown, λ short. absurd (r.shown_already short)))
    r.cause
  where
    same : Works start later
    same = works ∙ p.works

    came : Gives start later (bytes ++ piece)
    came = gives_then start now later bytes piece p.gave gave

    by_known : (a b : Option (List ℕ)) → Consumes a b (bytes ++ piece) → HasFault (bytes ++ piece) found → IfSome a (λ all. HasFault all found)
    by_known None b gave h = tt
    by_known (Some all) None gave h = absurd gave
    by_known (Some all) (Some left) gave h = subst (λ (t : List ℕ). HasFault t found) (sym gave) (fault_stays (bytes ++ piece) left found h r.shown_already)

-- the source failed
pub pull_failed : (start now later : Device) (bytes : List ℕ) (frames : List Frame) (c : Cut) (offset : ℕ) → IsPulled start now bytes frames c → Gives now later [] → Fails now later → offset ≡ c.offset → Refuses (record { offset = offset; code = code.Read }) start later
pull_failed start now later bytes frames c offset p kept fails is =
    subst (λ (o : ℕ). Refuses (record { offset = o; code = code.Read }) start later) (sym is)
    (fails ∙ ap (λ (n : ℕ). n + 1) p.works, (bytes, gives_kept start now later bytes p.gave kept, stops bytes frames c p.cuts p.is_open))

-- the frames that were cut off are those before what is being read
pub front_of : (bytes rest : List ℕ) (frames : List Frame) (c : Cut) (offset : ℕ) → Cuts fresh bytes frames c → offset ≡ c.offset → AreFront (bytes ++ rest) offset c.version frames
front_of bytes rest frames c offset cuts place = by_version c.version refl
  where
    by_version : (o : Option Version) → c.version ≡ o → AreFront (bytes ++ rest) offset o frames
    by_version None e = let z = none_before_magic bytes frames c cuts e in (place ∙ z.3, z.0)
    by_version (Some v) e = let z = bytes_so_far bytes frames c v cuts e in (c.kept ++ rest, frames_stay bytes c.kept rest (feed_of v frames) z.0, place ∙ z.2)

pub front_here : (bytes : List ℕ) (frames : List Frame) (c : Cut) (offset : ℕ) → Cuts fresh bytes frames c → offset ≡ c.offset → AreFront bytes offset c.version frames
front_here bytes frames c offset cuts place = subst (λ (t : List ℕ). AreFront t offset c.version frames) (append-nil bytes) (front_of bytes [] frames c offset cuts place)

-- they are where a piece was refused
pub front_refused : (start now later : Device) (bytes piece : List ℕ) (taken : List Frame) (before after : List (Kind × Vec ℕ)) (c : Cut) (version : Option Version) (found : FeedFault) → IsPulled start now bytes (taken ++ frames_in before) c → Gives now later piece
    → RefusesInto c piece before after version found → Gave start later (λ given. AreFront given found.offset version (taken ++ frames_in after))
front_refused start now later bytes piece taken before after c version found p gave r =
    (bytes ++ piece, gives_then start now later bytes piece p.gave gave, subst (λ (o : Option Version). AreFront (bytes ++ piece) found.offset o (taken ++ frames_in after)) (sym r.known) front)
  where
    cuts : Cuts fresh (bytes ++ r.used) (taken ++ frames_in after) r.at
    cuts = subst (λ (fs : List Frame). Cuts fresh (bytes ++ r.used) fs r.at) (frames_joined taken before r.more after r.put) (cuts_then fresh c r.at bytes r.used (taken ++ frames_in before) (frames_in r.more) p.cuts r.cuts)

    front : AreFront (bytes ++ piece) found.offset r.at.version (taken ++ frames_in after)
    front = subst (λ (t : List ℕ). AreFront t found.offset r.at.version (taken ++ frames_in after)) (append_assoc bytes r.used r.ahead ∙ ap (λ (t : List ℕ). bytes ++ t) (sym r.parts)) (front_of (bytes ++ r.used) r.ahead (taken ++ frames_in after) r.at found.offset cuts r.place)

-- and where the source failed
pub front_failed : (start now later : Device) (bytes : List ℕ) (frames : List Frame) (c : Cut) (offset : ℕ) → IsPulled start now bytes frames c → Gives now later [] → offset ≡ c.offset → Gave start later (λ given. AreFront given offset c.version frames)
front_failed start now later bytes frames c offset p kept place = (bytes, gives_kept start now later bytes p.gave kept, front_here bytes frames c offset p.cuts place)

-- a version that is known stays
pub version_stays : (a b : Cut) (piece : List ℕ) (more : List Frame) (v : Version) → Cuts a piece more b → a.version ≡ Some v → b.version ≡ Some v
version_stays a b piece more v (in_magic old new i o none text) is = absurd cc
version_stays a b piece more v (past_magic known old new text good i o) is = absurd cc
version_stays a b piece more v (in_frames known old new text good i o) is = new ∙ sym old ∙ is

-- the last piece was empty
pub at_end : (start now : Device) (bytes came : List ℕ) → length came ≡ 0 → IsWhole start now bytes → IsWhole start now (bytes ++ came)
at_end start now bytes [] none all = subst (λ (t : List ℕ). IsWhole start now t) (sym (append-nil bytes)) all
at_end start now bytes (b ∷ bs) none all = absurd (omega (arith, none))

pub whole_read : (start now : Device) (bytes : List ℕ) (feed : FeedValue) → Gives start now bytes → bytes ≡ spelling feed → IsWhole start now bytes → GaveAll start now (λ given. given ≡ spelling feed)
whole_read start now bytes feed gave is all = (bytes, gave, all, is)

-- the bytes end, and are cut short
pub ended_short : (start now : Device) (bytes : List ℕ) (frames : List Frame) (c : Cut) (f : FeedFault) → IsPulled start now bytes frames c → IsWhole start now bytes → EndsShort c f → Refuses f start now
ended_short start now bytes frames c f p all short =
    subst (λ (g : FeedFault). Refuses g start now) (sym short.is) (p.works, (bytes, p.gave, shown), by_known start.bytes all.0, λ _. all.1)
  where
    shown : HasFault bytes (record { offset = c.offset; code = code.Truncated })
    shown = subst (HasFault bytes) short.is (ends_cut_short bytes frames c f p.cuts short)

    by_known : (a : Option (List ℕ)) → IfSome a (λ whole. whole ≡ bytes) → IfSome a (λ whole. HasFault whole (record { offset = c.offset; code = code.Truncated }))
    by_known None h = tt
    by_known (Some whole) h = subst (λ (t : List ℕ). HasFault t (record { offset = c.offset; code = code.Truncated })) (sym h) shown
