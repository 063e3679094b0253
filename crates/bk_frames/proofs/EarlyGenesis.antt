-- Memory that ran out for the opening accounts, in the piece that made frame 1 whole.
use Rattle.std.proofs.Common.{◌≡◌, ℕ, ◌+◌, ◌<◌, ◌≤◌, Bool, true, false, ltb, List, [], ◌∷◌, ◌++◌, length, take, drop, Option, Some, None, refl, sym, ap, subst, ◌∙◌, arith, length-append, append_assoc}
use Rattle.std.specs.Prelude.{IfSome}
use Rattle.std.specs.Global.{Vec}
use Rattle.std.specs.List.{flat_map}
use Rattle.std.proofs.lemmas.Bool.{ltb-true, ltb-false}
use Rattle.std.proofs.lemmas.List.{append-nil, take-append-le, take_at, take-append-drop}
use Rattle.std.proofs.lemmas.List.Concat.{flat_map-cons}
use Rattle.bk_frames.specs.declared.fault.FaultCode.{FaultCode}
use Rattle.bk_frames.specs.declared.fault.FaultCode.TheVariants as code
use Rattle.bk_frames.specs.declared.fault.FeedFault.{FeedFault}
use Rattle.bk_frames.specs.declared.pulling.TheConstants.{PIECE}
use Rattle.bk_base.specs.declared.genesis.Row.{Row}
use Rattle.bk_base.specs.declared.kind.Kind.{Kind}
use Rattle.bk_base.specs.declared.version.Version.{Version}
use Rattle.bk_base.specs.declared.version.Version.TheVariants.{One}
use Rattle.bk_frames.specs.Device.{Device}
use Rattle.bk_base.specs.Feed.{Frame, feed_of, genesis_of, frame_text, magic, spelling, AreGoodFrom, IsFramedAt, IsGoodAt}
use Rattle.bk_frames.specs.FirstFault.{frame_fault, start_fault, Begins}
use Rattle.bk_frames.specs.Cutting.{Cut, Cuts, in_magic, past_magic, in_frames, IsOpen, fault_at, fresh, frames_in}
use Rattle.bk_frames.specs.Pulling.{FrontCallsForMemoryAt, in_part, Refuses}
use Rattle.bk_frames.specs.Reading.{IsPulled, Pulls}
use Rattle.bk_frames.specs.private.Openings.{IsOpening, CallsForAccounts}
use Rattle.bk_frames.proofs.FrameFaults.{whole_part}
use Rattle.bk_frames.proofs.CutJoining.{spelling_then}
use Rattle.bk_base.proofs.FramesInTurn.{length-magic, spelling_more}
use Rattle.bk_frames.proofs.OneReading.{frame_injective, no_fault, magic_injective, magic_and, start_of}

no_code : (e : FaultCode) → ¬ (None ≡ Some e)
no_code e h = absurd cc

no_version : (v : Version) → ¬ (None ≡ Some v)
no_version v e = absurd cc

-- what is kept holds no whole good frame
clash : (w : Version) (i o : ℕ) (g : Frame) (tail : List ℕ) (c : Cut) → IsGoodAt w i o g → c.kept ≡ frame_text g ++ tail → c.version ≡ Some w → c.index ≡ i → c.offset ≡ o → IsOpen c → ⊥
clash w i o g tail c good kept version index offset is_open = no_code code.Truncated (sym none ∙ cut)
  where
    none : frame_fault w c.index c.offset c.kept ≡ None
    none = (λ j. frame_fault w (index j) (offset j) (kept j)) ∙ no_fault w i o g tail good

    some : 0 < length c.kept
    some = omega (arith, ap length kept, length-append (frame_text g) tail)

    cut : frame_fault w c.index c.offset c.kept ≡ Some code.Truncated
    cut = ap (λ (v : Option Version). fault_at v c.index c.offset c.kept) (sym version) ∙ is_open some

-- the bytes of two frames, and what follows them
two_texts : (f0 f1 : Frame) (r : List ℕ) → flat_map frame_text (f0 ∷ f1 ∷ []) ++ r ≡ frame_text f0 ++ (frame_text f1 ++ r)
two_texts f0 f1 r =
    let one : flat_map frame_text (f1 ∷ []) ≡ frame_text f1 = flat_map-cons frame_text f1 [] ∙ append-nil (frame_text f1) in
    ap (λ (t : List ℕ). t ++ r) (flat_map-cons frame_text f0 (f1 ∷ []) ∙ ap (λ (t : List ℕ). frame_text f0 ++ t) one) ∙ append_assoc (frame_text f0) (frame_text f1) r

-- two frames first, and then others and what follows
three_texts : (v : Version) (f0 f1 : Frame) (more : List Frame) (kept : List ℕ) → spelling (feed_of v (f0 ∷ f1 ∷ more)) ++ kept ≡ spelling (feed_of v (f0 ∷ f1 ∷ [])) ++ (flat_map frame_text more ++ kept)
three_texts v f0 f1 more kept = ap (λ (t : List ℕ). t ++ kept) (spelling_then v (f0 ∷ f1 ∷ []) more) ∙ append_assoc (spelling (feed_of v (f0 ∷ f1 ∷ []))) (flat_map frame_text more) kept

module _ (v : Version) (f0 f1 : Frame) (first : IsGoodAt v 0 4 f0) (second : IsGoodAt v 1 (4 + length (frame_text f0)) f1) where
  -- a cutter that has handed out fewer than two frames has not had both
  never_both : (frames : List Frame) (r : List ℕ) (c : Cut) → length frames < 2 → AreGoodFrom v 0 4 frames → flat_map frame_text frames ++ c.kept ≡ flat_map frame_text (f0 ∷ f1 ∷ []) ++ r → c.version ≡ Some v
      → c.index ≡ length frames → c.offset ≡ 4 + length (flat_map frame_text frames) → IsOpen c → ⊥
  never_both [] r c few good e version index offset is_open = clash v 0 4 f0 (frame_text f1 ++ r) c first (e ∙ two_texts f0 f1 r) version index (omega (arith, offset)) is_open
  never_both (x ∷ []) r c few good e version index offset is_open =
      let one : flat_map frame_text (x ∷ []) ≡ frame_text x = flat_map-cons frame_text x [] ∙ append-nil (frame_text x) in
      let same = frame_injective x f0 c.kept (frame_text f1 ++ r) (omega (arith, good.0.framed.short)) (omega (arith, first.framed.short)) (ap (λ (t : List ℕ). t ++ c.kept) (sym one) ∙ e ∙ two_texts f0 f1 r) in
      clash v 1 (4 + length (frame_text f0)) f1 r c second same.1 version index (offset ∙ ap (λ (t : List ℕ). 4 + length t) one ∙ ap (λ (f : Frame). 4 + length (frame_text f)) same.0) is_open
  never_both (x ∷ y ∷ more) r c few good e version index offset is_open = absurd (omega (arith, few))

  front_is : (bytes came ahead : List ℕ) → bytes ++ came ≡ spelling (feed_of v (f0 ∷ f1 ∷ [])) ++ ahead → length (spelling (feed_of v (f0 ∷ f1 ∷ []))) ≤ length bytes → bytes ≡ spelling (feed_of v (f0 ∷ f1 ∷ [])) ++ drop (length (spelling (feed_of v (f0 ∷ f1 ∷ [])))) bytes
  front_is bytes came ahead e le =
      let p : List ℕ = spelling (feed_of v (f0 ∷ f1 ∷ [])) in
      let front : take (length p) bytes ≡ p = sym (take-append-le (length p) bytes came le) ∙ ap (take (length p)) e ∙ take_at p ahead (length p) refl in
      sym (take-append-drop (length p) bytes) ∙ ap (λ (t : List ℕ). t ++ drop (length p) bytes) front

  -- so the bytes that had come end in frame 1 at most
  ends_before : (bytes r : List ℕ) (frames : List Frame) (c : Cut) → bytes ≡ spelling (feed_of v (f0 ∷ f1 ∷ [])) ++ r → Cuts fresh bytes frames c → IsOpen c → length frames < 2 → ⊥
  ends_before bytes r frames c is (in_magic _ cv ci co none text) is_open few =
      let begins : Begins bytes (feed_of v (f0 ∷ f1 ∷ [])) r = record { spelled = is; good = (first, (second, tt)) } in
      let some : 0 < length c.kept = omega (arith, ap length (sym text ∙ is), length-append (spelling (feed_of v (f0 ∷ f1 ∷ []))) r, length-append (magic v) (flat_map frame_text (f0 ∷ f1 ∷ [])), length-magic v) in
      let cut : start_fault c.kept ≡ Some code.Truncated = ap (λ (o : Option Version). fault_at o c.index c.offset c.kept) (sym cv) ∙ is_open some in
      no_code code.Truncated (sym (ap start_fault (sym text) ∙ start_of bytes (feed_of v (f0 ∷ f1 ∷ [])) r begins) ∙ cut)
  ends_before bytes r frames c is (past_magic w _ cv text good index offset) is_open few =
      let parts = magic_injective w v (flat_map frame_text frames ++ c.kept) (flat_map frame_text (f0 ∷ f1 ∷ []) ++ r) (sym (magic_and (feed_of w frames) c.kept) ∙ sym text ∙ is ∙ magic_and (feed_of v (f0 ∷ f1 ∷ [])) r) in
      never_both frames r c few (subst (λ (u : Version). AreGoodFrom u 0 4 frames) parts.0 good) parts.1 (cv ∙ ap (λ (u : Version). Some u) parts.0) index (omega (arith, offset, length-append (magic w) (flat_map frame_text frames), length-magic w)) is_open
  ends_before bytes r frames c is (in_frames w fv cv text good index offset) is_open few = no_version w fv

  near : (bytes came ahead : List ℕ) (frames : List Frame) (c : Cut) → bytes ++ came ≡ spelling (feed_of v (f0 ∷ f1 ∷ [])) ++ ahead → Cuts fresh bytes frames c → IsOpen c → length frames < 2 → length ahead ≤ length came
  near bytes came ahead frames c e cuts is_open few = by_length (ltb (length (spelling (feed_of v (f0 ∷ f1 ∷ [])))) (length bytes)) refl
    where
      by_length : (b : Bool) → ltb (length (spelling (feed_of v (f0 ∷ f1 ∷ [])))) (length bytes) ≡ b → length ahead ≤ length came
      by_length true t =
          let lt = ltb-true _ _ t in
          absurd (ends_before bytes (drop (length (spelling (feed_of v (f0 ∷ f1 ∷ [])))) bytes) frames c (front_is bytes came ahead e (omega (arith, lt))) cuts is_open few)
      by_length false t =
          let le = ltb-false _ _ t in
          omega (arith, le, ap length e, length-append bytes came, length-append (spelling (feed_of v (f0 ∷ f1 ∷ []))) ahead)

  called : (bytes came ahead : List ℕ) → bytes ++ came ≡ spelling (feed_of v (f0 ∷ f1 ∷ [])) ++ ahead → length ahead ≤ PIECE → FrontCallsForMemoryAt (bytes ++ came) (9 + length f0.payload)
  called bytes came ahead e few =
      let place : 4 + length (frame_text f0) ≡ 9 + length f0.payload = omega arith in
      let framed : IsFramedAt 1 (9 + length f0.payload) f1 = subst (λ (o : ℕ). IsFramedAt 1 o f1) place second.framed in
      let one : flat_map frame_text (f0 ∷ []) ≡ frame_text f0 = flat_map-cons frame_text f0 [] ∙ append-nil (frame_text f0) in
      record {
        front = spelling (feed_of v (f0 ∷ f1 ∷ []));
        ahead = ahead;
        parts = e;
        calls = in_part (feed_of v (f0 ∷ [])) (frame_text f1) (record { spelled = spelling_more v (f0 ∷ []) f1; good = (first, tt) }) (whole_part 1 (9 + length f0.payload) f1 framed)
            (omega (arith, length-append (magic v) (flat_map frame_text (f0 ∷ [])), length-magic v, ap length one));
        near = few;
        first = λ zero. absurd (omega (arith, zero));
      }

-- the frames of a cutter are good
pub good_frames : (bytes : List ℕ) (frames : List Frame) (c : Cut) → Cuts fresh bytes frames c → (version : Version) × AreGoodFrom version 0 4 frames
good_frames bytes frames c (in_magic _ cv ci co none text) = (One, subst (AreGoodFrom One 0 4) (sym none) tt)
good_frames bytes frames c (past_magic v _ cv text good index offset) = (v, good)
good_frames bytes frames c (in_frames v fv cv text good index offset) = absurd (no_version v fv)

-- the opening accounts stay as frames come
pub opening_stays : (old new more : List (Kind × Vec ℕ)) (g : Option (Vec Row)) → IsOpening (frames_in old) g → new ≡ old ++ more → IfSome g (λ rows. (2 ≤ length (frames_in new)) × (rows.items ≡ genesis_of (frames_in new)))
opening_stays old new more None h is = tt
opening_stays [] new more (Some rows) h is = absurd (omega (arith, h.0))
opening_stays (a ∷ []) new more (Some rows) h is = absurd (omega (arith, h.0))
opening_stays (a ∷ b ∷ rest) new more (Some rows) h is =
    subst (λ (fs : List (Kind × Vec ℕ)). (2 ≤ length (frames_in fs)) × (rows.items ≡ genesis_of (frames_in fs))) (sym is) (omega arith, h.1)

pub none_yet : (frames : List Frame) (g : Option (Vec Row)) → IsOpening frames g → g ≡ None → length frames < 2
none_yet frames g h is = subst (IsOpening frames) is h

-- memory that ran out for the accounts of frame 1 in the piece that made it whole
pub accounts_refused : (start now later : Device) (bytes : List ℕ) (frames more : List Frame) (c d : Cut) (n : ℕ) (f : FeedFault) → IsPulled start now bytes frames c → length frames < 2 → Pulls start later bytes more d n → n ≤ PIECE → CallsForAccounts more f → Refuses f start later
accounts_refused start now later bytes frames more c d n f p few next fits calls =
    subst (λ (g : FeedFault). Refuses g start later) (sym calls.is) (next.pulled.works, (bytes ++ next.came, next.pulled.gave, by_cuts more calls.are next.pulled.cuts))
  where
    by_cuts : (fs : List Frame) → fs ≡ calls.first ∷ calls.second ∷ calls.more → Cuts fresh (bytes ++ next.came) fs d → FrontCallsForMemoryAt (bytes ++ next.came) (9 + length calls.first.payload)
    by_cuts fs are (in_magic _ cv ci co none text) = absurd (let e : [] ≡ calls.first ∷ calls.second ∷ calls.more = sym none ∙ are in cc)
    by_cuts fs are (past_magic v _ cv text good index offset) =
        let goods : AreGoodFrom v 0 4 (calls.first ∷ calls.second ∷ calls.more) = subst (AreGoodFrom v 0 4) are good in
        let ahead : List ℕ = flat_map frame_text calls.more ++ d.kept in
        let spelled : bytes ++ next.came ≡ spelling (feed_of v (calls.first ∷ calls.second ∷ [])) ++ ahead = text ∙ ap (λ (t : List Frame). spelling (feed_of v t) ++ d.kept) are ∙ three_texts v calls.first calls.second calls.more d.kept in
        called v calls.first calls.second goods.0 goods.1.0 bytes next.came ahead spelled
        (let le = near v calls.first calls.second goods.0 goods.1.0 bytes next.came ahead frames c spelled p.cuts p.is_open few in omega (arith, le, next.counted, fits))
    by_cuts fs are (in_frames v fv cv text good index offset) = absurd (no_version v fv)
