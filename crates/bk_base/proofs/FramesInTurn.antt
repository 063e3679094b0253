-- Frames that follow each other.
use Rattle.std.proofs.Common.{◌≡◌, ℕ, ◌+◌, List, [], ◌∷◌, ◌++◌, length, refl, sym, ap, subst, ◌∙◌, append_assoc, length-append, arith}
use Rattle.std.specs.List.{flat_map}
use Rattle.std.proofs.lemmas.List.{append-nil}
use Rattle.std.proofs.lemmas.List.Concat.{flat_map-append, flat_map-cons}
use Rattle.bk_base.specs.declared.version.Version.{Version}
use Rattle.bk_base.specs.declared.version.Version.TheVariants.{One, Two}
use Rattle.bk_base.specs.Feed.{Frame, feed_of, frame_text, spelling, magic, IsGoodAt, AreGoodFrom}

-- a frame that is good right after good frames is one of them
pub good_more : (version : Version) (index offset i o : ℕ) (frames : List Frame) (f : Frame) → i ≡ index + length frames → o ≡ offset + length (flat_map frame_text frames) → AreGoodFrom version index offset frames → IsGoodAt version i o f
    → AreGoodFrom version index offset (frames ++ f ∷ [])
good_more version index offset i o [] f same_i same_o good next =
    let e : i ≡ index = omega arith in
    let k : o ≡ offset = omega arith in
    (subst (λ (p : ℕ × ℕ). IsGoodAt version p.0 p.1 f) (λ j. (e j, k j)) next, tt)
good_more version index offset i o (g ∷ frames) f same_i same_o good next =
    let len : length (flat_map frame_text (g ∷ frames)) ≡ length (frame_text g) + length (flat_map frame_text frames) = ap length (flat_map-cons frame_text g frames) ∙ length-append (frame_text g) (flat_map frame_text frames) in
    (good.0, good_more version (index + 1) (offset + length (frame_text g)) i o frames f (omega arith) (omega (arith, len)) good.1 next)

-- the bytes of one frame more
pub spelling_more : (version : Version) (frames : List Frame) (f : Frame)
    → spelling (feed_of version (frames ++ f ∷ [])) ≡ spelling (feed_of version frames) ++ frame_text f
spelling_more version frames f =
    let one : flat_map frame_text (f ∷ []) ≡ frame_text f = flat_map-cons frame_text f [] ∙ append-nil (frame_text f) in
    ap (λ (t : List ℕ). magic version ++ t) (flat_map-append frame_text frames (f ∷ []) ∙ ap (λ (t : List ℕ). flat_map frame_text frames ++ t) one) ∙ sym (append_assoc (magic version) (flat_map frame_text frames) (frame_text f))

-- a magic has four bytes, so frames begin at 4
pub length-magic : (version : Version) → length (magic version) ≡ 4
length-magic One = refl
length-magic Two = refl
