-- What is being read: what its bytes show, and what becomes of it.
use Rattle.std.proofs.Common.{inl, inr, ◌≡◌, ◌≢◌, ℕ, zero, suc, ◌+◌, ◌-◌, ◌<◌, ◌≤◌, true, false, ltb, List, [], ◌∷◌, ◌++◌, length, take, drop, get_or, Option, Some, None, IsTrue, refl, sym, ap, subst, ◌∙◌, append_assoc, length-append, length-drop, arith}
use Rattle.std.specs.Prelude.{slice_index, slice_set, is_some, IfSome}
use Rattle.std.specs.List.{flat_map}
use Rattle.std.specs.Int.{w32, to_be_bytes, from_be_bytes}
use Rattle.std.specs.Global.{Vec}
use Rattle.std.proofs.lemmas.Bool.{le-ltb, lt-ltb, cases_lt}
use Rattle.std.proofs.lemmas.List.{append-nil, map-append, take_all, take-append-drop, length-take}
use Rattle.std.proofs.lemmas.List.Concat.{flat_map-cons}
use Rattle.std.proofs.lemmas.Nat.{be_bytes_4}
use Rattle.bk_base.specs.declared.kind.Kind.{Kind}
use Rattle.bk_frames.specs.declared.fault.FaultCode.{FaultCode}
use Rattle.bk_frames.specs.declared.fault.FaultCode.TheVariants as code
use Rattle.bk_frames.specs.declared.fault.FeedFault.{FeedFault}
use Rattle.bk_base.specs.Numbers.{IsBytes}
use Rattle.bk_base.specs.declared.version.Version.{Version}
use Rattle.bk_base.specs.declared.version.Version.TheVariants.{One}
use Rattle.bk_frames.specs.declared.part.Part.{Part}
use Rattle.bk_base.specs.Feed.{Frame, IsFramedAt, feed_of, frame_text, kind_number, spelling, stands_at, magic}
use Rattle.bk_frames.specs.FirstFault.{start_fault, kind_fault, length_fault, payload_fault, frame_fault}
use Rattle.bk_frames.specs.Pulling.{ByCode, IsPartAt}
use Rattle.bk_frames.specs.Cutting.{Cut, CutsInto, Cuts, in_magic, past_magic, in_frames, IsOpen, IsBegun, ShowsFault, Reaches, RefusesInto, RefusesPiece, fault_at, frames_in}
use Rattle.bk_frames.specs.private.Parts.{IsPart, IsShort, IsInFrame, FailsSoon, kept_of, cut_of, len_of}
use Rattle.bk_frames.proofs.Devices.{take_parts}
use Rattle.bk_frames.proofs.FrameFaults.{length_limits, judged, good, by_code, part_of_frame}
use Rattle.bk_frames.proofs.OneReading.{kind_from}
use Rattle.bk_frames.proofs.CutJoining.{cuts_then}
use Rattle.bk_frames.proofs.FrontAndWhole.{fault_grows}

-- ---- the magic

-- the magic is cut short
short_magic : (i : ℕ) → i < 4 → start_fault (take i (magic One)) ≡ Some code.Truncated
short_magic zero lt = refl
short_magic (suc zero) lt = refl
short_magic (suc (suc zero)) lt = refl
short_magic (suc (suc (suc zero))) lt = refl
short_magic (suc (suc (suc (suc i)))) lt = absurd (omega arith)

-- ---- a part that is cut short

-- a kind alone, or with fewer than four bytes of a length
short_head : (version : Version) (index offset : ℕ) (head : List ℕ) (filled : ℕ) → filled ≤ length head → 0 < filled → filled < 5 → kind_fault index (slice_index head 0) ≡ None → frame_fault version index offset (take filled head) ≡ Some code.Truncated
short_head version index offset head zero within some few h = absurd (omega arith)
short_head version index offset [] (suc n) within some few h = absurd (omega arith)
short_head version index offset (k ∷ more) (suc n) within some few h =
    let four : ltb (length (take n more)) 4 ≡ true = lt-ltb _ _ (omega (arith, length-take n more)) in
    rw (h, four) refl

-- a whole head and a part of the payload
short_content : (version : Version) (index offset : ℕ) (head payload : List ℕ) → length head ≡ 5 → kind_fault index (slice_index head 0) ≡ None → length_fault offset (from_be_bytes w32 (drop 1 head)) ≡ None
    → length payload < from_be_bytes w32 (drop 1 head) → frame_fault version index offset (head ++ payload) ≡ Some code.Truncated
short_content version index offset (k ∷ a ∷ b ∷ c ∷ d ∷ []) payload five kind fits short =
    let four : ltb (suc (suc (suc (suc (length payload))))) 4 ≡ false = le-ltb _ _ (omega arith) in
    let lt : ltb (length payload) (from_be_bytes w32 (a ∷ b ∷ c ∷ d ∷ [])) ≡ true = lt-ltb _ _ short in
    rw (kind, four, fits, lt) refl
short_content version index offset [] payload five kind fits short = absurd (omega arith)
short_content version index offset (k ∷ []) payload five kind fits short = absurd (omega arith)
short_content version index offset (k ∷ a ∷ []) payload five kind fits short = absurd (omega arith)
short_content version index offset (k ∷ a ∷ b ∷ []) payload five kind fits short = absurd (omega arith)
short_content version index offset (k ∷ a ∷ b ∷ c ∷ []) payload five kind fits short = absurd (omega arith)
short_content version index offset (k ∷ a ∷ b ∷ c ∷ d ∷ e ∷ more) payload five kind fits short = absurd (omega arith)

pub kept_of_head : (p : Part) → p.payload.items ≡ [] → kept_of p ≡ take p.filled p.head
kept_of_head p empty = ap (λ (t : List ℕ). take p.filled p.head ++ t) empty ∙ append-nil (take p.filled p.head)

no_frame : (o : Option Version) → o ≡ None → ¬ IsTrue (is_some o)
no_frame None e h = absurd cc
no_frame (Some v) e h = absurd cc

in_frame_of : (p : Part) (v : Version) → p.version ≡ Some v → IsInFrame p
in_frame_of p v e = ap (λ (o : Option Version). is_some o) e

pub open_part : (p : Part) → IsPart p → IsShort p → IsOpen (cut_of p)
open_part p part short some = by_version p.version refl
  where
    in_a_frame : (v : Version) → p.version ≡ Some v → frame_fault v p.index p.offset (kept_of p) ≡ Some code.Truncated
    in_a_frame v is = elim (cases_lt p.filled 5) [
      | inl lt ↦
          let kept = kept_of_head p (part.none lt) in
          let filled : 0 < p.filled = omega (arith, some, ap length kept, length-take p.filled p.head) in
          ap (frame_fault v p.index p.offset) kept ∙ short_head v p.index p.offset p.head p.filled (omega (arith, part.five)) filled lt (part.kind (in_frame_of p v is) filled)
      | inr le ↦
          let filled : p.filled ≡ 5 = omega (arith, part.filled) in
          let whole : take p.filled p.head ≡ p.head = take_all p.filled p.head (omega (arith, part.five)) in
          ap (λ (t : List ℕ). frame_fault v p.index p.offset (t ++ p.payload.items)) whole ∙ short_content v p.index p.offset p.head p.payload.items part.five (part.kind (in_frame_of p v is) (omega arith)) (part.sized filled).0 (short filled)
    ]

    by_version : (o : Option Version) → p.version ≡ o → fault_at p.version p.index p.offset (kept_of p) ≡ Some code.Truncated
    by_version None e =
        let first = part.first e in
        ap (λ (o : Option Version). fault_at o p.index p.offset (kept_of p)) e ∙ ap start_fault (kept_of_head p (part.none (omega (arith, first.2))) ∙ first.3) ∙ short_magic p.filled first.2
    by_version (Some v) e = ap (λ (o : Option Version). fault_at o p.index p.offset (kept_of p)) e ∙ in_a_frame v e

pub ends_inside : (p : Part) → IsPart p → IsShort p → 0 < p.filled → fault_at p.version p.index p.offset (kept_of p) ≡ Some code.Truncated
ends_inside p part short some = open_part p part short (omega (arith, length-append (take p.filled p.head) p.payload.items, length-take p.filled p.head, part.five, part.filled))

-- ---- one byte more of a head

-- the bytes of a head with one byte more
byte_more : (head : List ℕ) (n b : ℕ) → n < length head → take (n + 1) (slice_set head n b) ≡ take n head ++ b ∷ []
byte_more [] n b lt = absurd (omega arith)
byte_more (h ∷ head) zero b lt = refl
byte_more (h ∷ head) (suc n) b lt =
    let e : suc n + 1 ≡ suc (n + 1) = omega arith in
    rw e (ap (λ (t : List ℕ). h ∷ t) (byte_more head n b (omega arith)))

-- what is kept with one byte more of the head
pub kept_more : (p : Part) (b : ℕ) → IsPart p → p.filled < 5 → kept_of p ++ b ∷ [] ≡ take (p.filled + 1) (slice_set p.head p.filled b) ++ p.payload.items
kept_more p b part lt =
    let more : take (p.filled + 1) (slice_set p.head p.filled b) ≡ take p.filled p.head ++ b ∷ [] = byte_more p.head p.filled b (omega (arith, part.five)) in
    ap (λ (t : List ℕ). t ++ b ∷ []) (kept_of_head p (part.none lt)) ∙ sym more ∙ sym (append-nil (take (p.filled + 1) (slice_set p.head p.filled b))) ∙ ap (λ (t : List ℕ). take (p.filled + 1) (slice_set p.head p.filled b) ++ t) (sym (part.none lt))

-- what is kept before the last byte of the magic
before_last : (p : Part) → IsPart p → p.version ≡ None → 3 ≤ p.filled → kept_of p ≡ 66 ∷ 75 ∷ 70 ∷ []
before_last p part none le =
    let three : p.filled ≡ 3 = omega (arith, (part.first none).2) in
    kept_of_head p (part.none (omega arith)) ∙ (part.first none).3 ∙ ap (λ (n : ℕ). take n (magic One)) three

-- the magic is whole
pub magic_whole : (p : Part) (b : ℕ) (v : Version) (next : Cut) → IsPart p → p.version ≡ None → 3 ≤ p.filled → magic v ≡ 66 ∷ 75 ∷ 70 ∷ b ∷ [] → next.version ≡ Some v → next.index ≡ p.index → next.offset ≡ 4 → next.kept ≡ []
    → Cuts (cut_of p) (b ∷ []) [] next
magic_whole p b v next part none le is version index offset kept =
    let bytes : kept_of p ++ b ∷ [] ≡ magic v = ap (λ (t : List ℕ). t ++ b ∷ []) (before_last p part none le) ∙ sym is in
    let text : kept_of p ++ b ∷ [] ≡ spelling (feed_of v []) ++ next.kept = bytes ∙ sym (append-nil (magic v)) ∙ sym (append-nil (spelling (feed_of v []))) ∙ ap (λ (t : List ℕ). spelling (feed_of v []) ++ t) (sym kept) in
    past_magic v none version text tt (index ∙ (part.first none).0) (offset ∙ sym (ap length (append-nil (magic v) ∙ is)))

-- a byte of a head is kept
pub head_kept : (p : Part) (b : ℕ) (next : Cut) → IsPart p → IsInFrame p → p.filled < 5 → next.version ≡ p.version → next.index ≡ p.index → next.offset ≡ p.offset
    → next.kept ≡ take (p.filled + 1) (slice_set p.head p.filled b) ++ p.payload.items → Cuts (cut_of p) (b ∷ []) [] next
head_kept p b next part inside lt version index offset kept = by_version p.version refl
  where
    by_version : (o : Option Version) → p.version ≡ o → Cuts (cut_of p) (b ∷ []) [] next
    by_version None e = absurd (no_frame p.version e inside)
    by_version (Some v) e = in_frames v e (version ∙ e) (kept_more p b part lt ∙ sym kept) tt (omega (arith, index)) (omega (arith, offset))

-- bytes of a payload are kept
pub payload_kept : (p : Part) (bytes : List ℕ) (next : Cut) → IsInFrame p → next.version ≡ p.version → next.index ≡ p.index → next.offset ≡ p.offset → next.kept ≡ kept_of p ++ bytes → Cuts (cut_of p) bytes [] next
payload_kept p bytes next inside version index offset kept = by_version p.version refl
  where
    by_version : (o : Option Version) → p.version ≡ o → Cuts (cut_of p) bytes [] next
    by_version None e = absurd (no_frame p.version e inside)
    by_version (Some v) e = in_frames v e (version ∙ e) (sym kept) tt (omega (arith, index)) (omega (arith, offset))

-- ---- a whole part

-- the bytes of a whole part are a frame's
pub whole_text : (head payload : List ℕ) (filled : ℕ) (k : Kind) → filled ≡ 5 → length head ≡ 5 → IsBytes head → kind_number k ≡ slice_index head 0 → length payload ≡ from_be_bytes w32 (drop 1 head)
    → take filled head ++ payload ≡ frame_text (record { kind = k; payload = payload })
whole_text head payload filled k full five bytes kind sized = ap (λ (n : ℕ). take n head ++ payload) full ∙ spelled head five bytes kind sized
  where
    spelled : (head : List ℕ) → length head ≡ 5 → IsBytes head → kind_number k ≡ slice_index head 0 → length payload ≡ from_be_bytes w32 (drop 1 head) → take 5 head ++ payload ≡ frame_text (record { kind = k; payload = payload })
    spelled (n ∷ a ∷ b ∷ c ∷ d ∷ []) five bytes kind sized =
        let number : to_be_bytes w32 (length payload) ≡ a ∷ b ∷ c ∷ d ∷ [] = be_bytes_4 (a ∷ b ∷ c ∷ d ∷ []) (length payload) refl (λ i. bytes (suc i)) sized in
        (λ j. sym kind j ∷ (sym number j ++ payload))
    spelled [] five bytes kind sized = absurd (omega arith)
    spelled (n ∷ []) five bytes kind sized = absurd (omega arith)
    spelled (n ∷ a ∷ []) five bytes kind sized = absurd (omega arith)
    spelled (n ∷ a ∷ b ∷ []) five bytes kind sized = absurd (omega arith)
    spelled (n ∷ a ∷ b ∷ c ∷ []) five bytes kind sized = absurd (omega arith)
    spelled (n ∷ a ∷ b ∷ c ∷ d ∷ e ∷ more) five bytes kind sized = absurd (omega arith)

-- what a whole part is, of this kind
pub record IsWhole (p : Part) (v : Version) (k : Kind) : Type 0 where
  pub version : p.version ≡ Some v
  pub part : IsPart p
  pub full : p.filled ≡ 5
  pub sized : length p.payload.items ≡ len_of p
  pub bytes : IsBytes p.head
  pub kind : kind_number k ≡ slice_index p.head 0
  pub in_place : IsTrue (stands_at p.index k)

framed : (p : Part) (v : Version) (k : Kind) → IsWhole p v k → IsFramedAt p.index p.offset (record { kind = k; payload = p.payload.items })
framed p v k w =
    let limits = length_limits p.offset (len_of p) (w.part.sized w.full).0 in
    record { in_place = w.in_place; short = omega (arith, w.sized, limits.0); inside = omega (arith, w.sized, limits.1) }

whole_is : (p : Part) (v : Version) (k : Kind) → IsWhole p v k → kept_of p ≡ frame_text (record { kind = k; payload = p.payload.items })
whole_is p v k w = whole_text p.head p.payload.items p.filled k w.full w.part.five w.bytes w.kind w.sized

-- only its payload can show a fault
pub whole_shows : (p : Part) (v : Version) (k : Kind) → IsWhole p v k → fault_at p.version p.index p.offset (kept_of p) ≡ payload_fault v p.index p.payload.items
whole_shows p v k w =
    let f : Frame = record { kind = k; payload = p.payload.items } in
    let text : kept_of p ≡ frame_text f ++ [] = whole_is p v k w ∙ sym (append-nil (frame_text f)) in
    ap (λ (o : Option Version). fault_at o p.index p.offset (kept_of p)) w.version ∙ ap (frame_fault v p.index p.offset) text ∙ judged v p.index p.offset f [] (framed p v k w)

-- it is handed out, and the next frame begins
pub handed_out : (p : Part) (v : Version) (k : Kind) (next : Cut) → IsWhole p v k → payload_fault v p.index p.payload.items ≡ None → next.version ≡ Some v → next.kept ≡ [] → next.index ≡ p.index + 1
    → next.offset ≡ p.offset + (5 + length p.payload.items) → Cuts (cut_of p) [] (record { kind = k; payload = p.payload.items } ∷ []) next
handed_out p v k next w none version kept index offset =
    let f : Frame = record { kind = k; payload = p.payload.items } in
    let one : flat_map frame_text (f ∷ []) ≡ frame_text f = flat_map-cons frame_text f [] ∙ append-nil (frame_text f) in
    let text : kept_of p ++ [] ≡ flat_map frame_text (f ∷ []) ++ next.kept =
    append-nil (kept_of p) ∙ whole_is p v k w ∙ sym one ∙ sym (append-nil (flat_map frame_text (f ∷ []))) ∙ ap (λ (t : List ℕ). flat_map frame_text (f ∷ []) ++ t) (sym kept) in
    in_frames v w.version version text (good v p.index p.offset f (framed p v k w) none, tt) index (omega (arith, offset, ap length one))

-- ---- a begun frame

-- a head is the kind and the length that it states
head_is : (head : List ℕ) (k : Kind) → length head ≡ 5 → IsBytes head → kind_number k ≡ slice_index head 0 → head ≡ kind_number k ∷ to_be_bytes w32 (from_be_bytes w32 (drop 1 head))
head_is (n ∷ a ∷ b ∷ c ∷ d ∷ []) k five bytes kind =
    let number : to_be_bytes w32 (from_be_bytes w32 (a ∷ b ∷ c ∷ d ∷ [])) ≡ a ∷ b ∷ c ∷ d ∷ [] = be_bytes_4 (a ∷ b ∷ c ∷ d ∷ []) (from_be_bytes w32 (a ∷ b ∷ c ∷ d ∷ [])) refl (λ i. bytes (suc i)) refl in
    (λ j. sym kind j ∷ sym number j)
head_is [] k five bytes kind = absurd (omega arith)
head_is (n ∷ []) k five bytes kind = absurd (omega arith)
head_is (n ∷ a ∷ []) k five bytes kind = absurd (omega arith)
head_is (n ∷ a ∷ b ∷ []) k five bytes kind = absurd (omega arith)
head_is (n ∷ a ∷ b ∷ c ∷ []) k five bytes kind = absurd (omega arith)
head_is (n ∷ a ∷ b ∷ c ∷ d ∷ e ∷ more) k five bytes kind = absurd (omega arith)

pub begun : (p : Part) → IsPart p → IsInFrame p → p.filled ≡ 5 → IsBytes p.head → IsBegun (cut_of p)
begun p part inside full bytes = by_version p.version refl
  where
    kept_is : (k : Kind) → kind_number k ≡ slice_index p.head 0 → kept_of p ≡ kind_number k ∷ (to_be_bytes w32 (len_of p) ++ p.payload.items)
    kept_is k kind = ap (λ (t : List ℕ). t ++ p.payload.items) (take_all p.filled p.head (omega (arith, part.five, full)) ∙ head_is p.head k part.five bytes kind)

    by_version : (o : Option Version) → p.version ≡ o → IsBegun (cut_of p)
    by_version None e = absurd (no_frame p.version e inside)
    by_version (Some v) e =
        let (k, kind, in_place) = kind_from p.index (slice_index p.head 0) (part.kind inside (omega (arith, full))) in
        let sized = part.sized full in
        record { version = v; known = e; part = subst (IsPartAt p.index p.offset) (sym (kept_is k kind)) (part_of_frame p.index p.offset k (len_of p) p.payload.items in_place sized.0 sized.1) }

-- and where there may be no frame yet
pub begun_if : (p : Part) → IsPart p → p.filled ≡ 5 → IsBytes p.head → IfSome p.version (λ _. IsBegun (cut_of p))
begun_if p part full bytes = by_version p.version refl
  where
    by_version : (o : Option Version) → p.version ≡ o → IfSome o (λ _. IsBegun (cut_of p))
    by_version None e = tt
    by_version (Some v) e = begun p part (in_frame_of p v e) full bytes

-- ---- in a piece

-- what is being read, with later bytes that are not looked at yet
with_rest : Cut → List ℕ → Cut
with_rest c rest = record { version = c.version; index = c.index; offset = c.offset; kept = c.kept ++ rest; fault = c.fault }

rest_kept : (old c : Cut) (came rest : List ℕ) (out : List Frame) → Cuts old came out c → Cuts old (came ++ rest) out (with_rest c rest)
unfolding with_rest
rest_kept old c came rest out cuts =
    subst (λ (o : List Frame). Cuts old (came ++ rest) o (with_rest c rest)) (append-nil out) (cuts_then old c (with_rest c rest) came rest out [] cuts (by_place cuts))
  where
    by_place : Cuts old came out c → Cuts c rest [] (with_rest c rest)
    by_place (in_magic ov cv ci co none text) = in_magic cv cv ci co refl refl
    by_place (past_magic v ov cv text good index offset) = in_frames v cv cv refl tt (omega arith) (omega arith)
    by_place (in_frames v ov cv text good index offset) = in_frames v cv cv refl tt (omega arith) (omega arith)

-- one byte or more was taken
pub taken : (c a b : Cut) (at n : ℕ) (piece : List ℕ) (out : List Frame) → Cuts c (take at piece) out a → Cuts a (take n (drop at piece)) [] b → Cuts c (take (at + n) piece) out b
taken c a b at n piece out before after =
    subst (λ (t : List ℕ). Cuts c t out b) (sym (take_parts at n piece)) (subst (λ (o : List Frame). Cuts c (take at piece ++ take n (drop at piece)) o b) (append-nil out) (cuts_then c a b (take at piece) (take n (drop at piece)) out [] before after))

-- a frame was handed out
pub handed : (c a b : Cut) (bytes : List ℕ) (out : List Frame) (f : Frame) → Cuts c bytes out a → Cuts a [] (f ∷ []) b → Cuts c bytes (out ++ f ∷ []) b
handed c a b bytes out f before after = subst (λ (t : List ℕ). Cuts c t (out ++ f ∷ []) b) (append-nil bytes) (cuts_then c a b bytes [] out (f ∷ []) before after)

-- the rest of a piece is refused where a part is being read
pub refused : (c : Cut) (at : ℕ) (piece : List ℕ) (before after more : List (Kind × Vec ℕ)) (p q : Part) (e : FaultCode) → after ≡ before ++ more → (q.offset ≡ p.offset) × (q.version ≡ p.version) → Cuts c (take at piece) (frames_in more) (cut_of p)
    → e ≢ code.Truncated → ByCode e ⊥ (IsBegun (cut_of p)) (fault_at p.version p.index p.offset (kept_of p ++ drop at piece) ≡ Some e) → RefusesInto c piece before after q.version (record { offset = q.offset; code = e })
refused c at piece before after more p q e put same cuts other cause = record {
  used = take at piece;
  ahead = drop at piece;
  parts = sym (take-append-drop at piece);
  more = more;
  put = put;
  at = cut_of p;
  cuts = cuts;
  cause = cause;
  shown_already = other;
  place = same.0;
  known = same.1;
}

-- taking from the rest of a piece failed
pub fails_soon : (c : Cut) (at : ℕ) (piece : List ℕ) (before after more : List (Kind × Vec ℕ)) (p q : Part) (e : FaultCode) → after ≡ before ++ more → (q.offset ≡ p.offset) × (q.version ≡ p.version) → Cuts c (take at piece) (frames_in more) (cut_of p)
    → FailsSoon (cut_of p) (drop at piece) e → RefusesInto c piece before after q.version (record { offset = q.offset; code = e })
fails_soon c at piece before after more p q e put same cuts fails =
    refused c at piece before after more p q e put same cuts fails.0 (by_code e ⊥ (IsBegun (cut_of p)) _ ⊥ (IsBegun (cut_of p)) (fault_at p.version p.index p.offset (kept_of p ++ drop at piece) ≡ Some e) (λ h. h) (λ h. h)
    (λ (b, rest, parts, shown).
    subst (λ (t : List ℕ). fault_at p.version p.index p.offset t ≡ Some e) (append_assoc (kept_of p) (b ∷ []) rest ∙ ap (λ (t : List ℕ). kept_of p ++ t) (sym parts)) (fault_grows p.version p.index p.offset (kept_of p ++ b ∷ []) rest e fails.0 shown)) fails.1)

-- the payload of a whole frame shows a fault, or memory was refused
pub fails_here : (c : Cut) (at : ℕ) (piece : List ℕ) (before after more : List (Kind × Vec ℕ)) (p q : Part) (e : FaultCode) → after ≡ before ++ more → (q.offset ≡ p.offset) × (q.version ≡ p.version) → Cuts c (take at piece) (frames_in more) (cut_of p)
    → (e ≢ code.Truncated) × ByCode e ⊥ (IsBegun (cut_of p)) (fault_at p.version p.index p.offset (kept_of p) ≡ Some e) → RefusesInto c piece before after q.version (record { offset = q.offset; code = e })
fails_here c at piece before after more p q e put same cuts fails =
    refused c at piece before after more p q e put same cuts fails.0 (by_code e ⊥ (IsBegun (cut_of p)) _ ⊥ (IsBegun (cut_of p)) (fault_at p.version p.index p.offset (kept_of p ++ drop at piece) ≡ Some e) (λ h. h) (λ h. h)
    (λ shown. fault_grows p.version p.index p.offset (kept_of p) (drop at piece) e fails.0 shown) fails.1)

-- where the rest is refused the whole is
pub refuses_piece : (c : Cut) (came : List ℕ) (before after : List (Kind × Vec ℕ)) (version : Option Version) (fault : FeedFault) → RefusesInto c came before after version fault → RefusesPiece c came fault
unfolding with_rest
refuses_piece c came before after version fault r = record {
  cause = by_code fault.code ⊥ (IsBegun r.at) _ ⊥ (Reaches c came fault.offset) (ShowsFault c came fault) (λ h. h)
      (λ h. record { used = r.used; ahead = r.ahead; parts = r.parts; out = frames_in r.more; at = r.at; cuts = r.cuts; begun = h; place = r.place })
      (λ h. record {
        out = frames_in r.more;
        at = with_rest r.at r.ahead;
        cuts = subst (λ (t : List ℕ). Cuts c t (frames_in r.more) (with_rest r.at r.ahead)) (sym r.parts) (rest_kept c r.at r.used r.ahead (frames_in r.more) r.cuts);
        shown = h;
        place = r.place;
      }) r.cause;
  shown_already = r.shown_already;
}

-- one frame more is handed out
pub frames_more : (out : List (Kind × Vec ℕ)) (f : Kind × Vec ℕ) → frames_in (out ++ f ∷ []) ≡ frames_in out ++ record { kind = f.0; payload = f.1.items } ∷ []
frames_more out f = map-append (λ (g : Kind × Vec ℕ). record { kind = g.0; payload = g.1.items }) out (f ∷ [])

-- one frame more was cut off
pub pushed : (c a b : Cut) (at n : ℕ) (piece : List ℕ) (out new : List (Kind × Vec ℕ)) (f : Kind × Vec ℕ) → Cuts c (take (at + n) piece) (frames_in out) a → Cuts a [] (record { kind = f.0; payload = f.1.items } ∷ []) b → new ≡ out ++ f ∷ []
    → Cuts c (take (at + n) piece) (frames_in new) b
pushed c a b at n piece out new f before after items =
    subst (λ (fs : List Frame). Cuts c (take (at + n) piece) fs b) (sym (ap frames_in items ∙ frames_more out f)) (handed c a b (take (at + n) piece) (frames_in out) (record { kind = f.0; payload = f.1.items }) before after)

pub pushed_more : (c a b : Cut) (at n : ℕ) (piece : List ℕ) (start out new more : List (Kind × Vec ℕ)) (f : Kind × Vec ℕ) → out ≡ start ++ more → Cuts c (take (at + n) piece) (frames_in more) a → Cuts a [] (record { kind = f.0; payload = f.1.items } ∷ []) b → new ≡ out ++ f ∷ []
    → CutsInto c (take (at + n) piece) start new b
pushed_more c a b at n piece start out new more f is before after items =
    (more ++ f ∷ [], items ∙ ap (λ (t : List (Kind × Vec ℕ)). t ++ f ∷ []) is ∙ append_assoc start more (f ∷ []), pushed c a b at n piece more (more ++ f ∷ []) f before after refl)

pub memory_is_no_cut : code.Memory ≢ code.Truncated
memory_is_no_cut e = absurd cc

-- the slice from a place on
pub whole_rest : (at : ℕ) (piece : List ℕ) → take (length piece - at) (drop at piece) ≡ drop at piece
whole_rest at piece = take_all (length piece - at) (drop at piece) (omega (arith, length-drop at piece))

-- and what was taken from it
pub step_of : (a b : Cut) (at n : ℕ) (piece : List ℕ) → Cuts a (take n (take (length piece - at) (drop at piece))) [] b → Cuts a (take n (drop at piece)) [] b
step_of a b at n piece h = subst (λ (t : List ℕ). Cuts a (take n t) [] b) (whole_rest at piece) h

pub fails_of : (a : Cut) (at : ℕ) (piece : List ℕ) (e : FaultCode) → FailsSoon a (take (length piece - at) (drop at piece)) e → FailsSoon a (drop at piece) e
fails_of a at piece e h = subst (λ (t : List ℕ). FailsSoon a t e) (whole_rest at piece) h

-- ---- a cutter's value

-- a cutter that reads this part, with this fault
abbrev pub seen : Part → Option FeedFault → Cut
seen p fault = record { version = p.version; index = p.index; offset = p.offset; kept = kept_of p; fault = fault }

pub cuts_seen : (p q : Part) (fault : Option FeedFault) (now : Cut) (piece : List ℕ) (out : List Frame) → fault ≡ None → seen p fault ≡ now → Cuts (cut_of p) piece out (cut_of q) → Cuts now piece out (seen q fault)
cuts_seen p q fault now piece out none is cuts =
    subst (λ (c : Cut). Cuts c piece out (seen q fault)) is (subst (λ (f : Option FeedFault). Cuts (seen p f) piece out (seen q f)) (sym none) cuts)

pub refuses_seen : (p : Part) (fault : Option FeedFault) (now : Cut) (piece : List ℕ) (before after : List (Kind × Vec ℕ)) (version : Option Version) (found : FeedFault) → seen p fault ≡ now → RefusesInto (cut_of p) piece before after version found
    → now.fault ≡ None → RefusesInto now piece before after version found
refuses_seen p fault now piece before after version found is r none =
    let was : fault ≡ None = ap (λ (c : Cut). c.fault) is ∙ none in
    subst (λ (c : Cut). RefusesInto c piece before after version found) is (subst (λ (f : Option FeedFault). RefusesInto (seen p f) piece before after version found) (sym was) r)

-- ---- steps of the loop

-- before the first byte of a piece
pub nothing_came : (p : Part) → IsPart p → Cuts (cut_of p) [] [] (cut_of p)
nothing_came p part = by_version p.version refl
  where
    by_version : (o : Option Version) → p.version ≡ o → Cuts (cut_of p) [] [] (cut_of p)
    by_version None e = let first = part.first e in in_magic e e first.0 first.1 refl (append-nil (kept_of p))
    by_version (Some v) e = in_frames v e e (append-nil (kept_of p)) tt (omega arith) (omega arith)

-- the first byte of a piece
pub first_byte : (a b : Cut) (piece : List ℕ) → 0 < length piece → Cuts a (get_or piece 0 0 ∷ []) [] b → Cuts a (take 1 piece) [] b
first_byte a b [] some cuts = absurd (omega arith)
first_byte a b (x ∷ piece) some cuts = cuts

-- the whole piece
pub all_cut : (a b : Cut) (at : ℕ) (piece : List ℕ) (out : List Frame) → length piece ≤ at → Cuts a (take at piece) out b → Cuts a piece out b
all_cut a b at piece out le cuts = subst (λ (t : List ℕ). Cuts a t out b) (take_all at piece le) cuts
