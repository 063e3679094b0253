-- Pieces that come in turn, and what all bytes so far show.
use Rattle.std.proofs.Common.{◌≡◌, ℕ, zero, suc, ◌+◌, ◌≤◌, List, [], ◌∷◌, ◌++◌, length, Option, Some, None, refl, sym, ap, subst, ◌∙◌, append_assoc, length-append, arith}
use Rattle.std.specs.List.{flat_map}
use Rattle.std.proofs.lemmas.List.{append-nil}
use Rattle.std.proofs.lemmas.List.Concat.{flat_map-append, flat_map-cons}
use Rattle.bk_base.specs.declared.version.Version.{Version}
use Rattle.bk_frames.specs.declared.fault.FaultCode.TheVariants as code
use Rattle.bk_frames.specs.declared.fault.FeedFault.{FeedFault}
use Rattle.bk_frames.specs.declared.pulling.TheConstants.{PIECE}
use Rattle.bk_base.specs.Feed.{Frame, feed_of, frame_text, spelling, magic, AreGoodFrom, IsFeed}
use Rattle.bk_frames.specs.FirstFault.{start_fault, frame_fault, Begins, HasFault, at_start, in_frame}
use Rattle.bk_frames.specs.Pulling.{StopsAt, cut_short, feed_ends, IsPartAt, in_part, FrontCallsForMemoryAt}
use Rattle.bk_frames.specs.Cutting.{Cut, fresh, Cuts, in_magic, past_magic, in_frames, IsOpen, ShowsFault, Reaches, EndsShort, fault_at}
use Rattle.bk_base.proofs.FramesInTurn.{length-magic}

-- ---- versions

no_version : (o : Option Version) (v : Version) → o ≡ None → ¬ (o ≡ Some v)
no_version o v none some = absurd cc

one_version : (o : Option Version) (v w : Version) → o ≡ Some v → o ≡ Some w → v ≡ w
one_version o v w e f = cc

-- ---- frames in turn

-- good frames, and then others right after them
pub good_then : (version : Version) (index offset i o : ℕ) (xs ys : List Frame) → i ≡ index + length xs → o ≡ offset + length (flat_map frame_text xs) → AreGoodFrom version index offset xs → AreGoodFrom version i o ys
    → AreGoodFrom version index offset (xs ++ ys)
good_then version index offset i o [] ys same_i same_o good next =
    let e : i ≡ index = omega arith in
    let k : o ≡ offset = omega arith in
    subst (λ (p : ℕ × ℕ). AreGoodFrom version p.0 p.1 ys) (λ j. (e j, k j)) next
good_then version index offset i o (g ∷ xs) ys same_i same_o good next =
    let len : length (flat_map frame_text (g ∷ xs)) ≡ length (frame_text g) + length (flat_map frame_text xs) = ap length (flat_map-cons frame_text g xs) ∙ length-append (frame_text g) (flat_map frame_text xs) in
    (good.0, good_then version (index + 1) (offset + length (frame_text g)) i o xs ys (omega arith) (omega (arith, len)) good.1 next)

-- two parts of a text in turn
joined : (k p q front mid next rest : List ℕ) → k ++ p ≡ front ++ mid → mid ++ q ≡ next ++ rest → k ++ (p ++ q) ≡ (front ++ next) ++ rest
joined k p q front mid next rest e f =
    sym (append_assoc k p q) ∙ ap (λ (t : List ℕ). t ++ q) e ∙ append_assoc front mid q ∙ ap (λ (t : List ℕ). front ++ t) f ∙ sym (append_assoc front next rest)

-- the same with nothing in front
joined_plain : (k p q mid rest : List ℕ) → k ++ p ≡ mid → mid ++ q ≡ rest → k ++ (p ++ q) ≡ rest
joined_plain k p q mid rest e f = sym (append_assoc k p q) ∙ ap (λ (t : List ℕ). t ++ q) e ∙ f

-- the bytes of frames, and then of others
pub spelling_then : (version : Version) (xs ys : List Frame) → spelling (feed_of version (xs ++ ys)) ≡ spelling (feed_of version xs) ++ flat_map frame_text ys
spelling_then version xs ys = ap (λ (t : List ℕ). magic version ++ t) (flat_map-append frame_text xs ys) ∙ sym (append_assoc (magic version) (flat_map frame_text xs) (flat_map frame_text ys))

length-spelling : (version : Version) (xs : List Frame) → length (spelling (feed_of version xs)) ≡ 4 + length (flat_map frame_text xs)
length-spelling version xs = omega (arith, length-append (magic version) (flat_map frame_text xs), length-magic version)

-- ---- pieces in turn

pub cuts_then : (a b c : Cut) (p q : List ℕ) (out more : List Frame) → Cuts a p out b → Cuts b q more c → Cuts a (p ++ q) (out ++ more) c
cuts_then a b c p q out more (in_magic av bv bi bo none text) (in_magic _ cv ci co none' text') =
    in_magic av cv ci co (λ i. none i ++ none' i) (joined_plain a.kept p q b.kept c.kept text text')
cuts_then a b c p q out more (in_magic av bv bi bo none text) (past_magic v _ cv text' good index offset) =
    subst (λ (o : List Frame). Cuts a (p ++ q) o c) (ap (λ (o : List Frame). o ++ more) (sym none))
    (past_magic v av cv (joined_plain a.kept p q b.kept (spelling (feed_of v more) ++ c.kept) text text') good index offset)
cuts_then a b c p q out more (in_magic av bv bi bo none text) (in_frames v bw cv text' good index offset) = absurd (no_version b.version v bv bw)
cuts_then a b c p q out more (past_magic v av bv text good index offset) (in_magic bn cv ci co none' text') = absurd (no_version b.version v bn bv)
cuts_then a b c p q out more (past_magic v av bv text good index offset) (past_magic w bn cv text' good' index' offset') = absurd (no_version b.version v bn bv)
cuts_then a b c p q out more (past_magic v av bv text good index offset) (in_frames w bw cw text' good' index' offset') =
    let same = one_version b.version w v bw bv in
    past_magic v av (cw ∙ ap (λ (x : Version). Some x) same)
    (joined a.kept p q (spelling (feed_of v out)) b.kept (flat_map frame_text more) c.kept text text' ∙ ap (λ (t : List ℕ). t ++ c.kept) (sym (spelling_then v out more)))
    (good_then v 0 4 b.index b.offset out more (omega arith) (omega (arith, offset, length-spelling v out)) good (subst (λ (x : Version). AreGoodFrom x b.index b.offset more) same good'))
    (omega (arith, length-append out more)) (omega (arith, offset, offset', ap length (spelling_then v out more), length-append (spelling (feed_of v out)) (flat_map frame_text more)))
cuts_then a b c p q out more (in_frames v av bv text good index offset) (in_magic bn cv ci co none' text') = absurd (no_version b.version v bn bv)
cuts_then a b c p q out more (in_frames v av bv text good index offset) (past_magic w bn cv text' good' index' offset') = absurd (no_version b.version v bn bv)
cuts_then a b c p q out more (in_frames v av bv text good index offset) (in_frames w bw cw text' good' index' offset') =
    let same = one_version b.version w v bw bv in
    in_frames v av (cw ∙ ap (λ (x : Version). Some x) same)
    (joined a.kept p q (flat_map frame_text out) b.kept (flat_map frame_text more) c.kept text text' ∙ ap (λ (t : List ℕ). t ++ c.kept) (sym (flat_map-append frame_text out more)))
    (good_then v a.index a.offset b.index b.offset out more index offset good (subst (λ (x : Version). AreGoodFrom x b.index b.offset more) same good'))
    (omega (arith, length-append out more)) (omega (arith, ap length (flat_map-append frame_text out more), length-append (flat_map frame_text out) (flat_map frame_text more)))

-- ---- all bytes so far

pub bytes_so_far : (bytes : List ℕ) (frames : List Frame) (c : Cut) (version : Version) → Cuts fresh bytes frames c → c.version ≡ Some version
    → Begins bytes (feed_of version frames) c.kept × (c.index ≡ length frames) × (c.offset ≡ length (spelling (feed_of version frames)))
bytes_so_far bytes frames c version (in_magic _ cv ci co none text) is = absurd (no_version c.version version cv is)
bytes_so_far bytes frames c version (past_magic v _ cv text good index offset) is =
    subst (λ (w : Version). Begins bytes (feed_of w frames) c.kept × (c.index ≡ length frames) × (c.offset ≡ length (spelling (feed_of w frames)))) (one_version c.version v version cv is) (record { spelled = text; good = good }, index, offset)
bytes_so_far bytes frames c version (in_frames v fv cv text good index offset) is = absurd (no_version None v refl fv)

pub none_before_magic : (bytes : List ℕ) (frames : List Frame) (c : Cut) → Cuts fresh bytes frames c → c.version ≡ None → (frames ≡ []) × (bytes ≡ c.kept) × (c.index ≡ 0) × (c.offset ≡ 0)
none_before_magic bytes frames c (in_magic _ cv ci co none text) is = (none, text, ci, co)
none_before_magic bytes frames c (past_magic v _ cv text good index offset) is = absurd (no_version c.version v is cv)
none_before_magic bytes frames c (in_frames v fv cv text good index offset) is = absurd (no_version None v refl fv)

pub ends_as_feed : (bytes : List ℕ) (frames : List Frame) (c : Cut) → Cuts fresh bytes frames c → c.kept ≡ [] → 2 ≤ c.index
    → (version : Version) × (c.version ≡ Some version) × IsFeed (feed_of version frames) × (bytes ≡ spelling (feed_of version frames))
ends_as_feed bytes frames c (in_magic _ cv ci co none text) empty two = absurd (omega arith)
ends_as_feed bytes frames c (past_magic v _ cv text good index offset) empty two =
    (v, cv, record { good = good; opened = omega arith }, text ∙ ap (λ (t : List ℕ). spelling (feed_of v frames) ++ t) empty ∙ append-nil (spelling (feed_of v frames)))
ends_as_feed bytes frames c (in_frames v fv cv text good index offset) empty two = absurd (no_version None v refl fv)

-- ---- what is shown

pub has_fault : (bytes : List ℕ) (frames : List Frame) (c : Cut) (fault : FeedFault) → Cuts fresh bytes frames c → fault_at c.version c.index c.offset c.kept ≡ Some fault.code → fault.offset ≡ c.offset → HasFault bytes fault
has_fault bytes frames c fault (in_magic _ cv ci co none text) shown place =
    at_start (ap start_fault text ∙ ap (λ (o : Option Version). fault_at o c.index c.offset c.kept) (sym cv) ∙ shown) (place ∙ co)
has_fault bytes frames c fault (past_magic v _ cv text good index offset) shown place =
    in_frame (feed_of v frames) c.kept (record { spelled = text; good = good })
    ((λ i. frame_fault v (sym index i) (place i) c.kept) ∙ ap (λ (o : Option Version). fault_at o c.index c.offset c.kept) (sym cv) ∙ shown) (place ∙ offset)
has_fault bytes frames c fault (in_frames v fv cv text good index offset) shown place = absurd (no_version None v refl fv)

pub fault_is_the_feeds : (bytes came : List ℕ) (frames : List Frame) (c : Cut) (fault : FeedFault) → Cuts fresh bytes frames c → ShowsFault c came fault → HasFault (bytes ++ came) fault
fault_is_the_feeds bytes came frames c fault cuts s = has_fault (bytes ++ came) (frames ++ s.out) s.at fault (cuts_then fresh c s.at bytes came frames s.out cuts s.cuts) s.shown s.place

pub ends_cut_short : (bytes : List ℕ) (frames : List Frame) (c : Cut) (fault : FeedFault) → Cuts fresh bytes frames c → EndsShort c fault → HasFault bytes fault
ends_cut_short bytes frames c fault cuts short =
    subst (HasFault bytes) (sym short.is) (has_fault bytes frames c (record { offset = c.offset; code = code.Truncated }) cuts short.shown refl)

-- where nothing is kept, or what is kept is cut short
pub stops : (bytes : List ℕ) (frames : List Frame) (c : Cut) → Cuts fresh bytes frames c → IsOpen c → StopsAt bytes c.offset
stops bytes frames c cuts is_open = by_kept c.kept refl
  where
    nothing : (n : ℕ) → n ≡ c.index → [] ≡ c.kept → Cuts fresh bytes frames c → StopsAt bytes c.offset
    nothing n e empty (in_magic _ cv ci co none text) = cut_short (at_start (ap start_fault (text ∙ sym empty)) co)
    nothing zero e empty (past_magic v _ cv text good index offset) =
        cut_short (in_frame (feed_of v frames) c.kept (record { spelled = text; good = good }) (λ i. frame_fault v (sym (e ∙ index) i) c.offset (sym empty i)) offset)
    nothing (suc zero) e empty (past_magic v _ cv text good index offset) =
        cut_short (in_frame (feed_of v frames) c.kept (record { spelled = text; good = good }) (λ i. frame_fault v (sym (e ∙ index) i) c.offset (sym empty i)) offset)
    nothing (suc (suc n)) e empty (past_magic v _ cv text good index offset) =
        let same : bytes ≡ spelling (feed_of v frames) = text ∙ ap (λ (t : List ℕ). spelling (feed_of v frames) ++ t) (sym empty) ∙ append-nil (spelling (feed_of v frames)) in
        feed_ends (feed_of v frames) (record { good = good; opened = omega (arith, e, index) }) same (offset ∙ ap length (sym same))
    nothing n e empty (in_frames v fv cv text good index offset) = absurd (no_version None v refl fv)

    by_kept : (kept : List ℕ) → kept ≡ c.kept → StopsAt bytes c.offset
    by_kept [] e = nothing c.index refl e cuts
    by_kept (b ∷ bs) e = cut_short (has_fault bytes frames c (record { offset = c.offset; code = code.Truncated }) cuts (is_open (omega (arith, ap length e))) refl)

-- where memory ran out in a frame, a front of all bytes calls for memory there
pub memory_is_the_feeds : (bytes came : List ℕ) (frames : List Frame) (c : Cut) (offset : ℕ) → Cuts fresh bytes frames c → Reaches c came offset → length came ≤ PIECE → FrontCallsForMemoryAt (bytes ++ came) offset
memory_is_the_feeds bytes came frames c offset cuts r few =
    let all = bytes_so_far (bytes ++ r.used) (frames ++ r.out) r.at r.begun.version (cuts_then fresh c r.at bytes r.used frames r.out cuts r.cuts) r.begun.known in
    let part : IsPartAt (length (frames ++ r.out)) offset r.at.kept = subst (λ (p : ℕ × ℕ). IsPartAt p.0 p.1 r.at.kept) (λ i. (all.1 i, sym r.place i)) r.begun.part in
    record {
      front = bytes ++ r.used;
      ahead = r.ahead;
      parts = ap (λ (t : List ℕ). bytes ++ t) r.parts ∙ sym (append_assoc bytes r.used r.ahead);
      calls = in_part (feed_of r.begun.version (frames ++ r.out)) r.at.kept all.0 part (r.place ∙ all.2);
      near = omega (arith, few, ap length r.parts, length-append r.used r.ahead);
      first = λ zero. absurd (omega (arith, zero, r.place, all.2, length-spelling r.begun.version (frames ++ r.out)));
    }
