-- Every byte string is one feed or has one fault.
use Rattle.std.proofs.Common.{◌≡◌, ℕ, zero, suc, ◌+◌, ◌^◌, ◌<◌, ◌≤◌, Bool, true, false, ltb, eqb, List, [], ◌∷◌, ◌++◌, length, take, drop, get_or, Option, Some, None, IsTrue, refl, sym, ap, subst, ◌∙◌, append_assoc, length-append, arith, inl, inr}
use Rattle.std.specs.Prelude.{◌⊎◌, not, ◌||◌, ◌&&◌, nat_eq}
use Rattle.std.specs.List.{flat_map, starts_with}
use Rattle.std.specs.Int.{w32, to_be_bytes, from_be_bytes}
use Rattle.std.proofs.lemmas.Bool.{le-ltb, lt-ltb, ltb-false, eqb-true}
use Rattle.std.proofs.lemmas.Bool.Decides.{nat_tests}
use Rattle.std.proofs.lemmas.List.{append-nil, take-append-le, take_at, drop_at, take-append-drop, length-take}
use Rattle.std.proofs.lemmas.List.Concat.{flat_map-cons}
use Rattle.std.proofs.lemmas.Nat.{be_bytes_4, from_be_bytes-to_be_bytes_4}
use Rattle.bk_base.specs.declared.limits.TheConstants.{MOST_FEED, MOST_PAYLOAD}
use Rattle.bk_base.specs.declared.version.Version.{Version}
use Rattle.bk_base.specs.declared.version.Version.TheVariants.{One, Two}
use Rattle.bk_base.specs.declared.kind.Kind.{Kind}
use Rattle.bk_base.specs.declared.kind.Kind.TheVariants as kind
use Rattle.bk_frames.specs.declared.fault.FaultCode.{FaultCode}
use Rattle.bk_frames.specs.declared.fault.FaultCode.TheVariants as code
use Rattle.bk_frames.specs.declared.fault.FeedFault.{FeedFault}
use Rattle.bk_base.specs.Feed.{Frame, FeedValue, feed_of, frame_text, spelling, magic, kind_number, stands_at, IsFramedAt, IsGoodAt, AreGoodFrom, IsFeed}
use Rattle.bk_frames.specs.FirstFault.{begins_magic, start_fault, kind_fault, length_fault, payload_fault, content_fault, frame_fault, fault_if, or_else, Begins, HasFault, at_start, in_frame}
use Rattle.bk_base.specs.Committee.{is_committee}
use Rattle.bk_base.specs.Genesis.{is_genesis}
use Rattle.bk_frames.specs.Pulling.{StopsAt, cut_short, feed_ends, IsPartAt, CallsForMemoryAt, at_first, in_part}
use Rattle.bk_frames.specs.Laws.{IsFeedOrHasFault}
use Rattle.bk_base.specs.Numbers.{IsBytes}
use Rattle.bk_base.proofs.FieldLemmas.{IsBytes-take, IsBytes-drop}
use Rattle.bk_base.proofs.Accounts.{and_true}
use Rattle.bk_frames.proofs.FrameFaults.{judged, good}
use Rattle.bk_base.proofs.FramesInTurn.{good_more, spelling_more, length-magic}

-- ---- one frame

kind_injective : (j k : Kind) → kind_number j ≡ kind_number k → j ≡ k
kind_injective kind.Committee kind.Committee h = refl
kind_injective kind.Committee kind.Genesis h = absurd (omega arith)
kind_injective kind.Committee kind.Certificate h = absurd (omega arith)
kind_injective kind.Committee kind.Batch h = absurd (omega arith)
kind_injective kind.Genesis kind.Committee h = absurd (omega arith)
kind_injective kind.Genesis kind.Genesis h = refl
kind_injective kind.Genesis kind.Certificate h = absurd (omega arith)
kind_injective kind.Genesis kind.Batch h = absurd (omega arith)
kind_injective kind.Certificate kind.Committee h = absurd (omega arith)
kind_injective kind.Certificate kind.Genesis h = absurd (omega arith)
kind_injective kind.Certificate kind.Certificate h = refl
kind_injective kind.Certificate kind.Batch h = absurd (omega arith)
kind_injective kind.Batch kind.Committee h = absurd (omega arith)
kind_injective kind.Batch kind.Genesis h = absurd (omega arith)
kind_injective kind.Batch kind.Certificate h = absurd (omega arith)
kind_injective kind.Batch kind.Batch h = refl

-- texts of one length in front of two equal texts are one
fronts : (p q x y : List ℕ) → length p ≡ length q → p ++ x ≡ q ++ y → (p ≡ q) × (x ≡ y)
fronts p q x y same e =
    (sym (take_at p x (length p) refl) ∙ ap (take (length p)) e ∙ take_at q y (length p) (sym same), sym (drop_at p x (length p) refl) ∙ ap (drop (length p)) e ∙ drop_at q y (length p) (sym same))

-- frames at the front of one text are one frame
pub frame_injective : (f g : Frame) (x y : List ℕ) → length f.payload < 2 ^ 32 → length g.payload < 2 ^ 32 → frame_text f ++ x ≡ frame_text g ++ y → (f ≡ g) × (x ≡ y)
frame_injective f g x y lf lg e =
    let k : kind_number f.kind ≡ kind_number g.kind = ap (λ (t : List ℕ). get_or t 0 0) e in
    let n : length f.payload ≡ length g.payload = sym (from_be_bytes-to_be_bytes_4 (length f.payload) lf) ∙ ap (λ (t : List ℕ). from_be_bytes w32 (take 4 (drop 1 t))) e ∙ from_be_bytes-to_be_bytes_4 (length g.payload) lg in
    let p = fronts f.payload g.payload x y n (ap (λ (t : List ℕ). drop 5 t) e) in
    let kinds = kind_injective f.kind g.kind k in
    (λ i. record { kind = kinds i; payload = p.0 i }, p.1)

-- a good frame at the front shows no fault
pub no_fault : (version : Version) (index offset : ℕ) (f : Frame) (rest : List ℕ) → IsGoodAt version index offset f → frame_fault version index offset (frame_text f ++ rest) ≡ None
no_fault version index offset f rest h = judged version index offset f rest h.framed ∙ payload_none index f.payload h.committee h.genesis
  where
    payload_none : (index : ℕ) (payload : List ℕ) → (index ≡ 0 → IsTrue (is_committee version payload)) → (index ≡ 1 → IsTrue (is_genesis payload)) → payload_fault version index payload ≡ None
    payload_none zero payload c g = rw (c refl) refl
    payload_none (suc zero) payload c g = rw (g refl) refl
    payload_none (suc (suc n)) payload c g = grind (arith, nat_tests)

-- ---- two readings of one text

pub data Compared (version : Version) (index offset : ℕ) (fs gs : List Frame) (r s : List ℕ) : Type 0 where
  same : fs ≡ gs → r ≡ s → Compared version index offset fs gs r s
  shorter : (g : Frame) (more : List ℕ) → r ≡ frame_text g ++ more → IsGoodAt version (index + length fs) (offset + length (flat_map frame_text fs)) g → length s ≤ length more → Compared version index offset fs gs r s
  longer : (f : Frame) (more : List ℕ) → s ≡ frame_text f ++ more → IsGoodAt version (index + length gs) (offset + length (flat_map frame_text gs)) f → length r ≤ length more → Compared version index offset fs gs r s

placed : (version : Version) (index offset : ℕ) (f : Frame) → IsGoodAt version index offset f → IsGoodAt version (index + 0) (offset + 0) f
placed version index offset f h = let e : index ≡ index + 0 = omega arith in let k : offset ≡ offset + 0 = omega arith in subst (λ (p : ℕ × ℕ). IsGoodAt version p.0 p.1 f) (λ i. (e i, k i)) h

-- the place after one frame more
moved : (version : Version) (index offset : ℕ) (f : Frame) (fs : List Frame) (h : Frame) → IsGoodAt version (index + 1 + length fs) (offset + length (frame_text f) + length (flat_map frame_text fs)) h → IsGoodAt version (index + suc (length fs)) (offset + length (flat_map frame_text (f ∷ fs))) h
moved version index offset f fs h at =
    let len : length (flat_map frame_text (f ∷ fs)) ≡ length (frame_text f) + length (flat_map frame_text fs) = ap length (flat_map-cons frame_text f fs) ∙ length-append (frame_text f) (flat_map frame_text fs) in
    let e : index + 1 + length fs ≡ index + suc (length fs) = omega arith in
    let k : offset + length (frame_text f) + length (flat_map frame_text fs) ≡ offset + length (flat_map frame_text (f ∷ fs)) = omega (arith, len) in
    subst (λ (p : ℕ × ℕ). IsGoodAt version p.0 p.1 h) (λ i. (e i, k i)) at

-- one frame more in front of both
widen : (version : Version) (index offset : ℕ) (f g : Frame) (fs gs : List Frame) (r s : List ℕ) → f ≡ g → Compared version (index + 1) (offset + length (frame_text f)) fs gs r s → Compared version index offset (f ∷ fs) (g ∷ gs) r s
widen version index offset f g fs gs r s e (same frames rests) = same (λ i. e i ∷ frames i) rests
widen version index offset f g fs gs r s e (shorter h more rest at left) = shorter h more rest (moved version index offset f fs h at) left
widen version index offset f g fs gs r s e (longer h more rest at left) = longer h more rest (subst (λ (k : Frame). IsGoodAt version (index + suc (length gs)) (offset + length (flat_map frame_text (k ∷ gs))) h) e (moved version index offset f gs h at)) left

compare : (version : Version) (index offset : ℕ) (fs gs : List Frame) (r s : List ℕ) → AreGoodFrom version index offset fs → AreGoodFrom version index offset gs → flat_map frame_text fs ++ r ≡ flat_map frame_text gs ++ s → Compared version index offset fs gs r s
compare version index offset [] [] r s gf gg e = same refl e
compare version index offset [] (g ∷ gs) r s gf gg e =
    shorter g (flat_map frame_text gs ++ s) (e ∙ ap (λ (t : List ℕ). t ++ s) (flat_map-cons frame_text g gs) ∙ append_assoc (frame_text g) (flat_map frame_text gs) s)
    (placed version index offset g gg.0) (omega (arith, length-append (flat_map frame_text gs) s))
compare version index offset (f ∷ fs) [] r s gf gg e =
    longer f (flat_map frame_text fs ++ r) (sym e ∙ ap (λ (t : List ℕ). t ++ r) (flat_map-cons frame_text f fs) ∙ append_assoc (frame_text f) (flat_map frame_text fs) r)
    (placed version index offset f gf.0) (omega (arith, length-append (flat_map frame_text fs) r))
compare version index offset (f ∷ fs) (g ∷ gs) r s gf gg e =
    let left : flat_map frame_text (f ∷ fs) ++ r ≡ frame_text f ++ (flat_map frame_text fs ++ r) = ap (λ (t : List ℕ). t ++ r) (flat_map-cons frame_text f fs) ∙ append_assoc (frame_text f) (flat_map frame_text fs) r in
    let right : flat_map frame_text (g ∷ gs) ++ s ≡ frame_text g ++ (flat_map frame_text gs ++ s) = ap (λ (t : List ℕ). t ++ s) (flat_map-cons frame_text g gs) ∙ append_assoc (frame_text g) (flat_map frame_text gs) s in
    let one = frame_injective f g (flat_map frame_text fs ++ r) (flat_map frame_text gs ++ s) (omega (arith, gf.0.framed.short)) (omega (arith, gg.0.framed.short)) (sym left ∙ e ∙ right) in
    let others = compare version (index + 1) (offset + length (frame_text f)) fs gs r s gf.1 (subst (λ (h : Frame). AreGoodFrom version (index + 1) (offset + length (frame_text h)) gs) (sym one.0) gg.1) one.1 in
    widen version index offset f g fs gs r s one.0 others

differ : (m n : ℕ) → m < n → ¬ (m ≡ n)
differ m n lt e = absurd (omega arith)

-- magics at the front of one text are one magic
pub magic_injective : (v w : Version) (x y : List ℕ) → magic v ++ x ≡ magic w ++ y → (v ≡ w) × (x ≡ y)
magic_injective One One x y e = (refl, ap (drop 4) e)
magic_injective One Two x y e = absurd (differ 49 50 (omega arith) (ap (λ (t : List ℕ). get_or t 3 0) e))
magic_injective Two One x y e = absurd (differ 49 50 (omega arith) (sym (ap (λ (t : List ℕ). get_or t 3 0) e)))
magic_injective Two Two x y e = (refl, ap (drop 4) e)

-- the magic first, and then frames and what follows them
pub magic_and : (front : FeedValue) (rest : List ℕ) → spelling front ++ rest ≡ magic front.version ++ (flat_map frame_text front.frames ++ rest)
magic_and front rest = append_assoc (magic front.version) (flat_map frame_text front.frames) rest

-- two readings are one, or one of them goes on with a good frame where the other ends
data Readings (front other : FeedValue) (r s : List ℕ) : Type 0 where
  one : front ≡ other → r ≡ s → Readings front other r s
  goes_on : (g : Frame) (more : List ℕ) → r ≡ frame_text g ++ more → IsGoodAt front.version (length front.frames) (length (spelling front)) g → length s ≤ length more → Readings front other r s
  other_goes_on : (g : Frame) (more : List ℕ) → s ≡ frame_text g ++ more → IsGoodAt other.version (length other.frames) (length (spelling other)) g → length r ≤ length more → Readings front other r s

-- the place right after good frames
placed_here : (version : Version) (front : FeedValue) (g : Frame) → version ≡ front.version → IsGoodAt version (0 + length front.frames) (4 + length (flat_map frame_text front.frames)) g
    → IsGoodAt front.version (length front.frames) (length (spelling front)) g
placed_here version front g version_is at =
    let index : 0 + length front.frames ≡ length front.frames = omega arith in
    let place : 4 + length (flat_map frame_text front.frames) ≡ length (spelling front) = omega (arith, length-append (magic front.version) (flat_map frame_text front.frames), length-magic front.version) in
    subst (λ (p : Version × ℕ × ℕ). IsGoodAt p.0 p.1 p.2 g) (λ i. (version_is i, index i, place i)) at

two_readings : (bytes : List ℕ) (front other : FeedValue) (r s : List ℕ) → Begins bytes front r → Begins bytes other s → Readings front other r s
two_readings bytes front other r s first second =
    let parts = magic_injective front.version other.version (flat_map frame_text front.frames ++ r) (flat_map frame_text other.frames ++ s) (sym (magic_and front r) ∙ sym first.spelled ∙ second.spelled ∙ magic_and other s) in
    by_cases parts.0 (compare front.version 0 4 front.frames other.frames r s first.good (subst (λ (v : Version). AreGoodFrom v 0 4 other.frames) (sym parts.0) second.good) parts.1)
  where
    by_cases : front.version ≡ other.version → Compared front.version 0 4 front.frames other.frames r s → Readings front other r s
    by_cases v (same frames rests) = one (λ i. record { version = v i; frames = frames i }) rests
    by_cases v (shorter g more e at left) = goes_on g more e (placed_here front.version front g refl at) left
    by_cases v (longer g more e at left) = other_goes_on g more e (placed_here front.version other g v at) left

-- ---- no text has two readings

no_code : (c : FaultCode) → ¬ (None ≡ Some c)
no_code c e = absurd cc

-- where a good frame begins, no fault is found
no_fault_there : (front : FeedValue) (offset : ℕ) (g : Frame) (more rest : List ℕ) (c : FaultCode) → rest ≡ frame_text g ++ more → IsGoodAt front.version (length front.frames) (length (spelling front)) g → offset ≡ length (spelling front)
    → ¬ (frame_fault front.version (length front.frames) offset rest ≡ Some c)
no_fault_there front offset g more rest c e h place found =
    no_code c (sym ((λ i. frame_fault front.version (length front.frames) (place i) (e i)) ∙ no_fault front.version (length front.frames) (length (spelling front)) g more h) ∙ found)

-- a feed begins with all of its frames
feed_begins : (feed : FeedValue) → IsFeed feed → Begins (spelling feed) feed []
feed_begins feed f = record { spelled = sym (append-nil (spelling feed)); good = f.good }

pub one_feed : (feed other : FeedValue) → IsFeed feed → IsFeed other → spelling feed ≡ spelling other → feed ≡ other
one_feed feed other f g e = by_cases (two_readings (spelling feed) feed other [] [] (feed_begins feed f) (record { spelled = e ∙ sym (append-nil (spelling other)); good = g.good }))
  where
    by_cases : Readings feed other [] [] → feed ≡ other
    by_cases (one h rests) = h
    by_cases (goes_on h more rest at left) = absurd cc
    by_cases (other_goes_on h more rest at left) = absurd cc

-- the start of what begins with a magic shows no fault
start_good : (version : Version) (rest : List ℕ) → start_fault (magic version ++ rest) ≡ None
start_good One rest = let four : ltb (suc (suc (suc (suc (length rest))))) 4 ≡ false = le-ltb _ _ (omega arith) in rw four refl
start_good Two rest = let four : ltb (suc (suc (suc (suc (length rest))))) 4 ≡ false = le-ltb _ _ (omega arith) in rw four refl

pub start_of : (bytes : List ℕ) (front : FeedValue) (rest : List ℕ) → Begins bytes front rest → start_fault bytes ≡ None
start_of bytes front rest begins = ap start_fault (begins.spelled ∙ magic_and front rest) ∙ start_good front.version (flat_map frame_text front.frames ++ rest)

pub not_both : (feed : FeedValue) (fault : FeedFault) → IsFeed feed → ¬ HasFault (spelling feed) fault
not_both feed fault f (at_start found zero_offset) = no_code fault.code (sym (start_of (spelling feed) feed [] (feed_begins feed f)) ∙ found)
not_both feed fault f (in_frame front rest begins found offset) = by_cases (two_readings (spelling feed) feed front [] rest (feed_begins feed f) begins)
  where
    by_cases : Readings feed front [] rest → ⊥
    by_cases (one h rests) =
        let two : ltb (length front.frames) 2 ≡ false = le-ltb _ _ (omega (arith, ap (λ (v : FeedValue). length v.frames) h, f.opened)) in
        no_code fault.code (sym (ap (λ (b : Bool). fault_if b code.Truncated) two) ∙ subst (λ (t : List ℕ). frame_fault front.version (length front.frames) fault.offset t ≡ Some fault.code) (sym rests) found)
    by_cases (goes_on h more e at left) = absurd cc
    by_cases (other_goes_on h more e at left) = no_fault_there front fault.offset h more rest fault.code e at offset found

some_is : (a b : FaultCode) → Some a ≡ Some b → a ≡ b
some_is a b e = cc

fault_same : (a b : FeedFault) → a.offset ≡ b.offset → a.code ≡ b.code → a ≡ b
fault_same a b o c = λ i. record { offset = o i; code = c i }

pub one_fault : (bytes : List ℕ) (a b : FeedFault) → HasFault bytes a → HasFault bytes b → a ≡ b
one_fault bytes a b (at_start f o) (at_start g p) = fault_same a b (o ∙ sym p) (some_is a.code b.code (sym f ∙ g))
one_fault bytes a b (at_start f o) (in_frame front r begins found offset) = absurd (no_code a.code (sym (start_of bytes front r begins) ∙ f))
one_fault bytes a b (in_frame front r begins found offset) (at_start g p) = absurd (no_code b.code (sym (start_of bytes front r begins) ∙ g))
one_fault bytes a b (in_frame front r first found_a o) (in_frame other s second found_b p) = by_cases (two_readings bytes front other r s first second)
  where
    by_cases : Readings front other r s → a ≡ b
    by_cases (one fronts rests) =
        let offsets : a.offset ≡ b.offset = o ∙ ap (λ (v : FeedValue). length (spelling v)) fronts ∙ sym p in
        fault_same a b offsets (some_is a.code b.code (sym found_a ∙ (λ i. frame_fault (fronts i).version (length (fronts i).frames) (offsets i) (rests i)) ∙ found_b))
    by_cases (goes_on h more e at left) = absurd (no_fault_there front a.offset h more r a.code e at o found_a)
    by_cases (other_goes_on h more e at left) = absurd (no_fault_there other b.offset h more s b.code e at p found_b)

-- ---- where a text stops, and where it calls for memory

pub one_stop : (bytes : List ℕ) (a b : ℕ) → StopsAt bytes a → StopsAt bytes b → a ≡ b
one_stop bytes a b (cut_short f) (cut_short g) = ap (λ (fault : FeedFault). fault.offset) (one_fault bytes (record { offset = a; code = code.Truncated }) (record { offset = b; code = code.Truncated }) f g)
one_stop bytes a b (cut_short f) (feed_ends feed is_feed spelled end) = absurd (not_both feed _ is_feed (subst (λ (t : List ℕ). HasFault t (record { offset = a; code = code.Truncated })) spelled f))
one_stop bytes a b (feed_ends feed is_feed spelled end) (cut_short g) = absurd (not_both feed _ is_feed (subst (λ (t : List ℕ). HasFault t (record { offset = b; code = code.Truncated })) spelled g))
one_stop bytes a b (feed_ends feed is_feed spelled end) (feed_ends other also_feed also last) = end ∙ sym last

-- a part of one frame that begins with another frame is that frame
no_more : (index offset : ℕ) (part : List ℕ) (f : Frame) (more : List ℕ) → IsPartAt index offset part → part ≡ frame_text f ++ more → length f.payload ≤ MOST_PAYLOAD → length more ≡ 0
no_more index offset part f more p e short =
    let whole : frame_text p.frame ++ [] ≡ frame_text f ++ (more ++ p.more) = append-nil (frame_text p.frame) ∙ p.joined ∙ ap (λ (t : List ℕ). t ++ p.more) e ∙ append_assoc (frame_text f) more p.more in
    let one = frame_injective p.frame f [] (more ++ p.more) (omega (arith, p.framed.short)) (omega (arith, short)) whole in
    omega (arith, ap length one.1, length-append more p.more)

not_empty : (front : FeedValue) (rest : List ℕ) → ¬ ([] ≡ spelling front ++ rest)
not_empty front rest e = absurd (omega (arith, ap length (e ∙ magic_and front rest), length-append (magic front.version) (flat_map frame_text front.frames ++ rest), length-magic front.version))

-- a part of a frame has the frame's kind and length
pub part_is_measured : (index offset : ℕ) (part : List ℕ) (p : IsPartAt index offset part) → take 5 part ≡ take 5 (frame_text p.frame)
part_is_measured index offset part p = sym (ap (take 5) p.joined ∙ take-append-le 5 part p.more p.measured)

pub one_call_for_memory : (bytes : List ℕ) (a b : ℕ) → CallsForMemoryAt bytes a → CallsForMemoryAt bytes b → a ≡ b
one_call_for_memory bytes a b (at_first none zero_a) (at_first also zero_b) = zero_a ∙ sym zero_b
one_call_for_memory bytes a b (at_first none zero_a) (in_part other q second part_b next_b) = absurd (not_empty other q (sym none ∙ second.spelled))
one_call_for_memory bytes a b (in_part front p first part_a next_a) (at_first none zero_b) = absurd (not_empty front p (sym none ∙ first.spelled))
one_call_for_memory bytes a b (in_part front p first part_a next_a) (in_part other q second part_b next_b) =
    by_cases (two_readings bytes front other p q first second)
  where
    by_cases : Readings front other p q → a ≡ b
    by_cases (one fronts rests) = next_a ∙ ap (λ (v : FeedValue). length (spelling v)) fronts ∙ sym next_b
    by_cases (goes_on h more e at left) = absurd (omega (arith, no_more (length front.frames) a p h more part_a e at.framed.short, left, part_b.measured))
    by_cases (other_goes_on h more e at left) = absurd (omega (arith, no_more (length other.frames) b q h more part_b e at.framed.short, left, part_a.measured))

-- ---- each text has a reading

or_none : (a b : Option FaultCode) → or_else a b ≡ None → (a ≡ None) × (b ≡ None)
or_none (Some c) b h = absurd cc
or_none None b h = (refl, h)

unfaulted : (b : Bool) (c : FaultCode) → fault_if b c ≡ None → b ≡ false
unfaulted true c h = absurd cc
unfaulted false c h = refl

-- a kind that shows no fault is in its place
place_one : (index : ℕ) → kind_fault index 1 ≡ None → IsTrue (stands_at index kind.Committee)
place_one zero h = refl
place_one (suc zero) h = absurd (no_code code.Genesis (sym h))
place_one (suc (suc n)) h = let e : kind_fault (suc (suc n)) 1 ≡ Some code.Extra = grind (arith, nat_tests) in absurd (no_code code.Extra (sym h ∙ e))

place_two : (index : ℕ) → kind_fault index 2 ≡ None → IsTrue (stands_at index kind.Genesis)
place_two zero h = absurd (no_code code.Committee (sym h))
place_two (suc zero) h = refl
place_two (suc (suc n)) h = let e : kind_fault (suc (suc n)) 2 ≡ Some code.Extra = grind (arith, nat_tests) in absurd (no_code code.Extra (sym h ∙ e))

place_three : (index : ℕ) → kind_fault index 3 ≡ None → IsTrue (stands_at index kind.Certificate)
place_three zero h = absurd (no_code code.Committee (sym h))
place_three (suc zero) h = absurd (no_code code.Genesis (sym h))
place_three (suc (suc n)) h = grind (arith, nat_tests)

place_four : (index : ℕ) → kind_fault index 4 ≡ None → IsTrue (stands_at index kind.Batch)
place_four zero h = absurd (no_code code.Committee (sym h))
place_four (suc zero) h = absurd (no_code code.Genesis (sym h))
place_four (suc (suc n)) h = grind (arith, nat_tests)

-- a kind that shows no fault is one, in its place
pub kind_from : (index number : ℕ) → kind_fault index number ≡ None → (k : Kind) × (kind_number k ≡ number) × IsTrue (stands_at index k)
kind_from index zero h = absurd (no_code code.Kind (sym h))
kind_from index (suc zero) h = (kind.Committee, refl, place_one index h)
kind_from index (suc (suc zero)) h = (kind.Genesis, refl, place_two index h)
kind_from index (suc (suc (suc zero))) h = (kind.Certificate, refl, place_three index h)
kind_from index (suc (suc (suc (suc zero)))) h = (kind.Batch, refl, place_four index h)
kind_from index (suc (suc (suc (suc (suc n))))) h =
    let above : ltb 4 (suc (suc (suc (suc (suc n))))) ≡ true = lt-ltb _ _ (omega arith) in
    let first : ltb (suc (suc (suc (suc (suc n))))) 1 ≡ false = le-ltb _ _ (omega arith) in
    let found : kind_fault index (suc (suc (suc (suc (suc n))))) ≡ Some code.Kind = rw (first, above) refl in
    absurd (no_code code.Kind (sym h ∙ found))

or_false : (a b : Bool) → (a || b) ≡ false → (a ≡ false) × (b ≡ false)
or_false true b h = absurd cc
or_false false b h = (refl, h)

-- the parts of a frame's text, joined
joined : (number : ℕ) (more front payload rest : List ℕ) (k : Kind) → kind_number k ≡ number → to_be_bytes w32 (length payload) ≡ front → more ≡ front ++ (payload ++ rest)
    → number ∷ more ≡ frame_text (record { kind = k; payload = payload }) ++ rest
joined number more front payload rest k kind_is front_is parts =
    ap (λ (t : List ℕ). number ∷ t) (parts ∙ ap (λ (t : List ℕ). t ++ (payload ++ rest)) (sym front_is)) ∙ ap (λ (n : ℕ). n ∷ (to_be_bytes w32 (length payload) ++ (payload ++ rest))) (sym kind_is)

-- bytes that show no fault begin with a good frame
whole_frame : (version : Version) (index offset number : ℕ) (more : List ℕ) → IsBytes (number ∷ more) → frame_fault version index offset (number ∷ more) ≡ None
    → (f : Frame) × (rest : List ℕ) × (number ∷ more ≡ frame_text f ++ rest) × IsGoodAt version index offset f
whole_frame version index offset number more bytes h =
    let a = or_none (kind_fault index number) (or_else (fault_if (ltb (length more) 4) code.Truncated) (content_fault version index offset (from_be_bytes w32 (take 4 more)) (drop 4 more))) h in
    let b = or_none (fault_if (ltb (length more) 4) code.Truncated) (content_fault version index offset (from_be_bytes w32 (take 4 more)) (drop 4 more)) a.1 in
    read_content index offset number more (from_be_bytes w32 (take 4 more)) (kind_from index number a.0) (ltb-false _ _ (unfaulted _ code.Truncated b.0)) (λ i. bytes (suc i)) refl b.1
  where
    read_content : (index offset number : ℕ) (more : List ℕ) (len : ℕ) → ((k : Kind) × (kind_number k ≡ number) × IsTrue (stands_at index k)) → 4 ≤ length more → IsBytes more → len ≡ from_be_bytes w32 (take 4 more)
        → content_fault version index offset len (drop 4 more) ≡ None → (f : Frame) × (rest : List ℕ) × (number ∷ more ≡ frame_text f ++ rest) × IsGoodAt version index offset f
    read_content index offset number more len k four bytes len_is h =
        let after = drop 4 more in
        let a = or_none (length_fault offset len) (or_else (fault_if (ltb (length after) len) code.Truncated) (payload_fault version index (take len after))) h in
        let b = or_none (fault_if (ltb (length after) len) code.Truncated) (payload_fault version index (take len after)) a.1 in
        let limits = or_false (ltb MOST_PAYLOAD len) (ltb MOST_FEED (offset + 5 + len)) (unfaulted _ code.Length a.0) in
        let short : len ≤ MOST_PAYLOAD = ltb-false _ _ limits.0 in
        let inside : offset + 5 + len ≤ MOST_FEED = ltb-false _ _ limits.1 in
        let long : len ≤ length after = ltb-false _ _ (unfaulted _ code.Truncated b.0) in
        let len_of : length (take len after) ≡ len = omega (arith, length-take len after) in
        let front : to_be_bytes w32 (length (take len after)) ≡ take 4 more = be_bytes_4 (take 4 more) (length (take len after)) (omega (arith, length-take 4 more)) (IsBytes-take 4 more bytes) (len_of ∙ len_is) in
        let parts : more ≡ take 4 more ++ (take len after ++ drop len after) = sym (take-append-drop 4 more) ∙ ap (λ (t : List ℕ). take 4 more ++ t) (sym (take-append-drop len after)) in
        let f : Frame = record { kind = k.0; payload = take len after } in
        let framed : IsFramedAt index offset f = record { in_place = k.2; short = omega (arith, len_of, short); inside = omega (arith, len_of, inside) } in
        (f, drop len after, joined number more (take 4 more) (take len after) (drop len after) k.0 k.1 front parts, good version index offset f framed b.1)

not_false : (b : Bool) → not b ≡ false → b ≡ true
not_false true h = refl
not_false false h = absurd cc

one_of : (p q : Bool) → (p || q) ≡ true → (p ≡ true) ⊎ (q ≡ true)
one_of true q h = inl refl
one_of false q h = inr h

-- four bytes that pass the test are those
four_bytes : (w x y z a b c d : ℕ) (rest : List ℕ) → starts_with nat_eq (w ∷ x ∷ y ∷ z ∷ []) (a ∷ b ∷ c ∷ d ∷ []) ≡ true → a ∷ b ∷ c ∷ d ∷ rest ≡ w ∷ x ∷ y ∷ z ∷ rest
four_bytes w x y z a b c d rest t =
    let a-is = and_true (eqb a w) (eqb b x && (eqb c y && (eqb d z && true))) t in
    let b-is = and_true (eqb b x) (eqb c y && (eqb d z && true)) a-is.1 in
    let c-is = and_true (eqb c y) (eqb d z && true) b-is.1 in
    let d-is = and_true (eqb d z) true c-is.1 in
    λ i. eqb-true a w a-is.0 i ∷ eqb-true b x b-is.0 i ∷ eqb-true c y c-is.0 i ∷ eqb-true d z d-is.0 i ∷ rest

-- bytes whose start shows no fault begin with a magic
magic_first : (bytes : List ℕ) → start_fault bytes ≡ None → (version : Version) × (rest : List ℕ) × (bytes ≡ magic version ++ rest)
magic_first [] h = absurd (no_code code.Truncated (sym h))
magic_first (a ∷ []) h = let p = or_none (fault_if (not (begins_magic (a ∷ []))) code.Magic) (Some code.Truncated) h in absurd (no_code code.Truncated (sym p.1))
magic_first (a ∷ b ∷ []) h = let p = or_none (fault_if (not (begins_magic (a ∷ b ∷ []))) code.Magic) (Some code.Truncated) h in absurd (no_code code.Truncated (sym p.1))
magic_first (a ∷ b ∷ c ∷ []) h = let p = or_none (fault_if (not (begins_magic (a ∷ b ∷ c ∷ []))) code.Magic) (Some code.Truncated) h in absurd (no_code code.Truncated (sym p.1))
magic_first (a ∷ b ∷ c ∷ d ∷ rest) h =
    let p = or_none (fault_if (not (begins_magic (a ∷ b ∷ c ∷ d ∷ []))) code.Magic) (fault_if (ltb (suc (suc (suc (suc (length rest))))) 4) code.Truncated) h in
    elim (one_of _ _ (not_false (begins_magic (a ∷ b ∷ c ∷ d ∷ [])) (unfaulted _ code.Magic p.0))) [
      | inl t ↦ (One, rest, four_bytes 66 75 70 49 a b c d rest t)
      | inr t ↦ (Two, rest, four_bytes 66 75 70 50 a b c d rest t)
    ]

-- what the bytes after good frames are
next_frames : (bytes : List ℕ) (version : Version) (frames : List Frame) (rest : List ℕ) → Begins bytes (feed_of version frames) rest → IsBytes rest
    → ((f : Frame) (more : List ℕ) → rest ≡ frame_text f ++ more → Begins bytes (feed_of version (frames ++ f ∷ [])) more → IsBytes more → IsFeedOrHasFault bytes)
    → (found : Option FaultCode) → frame_fault version (length frames) (length (spelling (feed_of version frames))) rest ≡ found → IsFeedOrHasFault bytes
next_frames bytes version frames rest begins fits next (Some c) e =
    inr (record { offset = length (spelling (feed_of version frames)); code = c }, in_frame (feed_of version frames) rest begins e refl)
next_frames bytes version frames [] begins fits next None e =
    let two : 2 ≤ length frames = ltb-false _ _ (unfaulted _ code.Truncated e) in
    inl (feed_of version frames, record { good = begins.good; opened = two }, begins.spelled ∙ append-nil (spelling (feed_of version frames)))
next_frames bytes version frames (number ∷ more) begins fits next None e =
    let front = spelling (feed_of version frames) in
    let w = whole_frame version (length frames) (length front) number more fits e in
    let spelled : bytes ≡ spelling (feed_of version (frames ++ w.0 ∷ [])) ++ w.1 =
    begins.spelled ∙ ap (λ (t : List ℕ). front ++ t) w.2 ∙ sym (append_assoc front (frame_text w.0) w.1) ∙ ap (λ (t : List ℕ). t ++ w.1) (sym (spelling_more version frames w.0)) in
    let fits_more : IsBytes w.1 = subst IsBytes (ap (drop (length (frame_text w.0))) w.2 ∙ drop_at (frame_text w.0) w.1 (length (frame_text w.0)) refl) (IsBytes-drop (length (frame_text w.0)) (number ∷ more) fits) in
    let place : length front ≡ 4 + length (flat_map frame_text frames) = omega (arith, length-append (magic version) (flat_map frame_text frames), length-magic version) in
    next w.0 w.1 w.2 (record { spelled = spelled; good = good_more version 0 4 (length frames) (length front) frames w.0 (omega arith) place begins.good w.3 }) fits_more

-- from good frames on: the rest, which gets shorter, is read to its end
from_frames : (fuel : ℕ) (bytes : List ℕ) (version : Version) (frames : List Frame) (rest : List ℕ) → length rest ≤ fuel → Begins bytes (feed_of version frames) rest → IsBytes rest → IsFeedOrHasFault bytes
from_frames zero bytes version frames rest room begins fits =
    next_frames bytes version frames rest begins fits (λ f more e b h. absurd (omega (arith, room, ap length e))) (frame_fault version (length frames) (length (spelling (feed_of version frames))) rest) refl
from_frames (suc fuel) bytes version frames rest room begins fits =
    next_frames bytes version frames rest begins fits (λ f more e b h. from_frames fuel bytes version (frames ++ f ∷ []) more (omega (arith, room, ap length e, length-append (frame_text f) more, length-append f.payload more)) b h)
    (frame_fault version (length frames) (length (spelling (feed_of version frames))) rest) refl

pub feed_or_fault : (bytes : List ℕ) → IsBytes bytes → IsFeedOrHasFault bytes
feed_or_fault bytes fits = by_start (start_fault bytes) refl
  where
    begins : (version : Version) (rest : List ℕ) → bytes ≡ magic version ++ rest → Begins bytes (feed_of version []) rest
    begins One rest e = record { spelled = e; good = tt }
    begins Two rest e = record { spelled = e; good = tt }

    fits_rest : (version : Version) (rest : List ℕ) → bytes ≡ magic version ++ rest → IsBytes rest
    fits_rest version rest e = subst IsBytes (ap (drop 4) e ∙ drop_at (magic version) rest 4 (length-magic version)) (IsBytes-drop 4 bytes fits)

    by_start : (found : Option FaultCode) → start_fault bytes ≡ found → IsFeedOrHasFault bytes
    by_start (Some c) e = inr (record { offset = 0; code = c }, at_start e refl)
    by_start None e =
        let m = magic_first bytes e in
        from_frames (length m.1) bytes m.0 [] m.1 (omega arith) (begins m.0 m.1 m.2) (fits_rest m.0 m.1 m.2)
