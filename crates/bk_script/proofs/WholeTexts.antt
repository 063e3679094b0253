-- A text that is read whole, and its feed.
use Rattle.std.proofs.Common.{◌≡◌, ℕ, ◌+◌, ◌-◌, ◌<◌, ◌≤◌, ◌==◌, ◌&&◌, nat_le, nat_lt, Bool, true, false, if◌then◌else◌, List, [], ◌++◌, length, take, drop, Option, Some, None, Result, Ok, Err, refl, sym, ap, subst, ◌∙◌, arith}
use Rattle.std.proofs.lemmas.List.{take_at, take_all, append-nil}
use Rattle.std.proofs.lemmas.Bool.{le-leb}
use Rattle.std.proofs.lemmas.Bool.Decides.{nat_tests}
use Rattle.std.specs.Prelude.{IfSome}
use Rattle.std.specs.Io.KnownBytes.{Consumes, IsAtEnd, Keeps}
use Rattle.bk_frames.specs.Device.{Device, Ends, ends_of, Gives, Receives}
use Rattle.bk_frames.proofs.Devices.{ends_at, ends_by_room, ends_then, gives_then}
use Rattle.bk_results.specs.Devices.{OfText}
use Rattle.bk_frames.specs.declared.writing.WriteFault.{WriteFault}
use Rattle.bk_frames.specs.Writing.{StopsWriting}
use Rattle.bk_results.specs.declared.script_fault.ScriptFault.{ScriptFault}
use Rattle.bk_results.specs.declared.script_fault.ScriptFault.TheVariants as fault
use Rattle.bk_script.specs.Known.{Known, nothing_known}
use Rattle.bk_script.specs.Listing.{lines_of, then_more, listed, crossing, taken_within}
use Rattle.bk_script.specs.Script.{LineFault, judged_in, too_long, known_within, feed_after, feed_within, feed_of}
use Rattle.bk_script.specs.declared.making.TheConstants.{MOST_SCRIPT}
use Rattle.bk_script.specs.Answers.{FailsBy, IsMade, IsMadeInPart, devices, IsRead, HasRead, IsNotRead}
use Rattle.bk_script.specs.private.Agreeing.{IsFeedFrom, IsNoFeedFrom, Agrees}
use Rattle.bk_script.specs.private.LineEnds.{IsLine}
use Rattle.bk_script.proofs.ListLines.{HasTaken, one_stops, taken_of_read}

-- ---- what was read of a source

-- nothing is left
pub read_all : (old mid new : Option (List ℕ)) (text buf : List ℕ) (count most : ℕ) → Consumes old mid text
    → Consumes mid new (take count buf) × (count ≡ 0 → 0 < length buf → IsAtEnd new) → count ≡ 0 → 0 < length buf → length text ≤ most + 1
    → IfSome old (λ bytes. IsRead most bytes text)
unfolding IsRead
read_all None mid new text buf count most gave last zero some few = tt
read_all (Some bs) None new text buf count most gave last zero some few = absurd gave
read_all (Some bs) (Some cs) None text buf count most gave last zero some few = absurd last.0
read_all (Some bs) (Some cs) (Some ds) text buf count most gave last zero some few =
    let left : cs ≡ [] = last.0 ∙ ap (λ n. take n buf ++ ds) zero ∙ last.1 zero some in
    let all : bs ≡ text = gave ∙ ap (λ t. text ++ t) left ∙ append-nil text in
    sym (take_all (most + 1) text few) ∙ ap (take (most + 1)) (sym all)

-- one byte past the limit was read
pub read_enough : (old new : Option (List ℕ)) (text : List ℕ) (most : ℕ) → Consumes old new text → length text ≡ most + 1
    → IfSome old (λ bytes. IsRead most bytes text)
unfolding IsRead
read_enough None new text most gave many = tt
read_enough (Some bs) None text most gave many = absurd gave
read_enough (Some bs) (Some cs) text most gave many = sym (take_at text cs (most + 1) many) ∙ ap (take (most + 1)) (sym gave)

-- what a source gave, where a last pull gave nothing
pub gives_still : (old mid new : Device) (text buf : List ℕ) (count : ℕ) → Gives old mid text → Gives mid new (take count buf) → count ≡ 0 → Gives old new text
gives_still old mid new text buf count gave last zero =
    subst (λ t. Gives old new t) (ap (λ n. text ++ take n buf) zero ∙ append-nil text) (gives_then old mid new text (take count buf) gave last)

-- the last pull ended it
pub read_ended : (most : ℕ) (old mid new : Device) (text : List ℕ) (count room : ℕ) → length text ≤ most → Ends 0 old mid → Ends (ends_of count room) mid new → count ≡ 0 → 0 < room
    → Ends (if nat_le (length text) most then 1 else 0) old new
read_ended most old mid new text count room few before last zero some =
    subst (λ b. Ends (if b then 1 else 0) old new) (sym (le-leb (length text) most few))
    (ends_then old mid new before (ends_at count mid new (ends_by_room room count mid new last some) zero))

-- it was read on past the limit
pub read_past : (most : ℕ) (old new : Device) (text : List ℕ) → most < length text → Ends 0 old new → Ends (if nat_le (length text) most then 1 else 0) old new
read_past most old new text many before =
    let past : nat_le (length text) most ≡ false = grind (arith, nat_tests) in
    subst (λ b. Ends (if b then 1 else 0) old new) (sym past) before

-- what follows of bytes that may be known
pub known_then : (b : Option (List ℕ)) (P Q : List ℕ → Type 0) → ((bytes : List ℕ) → P bytes → Q bytes) → IfSome b P → IfSome b Q
known_then None P Q f h = tt
known_then (Some bytes) P Q f h = f bytes h

-- what it makes
pub of_read : {R : Type 0} (f : List ℕ → R) (r : R) (most : ℕ) (old new : Device) (text : List ℕ) → HasRead most old new text
    → ((bytes : List ℕ) → IsRead most bytes text → f text ≡ f bytes) → f text ≡ r → OfText most old new (λ t. f t ≡ r)
of_read f r most old new text read same e =
    ((text, read.3, (read.4, e)), known_then old.bytes (λ bytes. IsRead most bytes text) (λ bytes. f bytes ≡ r) (λ bytes is. sym (same bytes is) ∙ e) read.2)

-- ---- the feed of a whole text

-- a line has a fault
pub line_stops : (most : ℕ) (k a : Known) (count start end : ℕ) (text : List ℕ) (e : ScriptFault) → IsLine text start end → HasTaken judged_in too_long most k a count start text
    → false ≡ (nat_lt most (length text) && end == length text) → Agrees {A = Unit {0}} {B = Known} (λ _. k) (Err e) (judged_in a (count + 1) (take (end - start) (drop start text)))
    → Agrees {A = Unit {0}} {B = Known} (λ _. k) (Err e) (known_within k most text)
line_stops most k a count start end text (fault.Script line found) is taken not bad = one_stops judged_in too_long most k a count start end text is taken not (record { line = line; code = found }) bad
line_stops most k a count start end text fault.Read is taken not bad = bad
line_stops most k a count start end text (fault.Write written) is taken not bad = bad
line_stops most k a count start end text fault.Memory is taken not bad = bad

-- the text that was read makes the feed of all bytes
crossing_then : (r : Result Known LineFault) (e : LineFault) (f g : Known → Result (List ℕ) LineFault) → then_more (then_more {B = Known} r (λ _. Err e)) f ≡ then_more (then_more {B = Known} r (λ _. Err e)) g
crossing_then (Ok k) e f g = refl
crossing_then (Err found) e f g = refl

feed_cut : (b : Bool) (most : ℕ) (bytes : List ℕ) → nat_le (length bytes) most ≡ b → feed_within most (take (most + 1) bytes) ≡ feed_within most bytes
unfolding feed_within taken_within IsRead
feed_cut true most bytes few =
    let short : length bytes ≤ most = grind (arith, nat_tests) in
    ap (feed_within most) (take_all (most + 1) bytes (omega (arith, short)))
feed_cut false most bytes many =
    let after : List ℕ → Known → Result (List ℕ) LineFault = λ text k. feed_after (length (lines_of text)) k in
    let crosses : known_within nothing_known most bytes ≡ crossing judged_in too_long nothing_known (take (most + 1) bytes) =
    ap (λ b. if b then listed judged_in nothing_known 1 (lines_of bytes) else crossing judged_in too_long nothing_known (take (most + 1) bytes)) many in
    ap (λ r. then_more r (after (take (most + 1) bytes))) (taken_of_read judged_in too_long most nothing_known bytes (take (most + 1) bytes) refl ∙ crosses)
    ∙ crossing_then _ _ (after (take (most + 1) bytes)) (after bytes) ∙ ap (λ r. then_more r (after bytes)) (sym crosses)

feed_of_read : (most : ℕ) (bytes text : List ℕ) → IsRead most bytes text → feed_within most text ≡ feed_within most bytes
unfolding IsRead
feed_of_read most bytes text is = ap (feed_within most) is ∙ feed_cut (nat_le (length bytes) most) most bytes refl

-- ---- from a source

pub text_gives : (most : ℕ) (old new : Device) (text feed : List ℕ) → HasRead most old new text → feed_within most text ≡ Ok feed → IsFeedFrom most old new feed
text_gives most old new text feed read e = (read.0, of_read (feed_within most) (Ok feed) most old new text read (λ bytes is. feed_of_read most bytes text is) e)

pub text_fails : (most : ℕ) (old new : Device) (text : List ℕ) (e : ScriptFault) → HasRead most old new text
    → Agrees {A = Unit {0}} {B = List ℕ} (λ _. []) (Err e) (feed_within most text) → IsNoFeedFrom most e old new
text_fails most old new text (fault.Script line found) read h =
    (read.0, of_read (feed_within most) (Err (record { line = line; code = found })) most old new text read (λ bytes is. feed_of_read most bytes text is) h)
text_fails most old new text fault.Read read h = absurd h
text_fails most old new text (fault.Write written) read h = absurd h
text_fails most old new text fault.Memory read h = read.0

pub reading_fails : (most : ℕ) (old new : Device) (e : ScriptFault) → IsNotRead e old new → IsNoFeedFrom most e old new
reading_fails most old new (fault.Script line found) h = absurd h
reading_fails most old new fault.Read h = h
reading_fails most old new (fault.Write written) h = absurd h
reading_fails most old new fault.Memory h = h

-- ---- to a sink

-- nothing was done
keeps_all : (b : Option (List ℕ)) → Keeps b b
keeps_all None = tt
keeps_all (Some bytes) = refl

pub source_fails : (source source' sink : Device) (e : ScriptFault) → IsNoFeedFrom MOST_SCRIPT e source source' → FailsBy e (devices source sink) (devices source' sink)
source_fails source source' sink (fault.Script line found) h = (h.0, h.1, (refl, keeps_all sink.bytes))
source_fails source source' sink fault.Read h = (h, (refl, keeps_all sink.bytes))
source_fails source source' sink (fault.Write written) h = absurd h
source_fails source source' sink fault.Memory h = (h, (refl, keeps_all sink.bytes))

-- what follows of the bytes of a source
pub of_text_then : (most : ℕ) (old new : Device) (P Q : List ℕ → Type 0) → ((bytes : List ℕ) → P bytes → Q bytes) → OfText most old new P → OfText most old new Q
of_text_then most old new P Q f ((text, gives, (ends, h)), known) = ((text, gives, (ends, f text h)), known_then old.bytes P Q f known)

pub sink_fails : (source source' sink sink' : Device) (feed : List ℕ) (e : WriteFault) → IsFeedFrom MOST_SCRIPT source source' feed → StopsWriting e feed sink sink'
    → FailsBy (fault.Write e.written) (devices source sink) (devices source' sink')
sink_fails source source' sink sink' feed e made stops =
    (made.0, stops.fails, of_text_then MOST_SCRIPT source source' (λ text. feed_of text ≡ Ok feed) (λ text. IsMadeInPart e.written text sink sink') (λ text is. (feed, is, stops.short, stops.out)) made.1)

pub all_written : (source source' sink sink' : Device) (feed : List ℕ) → IsFeedFrom MOST_SCRIPT source source' feed → Receives sink sink' feed
    → OfText MOST_SCRIPT source source' (λ text. IsMade text sink sink')
all_written source source' sink sink' feed made out =
    of_text_then MOST_SCRIPT source source' (λ text. feed_of text ≡ Ok feed) (λ text. IsMade text sink sink') (λ text is. (feed, is, out)) made.1
