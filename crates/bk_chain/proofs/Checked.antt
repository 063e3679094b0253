-- What a check of a chain leaves of its source and its sink.
use Rattle.std.proofs.Common.{◌≡◌, ◌⊎◌, inl, inr, ℕ, ◌+◌, ◌<◌, ◌≤◌, if◌then◌else◌, List, [], length, take, Option, Some, None, refl, sym, ap, subst, ◌∙◌, arith}
use Rattle.std.specs.Io.KnownBytes.{Keeps}
use Rattle.std.proofs.lemmas.Bool.{le-leb}
use Rattle.std.proofs.lemmas.List.{length-take, take-take, take_all}
use Rattle.bk_frames.specs.Device.{Device, Ends, IsWhole, Receives}
use Rattle.bk_frames.specs.Writing.{StopsWriting, Writes}
use Rattle.bk_frames.specs.declared.writing.WriteFault.{WriteFault}
use Rattle.bk_results.specs.Devices.{devices}
use Rattle.bk_script.specs.Answers.{HasRead, IsRead}
use Rattle.bk_script.specs.Listing.{lines_of}
use Rattle.bk_script.proofs.WholeTexts.{known_then}
use Rattle.bk_chain.specs.declared.fault.ChainFault.{ChainFault}
use Rattle.bk_chain.specs.declared.fault.ChainFault.TheVariants as fault
use Rattle.bk_chain.specs.declared.reading.TheConstants.{MOST_LINKS}
use Rattle.bk_chain.specs.declared.verdict.ChainEnd.{ChainEnd}
use Rattle.bk_chain.specs.declared.verdict.Verdict.{Verdict}
use Rattle.bk_chain.specs.Line.{IsNoLine}
use Rattle.bk_chain.specs.Chain.{HasLinksFault, HasVerdict, end_of, lines_in, verdict_text}
use Rattle.bk_chain.specs.Checking.{CheckFailsBy, IsChecked}
use Rattle.bk_chain.specs.private.Walking.{IsNoText, IsUnread}

-- ---- the text that was read, and all bytes

same_lines : (bytes text : List ℕ) → text ≡ take (MOST_LINKS + 1) bytes → lines_in text ≡ lines_in bytes
same_lines bytes text is =
    ap lines_in is ∙ ap lines_of (take-take (MOST_LINKS + 1) (MOST_LINKS + 1) bytes (omega arith))

longer : (bytes text : List ℕ) → text ≡ take (MOST_LINKS + 1) bytes → MOST_LINKS < length text → MOST_LINKS < length bytes
longer bytes text is long = omega (arith, long, ap length is, length-take (MOST_LINKS + 1) bytes)

still_bad : (bytes text line : List ℕ) (more : List (List ℕ)) → text ≡ take (MOST_LINKS + 1) bytes → IsNoLine line ⊎ ((more ≡ []) × (MOST_LINKS < length text))
    → IsNoLine line ⊎ ((more ≡ []) × (MOST_LINKS < length bytes))
still_bad bytes text line more is (inl none) = inl none
still_bad bytes text line more is (inr (last, long)) = inr (last, longer bytes text is long)

fault_of_read : (bytes text : List ℕ) (n : ℕ) → IsRead MOST_LINKS bytes text → HasLinksFault text n → HasLinksFault bytes n
unfolding IsRead
fault_of_read bytes text n is (inl (none, one)) = inl (sym (same_lines bytes text is) ∙ none, one)
fault_of_read bytes text n is (inr bad) = inr (record {
  before = bad.before;
  line = bad.line;
  more = bad.more;
  fit = bad.fit;
  lines = sym (same_lines bytes text is) ∙ bad.lines;
  number = bad.number;
  bad = still_bad bytes text bad.line bad.more is bad.bad;
})

whole_read : (bytes text : List ℕ) → length text ≤ MOST_LINKS → IsRead MOST_LINKS bytes text → bytes ≡ text
unfolding IsRead
whole_read bytes text few is =
    let short : length bytes ≤ MOST_LINKS + 1 = omega (arith, few, ap length is, length-take (MOST_LINKS + 1) bytes) in
    sym (take_all (MOST_LINKS + 1) bytes short) ∙ sym is

all_read : (old new : Device) (text : List ℕ) → length text ≤ MOST_LINKS → HasRead MOST_LINKS old new text → IsWhole old new text
all_read old new text few read = (
  known_then old.bytes (λ bytes. IsRead MOST_LINKS bytes text) (λ whole. whole ≡ text) (λ bytes is. whole_read bytes text few is) read.2,
  subst (λ b. Ends (if b then 1 else 0) old new) (le-leb (length text) MOST_LINKS few) read.4,
)

-- ---- why there is no verdict

keeps_all : (b : Option (List ℕ)) → Keeps b b
keeps_all None = tt
keeps_all (Some bytes) = refl

pub unread_fails : (old new sink : Device) (e : ChainFault) → IsUnread e old new → CheckFailsBy e (devices old sink) (devices new sink)
unread_fails old new sink (fault.Links n) h = absurd h
unread_fails old new sink fault.Read h = (h, (refl, keeps_all sink.bytes))
unread_fails old new sink (fault.Write written) h = absurd h
unread_fails old new sink fault.Memory h = (h, (refl, keeps_all sink.bytes))

pub text_fails : (old new sink : Device) (text : List ℕ) (e : ChainFault) → HasRead MOST_LINKS old new text → IsNoText text e → CheckFailsBy e (devices old sink) (devices new sink)
text_fails old new sink text (fault.Links n) read h = (
  read.0,
  (refl, keeps_all sink.bytes),
  (
    (text, read.3, (read.4, h)),
    known_then old.bytes (λ bytes. IsRead MOST_LINKS bytes text) (λ bytes. HasLinksFault bytes n) (λ bytes is. fault_of_read bytes text n is h) read.2,
  ),
)
text_fails old new sink text fault.Read read h = absurd h
text_fails old new sink text (fault.Write written) read h = absurd h
text_fails old new sink text fault.Memory read h = (read.0, (refl, keeps_all sink.bytes))

pub memory_fails : (old new sink : Device) (text : List ℕ) → HasRead MOST_LINKS old new text → CheckFailsBy fault.Memory (devices old sink) (devices new sink)
memory_fails old new sink text read = (read.0, (refl, keeps_all sink.bytes))

pub sink_fails : (old new sink after : Device) (text shown : List ℕ) (v : Verdict) (e : WriteFault) → HasRead MOST_LINKS old new text → HasVerdict text v → shown ≡ verdict_text v
    → StopsWriting e shown sink after → CheckFailsBy (fault.Write e.written) (devices old sink) (devices new after)
sink_fails old new sink after text shown v e read has is stops =
    let here : StopsWriting e (verdict_text v) sink after = subst (λ (t : List ℕ). StopsWriting e t sink after) is stops in
    (read.0, here.fails, (text, read.3, all_read old new text has.are.few read, (v, has, here.short, here.out)))

-- ---- the verdict

pub checked : (old new sink after : Device) (text shown : List ℕ) (v : Verdict) (end : ChainEnd) → HasRead MOST_LINKS old new text → HasVerdict text v → shown ≡ verdict_text v
    → Writes shown sink after → end ≡ end_of v → IsChecked end (devices old sink) (devices new after)
checked old new sink after text shown v end read has is writes ends = record {
  source = read.0;
  sink = writes.0;
  out = (text, read.3, all_read old new text has.are.few read, (v, has, ends, subst (λ (t : List ℕ). Receives sink after t) is writes.1));
}
