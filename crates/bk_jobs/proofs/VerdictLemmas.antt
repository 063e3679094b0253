-- The verdict on a text that was read is that on all bytes of the source.
use Rattle.std.proofs.Common.{◌≡◌, ◌<◌, ◌⊎◌, ◌∙◌, ℕ, List, Option, Some, None, Bool, length, inl, inr, ap, refl, arith, subst, IfSome}
use Rattle.std.specs.Prelude.{◌↔◌, IsTrue}
use Rattle.std.proofs.lemmas.Bool.{cases_lt}
use Rattle.std.proofs.lemmas.List.{length-take-le, take_all}
use Rattle.std.specs.Io.KnownBytes.{Keeps}
use Rattle.bk_frames.specs.Device.{Device}
use Rattle.bk_frames.specs.Writing.{StopsWriting, Writes}
use Rattle.bk_frames.specs.declared.writing.WriteFault.{WriteFault}
use Rattle.bk_results.specs.Devices.{devices}
use Rattle.bk_script.specs.Answers.{HasRead, IsNotRead, IsRead}
use Rattle.bk_results.specs.declared.script_fault.ScriptFault.{ScriptFault}
use Rattle.bk_results.specs.declared.script_fault.ScriptFault.TheVariants as fault
use Rattle.bk_jobs.specs.Texts.{CheckFailsBy, IsVerdict, ProvesFor, PartOfVerdictIsOut, VerdictIsOut, verdict_text}

-- all bytes were read, or too many for a proof
read_of_proof : (bytes text : List ℕ) → IsRead 65536 bytes text → (text ≡ bytes) ⊎ ((65536 < length text) × (65536 < length bytes))
unfolding IsRead
read_of_proof bytes text is = elim (cases_lt 65536 (length bytes)) [
  | inl long ↦
      let all : length text ≡ 65537 = ap length is ∙ length-take-le 65537 bytes (omega (arith, long)) in
      inr (omega (arith, all), long)
  | inr short ↦ inl (is ∙ take_all 65537 bytes (omega (arith, short)))
]

too_long : (root : List ℕ) (account : Option ℕ) (text : List ℕ) → 65536 < length text → ProvesFor root account text → ⊥
too_long root None text long p = let short = p.short in absurd (omega (arith, long, short))
too_long root (Some id) text long p = let short = p.0.short in absurd (omega (arith, long, short))

pub verdict_of_read : (root : List ℕ) (account : Option ℕ) (bytes text : List ℕ) (good : Bool) → IsRead 65536 bytes text → (IsTrue good ↔ ProvesFor root account text) → IsVerdict root account bytes good
verdict_of_read root account bytes text good is h = elim (read_of_proof bytes text is) [
  | inl same ↦ subst (λ (t : List ℕ). IsTrue good ↔ ProvesFor root account t) same h
  | inr long ↦ (λ t. absurd (too_long root account text long.0 (h.0 t)), λ p. absurd (too_long root account bytes long.1 p))
]

known_then : (b : Option (List ℕ)) (P Q : List ℕ → Type 0) → ((bytes : List ℕ) → P bytes → Q bytes) → IfSome b P → IfSome b Q
known_then None P Q f h = tt
known_then (Some bytes) P Q f h = f bytes h

keeps_all : (b : Option (List ℕ)) → Keeps b b
keeps_all None = tt
keeps_all (Some bytes) = refl

pub verdict_is_out : (root : List ℕ) (account : Option ℕ) (text : List ℕ) (good : Bool) (old new out out' : Device) → HasRead 65536 old new text → (IsTrue good ↔ ProvesFor root account text)
    → Writes (verdict_text good) out out' → VerdictIsOut root account good (devices old out) (devices new out')
verdict_is_out root account text good old new out out' read h got = (
  read.0,
  got.0,
  got.1,
  ((text, read.3, (read.4, h)), known_then old.bytes (λ bytes. IsRead 65536 bytes text) (λ bytes. IsVerdict root account bytes good) (λ bytes is. verdict_of_read root account bytes text good is h) read.2),
)

pub verdict_stops : (root : List ℕ) (account : Option ℕ) (text : List ℕ) (good : Bool) (old new out out' : Device) (e : WriteFault) → HasRead 65536 old new text → (IsTrue good ↔ ProvesFor root account text)
    → StopsWriting e (verdict_text good) out out' → CheckFailsBy root account (fault.Write e.written) (devices old out) (devices new out')
verdict_stops root account text good old new out out' e read h stops = (
  read.0,
  stops.fails,
  (
    (text, read.3, (read.4, (good, h, stops.short, stops.out))),
    known_then old.bytes (λ bytes. IsRead 65536 bytes text) (PartOfVerdictIsOut root account e.written out out')
        (λ bytes is. (good, verdict_of_read root account bytes text good is h, stops.short, stops.out)) read.2,
  ),
)

pub not_read : (root : List ℕ) (account : Option ℕ) (old new out : Device) (e : ScriptFault) → IsNotRead e old new → CheckFailsBy root account e (devices old out) (devices new out)
not_read root account old new out (fault.Script line found) h = absurd h
not_read root account old new out fault.Read h = (h, (refl, keeps_all out.bytes))
not_read root account old new out (fault.Write written) h = absurd h
not_read root account old new out fault.Memory h = (h, (refl, keeps_all out.bytes))

pub no_memory : (root : List ℕ) (account : Option ℕ) (text : List ℕ) (old new out : Device) → HasRead 65536 old new text → CheckFailsBy root account fault.Memory (devices old out) (devices new out)
no_memory root account text old new out read = (read.0, (refl, keeps_all out.bytes))
