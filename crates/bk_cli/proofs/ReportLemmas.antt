-- Texts that are reported in two parts.
use Rattle.std.proofs.Common.{arith, ◌≡◌, ◌∙◌, ◌++◌, ◌+◌, ℕ, List, Option, Some, None, inl, inr, sym, ap, append_assoc, length-append}
use Rattle.std.specs.Prelude.{◌≤◌, length, take, Result, Ok, Err}
use Rattle.std.specs.Io.KnownBytes.{Appends}
use Rattle.std.proofs.lemmas.List.{take-append-le}
use Rattle.std.proofs.Math.Seq.{take-append-add}
use Rattle.bk_frames.specs.Device.{Device}
use Rattle.bk_frames.specs.Writing.{Writes, StopsWriting}
use Rattle.bk_frames.specs.declared.writing.WriteFault.{WriteFault}
use Rattle.bk_cli.specs.FaultLines.{Pushes, Reports, StopsReport}

appends_then : (a b c : Option (List ℕ)) (xs ys : List ℕ) → Appends a b xs → Appends b c ys → Appends a c (xs ++ ys)
appends_then None b c xs ys p q = tt
appends_then (Some bs) None c xs ys p q = absurd p
appends_then (Some bs) (Some cs) None xs ys p q = absurd q
appends_then (Some bs) (Some cs) (Some ds) xs ys p q = q ∙ ap (λ (t : List ℕ). t ++ ys) p ∙ append_assoc bs xs ys

-- both parts are written
pub then_writes : (x a b : List ℕ) (old mid new : Device) → x ≡ a → Writes x old mid → Writes b mid new → Writes (a ++ b) old new
then_writes x a b old mid new is first second =
    rw (sym is) (second.0 ∙ first.0, appends_then old.bytes mid.bytes new.bytes x b first.1 second.1)

-- the first part is written, and the second is not written whole
pub then_stops : (x a b : List ℕ) (old mid new : Device) → x ≡ a → Writes x old mid → StopsReport b mid new → StopsReport (a ++ b) old new
then_stops x a b old mid new is first (fails, (written, short, gave)) =
    rw (sym is) (
      fails ∙ ap (λ (n : ℕ). n + 1) first.0,
      (length x + written, omega (arith, short, length-append x b), rw (take-append-add x b written) (appends_then old.bytes mid.bytes new.bytes x (take written b) first.1 gave)),
    )

-- the first part is not written whole
pub stops_first : (e : WriteFault) (x a b : List ℕ) (old new : Device) → x ≡ a → StopsWriting e x old new → StopsReport (a ++ b) old new
stops_first e x a b old new is h =
    let few : e.written ≤ length x = omega (arith, h.short) in
    rw (sym is) (h.fails, (e.written, omega (arith, h.short, length-append x b), rw (take-append-le e.written x b few) h.out))

-- the only part is not written whole
pub stops_only : (e : WriteFault) (x a : List ℕ) (old new : Device) → x ≡ a → StopsWriting e x old new → StopsReport a old new
stops_only e x a old new is h = rw (sym is) (h.fails, (e.written, h.short, h.out))

-- the part before it is not written whole
pub stops_before : (a b : List ℕ) (old new : Device) → StopsReport a old new → StopsReport (a ++ b) old new
stops_before a b old new (fails, (written, short, gave)) =
    (fails, (written, omega (arith, short, length-append a b), rw (take-append-le written a b (omega (arith, short))) gave))

-- what was to be written is reported
pub pushed_reports : {T : Type 0} (r : Result T WriteFault) (a : List ℕ) (old new : Device) → Pushes a r old new → Reports a old new
pushed_reports (Ok x) a old new h = inl h
pushed_reports (Err e) a old new h = inr h
