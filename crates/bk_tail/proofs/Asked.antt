-- How often a source ended where its feed was not followed further.
use Rattle.std.proofs.Common.{◌≡◌, ◌≢◌, inl, inr, ℕ, Bool, true, false, List, refl, sym, ap, subst, ◌∙◌}
use Rattle.bk_frames.specs.Device.{Device, Ends}
use Rattle.bk_frames.specs.declared.fault.FaultCode.{FaultCode}
use Rattle.bk_frames.specs.declared.fault.FaultCode.TheVariants as code
use Rattle.bk_frames.specs.declared.fault.FeedFault.{FeedFault}
use Rattle.bk_frames.proofs.Devices.{ends_not_then, ends_then}
use Rattle.bk_results.specs.declared.fault.Fault.{Fault}
use Rattle.bk_results.specs.declared.fault.Fault.TheVariants as fault
use Rattle.bk_follow.specs.Follower.{FeedFails, Followed, SettleFails}
use Rattle.bk_tail.specs.Tailing.{EndsAsAsked}
use Rattle.bk_tail.specs.private.Steps.{EndsIf}
use Rattle.bk_tables.specs.Kinds.{TableKind}
use Rattle.bk_tail.specs.private.Putting.{PutNot}

-- a fault that is none of the feed's ending too early
abbrev pub IsNotShort : Fault → Type 0
IsNotShort f = (offset : ℕ) → f ≢ fault.Feed (record { offset = offset; code = code.Truncated })

-- ---- faults by which no feed ends too early

code_of : Fault → FaultCode
code_of (fault.Feed found) = found.code
code_of other = code.Read

pub other_code : (found : FeedFault) → found.code ≢ code.Truncated → IsNotShort (fault.Feed found)
unfolding code_of
other_code found other offset is = other (ap code_of is)

pub feed_not_short : (v : Followed) (piece : List ℕ) (f : Fault) → FeedFails v piece f → IsNotShort f
feed_not_short v piece (fault.Feed found) h = other_code found h.shown_already
feed_not_short v piece (fault.Collision id) h = absurd h
feed_not_short v piece (fault.Equivocation round author one other) h = absurd h
feed_not_short v piece (fault.Unfinished place) h = absurd h
feed_not_short v piece (fault.Write written) h = absurd h
feed_not_short v piece fault.Memory h = λ offset is. absurd cc

pub settle_not_short : (v w : Followed) (f : Fault) → SettleFails v w f → IsNotShort f
settle_not_short v w (fault.Feed found) h = absurd h
settle_not_short v w (fault.Collision id) h = λ offset is. absurd cc
settle_not_short v w (fault.Equivocation round author one other) h = λ offset is. absurd cc
settle_not_short v w (fault.Unfinished place) h = λ offset is. absurd cc
settle_not_short v w (fault.Write written) h = absurd h
settle_not_short v w fault.Memory h = λ offset is. absurd cc

pub put_not_short : (k : TableKind) (f : Fault) (bytes : List ℕ) (first sink : Device) → PutNot k f bytes first sink → IsNotShort f
put_not_short k (fault.Feed found) bytes first sink h = absurd h
put_not_short k (fault.Collision id) bytes first sink h = absurd h
put_not_short k (fault.Equivocation round author one other) bytes first sink h = absurd h
put_not_short k (fault.Unfinished place) bytes first sink h = absurd h
put_not_short k (fault.Write written) bytes first sink h = λ offset is. absurd cc
put_not_short k fault.Memory bytes first sink h = λ offset is. absurd cc

pub write_not_short : (f : Fault) (written : ℕ) → f ≡ fault.Write written → IsNotShort f
write_not_short f written h offset is = absurd (let e = sym h ∙ is in cc)

pub memory_not_short : (f : Fault) → f ≡ fault.Memory → IsNotShort f
memory_not_short f h offset is = absurd (let e = sym h ∙ is in cc)

-- ---- one call of a source, and what follows it

pub going_as_asked : (waits : Bool) (f : Fault) (old new : Device) → IsNotShort f → (waits ≡ false → Ends 0 old new) → EndsAsAsked waits f old new
going_as_asked true f old new other on = other
going_as_asked false f old new other on = inl (on refl)

pub ended_as_asked : (waits : Bool) (f : Fault) (old new : Device) → waits ≡ false → Ends 1 old new → EndsAsAsked waits f old new
ended_as_asked true f old new unwaited once = absurd cc
ended_as_asked false f old new unwaited once = inr once

pub read_as_asked : (waits : Bool) (f : Fault) (offset : ℕ) (old new : Device) → f ≡ fault.Feed (record { offset = offset; code = code.Read }) → (waits ≡ false → Ends 0 old new) → EndsAsAsked waits f old new
read_as_asked waits f offset old new is on =
    going_as_asked waits f old new (subst IsNotShort (sym is) (other_code (record { offset = offset; code = code.Read }) (λ e. absurd cc))) on

-- ---- after others that did not end it

pub after_others : (waits : Bool) (f : Fault) (start old new : Device) → (waits ≡ false → Ends 0 start old) → EndsAsAsked waits f old new → EndsAsAsked waits f start new
after_others true f start old new on asked = asked
after_others false f start old new on (inl none) = inl (ends_not_then start old new (on refl) none)
after_others false f start old new on (inr once) = inr (ends_then start old new (on refl) once)

-- a call that may have ended it
pub ends_or_not : (waits ended : Bool) (f : Fault) (start old new : Device) → IsNotShort f → (waits ≡ false → Ends 0 start old) → (waits ≡ false → EndsIf ended old new) → EndsAsAsked waits f start new
ends_or_not true ended f start old new other on ends = other
ends_or_not false true f start old new other on ends = inr (ends_then start old new (on refl) (ends refl))
ends_or_not false false f start old new other on ends = inl (ends_not_then start old new (on refl) (ends refl))
