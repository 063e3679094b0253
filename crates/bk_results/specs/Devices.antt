-- What a call with a source and a sink leaves of both.
use Rattle.std.specs.Prelude.{◌≡◌, ℕ, List, length, nat_le, if◌then◌else◌}
use Rattle.std.specs.Io.KnownBytes.{Keeps}
use Rattle.bk_frames.specs.Device.{Device, Works, Ends, IfKnown}
use Rattle.bk_frames.specs.Pulling.{Gave}
use Rattle.bk_base.specs.Feed.{FeedValue, IsFeed, spelling}

-- the source and the sink of a replay
pub record Devices : Type 0 where
  pub source : Device
  pub sink : Device

-- the devices of a call
abbrev pub devices : Device → Device → Devices
devices source sink = record { source = source; sink = sink }

-- nothing went out, and no call failed
abbrev pub IsUntouched : Device → Device → Type 0
IsUntouched old new = Works old new × Keeps old.bytes new.bytes

-- no call of either device failed, and nothing was written
abbrev pub NothingHappened : Devices → Devices → Type 0
NothingHappened old new = Works old.source new.source × IsUntouched old.sink new.sink

-- this holds of the text that a source gave, and of all that it had, where this is known; the text was read to its end, or
-- on past the limit
abbrev pub OfText : ℕ → Device → Device → (List ℕ → Type 0) → Type 0
OfText most old new holds =
    Gave old new (λ text. Ends (if nat_le (length text) most then 1 else 0) old new × holds text) × IfKnown old holds

-- the bytes are those of a feed
abbrev pub AreFeed : List ℕ → Type 0
AreFeed bytes = (feed : FeedValue) × IsFeed feed × (bytes ≡ spelling feed)

-- the bytes are those of a feed, and this holds of it
pub record AreFeedWith (bytes : List ℕ) (P : FeedValue → Type 0) : Type 0 where
  pub feed : FeedValue
  pub good : IsFeed feed
  pub spelled : bytes ≡ spelling feed
  pub holds : P feed
