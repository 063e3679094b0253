-- Pulling a feed from a source.
use Rattle.std.specs.Prelude.{◌≡◌, ℕ, ◌+◌, ◌-◌, List, [], ◌++◌, length, Option, Some, None}
use Rattle.bk_base.specs.declared.version.Version.{Version}
use Rattle.bk_base.specs.declared.limits.TheConstants.{MOST_FEED}
use Rattle.bk_frames.specs.Device.{Device, Works, Gives}
use Rattle.bk_base.specs.Feed.{Frame, feed_of, spelling}
use Rattle.bk_frames.specs.FirstFault.{Begins}
use Rattle.bk_frames.specs.Cutting.{Cut, Cuts, IsOpen, fresh}

-- since `start` a source gave these bytes, no call of it failed, and a cutter made these frames of them
pub record IsPulled (start now : Device) (bytes : List ℕ) (frames : List Frame) (c : Cut) : Type 0 where
  pub works : Works start now
  pub gave : Gives start now bytes
  pub cuts : Cuts fresh bytes frames c
  pub is_open : IsOpen c
  pub reads : c.fault ≡ None

-- these bytes came next, and these are the frames then
pub record Pulls (start now : Device) (bytes : List ℕ) (frames : List Frame) (c : Cut) (count : ℕ) : Type 0 where
  pub came : List ℕ
  pub counted : length came ≡ count
  pub pulled : IsPulled start now (bytes ++ came) frames c

-- these are the good frames that bytes begin with and that end at this offset: none at 0, before the version is known
abbrev pub AreFront : List ℕ → ℕ → Option Version → List Frame → Type 0
AreFront bytes offset None frames = (offset ≡ 0) × (frames ≡ [])
AreFront bytes offset (Some version) frames =
    (rest : List ℕ) × Begins bytes (feed_of version frames) rest × (offset ≡ length (spelling (feed_of version frames)))

-- how many bytes more a cutter takes at most
abbrev pub room_of : Cut → ℕ
room_of c = MOST_FEED + 5 - (c.offset + length c.kept)
