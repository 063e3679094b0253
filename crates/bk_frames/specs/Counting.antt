-- What a counted reader or writer shows, and what a fuse does.
use Rattle.std.specs.Prelude.{ℕ, zero, suc, ◌+◌, ◌-◌, ◌^◌, min, Option, None, Some}
use Rattle.bk_frames.specs.declared.counted.Counted.{Counted}
use Rattle.bk_frames.specs.declared.fuse.Fuse.{Fuse}
use Rattle.bk_frames.specs.Device.{Device}

-- the reader or writer inside
abbrev pub inner_of : {T : Type 0} → Counted T → T
inner_of c = c.inner

-- how many of its calls have failed
abbrev pub failures_of : {T : Type 0} → Counted T → ℕ
failures_of c = c.failures

-- the source or sink inside
abbrev pub fused_of : {T : Type 0} → Fuse T → T
fused_of f = f.inner

-- how many calls are still passed before the one that fails: nothing once that one has failed
abbrev pub left_of : {T : Type 0} → Fuse T → Option ℕ
left_of f = f.left

-- the same after one call more
abbrev pub next_left : Option ℕ → Option ℕ
next_left (Some zero) = None
next_left (Some (suc left)) = Some left
next_left None = None

-- what a fuse adds to the failures of what is inside: 1 once it has failed a call
abbrev pub added : Option ℕ → ℕ
added (Some left) = 0
added None = 1

-- a fuse as a device: the device inside, its failures with what the fuse adds, as 64 bits count them
abbrev pub fused : Device → Option ℕ → Device
fused inner left = record inner { failures = min (inner.failures + added left) (2 ^ 64 - 1) }
