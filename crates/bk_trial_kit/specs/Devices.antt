-- sources and sinks over devices
use Rattle.std.specs.Prelude.{◌≡◌, ◌<◌, ◌+◌, ℕ, List}
use Rattle.bk_trial_kit.specs.declared.device.Device.{Device}
use Rattle.bk_trial_kit.specs.declared.device.Reader.{Reader}
use Rattle.bk_trial_kit.specs.declared.device.Writer.{Writer}

-- how many bytes a call moves at most
abbrev pub most_of : Device → ℕ
most_of d = d.most

-- how many calls succeed before the next that fails
abbrev pub calls_left : Device → ℕ
calls_left d = d.calls

-- how many calls succeed between that one and the one after it
abbrev pub calls_later : Device → ℕ
calls_later d = d.later

-- what a call leaves of a device: one call fewer before the next that fails, and after that one as many as come between
abbrev pub IsCalled : Device → Device → Type 0
IsCalled old new = (most_of new ≡ most_of old)
    × (calls_later new ≡ calls_later old)
    × (0 < calls_left old → calls_left old ≡ calls_left new + 1)
    × (calls_left old ≡ 0 → calls_left new ≡ calls_later old)

-- the device of a source, the bytes that it has left, and the most that a call asked for
abbrev pub source_device : Reader → Device
source_device r = r.device

abbrev pub source_bytes : Reader → List ℕ
source_bytes r = r.rest.now

abbrev pub most_asked : Reader → ℕ
most_asked r = r.asked

-- the device of a sink, and the bytes that it holds
abbrev pub sink_device : Writer → Device
sink_device w = w.device

abbrev pub sink_bytes : Writer → List ℕ
sink_bytes w = w.held.items
