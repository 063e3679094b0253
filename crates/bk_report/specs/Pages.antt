-- What a page of text and the sink behind it hold.
use Rattle.std.specs.Prelude.{◌≡◌, ℕ, ◌^◌, ◌<◌, ◌≤◌, Bool, false, true, List, [], ◌++◌, length, Result, Ok, Err}
use Rattle.bk_frames.specs.Device.{CanBeUsed, Device, Works, Fails, Receives}
use Rattle.bk_frames.specs.Writing.{Writes, StopsWriting}
use Rattle.bk_frames.specs.declared.writing.WriteFault.{WriteFault}

-- how many bytes have gone out before a page, its bytes, and whether the sink has failed
pub record PageValue : Type 0 where
  pub out : ℕ
  pub bytes : List ℕ
  pub failed : Bool

-- the empty page, and no byte out
abbrev pub blank : PageValue
blank = record { out = 0; bytes = []; failed = false }

-- a page, and the sink behind it
pub record Desk : Type 0 where
  pub page : PageValue
  pub sink : Device

-- this page before this sink
abbrev pub desk : PageValue → Device → Desk
desk page sink = record { page = page; sink = sink }

-- a sink that has not failed can be used
abbrev pub IsReady : Desk → Type 0
IsReady d = d.page.failed ≡ false → CanBeUsed d.sink

-- since a moment a text was put: what is not on the page is out
pub record IsOut (start : Device) (d : Desk) (text : List ℕ) : Type 0 where
  pub works : Works start d.sink
  pub pushed : List ℕ
  pub gave : Receives start d.sink pushed
  pub whole : text ≡ pushed ++ d.page.bytes
  pub count : d.page.out ≡ length pushed

-- since a moment a text was put, and the sink failed after some bytes of it, not all
pub record IsCut (start : Device) (d : Desk) (text : List ℕ) : Type 0 where
  pub fails : Fails start d.sink
  pub pushed : List ℕ
  pub rest : List ℕ
  pub gave : Receives start d.sink pushed
  pub whole : text ≡ pushed ++ rest
  pub some : 0 < length rest
  pub count : d.page.out ≡ length pushed

-- since a moment a text was put, by whether the sink has failed
abbrev pub IsPut : Bool → Device → Desk → List ℕ → Type 0
IsPut false = IsOut
IsPut true = IsCut

-- since a moment a text was put. Of a text that is too long to be counted nothing is said
abbrev pub HasPut : Device → Desk → List ℕ → Type 0
HasPut start d text = length text < 2 ^ 62 → IsPut d.page.failed start d text

-- between two moments a text of at most so many bytes was put, after whatever was put before
pub record Puts (old new : Desk) (most : ℕ) (text : List ℕ) : Type 0 where
  pub ready : IsReady new
  pub short : length text ≤ most
  pub put : (start : Device) (before : List ℕ) → HasPut start old before → HasPut start new (before ++ text)

-- what came of writing a text, and how the sink's failures count
abbrev pub Written : {X : Type 0} → Result X WriteFault → Device → Device → List ℕ → Type 0
Written (Ok x) old new text = Writes text old new
Written (Err e) old new text = StopsWriting e text old new
