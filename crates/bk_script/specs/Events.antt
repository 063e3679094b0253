-- What the text of a list of events says: the events, each with its line, or the first line with a fault.
use Rattle.std.specs.Prelude.{ℕ, List, [], ◌∷◌, ◌++◌, if◌then◌else◌, Option, Some, None, Result, Ok, Err, codes}
use Rattle.std.specs.Str.{bytes_eq}
use Rattle.bk_frames.specs.Device.{Device}
use Rattle.bk_steps.specs.declared.event.Event.{Event}
use Rattle.bk_steps.specs.declared.event.Event.TheVariants.{Claim, Read, Write, Finish}
use Rattle.bk_script.specs.declared.events.Events.{Events}
use Rattle.bk_results.specs.declared.lines_fault.LinesFault.{LinesFault}
use Rattle.bk_results.specs.declared.script_fault.ScriptCode.{ScriptCode}
use Rattle.bk_script.specs.declared.making.TheConstants.{MOST_SCRIPT}
use Rattle.bk_script.specs.Words.{numbers_of}
use Rattle.bk_script.specs.Lines.{is_ascii, is_skipped, words_of}
use Rattle.bk_script.specs.Listing.{listed_within, HasList, HasNoList}

-- events, and the number of the line of each, lines being counted from 1
pub record EventList : Type 0 where
  pub list : List Event
  pub lines : List ℕ

-- none
abbrev pub no_events : EventList
no_events = record { list = []; lines = [] }

-- what a list of events shows
abbrev pub event_list : Events → EventList
event_list events = record { list = events.list.items; lines = events.lines.items }

-- ---- one line

-- the event of a first word and the numbers after it, None where there is no such event
unfoldable pub event_named : List ℕ → List ℕ → Option Event
event_named name [] = None
event_named name (worker ∷ []) = if bytes_eq name (codes "finish") then Some (Finish worker) else None
event_named name (worker ∷ item ∷ []) =
    if bytes_eq name (codes "claim") then Some (Claim worker item)
    else (if bytes_eq name (codes "read") then Some (Read worker item)
    else (if bytes_eq name (codes "write") then Some (Write worker item) else None))
event_named name (worker ∷ item ∷ more ∷ others) = None

-- the same, where the words after the first are numbers
abbrev pub event_numbered : List ℕ → Result (List ℕ) ScriptCode → Option Event
event_numbered name (Ok numbers) = event_named name numbers
event_numbered name (Err found) = None

-- the event that words say
unfoldable pub event_of : List (List ℕ) → Option Event
event_of [] = None
event_of (name ∷ words) = event_numbered name (numbers_of words)

-- an event more, or a fault in its line where there is none
abbrev pub with_event : EventList → ℕ → Option Event → Result EventList ℕ
with_event events n None = Err n
with_event events n (Some e) = Ok (record { list = events.list ++ e ∷ []; lines = events.lines ++ n ∷ [] })

-- the events with those of one line more, which has this number; or its number, where it has a fault
unfoldable pub with_event_line : EventList → ℕ → List ℕ → Result EventList ℕ
with_event_line events n line =
    if is_ascii line then (if is_skipped line then Ok events else with_event events n (event_of (words_of line))) else Err n

-- ---- the whole text

-- the events of a text, or the first line with a fault
abbrev pub events_of : List ℕ → Result EventList ℕ
events_of text = listed_within with_event_line no_events MOST_SCRIPT text

-- ---- from a source

-- no call of the source failed, and its text says these events
abbrev pub AreEvents : Device → Device → Events → Type 0
AreEvents old new events = HasList MOST_SCRIPT events_of (event_list events) old new

-- why there is no list of events, by the fault
abbrev pub HasNoEvents : LinesFault → Device → Device → Type 0
HasNoEvents e old new = HasNoList MOST_SCRIPT events_of e old new
