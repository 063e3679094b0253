-- What the text of a list of accounts says: ids, one a line, or the first line of another form.
use Rattle.std.specs.Prelude.{◌≡◌, ℕ, List, [], ◌∷◌, ◌++◌, if◌then◌else◌, IsTrue, Result, Ok, Err}
use Rattle.bk_base.specs.Numbers.{is_ascending}
use Rattle.bk_frames.specs.Device.{Device, Works}
use Rattle.bk_results.specs.Devices.{OfText}
use Rattle.bk_results.specs.declared.lines_fault.LinesFault.{LinesFault}
use Rattle.bk_results.specs.declared.script_fault.ScriptCode.{ScriptCode}
use Rattle.bk_script.specs.Lines.{is_skipped}
use Rattle.bk_script.specs.Listing.{listed_within, HasNoList}
use Rattle.bk_script.specs.Words.{number_of}
use Rattle.bk_tables.specs.Payments.{is_among}
use Rattle.bk_tables.specs.declared.listing.TheConstants.{MOST_LIST}

-- ---- one line

-- an id more, or a fault in its line where there is none
abbrev pub with_id : List ℕ → ℕ → Result ℕ ScriptCode → Result (List ℕ) ℕ
with_id ids n (Ok id) = Ok (ids ++ id ∷ [])
with_id ids n (Err found) = Err n

-- the ids with that of one line more, which has this number; or its number, where it names none and is not skipped
abbrev pub with_line : List ℕ → ℕ → List ℕ → Result (List ℕ) ℕ
with_line ids n line = if is_skipped line then Ok ids else with_id ids n (number_of line)

-- ---- the whole text

-- the ids of a text, or the first line with a fault
abbrev pub ids_of : List ℕ → Result (List ℕ) ℕ
ids_of text = listed_within with_line [] MOST_LIST text

-- ---- from a source

-- the accounts that a text names, by ascending id, each once
abbrev pub AreNamedIn : List ℕ → List ℕ → Type 0
AreNamedIn accounts text =
    (ids : List ℕ) × (ids_of text ≡ Ok ids) × IsTrue (is_ascending accounts)
    × ((id : ℕ) → is_among accounts id ≡ is_among ids id)

-- no call of the source failed, and its text names these accounts
abbrev pub AreNamed : Device → Device → List ℕ → Type 0
AreNamed old new accounts = Works old new × OfText MOST_LIST old new (AreNamedIn accounts)

-- why there is no list, by the fault
abbrev pub HasNoAccounts : LinesFault → Device → Device → Type 0
HasNoAccounts e old new = HasNoList MOST_LIST ids_of e old new
