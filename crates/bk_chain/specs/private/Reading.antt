-- How a line is read: its words are read by their places, and what they say is compared with the line.
use Rattle.std.specs.Prelude.{ℕ, List, [], length, nat_lt, ◌==◌, if◌then◌else◌, Option, Some, None, Result, Ok, Err, codes, slice_index_or}
use Rattle.std.specs.Result.{result_ok}
use Rattle.std.specs.Str.{bytes_eq}
use Rattle.hex.specs.Hex.{decode_sized}
use Rattle.bk_base.specs.Numbers.{◌>>=◌}
use Rattle.bk_base.specs.declared.version.Version.{Version}
use Rattle.bk_base.specs.declared.version.Version.TheVariants as version
use Rattle.bk_results.specs.declared.status.Status.{Status}
use Rattle.bk_results.specs.declared.status.Status.TheVariants as status
use Rattle.bk_results.specs.declared.script_fault.ScriptCode.{ScriptCode}
use Rattle.bk_script.specs.Words.{number_of, pieces}
use Rattle.bk_chain.specs.declared.link.LinkValue.{LinkValue}
use Rattle.bk_chain.specs.Line.{link_line}

-- the word at a place of a line, the first being 0
abbrev pub word : List (List ℕ) → ℕ → List ℕ
word words i = slice_index_or words i []

abbrev pub version_in : List ℕ → Option Version
version_in word =
    if bytes_eq word (codes "1") then Some version.One else (if bytes_eq word (codes "2") then Some version.Two else None)

abbrev pub end_in : List ℕ → Option Status
end_in word =
    if bytes_eq word (codes "whole") then Some status.Whole
    else (if bytes_eq word (codes "short") then Some status.Missing else None)

-- the 32 bytes that a word writes in hexadecimal digits of either case
abbrev pub digest_in : List ℕ → Option (List ℕ)
digest_in word = result_ok (decode_sized word 32)

abbrev pub number_below : ℕ → Result ℕ ScriptCode → Option ℕ
number_below limit (Ok n) = if nat_lt n limit then Some n else None
number_below limit (Err found) = None

-- the number that a word writes, below a limit
abbrev pub below : ℕ → List ℕ → Option ℕ
below limit word = number_below limit (number_of word)

abbrev pub count_in : List ℕ → Option ℕ
count_in word = below 4294967296 word

-- what sixteen words say
unfoldable pub link_of_words : List (List ℕ) → Option LinkValue
link_of_words words = do
  version ← version_in (word words 2)
  committee ← digest_in (word words 4)
  opening ← digest_in (word words 6)
  closing ← digest_in (word words 8)
  accounts ← count_in (word words 10)
  money ← below 9223372036854775808 (word words 12)
  transactions ← count_in (word words 14)
  end ← end_in (word words 15)
  Some (record {
    version = version;
    committee = committee;
    opening = opening;
    closing = closing;
    accounts = accounts;
    money = money;
    transactions = transactions;
    end = end;
  })

unfoldable pub link_in : List (List ℕ) → Option LinkValue
link_in words = if length words == 16 then link_of_words words else None

-- where the line is the one that is written of what its words say
abbrev pub checked : List ℕ → Option LinkValue → Option LinkValue
checked line None = None
checked line (Some v) = if bytes_eq (link_line v) line then Some v else None

-- the link of a line, if it is the line of one
abbrev pub link_of : List ℕ → Option LinkValue
link_of line = checked line (link_in (pieces 32 line))
