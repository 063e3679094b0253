-- The lines of a script, and what kind each is of.
use Rattle.std.specs.Prelude.{ℕ, Bool, true, false, List, [], ◌∷◌, length, nat_le, nat_lt, ◌==◌, ◌&&◌, ◌||◌, ◌%◌, if◌then◌else◌, Option, Some, None, codes, slice_index_or}
use Rattle.std.specs.List.{list_all}
use Rattle.std.specs.Str.{bytes_eq}
use Rattle.bk_base.specs.declared.version.Version.{Version}
use Rattle.bk_base.specs.declared.version.Version.TheVariants as version
use Rattle.bk_script.specs.declared.line.Keyword.{Keyword}
use Rattle.bk_script.specs.declared.line.Keyword.TheVariants as keyword
use Rattle.bk_script.specs.Words.{pieces, are_filled}

-- ---- lines

-- a line is skipped where it is empty or begins with `#`
abbrev pub is_skipped : List ℕ → Bool
is_skipped line = length line == 0 || slice_index_or line 0 0 == 35

-- each byte is ASCII
abbrev pub is_ascii : List ℕ → Bool
is_ascii line = list_all (λ c. nat_lt c 128) line

-- the words of a line, separated by single spaces
abbrev pub words_of : List ℕ → List (List ℕ)
words_of line = pieces 32 line

-- ---- kinds of lines

-- the kind of line that a first word names
unfoldable pub keyword_of : List ℕ → Option Keyword
keyword_of word =
    if bytes_eq word (codes "version") then Some keyword.Version
    else (if bytes_eq word (codes "members") then Some keyword.Members
    else (if bytes_eq word (codes "account") then Some keyword.Account
    else (if bytes_eq word (codes "batch") then Some keyword.Batch
    else (if bytes_eq word (codes "pay") then Some keyword.Pay
    else (if bytes_eq word (codes "payif") then Some keyword.PayIf
    else (if bytes_eq word (codes "sweep") then Some keyword.Sweep
    else (if bytes_eq word (codes "split") then Some keyword.Split
    else (if bytes_eq word (codes "raw") then Some keyword.Raw
    else (if bytes_eq word (codes "cert") then Some keyword.Cert
    else (if bytes_eq word (codes "again") then Some keyword.Again
    else None))))))))))

-- a list of weights may come after `members` in version Two
abbrev pub may_weigh : Version → Bool
may_weigh version.One = false
may_weigh version.Two = true

-- a line of this kind may have this many words after the first
abbrev pub takes : Version → Keyword → ℕ → Bool
takes v keyword.Version n = n == 1
takes v keyword.Members n = n == 1 || (n == 2 && may_weigh v)
takes v keyword.Account n = n == 2 || n == 3
takes v keyword.Batch n = n == 1
takes v keyword.Pay n = n == 4
takes v keyword.PayIf n = n == 6
takes v keyword.Sweep n = n == 4
takes v keyword.Split n = nat_le 4 n && nat_le n 14 && n % 2 == 0
takes v keyword.Raw n = n == 1
takes v keyword.Cert n = n == 6
takes v keyword.Again n = n == 2

-- this kind, where this many words may come after the first
abbrev pub fitting : Version → Option Keyword → ℕ → Option Keyword
fitting v None n = None
fitting v (Some found) n = if takes v found n then Some found else None

-- the kind of a line of these words, where none is empty and their number is right
unfoldable pub kind_of : Version → List (List ℕ) → Option Keyword
kind_of v [] = None
kind_of v (first ∷ more) =
    if are_filled (first ∷ more) then fitting v (keyword_of first) (length more) else None
