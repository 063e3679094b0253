-- Which kind of line a first word names, where it is none of the first kinds.
use Rattle.std.specs.Prelude.{ℕ, List, if◌then◌else◌, Option, Some, None, codes}
use Rattle.std.specs.Str.{bytes_eq}
use Rattle.bk_script.specs.declared.line.Keyword.{Keyword}
use Rattle.bk_script.specs.declared.line.Keyword.TheVariants as keyword

-- the kind of a line of a raw text or of a certificate
abbrev pub raw_or_certificate : List ℕ → Option Keyword
raw_or_certificate word =
    if bytes_eq word (codes "raw") then Some keyword.Raw
    else (if bytes_eq word (codes "cert") then Some keyword.Cert
    else (if bytes_eq word (codes "again") then Some keyword.Again
    else None))

-- the kind of a line after the accounts and the names of batches
abbrev pub in_batch_or_after : List ℕ → Option Keyword
in_batch_or_after word =
    if bytes_eq word (codes "pay") then Some keyword.Pay
    else (if bytes_eq word (codes "payif") then Some keyword.PayIf
    else (if bytes_eq word (codes "sweep") then Some keyword.Sweep
    else (if bytes_eq word (codes "split") then Some keyword.Split
    else raw_or_certificate word)))
