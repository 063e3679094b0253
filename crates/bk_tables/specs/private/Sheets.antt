-- A page with a text in front of it.
use Rattle.std.specs.Prelude.{ℕ, List, ◌++◌}
use Rattle.bk_report.specs.Pages.{PageValue}

-- the page with a text before its bytes
abbrev pub with_front : List ℕ → PageValue → PageValue
with_front front page = record { out = page.out; bytes = front ++ page.bytes; failed = page.failed }
