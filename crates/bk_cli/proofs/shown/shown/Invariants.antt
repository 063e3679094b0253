use Rattle.std.proofs.Common.{◌≡◌, ◌≤◌, length, take}
use Rattle.bk_cli.specs.Files.{shown}
use Rattle.bk_cli.proofs.shown.shown.Given as goal

abbrev pub invariant-loop-byte : goal.invariant-loop-byte
invariant-loop-byte l = (l.line.items ≡ shown (take l.byte-index l.bytes)) × (length l.bytes ≤ 192)
