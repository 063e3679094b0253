use Rattle.std.proofs.Common.{◌≡◌, ◌≤◌, ◌-◌, ◌++◌, map, take, drop}
use Rattle.bk_script.specs.Words.{pieces, pieces_after}
use Rattle.bk_script.proofs.words.pieces.Given as goal

abbrev pub invariant-loop-end : goal.invariant-loop-end
invariant-loop-end l = record {
  start : l.start ≤ l.end;
  read : map (λ p. p.now) l.found.items ++ pieces_after l.separator (take (l.end - l.start) (drop l.start l.text)) (drop l.end l.text) ≡ pieces l.separator l.text;
}
