use Rattle.std.proofs.Common.{map, take}
use Rattle.bk_certcheck.specs.private.Stages.{AreScreened}
use Rattle.bk_certcheck.proofs.screening.screen.Given as goal

abbrev pub invariant-loop-bytes : goal.invariant-loop-bytes
invariant-loop-bytes l = AreScreened l.committee (map (λ bytes. bytes.now) (take l.bytes-index l.payloads)) l.broken.items l.left.items
