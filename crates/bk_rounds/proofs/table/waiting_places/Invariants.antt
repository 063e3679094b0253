use Rattle.std.proofs.Common.{◌↔◌}
use Rattle.std.specs.List.{Contains}
use Rattle.bk_cert.specs.declared.place.CertRef.{CertRef}
use Rattle.bk_rounds.specs.private.Tied.{WaitsBelow}
use Rattle.bk_rounds.proofs.table.waiting_places.Given as goal

abbrev pub invariant-loop-number : goal.invariant-loop-number
invariant-loop-number l = (a : CertRef) → Contains l.places.items a ↔ WaitsBelow l.names l.number a
