use Rattle.std.proofs.Common.{◌≡◌, map, take}
use Rattle.bk_diagnosis.specs.private.Twins.{named_of}
use Rattle.bk_diagnosis.proofs.twins.all_named.Given as goal

abbrev pub invariant-loop-cert : goal.invariant-loop-cert
invariant-loop-cert l = l.list.items ≡ map named_of (take l.cert-index l.certs)
