use Rattle.std.proofs.Common.{◌++◌, take}
use Rattle.bk_evidence.specs.Laws.{HaveSame}
use Rattle.bk_evidence.proofs.held.offer_all.Given as goal

abbrev pub invariant-loop-cert : goal.invariant-loop-cert
invariant-loop-cert l = HaveSame l.all (l.initial.all ++ take l.cert-index l.certs)
