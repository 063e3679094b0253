use Rattle.std.proofs.Common.{take}
use Rattle.bk_cert.specs.Node.{Node}
use Rattle.bk_diagnosis.specs.private.Colliding.{IsOtherCert, ListsSome}
use Rattle.bk_diagnosis.proofs.colliding.add_certs.Given as goal

abbrev pub invariant-loop-cert : goal.invariant-loop-cert
invariant-loop-cert l = ListsSome (λ (c : Node). c.id) (IsOtherCert l.certs l.firsts) (take l.cert-index l.certs) l.initial.ids.items l.ids.items
