use Rattle.std.proofs.Common.{◌++◌, ◌∷◌, [], List, ℕ, ap, subst, ◌∙◌}
use Rattle.std.proofs.lemmas.List.{take_all}
use Rattle.bk_cert.specs.Node.{Node}
use Rattle.bk_diagnosis.specs.private.Colliding.{IsOtherCert, ListsSome}
use Rattle.bk_diagnosis.proofs.Noting.{next_yes, next_no, fails}
use Rattle.bk_diagnosis.proofs.colliding.add_certs.Goals as goal
use Rattle.bk_diagnosis.proofs.colliding.add_certs.Goals.{then-is_other_cert+in_ok-push, else-is_other_cert}

pub loop-cert-preserved : goal.loop-cert-preserved
loop-cert-preserved c = elim c.if-is_other_cert.branch [
  | then-is_other_cert+in_ok-push w ↦ rw w.ids-is
      (next_yes (λ (n : Node). n.id) (IsOtherCert c.args.certs.now c.args.firsts.now) c.args.certs.now c.loop-cert.cert-index c.cert-item.result
      c.args.ids.now.items c.loop-cert.ids.items w.push.new.self.items c.loop-cert-test.true c.cert-item.is c.loop-cert.invariant
      (c.is_other_cert.ensures.0 w.if-is_other_cert.true)
      (w.in_ok-push.ensures.items ∙ ap (λ (q : List ℕ). c.loop-cert.ids.items ++ q ∷ []) w.id.ensures))
  | else-is_other_cert w ↦ rw w.ids-is
      (next_no (λ (n : Node). n.id) (IsOtherCert c.args.certs.now c.args.firsts.now) c.args.certs.now c.loop-cert.cert-index c.cert-item.result
      c.args.ids.now.items c.loop-cert.ids.items c.loop-cert-test.true c.cert-item.is c.loop-cert.invariant
      (fails c.is_other_cert.result c.is_other_cert.ensures w.if-is_other_cert.false))
]

pub returns : goal.returns
returns c = subst (λ (xs : List Node). ListsSome (λ (n : Node). n.id) (IsOtherCert c.args.certs.now c.args.firsts.now) xs c.args.ids.now.items c.loop-cert.ids.items)
    (take_all c.loop-cert.cert-index c.args.certs.now c.loop-cert-test.false) c.loop-cert.invariant
