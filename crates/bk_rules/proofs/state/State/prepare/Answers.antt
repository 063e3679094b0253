use Rattle.std.proofs.Common.{IsTrue, sym, ap, subst, ◌∙◌}
use Rattle.std.specs.Vec.{vec_len}
use Rattle.std.proofs.lemmas.Bool.{eqb-true}
use Rattle.bk_base.specs.Numbers.{is_ascending}
use Rattle.bk_rules.specs.Ledger.{Ledger}
use Rattle.bk_rules.proofs.Widening.{nothing_lacks_prepared, nothing_lacks_covered, prepared_one, covered_one, wider_slots, wider_prepared, wider_covers}
use Rattle.bk_rules.proofs.state.State.prepare.Goals as goal

pub returns-in-One-clause-prepared : goal.returns-in-One-clause-prepared
returns-in-One-clause-prepared c = prepared_one c.args.txs.now c.args.self.now (subst (λ (l : Ledger). IsTrue (is_ascending l.slots)) c.self.view_is c.self.invariant.ascending) (ap (λ (l : Ledger). l.version) (sym c.self.view_is) ∙ c.in-One.is)

pub returns-in-One-clause-covers : goal.returns-in-One-clause-covers
returns-in-One-clause-covers c = covered_one c.args.txs.now c.args.self.now (ap (λ (l : Ledger). l.version) (sym c.self.view_is) ∙ c.in-One.is)

pub invariant_of-self : goal.invariant_of-self
invariant_of-self c = rw c.in_ok-ids-in-Two.ensures (wider_slots c.args.txs.now c.args.self.now c.self.inside.version c.self.inside.ids c.self.inside.numbers.items c.self.invariant c.self.view_is c.in-Two.is c.in_ok-wide-in-Two.wide.items c.in_ok-wide-in-Two.ensures.ascending (λ i. c.in_ok-wide-in-Two.ensures.slots i ∙ c.in_ok-lacking-in-Two.ensures i) c.in_ok-numbers-in-Two.numbers.items (rw (c.deref.ensures.value, c.deref-in-Two.ensures.value) at c.in_ok-numbers-in-Two.ensures))

pub returns-in_ok-ids-in-Two-clause-prepared : goal.returns-in_ok-ids-in-Two-clause-prepared
returns-in_ok-ids-in-Two-clause-prepared c = rw c.in_ok-ids-in-Two.ensures (wider_prepared c.args.txs.now c.args.self.now c.self.inside.version c.self.inside.ids c.self.inside.numbers.items c.self.invariant c.self.view_is c.in-Two.is c.in_ok-wide-in-Two.wide.items c.in_ok-wide-in-Two.ensures.ascending (λ i. c.in_ok-wide-in-Two.ensures.slots i ∙ c.in_ok-lacking-in-Two.ensures i) c.in_ok-numbers-in-Two.numbers.items (rw (c.deref.ensures.value, c.deref-in-Two.ensures.value) at c.in_ok-numbers-in-Two.ensures))

pub returns-in_ok-ids-in-Two-clause-covers : goal.returns-in_ok-ids-in-Two-clause-covers
returns-in_ok-ids-in-Two-clause-covers c = rw c.in_ok-ids-in-Two.ensures (wider_covers c.args.txs.now c.args.self.now c.self.inside.version c.self.inside.ids c.self.inside.numbers.items c.self.invariant c.self.view_is c.in-Two.is c.in_ok-wide-in-Two.wide.items c.in_ok-wide-in-Two.ensures.ascending (λ i. c.in_ok-wide-in-Two.ensures.slots i ∙ c.in_ok-lacking-in-Two.ensures i) c.in_ok-numbers-in-Two.numbers.items (rw (c.deref.ensures.value, c.deref-in-Two.ensures.value) at c.in_ok-numbers-in-Two.ensures))

pub returns-then-is_empty-clause-prepared : goal.returns-then-is_empty-clause-prepared
returns-then-is_empty-clause-prepared c = nothing_lacks_prepared c.args.txs.now c.args.self.now c.self.inside.version c.self.inside.ids c.in_ok-lacking-in-Two.lacking.items c.self.inside.numbers.items c.self.view_is c.in-Two.is (sym c.in_ok-lacking-in-Two.lacking.ok.0 ∙ eqb-true (vec_len c.in_ok-lacking-in-Two.lacking) 0 (sym c.is_empty.ensures ∙ c.if-is_empty.true)) c.in_ok-lacking-in-Two.ensures c.self.invariant.ascending

pub returns-then-is_empty-clause-covers : goal.returns-then-is_empty-clause-covers
returns-then-is_empty-clause-covers c = nothing_lacks_covered c.args.txs.now c.args.self.now c.self.inside.version c.self.inside.ids c.in_ok-lacking-in-Two.lacking.items c.self.inside.numbers.items c.self.view_is c.in-Two.is (sym c.in_ok-lacking-in-Two.lacking.ok.0 ∙ eqb-true (vec_len c.in_ok-lacking-in-Two.lacking) 0 (sym c.is_empty.ensures ∙ c.if-is_empty.true)) c.in_ok-lacking-in-Two.ensures
