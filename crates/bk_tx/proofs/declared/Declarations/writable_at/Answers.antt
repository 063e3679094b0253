use Rattle.std.proofs.Common.{arith}
use Rattle.bk_tx.proofs.Pairs.{writable_here, writable_nowhere}
use Rattle.bk_tx.proofs.declared.Declarations.writable_at.Goals as goal

pub returns-then-self-k-2 : goal.returns-then-self-k-2
returns-then-self-k-2 c = writable_here c.self.inside.count c.self.inside.ids c.self.inside.writable _ c.args.id c.loop-k.k (omega arith) (omega arith) c.self.invariant c.self.view_is c.loop-k-test.true c.loop-k.invariant c.if-self-k.true c.if-self-k-2.true

pub returns : goal.returns
returns c = writable_nowhere c.self.inside.count c.self.inside.ids c.self.inside.writable _ c.args.id (omega arith) (omega arith) c.self.invariant c.self.view_is (λ j low. c.loop-k.invariant j (omega (arith, c.loop-k-test.false)))
