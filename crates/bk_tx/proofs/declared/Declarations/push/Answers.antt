use Rattle.std.proofs.Common.{arith}
use Rattle.bk_tx.proofs.Pairs.{count_is, pushed}
use Rattle.bk_tx.proofs.declared.Declarations.push.Goals as goal

pub bounds-self-inside-self-inside : goal.bounds-self-inside-self-inside
bounds-self-inside-self-inside c =
    let count = count_is c.self.inside.count c.self.inside.ids c.self.inside.writable _ (omega arith) (omega arith) c.self.invariant c.self.view_is in
    omega arith

pub bounds-self-inside-self-inside-2 : goal.bounds-self-inside-self-inside-2
bounds-self-inside-self-inside-2 c =
    let count = count_is c.self.inside.count c.self.inside.ids c.self.inside.writable _ (omega arith) (omega arith) c.self.invariant c.self.view_is in
    omega arith

pub invariant_of-self : goal.invariant_of-self
invariant_of-self c =
    let count = count_is c.self.inside.count c.self.inside.ids c.self.inside.writable _ (omega arith) (omega arith) c.self.invariant c.self.view_is in
    omega arith

pub returns : goal.returns
returns c =
    let count = count_is c.self.inside.count c.self.inside.ids c.self.inside.writable _ (omega arith) (omega arith) c.self.invariant c.self.view_is in
    pushed c.self.inside.count c.self.inside.ids c.self.inside.writable _ c.args.id c.args.writable (omega arith) (omega arith) (omega arith) c.self.view_is
