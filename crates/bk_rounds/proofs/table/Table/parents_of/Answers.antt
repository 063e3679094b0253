use Rattle.std.proofs.Common.{◌≡◌, ◌<◌, ◌∙◌, sym, arith, length}
use Rattle.bk_rounds.specs.private.Names.{set_of}
use Rattle.bk_index.specs.Places.{number_of}
use Rattle.bk_rounds.proofs.Found.{parents_here, none_present, read_any}
use Rattle.bk_rounds.proofs.table.Table.parents_of.Goals as goal

pub returns-in-Some : goal.returns-in-Some
returns-in-Some c =
    let at = c.in-Some.ensures.found in
    let low : c.in-Some.number < length c.self.inside.names.sets.items = omega (arith, at.inside, c.self.invariant.names.sets) in
    let is : set_of c.self.inside.names.sets.items c.in-Some.number ≡ c.index.result.now = read_any c.self.inside.names.sets.items c.in-Some.number c.index.result.now 0 low ∙ sym c.index.ensures in
    rw (← c.self.view_is, ← is) (parents_here c.self.inside.weights c.self.inside.certs.items c.self.inside.names (number_of c.self.inside.places) c.self.inside.top c.self.invariant c.args.place c.in-Some.number at)

pub returns-in-None : goal.returns-in-None
returns-in-None c = rw (← c.self.view_is) (λ x. (
  (λ h. absurd (c.none.ensures x h)),
  (λ l. absurd (none_present c.self.inside.weights c.self.inside.certs.items c.self.inside.names (number_of c.self.inside.places) c.self.inside.top c.self.invariant c.args.place c.in-None.ensures.none (l.child, l.child_at))),
))
