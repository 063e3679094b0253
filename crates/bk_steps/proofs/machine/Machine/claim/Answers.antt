use Rattle.std.proofs.Common.{ℕ, ◌<◌, refl, sym, subst, length-set}
use Rattle.bk_steps.specs.Machine.{MachineValue}
use Rattle.bk_steps.specs.private.Machine.{machine_value}
use Rattle.bk_steps.specs.declared.event.Event.TheVariants.{Claim}
use Rattle.bk_steps.specs.declared.stage.Stage.TheVariants.{Held}
use Rattle.bk_steps.proofs.Reached.{keeps}
use Rattle.bk_steps.proofs.Counted.{ready_parts, not_ready_parts, claim_counts}
use Rattle.bk_steps.proofs.Seated.{idle_parts, no_idle, no_ready, claim_steps}
use Rattle.bk_steps.proofs.machine.Machine.claim.Goals as goal

pub invariant_of-self : goal.invariant_of-self
invariant_of-self c =
    let m : MachineValue = machine_value c.self.inside.plan c.self.inside.opening c.self.inside.words.items c.self.inside.stages.items c.self.inside.seats.items in
    let idle = idle_parts c.self.inside.seats.items c.deref.result.now c.args.worker c.is_idle.result c.deref.ensures.value c.is_idle.ensures c.if-not-is_idle.false in
    let is_free = ready_parts m c.self.inside.waits.items c.args.place c.deref-2.result.now c.deref-3.result.now c.is_ready.result c.self.invariant.machine c.self.invariant.counts c.deref-2.ensures.value c.deref-3.ensures.value c.is_ready.ensures c.if-not-is_ready.false in
    record {
      machine = keeps m (Claim c.args.worker c.args.place) _ _ _ c.self.invariant.machine refl (length-set m.stages c.args.place (Held c.args.worker))
          (claim_steps m c.args.worker c.args.place c.seated.result c.self.invariant.machine idle.0 idle.1 is_free
          (record { place = c.seated.ensures.place; read = c.seated.ensures.read; written = c.seated.ensures.written }));
      counts = claim_counts m.plan m.opening m.stages c.self.inside.waits.items c.args.worker c.args.place
          (subst (λ (n : ℕ). c.args.place < n) (sym c.self.invariant.machine.stages_long) is_free.inside) is_free.waits c.self.invariant.counts;
    }

pub returns-clause-allowed : goal.returns-clause-allowed
returns-clause-allowed c =
    let m : MachineValue = machine_value c.self.inside.plan c.self.inside.opening c.self.inside.words.items c.self.inside.stages.items c.self.inside.seats.items in
    let idle = idle_parts c.self.inside.seats.items c.deref.result.now c.args.worker c.is_idle.result c.deref.ensures.value c.is_idle.ensures c.if-not-is_idle.false in
    let is_free = ready_parts m c.self.inside.waits.items c.args.place c.deref-2.result.now c.deref-3.result.now c.is_ready.result c.self.invariant.machine c.self.invariant.counts c.deref-2.ensures.value c.deref-3.ensures.value c.is_ready.ensures c.if-not-is_ready.false in
    rw (← c.self.view_is) (claim_steps m c.args.worker c.args.place c.seated.result c.self.invariant.machine idle.0 idle.1 is_free
    (record { place = c.seated.ensures.place; read = c.seated.ensures.read; written = c.seated.ensures.written }))

pub returns-then-not-is_idle-clause-refused : goal.returns-then-not-is_idle-clause-refused
returns-then-not-is_idle-clause-refused c =
    let m : MachineValue = machine_value c.self.inside.plan c.self.inside.opening c.self.inside.words.items c.self.inside.stages.items c.self.inside.seats.items in
    rw (← c.self.view_is) (no_idle m c.deref.result.now c.args.worker c.args.place c.is_idle.result c.deref.ensures.value c.is_idle.ensures c.if-not-is_idle.true)

pub returns-then-not-is_ready-clause-refused : goal.returns-then-not-is_ready-clause-refused
returns-then-not-is_ready-clause-refused c =
    let m : MachineValue = machine_value c.self.inside.plan c.self.inside.opening c.self.inside.words.items c.self.inside.stages.items c.self.inside.seats.items in
    let idle = idle_parts c.self.inside.seats.items c.deref.result.now c.args.worker c.is_idle.result c.deref.ensures.value c.is_idle.ensures c.if-not-is_idle.false in
    rw (← c.self.view_is) (no_ready m c.args.worker c.args.place idle.0 idle.1
    (not_ready_parts m c.self.inside.waits.items c.args.place c.deref-2.result.now c.deref-3.result.now c.is_ready.result c.self.invariant.machine c.self.invariant.counts c.deref-2.ensures.value c.deref-3.ensures.value c.is_ready.ensures c.if-not-is_ready.true))
