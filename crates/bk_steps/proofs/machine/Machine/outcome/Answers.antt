use Rattle.std.proofs.Common.{ℕ, List, ◌^◌, ◌<◌, sym, ap, ◌∙◌, subst}
use Rattle.bk_base.specs.Genesis.{total_of}
use Rattle.bk_rules.specs.Ledger.{rows_shown, in_pairs, ledger_of}
use Rattle.bk_steps.specs.Machine.{MachineValue}
use Rattle.bk_steps.specs.private.Machine.{machine_value}
use Rattle.bk_steps.proofs.Outcomes.{all_done, receipts_are, state_is, within}
use Rattle.bk_steps.proofs.machine.Machine.outcome.Goals as goal

pub set_words-requires-clause-within : goal.set_words-requires-clause-within
set_words-requires-clause-within c =
    let m : MachineValue = machine_value c.self.inside.plan c.self.inside.opening c.self.inside.words.items c.self.inside.stages.items c.self.inside.seats.items in
    let is = c.in_ok-receipts.ensures.done ∙ c.deref.ensures.value in
    subst (λ (xs : List ℕ). total_of (rows_shown m.opening.version m.opening.slots (in_pairs xs)) < 2 ^ 63) (sym c.deref-2.ensures.value)
    (within m c.in_ok-receipts.receipts.items c.self.invariant.machine is)

pub returns-clause-done : goal.returns-clause-done
returns-clause-done c =
    let m : MachineValue = machine_value c.self.inside.plan c.self.inside.opening c.self.inside.words.items c.self.inside.stages.items c.self.inside.seats.items in
    let is = c.in_ok-receipts.ensures.done ∙ c.deref.ensures.value in
    rw (← c.self.view_is) (all_done m c.in_ok-receipts.receipts.items c.self.invariant.machine is)

pub returns-clause-fold : goal.returns-clause-fold
returns-clause-fold c =
    let m : MachineValue = machine_value c.self.inside.plan c.self.inside.opening c.self.inside.words.items c.self.inside.stages.items c.self.inside.seats.items in
    let is = c.in_ok-receipts.ensures.done ∙ c.deref.ensures.value in
    rw (← c.self.view_is) (record {
      state = c.set_words.ensures ∙ ap (ledger_of m.opening.version m.opening.slots)
          (ap (λ (xs : List ℕ). rows_shown m.opening.version m.opening.slots (in_pairs xs)) c.deref-2.ensures.value
          ∙ state_is m c.in_ok-receipts.receipts.items c.self.invariant.machine is);
      receipts = receipts_are m c.in_ok-receipts.receipts.items c.self.invariant.machine is;
    })
