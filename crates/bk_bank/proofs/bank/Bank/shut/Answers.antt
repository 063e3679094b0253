use Rattle.std.proofs.Common.{◌≡◌, ℕ, ◌+◌, ◌*◌, ◌^◌, ◌<◌, length, get_or, ap, ◌∙◌, subst}
use Rattle.std.specs.Mem.Slots.{slots_items}
use Rattle.bk_conflicts.specs.Scene.{Scene, status_at}
use Rattle.bk_steps.specs.Course.{Has}
use Rattle.bk_conflicts.specs.Plan.{PlanValue}
use Rattle.bk_bank.specs.Rule.{state_word}
use Rattle.bk_bank.specs.Steps.{Ends}
use Rattle.bk_bank.specs.Bank.{PassData, bank_scene}
use Rattle.bk_bank.proofs.Ending.{ends, saw_at_end}
use Rattle.bk_bank.proofs.Own.{counted, closed_whole}
use Rattle.bk_bank.proofs.bank.Bank.shut.Goals as goal

pub returns-clause-ends : goal.returns-clause-ends
returns-clause-ends c =
    let f = c.close_with.ensures.values.2 in
    subst (λ (s : Scene). Ends s (slots_items c.close_with.result.words)) (ap bank_scene c.self.view_is) (ends _ _ f.0 f.1.0 f.2)

pub returns-clause-saw : goal.returns-clause-saw
returns-clause-saw c =
    let f = c.close_with.ensures.values.2 in
    let items = slots_items c.close_with.result.words in
    subst (λ (x : Scene × PassData). (p : ℕ) → p < x.0.places → Has x.1.view.seen p → get_or items (state_word x.0 p) 0 ≡ 2 ^ 63 + status_at x.0 p)
    (λ j. (bank_scene (c.self.view_is j), c.pass.view_is j))
    (λ p l h. saw_at_end _ _ _ _ f.0 f.1.0 f.1.1 f.2 p l h)

pub returns-clause-words : goal.returns-clause-words
returns-clause-words c = (counted _ _ _ _ _ _ c.self.view_is c.self.invariant
    (c.word_count-words.ensures ∙ ap (λ (g : PlanValue). 2 * length g.ids) c.deref.ensures) (c.len-places.ensures.count ∙ ap (λ (g : PlanValue). length g.txs) c.deref-2.ensures)).words_is

pub returns-clause-places : goal.returns-clause-places
returns-clause-places c = (counted _ _ _ _ _ _ c.self.view_is c.self.invariant
    (c.word_count-words.ensures ∙ ap (λ (g : PlanValue). 2 * length g.ids) c.deref.ensures) (c.len-places.ensures.count ∙ ap (λ (g : PlanValue). length g.txs) c.deref-2.ensures)).places_is

pub returns-clause-whole : goal.returns-clause-whole
returns-clause-whole c = closed_whole _ _ _ _ _ _ _ _ c.self.view_is c.self.invariant
    (counted _ _ _ _ _ _ c.self.view_is c.self.invariant
    (c.word_count-words.ensures ∙ ap (λ (g : PlanValue). 2 * length g.ids) c.deref.ensures) (c.len-places.ensures.count ∙ ap (λ (g : PlanValue). length g.txs) c.deref-2.ensures))
    c.close_with.ensures.counts.0 c.close_with.ensures.counts.1
