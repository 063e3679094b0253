use Rattle.std.proofs.Common.{◌≡◌, [], sym, refl, ◌∙◌, subst}
use Rattle.std.specs.Arc.{arc_value}
use Rattle.atomic_table.specs.Table.{opening}
use Rattle.bk_conflicts.specs.SceneOf.{CanRunOn}
use Rattle.bk_conflicts.specs.Plan.{PlanValue, IsPlan}
use Rattle.bk_bank.specs.declared.setting.Setting.{Setting}
use Rattle.bk_bank.specs.Setting.{scene_of, setting_with}
use Rattle.bk_bank.specs.Steps.{IsLaid}
use Rattle.bk_bank.specs.Rule.{IsOrdered, starting}
use Rattle.bk_bank.proofs.Settings.{scene_sound}
use Rattle.bk_bank.proofs.Ending.{starts}
use Rattle.bk_bank.proofs.Own.{made}
use Rattle.bk_bank.proofs.bank.Bank.new.Goals as goal

pub lay-requires : goal.lay-requires
lay-requires c = record {
  plan = subst IsPlan (c.deref.ensures ∙ sym c.deref-2.ensures) c.len.ensures.plan;
  runs = subst (λ (x : PlanValue). CanRunOn x c.args.state.now) (sym (c.deref-2.ensures ∙ c.in_ok-plan.ensures)) c.requires;
}

pub of_words-requires : goal.of_words-requires
of_words-requires c =
    let state = c.args.state.now in
    let plan : PlanValue = arc_value c.args.plan.now in
    let g = setting_with plan state in
    let counted : IsPlan plan = subst IsPlan (c.deref.ensures ∙ c.in_ok-plan.ensures) c.len.ensures.plan in
    let sound = scene_sound c.scene_is_sound.ensures plan state counted c.requires in
    let same : setting_with c.of.result.value c.of-2.result.value ≡ g =
    λ i. setting_with ((c.of.ensures ∙ (c.deref-3.ensures ∙ c.in_ok-plan.ensures)) i) (c.of-2.ensures i) in
    let laid : IsLaid (scene_of g) c.as_slice.result.now =
    subst (λ (x : PlanValue). IsLaid (scene_of (setting_with x state)) c.as_slice.result.now) (c.deref-2.ensures ∙ c.in_ok-plan.ensures)
    (subst (IsLaid (scene_of (setting_with c.deref-2.result.now state))) (sym c.as_slice.ensures.value) c.in_ok-words.ensures) in
    subst (λ (z : Setting). IsOrdered (scene_of z) (opening c.as_slice.result.now [] (starting z))) (sym same)
    (starts (scene_of g) g c.as_slice.result.now refl sound laid)

pub invariant_of-result : goal.invariant_of-result
invariant_of-result c =
    let state = c.args.state.now in
    let plan : PlanValue = arc_value c.args.plan.now in
    let g = setting_with plan state in
    let counted : IsPlan plan = subst IsPlan (c.deref.ensures ∙ c.in_ok-plan.ensures) c.len.ensures.plan in
    let sound = scene_sound c.scene_is_sound.ensures plan state counted c.requires in
    let laid : IsLaid (scene_of g) c.as_slice.result.now =
    subst (λ (x : PlanValue). IsLaid (scene_of (setting_with x state)) c.as_slice.result.now) (c.deref-2.ensures ∙ c.in_ok-plan.ensures)
    (subst (IsLaid (scene_of (setting_with c.deref-2.result.now state))) (sym c.as_slice.ensures.value) c.in_ok-words.ensures) in
    let e = c.in_ok-table.ensures in
    made g _ _ _ _ c.as_slice.result.now e.5
    (λ i. setting_with ((c.of.ensures ∙ (c.deref-3.ensures ∙ c.in_ok-plan.ensures)) i) (c.of-2.ensures i))
    (sym c.in_ok-plan.ensures) sound laid e.0 e.1
