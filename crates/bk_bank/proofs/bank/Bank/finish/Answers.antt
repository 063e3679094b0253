use Rattle.std.proofs.Common.{◌≡◌, ◌<◌, sym, refl, ap, ◌∙◌, subst, arith}
use Rattle.bk_conflicts.specs.Scene.{Scene, status_at, moved_at}
use Rattle.bk_steps.specs.Moves.{HasReadAll, HasWrittenAll}
use Rattle.bk_bank.specs.declared.view.Stage.TheVariants.{Leaving}
use Rattle.bk_bank.specs.declared.view.View.{View}
use Rattle.bk_bank.specs.Rule.{view_scene}
use Rattle.bk_bank.specs.Plays.{stay, reads_of, writes_of}
use Rattle.bk_bank.specs.Bank.{HoldData, bank_scene, IsHoldOf}
use Rattle.bk_bank.proofs.Stages.{is_leaving}
use Rattle.bk_bank.proofs.Holdings.{moves_at}
use Rattle.bk_bank.proofs.Finishing.{finishes_at}
use Rattle.bk_bank.proofs.Own.{own_inside, own_after, same_scene, word_of_place}
use Rattle.bk_bank.proofs.bank.Bank.finish.Goals as goal

pub store-requires : goal.store-requires
store-requires c =
    let h = c.hold.inside in
    let own = subst (IsHoldOf c.args.self.now) (sym c.hold.view_is) c.requires.own in
    let mine = own_inside _ _ _ _ h.seat.me.0 c.self.view_is own.0 in
    let w = word_of_place _ _ _ h.place _ c.self.view_is own.1 c.state_word-word.ensures.word c.state_word-word.ensures.inside in
    let moved = subst (λ (x : HoldData). c.args.moved ≡ moved_at (bank_scene c.args.self.now) x.place) (sym c.hold.view_is) c.requires.moved in (
      mine.0,
      w.more,
      moves_at _ _ _ _ h.place _ _ _ _ _ (let is = w.is in omega arith) c.hold.invariant.holds mine.1
          (moved ∙ ap (λ (s : Scene). moved_at s h.place) (same_scene _ _ _ c.self.view_is)),
    )

pub store-requires-2 : goal.store-requires-2
store-requires-2 c =
    let h = c.hold.inside in
    let b = c.args.self.now in
    let back = sym c.hold.view_is in
    let own = subst (IsHoldOf b) back c.requires.own in
    let mine = own_inside _ _ _ _ h.seat.me.0 c.self.view_is own.0 in
    let same = same_scene _ _ _ c.self.view_is in
    let w = word_of_place _ _ _ h.place _ c.self.view_is own.1 c.state_word-word.ensures.word c.state_word-word.ensures.inside in
    let e = c.store.ensures in
    let told = e.2.1 h.place _ _ _ c.hold.invariant.holds in
    let all = subst (λ (x : HoldData). HasReadAll (bank_scene b) x.place (reads_of x.view.stage)) back c.requires.read in
    let wrote = subst (λ (x : HoldData). HasWrittenAll (bank_scene b) x.place (writes_of x.view.stage)) back c.requires.wrote in
    let status = subst (λ (x : HoldData). c.args.status ≡ status_at (bank_scene b) x.place) back c.requires.status in (
      e.0 ∙ mine.0,
      w.inside,
      finishes_at _ _ _ _ h.place _ _ (reads_of h.seat.me.0.stage) (writes_of h.seat.me.0.stage) w.is (ap (λ (v : View). v.stage) told) (ap view_scene told ∙ mine.1)
          (subst (λ (s : Scene). HasReadAll s h.place (reads_of h.seat.me.0.stage)) same all)
          (subst (λ (s : Scene). HasWrittenAll s h.place (writes_of h.seat.me.0.stage)) same wrote)
          (status ∙ ap (λ (s : Scene). status_at s h.place) same),
    )

pub invariant_of-result : goal.invariant_of-result
invariant_of-result c =
    let h = c.hold.inside in
    let told = c.store.ensures.2.1 h.place _ _ _ c.hold.invariant.holds in
    let then = c.store-2.ensures.2.1 h.place _ _ (ap (λ (v : View). v.stage) told) in
    let now = then ∙ ap (λ (v : View). stay v (Leaving h.place 0 0)) told in record {
      none = c.store-2.ensures.2.0 ∙ (c.store.ensures.2.0 ∙ c.hold.invariant.none);
      inside = subst (λ (v : View). h.place < (view_scene v).places) (sym now) c.hold.invariant.inside;
      room = omega arith;
      leaves = is_leaving c.store-2.new.seat.me.0 h.place 0 0 (ap (λ (v : View). v.stage) now);
    }

pub returns : goal.returns
returns c =
    let h = c.hold.inside in
    let own = subst (IsHoldOf c.args.self.now) (sym c.hold.view_is) c.requires.own in
    let told = c.store.ensures.2.1 h.place _ _ _ c.hold.invariant.holds in
    let then = c.store-2.ensures.2.1 h.place _ _ (ap (λ (v : View). v.stage) told) in
    let now = then ∙ ap (λ (v : View). stay v (Leaving h.place 0 0)) told in record {
      own = (
        (own_after c.args.self.now _ _ h.seat.me.0 c.store-2.new.seat.me.0 own.0 (c.store-2.ensures.0 ∙ c.store.ensures.0) (ap view_scene now), own.1),
        ap (λ (x : HoldData). x.place) c.hold.view_is,
      );
      none = refl;
      view = subst (λ (x : HoldData). c.store-2.new.seat.me.0 ≡ stay x.view (Leaving x.place 0 0)) c.hold.view_is now;
    }
