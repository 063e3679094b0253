use Rattle.std.proofs.Common.{◌≡◌, ℕ, suc, ◌<◌, ◌∷◌, length, true, false, sym, ap, ◌∙◌, subst}
use Rattle.bk_conflicts.specs.Scene.{Scene}
use Rattle.bk_steps.specs.Course.{Has}
use Rattle.bk_steps.specs.Moves.{HasReadAll}
use Rattle.bk_bank.specs.declared.view.Stage.TheVariants.{Holding}
use Rattle.bk_bank.specs.declared.view.View.{View}
use Rattle.bk_bank.specs.Setting.{words_at, word_at, may_write}
use Rattle.bk_bank.specs.Rule.{view_scene}
use Rattle.bk_bank.specs.Plays.{stay, reads_of, writes_of}
use Rattle.bk_bank.specs.Bank.{BankData, HoldData, bank_scene, IsHoldOf}
use Rattle.bk_bank.proofs.Settings.{word_written}
use Rattle.bk_bank.proofs.Stages.{is_holding}
use Rattle.bk_bank.proofs.Holdings.{writes_at}
use Rattle.bk_bank.proofs.Own.{own_inside, own_after, same_scene}
use Rattle.bk_bank.proofs.bank.Bank.write.Goals as goal

pub store-requires : goal.store-requires
store-requires c =
    let h = c.hold.inside in
    let b = c.args.self.now in
    let back = sym c.hold.view_is in
    let own = subst (IsHoldOf b) back c.requires.own in
    let mine = own_inside _ _ _ _ h.seat.me.0 c.self.view_is own.0 in
    let same = same_scene _ _ _ c.self.view_is in
    let is = c.word_of-word.ensures.word in
    let low = subst (λ (x : HoldData). c.args.i < length (words_at b.setting.plan x.place)) back c.requires.word in
    let may = subst (λ (x : HoldData). may_write b.setting.plan x.place c.args.i ≡ true) back c.requires.writable in
    let all = subst (λ (x : HoldData). HasReadAll (bank_scene b) x.place (reads_of x.view.stage)) back c.requires.read in
    let fresh = subst (λ (x : HoldData). ¬ Has (writes_of x.view.stage) (word_at b.setting.plan x.place c.args.i)) back c.requires.fresh in
    let value = subst (λ (x : HoldData). c.args.value ≡ (bank_scene b).fold (suc x.place) (word_at b.setting.plan x.place c.args.i)) back c.requires.value in (
      mine.0,
      subst (λ (x : BankData). c.word_of-word.result < x.table.words) (sym c.self.view_is) c.word_of-word.ensures.inside,
      writes_at _ _ _ _ h.place _ _ _ _ _ c.hold.invariant.holds mine.1
          (subst (λ (s : Scene). s.writes h.place c.word_of-word.result ≡ true) same
          (subst (λ (z : ℕ). (bank_scene b).writes h.place z ≡ true) (sym is) (word_written b.setting h.place c.args.i low may)))
          (value ∙ (λ j. (same j).fold (suc h.place) (sym is j)))
          (subst (λ (s : Scene). HasReadAll s h.place (reads_of h.seat.me.0.stage)) same all)
          (λ a. fresh (subst (Has (writes_of h.seat.me.0.stage)) is a)),
    )

pub invariant_of-hold : goal.invariant_of-hold
invariant_of-hold c =
    let h = c.hold.inside in
    let told = c.store.ensures.2.1 h.place _ _ _ c.hold.invariant.holds in record {
      none = c.store.ensures.2.0 ∙ c.hold.invariant.none;
      inside = subst (λ (v : View). h.place < (view_scene v).places) (sym told) c.hold.invariant.inside;
      holds = is_holding c.store.new.seat.me.0 h.place _ _ (ap (λ (v : View). v.stage) told);
    }

pub returns : goal.returns
returns c =
    let h = c.hold.inside in
    let own = subst (IsHoldOf c.args.self.now) (sym c.hold.view_is) c.requires.own in
    let told = c.store.ensures.2.1 h.place _ _ _ c.hold.invariant.holds in
    let plan = c.args.self.now.setting.plan in record {
      own = (
        (own_after c.args.self.now _ _ h.seat.me.0 c.store.new.seat.me.0 own.0 c.store.ensures.0 (ap view_scene told), own.1),
        ap (λ (x : HoldData). x.place) c.hold.view_is,
      );
      view = subst (λ (x : HoldData). c.store.new.seat.me.0
          ≡ stay x.view (Holding x.place (reads_of x.view.stage) (word_at plan x.place c.args.i ∷ writes_of x.view.stage) false)) c.hold.view_is
          (told ∙ ap (λ (z : ℕ). stay h.seat.me.0 (Holding h.place (reads_of h.seat.me.0.stage) (z ∷ writes_of h.seat.me.0.stage) false)) c.word_of-word.ensures.word);
    }
