use Rattle.std.proofs.Common.{◌≡◌, ℕ, ◌<◌, List, [], ◌∷◌, true, false, sym, ap, ◌∙◌, subst}
use Rattle.bk_conflicts.specs.Scene.{Scene}
use Rattle.bk_bank.specs.declared.view.Stage.TheVariants.{Holding}
use Rattle.bk_bank.specs.declared.view.View.{View}
use Rattle.bk_bank.specs.Setting.{word_at}
use Rattle.bk_bank.specs.Rule.{view_scene}
use Rattle.bk_bank.specs.Plays.{stay, reads_of, writes_of}
use Rattle.bk_bank.specs.Bank.{BankData, HoldData, bank_scene, IsHoldOf}
use Rattle.bk_bank.proofs.Stages.{is_holding}
use Rattle.bk_bank.proofs.Holdings.{reads_at}
use Rattle.bk_bank.proofs.Own.{own_inside, own_after, same_scene}
use Rattle.bk_bank.proofs.bank.Bank.read.Goals as goal

pub load-requires : goal.load-requires
load-requires c =
    let h = c.hold.inside in
    let own = subst (IsHoldOf c.args.self.now) (sym c.hold.view_is) c.requires.own in
    let none = subst (λ (x : HoldData). writes_of x.view.stage ≡ []) (sym c.hold.view_is) c.requires.unwritten in
    let holds = c.hold.invariant.holds ∙ ap (λ (ws : List ℕ). Holding h.place (reads_of h.seat.me.0.stage) ws false) none in
    let mine = own_inside _ _ _ _ h.seat.me.0 c.self.view_is own.0 in (
      mine.0,
      subst (λ (b : BankData). c.word_of-word.result < b.table.words) (sym c.self.view_is) c.word_of-word.ensures.inside,
      reads_at _ _ _ _ h.place _ (reads_of h.seat.me.0.stage) holds mine.1
          (subst (λ (s : Scene). s.declares h.place c.word_of-word.result ≡ true) (same_scene _ _ _ c.self.view_is) c.word_of-word.ensures.declared),
    )

pub invariant_of-hold : goal.invariant_of-hold
invariant_of-hold c =
    let h = c.hold.inside in
    let none = subst (λ (x : HoldData). writes_of x.view.stage ≡ []) (sym c.hold.view_is) c.requires.unwritten in
    let holds = c.hold.invariant.holds ∙ ap (λ (ws : List ℕ). Holding h.place (reads_of h.seat.me.0.stage) ws false) none in
    let told = c.load.ensures.2.1 h.place (reads_of h.seat.me.0.stage) holds in record {
      none = c.load.ensures.2.0 ∙ c.hold.invariant.none;
      inside = subst (λ (v : View). h.place < (view_scene v).places) (sym told.0) c.hold.invariant.inside;
      holds = is_holding c.load.new.seat.me.0 h.place _ _ (ap (λ (v : View). v.stage) told.0);
    }

pub returns : goal.returns
returns c =
    let h = c.hold.inside in
    let own = subst (IsHoldOf c.args.self.now) (sym c.hold.view_is) c.requires.own in
    let none = subst (λ (x : HoldData). writes_of x.view.stage ≡ []) (sym c.hold.view_is) c.requires.unwritten in
    let holds = c.hold.invariant.holds ∙ ap (λ (ws : List ℕ). Holding h.place (reads_of h.seat.me.0.stage) ws false) none in
    let told = c.load.ensures.2.1 h.place (reads_of h.seat.me.0.stage) holds in
    let is = c.word_of-word.ensures.word in
    let plan = c.args.self.now.setting.plan in record {
      own = (
        (own_after c.args.self.now _ _ h.seat.me.0 c.load.new.seat.me.0 own.0 c.load.ensures.0 (ap view_scene told.0), own.1),
        ap (λ (x : HoldData). x.place) c.hold.view_is,
      );
      value = subst (λ (x : HoldData). c.load.result ≡ (bank_scene c.args.self.now).fold x.place (word_at plan x.place c.args.i)) c.hold.view_is
          (told.1 ∙ (λ j. (own.0.1 j).fold h.place (is j)));
      view = subst (λ (x : HoldData). c.load.new.seat.me.0
          ≡ stay x.view (Holding x.place ((word_at plan x.place c.args.i, c.load.result) ∷ reads_of x.view.stage) [] false)) c.hold.view_is
          (told.0 ∙ ap (λ (z : ℕ). stay h.seat.me.0 (Holding h.place ((z, c.load.result) ∷ reads_of h.seat.me.0.stage) [] false)) is);
    }
