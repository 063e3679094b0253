use Rattle.std.proofs.Common.{sym, ap, ◌∙◌, subst}
use Rattle.bk_conflicts.specs.Scene.{Scene}
use Rattle.bk_bank.specs.Setting.{scene_of}
use Rattle.bk_bank.specs.Rule.{state_word}
use Rattle.bk_bank.specs.Plays.{Learns}
use Rattle.bk_bank.specs.Bank.{PassData, IsPassOf}
use Rattle.bk_bank.proofs.Stages.{rests}
use Rattle.bk_bank.proofs.Looking.{looks_at}
use Rattle.bk_bank.proofs.Own.{own_inside, own_after, word_of_place}
use Rattle.bk_bank.proofs.bank.Bank.look.Goals as goal

pub load-requires : goal.load-requires
load-requires c =
    let own = subst (IsPassOf c.args.self.now) (sym c.pass.view_is) c.requires.own in
    let w = word_of_place _ _ _ c.args.place _ c.self.view_is c.requires.place c.state_word-word.ensures.word c.state_word-word.ensures.inside in
    ((own_inside _ _ _ _ c.pass.inside.seat.me.0 c.self.view_is own).0, w.inside, looks_at _ _ _ _ c.args.place _ w.is c.pass.invariant.0 w.low)

pub invariant_of-pass : goal.invariant_of-pass
invariant_of-pass c =
    let own = subst (IsPassOf c.args.self.now) (sym c.pass.view_is) c.requires.own in
    let told = c.load.ensures.2.1 c.args.place (c.state_word-word.ensures.word ∙ ap (λ (z : Scene). state_word z c.args.place) (sym own.1)) in
    (rests c.pass.inside.seat.me.0 c.load.new.seat.me.0 (ap scene_of told.0.setting) told.1 c.pass.invariant.0, c.load.ensures.2.0 ∙ c.pass.invariant.1)

pub returns-clause-own : goal.returns-clause-own
returns-clause-own c =
    let own = subst (IsPassOf c.args.self.now) (sym c.pass.view_is) c.requires.own in
    let told = c.load.ensures.2.1 c.args.place (c.state_word-word.ensures.word ∙ ap (λ (z : Scene). state_word z c.args.place) (sym own.1)) in
    own_after c.args.self.now _ _ c.pass.inside.seat.me.0 c.load.new.seat.me.0 own c.load.ensures.0 (ap scene_of told.0.setting)

pub returns-clause-shown : goal.returns-clause-shown
returns-clause-shown c =
    let own = subst (IsPassOf c.args.self.now) (sym c.pass.view_is) c.requires.own in
    let told = c.load.ensures.2.1 c.args.place (c.state_word-word.ensures.word ∙ ap (λ (z : Scene). state_word z c.args.place) (sym own.1)) in
    subst (λ (p : PassData). Learns p.view c.load.new.seat.me.0 c.args.place c.load.result) c.pass.view_is told.0
