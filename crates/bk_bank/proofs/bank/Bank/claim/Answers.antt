use Rattle.std.proofs.Common.{◌<◌, sym, refl, ap, ◌∙◌, subst}
use Rattle.bk_conflicts.specs.Scene.{Scene}
use Rattle.bk_bank.specs.Setting.{scene_of}
use Rattle.bk_bank.specs.Rule.{state_word}
use Rattle.bk_bank.specs.Plays.{Learns, Grows}
use Rattle.bk_bank.specs.Bank.{PassData, IsPassOf}
use Rattle.bk_bank.proofs.Stages.{rests, is_holding}
use Rattle.bk_bank.proofs.Claiming.{claims_at}
use Rattle.bk_bank.proofs.Own.{own_inside, own_after, word_of_place}
use Rattle.bk_bank.proofs.bank.Bank.claim.Goals as goal

pub compare_exchange-found-requires : goal.compare_exchange-found-requires
compare_exchange-found-requires c =
    let own = subst (IsPassOf c.args.self.now) (sym c.pass.view_is) c.requires.own in
    let w = word_of_place _ _ _ c.args.place _ c.self.view_is c.requires.place c.state_word-word.ensures.word c.state_word-word.ensures.inside in
    ((own_inside _ _ _ _ c.pass.inside.seat.me.0 c.self.view_is own).0, w.inside, claims_at _ _ _ _ c.args.place _ w.is c.pass.invariant.0 w.low)

pub invariant_of-result : goal.invariant_of-result
invariant_of-result c =
    let own = subst (IsPassOf c.args.self.now) (sym c.pass.view_is) c.requires.own in
    let e = c.compare_exchange-found.ensures in
    let told = e.2.1 c.args.place (c.state_word-word.ensures.word ∙ ap (λ (z : Scene). state_word z c.args.place) (sym own.1)) in record {
      none = e.2.0 ∙ c.pass.invariant.1;
      inside = subst (λ (z : Scene). c.args.place < z.places) (sym (ap scene_of told.0.setting ∙ own.1)) c.requires.place;
      holds = is_holding c.compare_exchange-found.new.seat.me.0 c.args.place _ _ (told.1 c.if-found-eq0.true).0;
    }

pub invariant_of-result-else-found-eq0 : goal.invariant_of-result-else-found-eq0
invariant_of-result-else-found-eq0 c =
    let own = subst (IsPassOf c.args.self.now) (sym c.pass.view_is) c.requires.own in
    let e = c.compare_exchange-found.ensures in
    let told = e.2.1 c.args.place (c.state_word-word.ensures.word ∙ ap (λ (z : Scene). state_word z c.args.place) (sym own.1)) in (
      rests c.pass.inside.seat.me.0 c.compare_exchange-found.new.seat.me.0 (ap scene_of told.0.setting) (told.2 c.if-found-eq0.false) c.pass.invariant.0,
      e.2.0 ∙ c.pass.invariant.1,
    )

pub returns-then-found-eq0-clause-own : goal.returns-then-found-eq0-clause-own
returns-then-found-eq0-clause-own c =
    let own = subst (IsPassOf c.args.self.now) (sym c.pass.view_is) c.requires.own in
    let e = c.compare_exchange-found.ensures in
    let told = e.2.1 c.args.place (c.state_word-word.ensures.word ∙ ap (λ (z : Scene). state_word z c.args.place) (sym own.1)) in
    ((own_after c.args.self.now _ _ c.pass.inside.seat.me.0 c.compare_exchange-found.new.seat.me.0 own e.0 (ap scene_of told.0.setting), c.requires.place), refl)

pub returns-then-found-eq0-clause-hold : goal.returns-then-found-eq0-clause-hold
returns-then-found-eq0-clause-hold c =
    let own = subst (IsPassOf c.args.self.now) (sym c.pass.view_is) c.requires.own in
    let told = c.compare_exchange-found.ensures.2.1 c.args.place (c.state_word-word.ensures.word ∙ ap (λ (z : Scene). state_word z c.args.place) (sym own.1)) in
    (told.1 c.if-found-eq0.true).0

pub returns-then-found-eq0-clause-grows : goal.returns-then-found-eq0-clause-grows
returns-then-found-eq0-clause-grows c =
    let own = subst (IsPassOf c.args.self.now) (sym c.pass.view_is) c.requires.own in
    let told = c.compare_exchange-found.ensures.2.1 c.args.place (c.state_word-word.ensures.word ∙ ap (λ (z : Scene). state_word z c.args.place) (sym own.1)) in
    subst (λ (p : PassData). Grows p.view c.compare_exchange-found.new.seat.me.0) c.pass.view_is told.0.grows

pub returns-then-found-eq0-clause-earlier : goal.returns-then-found-eq0-clause-earlier
returns-then-found-eq0-clause-earlier c =
    let own = subst (IsPassOf c.args.self.now) (sym c.pass.view_is) c.requires.own in
    let told = c.compare_exchange-found.ensures.2.1 c.args.place (c.state_word-word.ensures.word ∙ ap (λ (z : Scene). state_word z c.args.place) (sym own.1)) in
    (told.1 c.if-found-eq0.true).1

pub returns-else-found-eq0-clause-refused : goal.returns-else-found-eq0-clause-refused
returns-else-found-eq0-clause-refused c =
    let own = subst (IsPassOf c.args.self.now) (sym c.pass.view_is) c.requires.own in
    let e = c.compare_exchange-found.ensures in
    let told = e.2.1 c.args.place (c.state_word-word.ensures.word ∙ ap (λ (z : Scene). state_word z c.args.place) (sym own.1)) in
    (own_after c.args.self.now _ _ c.pass.inside.seat.me.0 c.compare_exchange-found.new.seat.me.0 own e.0 (ap scene_of told.0.setting), c.if-found-eq0.false)

pub returns-else-found-eq0-clause-shown : goal.returns-else-found-eq0-clause-shown
returns-else-found-eq0-clause-shown c =
    let own = subst (IsPassOf c.args.self.now) (sym c.pass.view_is) c.requires.own in
    let told = c.compare_exchange-found.ensures.2.1 c.args.place (c.state_word-word.ensures.word ∙ ap (λ (z : Scene). state_word z c.args.place) (sym own.1)) in
    subst (λ (p : PassData). Learns p.view c.compare_exchange-found.new.seat.me.0 c.args.place c.compare_exchange-found.result) c.pass.view_is told.0
