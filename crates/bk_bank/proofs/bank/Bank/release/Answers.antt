use Rattle.std.proofs.Common.{length, sym, refl, ap, ◌∙◌, subst, arith}
use Rattle.bk_bank.specs.Rule.{state_word}
use Rattle.bk_bank.specs.Bank.{bank_scene, IsLeavingOf}
use Rattle.bk_bank.proofs.Releasing.{releases_at}
use Rattle.bk_bank.proofs.Own.{inner, own_inside, same_scene, word_of_place, next_of}
use Rattle.bk_bank.proofs.bank.Bank.release.Goals as goal

pub state_word-word-requires : goal.state_word-word-requires
state_word-word-requires c =
    let l = c.leaving.inside in
    let own = subst (IsLeavingOf c.args.self.now) (sym c.leaving.view_is) c.requires.own in
    let n = next_of (bank_scene c.args.self.now) _ l.seat.me.0 l.place l.next _ refl own.0.1 c.after-after.ensures.list c.leaving.invariant.room c.if-leaving-after.false in
    let long = ap length c.after-after.ensures.list in
    c.after-after.ensures.inside l.next (let room = n.room in omega arith)

pub fetch_sub-found-requires : goal.fetch_sub-found-requires
fetch_sub-found-requires c =
    let l = c.leaving.inside in
    let own = subst (IsLeavingOf c.args.self.now) (sym c.leaving.view_is) c.requires.own in
    let mine = own_inside _ _ _ _ l.seat.me.0 c.self.view_is own.0 in
    let s = inner c.self.inside.table.shared.key in
    let n = next_of s _ l.seat.me.0 l.place l.next _ (same_scene _ _ _ c.self.view_is) own.0.1 c.after-after.ensures.list c.leaving.invariant.room c.if-leaving-after.false in
    let near = next_of (bank_scene c.args.self.now) _ l.seat.me.0 l.place l.next _ refl own.0.1 c.after-after.ensures.list c.leaving.invariant.room c.if-leaving-after.false in
    let long = ap length c.after-after.ensures.list in
    let low = c.after-after.ensures.inside l.next (let room = near.room in omega arith) in
    let w = word_of_place _ _ _ _ _ c.self.view_is low c.state_word-word.ensures.word c.state_word-word.ensures.inside in (
      mine.0,
      w.inside,
      releases_at _ _ _ _ l.place l.next _ _ (w.is ∙ ap (state_word s) n.is) c.leaving.invariant.leaves mine.1 n.room,
    )
