use Rattle.std.proofs.Common.{◌≡◌, ◌<◌, ◌≤◌, List, length, AllPairs, sym, ap, ◌∙◌, subst}
use Rattle.bk_conflicts.specs.Plan.{PlanValue}
use Rattle.bk_conflicts.specs.Words.{words_at}
use Rattle.bk_conflicts.specs.declared.words.WordRef.{WordRef}
use Rattle.bk_conflicts.proofs.Turned.{row_is}
use Rattle.bk_conflicts.proofs.Whole.{flat_in, words_at_ascend, words_at_few}
use Rattle.bk_conflicts.proofs.plan.Plan.words_of.Goals as goal

pub word_row-requires : goal.word_row-requires
word_row-requires c =
    let low : c.args.place < length c.self.inside.txs.items = subst (λ (d : PlanValue). c.args.place < length d.txs) (sym c.self.view_is) c.requires in
    let b = flat_in (words_at c.self.inside.ids c.self.inside.txs.items) (length c.self.inside.txs.items) c.self.inside.word_start.items c.self.inside.words.items c.args.place c.self.invariant.words_lie low in
    rw (c.deref.ensures.value, c.deref-2.ensures.value) (record { inside = b.0; ascending = b.1; within = b.2 })

pub returns : goal.returns
returns c =
    let low : c.args.place < length c.self.inside.txs.items = subst (λ (d : PlanValue). c.args.place < length d.txs) (sym c.self.view_is) c.requires in
    let is : c.word_row.result.now ≡ words_at c.self.inside.ids c.self.inside.txs.items c.args.place = (rw (c.deref.ensures.value, c.deref-2.ensures.value) at c.word_row.ensures)
    ∙ row_is (words_at c.self.inside.ids c.self.inside.txs.items) (length c.self.inside.txs.items) c.args.place c.self.inside.word_start.items c.self.inside.words.items c.self.invariant.words_lie low in
    record {
      list = is ∙ ap (λ (d : PlanValue). words_at d.ids d.txs c.args.place) c.self.view_is;
      ascending = subst (AllPairs (λ (x y : WordRef). x.word < y.word)) (sym is) (words_at_ascend c.self.inside.ids c.self.inside.txs.items c.args.place c.self.invariant.plan.ids_ascend (c.self.invariant.plan.declared c.args.place));
      few = subst (λ (ws : List WordRef). length ws ≤ 16) (sym is) (words_at_few c.self.inside.ids c.self.inside.txs.items c.args.place (c.self.invariant.plan.declared c.args.place));
    }
