use Rattle.std.proofs.Common.{◌<◌, length, sym, ap, ◌∙◌, subst}
use Rattle.bk_conflicts.specs.Plan.{PlanValue, after_of}
use Rattle.bk_conflicts.specs.private.Rows.{row_at}
use Rattle.bk_conflicts.proofs.Whole.{flat_in, seen_row}
use Rattle.bk_conflicts.proofs.plan.Plan.after.Goals as goal

pub row-requires : goal.row-requires
row-requires c =
    let low : c.args.place < length c.self.inside.txs.items = subst (λ (d : PlanValue). c.args.place < length d.txs) (sym c.self.view_is) c.requires in
    let b = flat_in (row_at c.self.inside.after_start.items c.self.inside.after.items) (length c.self.inside.txs.items) c.self.inside.after_start.items c.self.inside.after.items c.args.place c.self.invariant.rows low in
    rw (c.deref.ensures.value, c.deref-2.ensures.value) (record { inside = b.0; ascending = b.1; within = b.2 })

pub returns : goal.returns
returns c =
    let low : c.args.place < length c.self.inside.txs.items = subst (λ (d : PlanValue). c.args.place < length d.txs) (sym c.self.view_is) c.requires in
    (rw (c.deref.ensures.value, c.deref-2.ensures.value) at c.row.ensures)
    ∙ (sym (seen_row c.self.inside.version c.self.inside.ids c.self.inside.txs.items c.self.inside.before.items c.self.inside.after_start.items c.self.inside.after.items c.args.place low) ∙ ap (λ (d : PlanValue). after_of d c.args.place) c.self.view_is)
