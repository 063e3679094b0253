use Rattle.std.proofs.Common.{None, Some, sym, ◌∙◌}
use Rattle.bk_conflicts.proofs.Accessed.{place_by}
use Rattle.bk_conflicts.proofs.words.list_accesses.Goals as goal

pub returns-in-None-clause-list : goal.returns-in-None-clause-list
returns-in-None-clause-list c = c.clear.ensures.items ∙ place_by c.args.ids.now c.args.txs.now c.args.place c.index-txs-place.result None c.requires.place c.index-txs-place.is c.in-None.is

pub returns-in-Some-clause-list : goal.returns-in-Some-clause-list
returns-in-Some-clause-list c = rw (sym (place_by c.args.ids.now c.args.txs.now c.args.place c.index-txs-place.result (Some c.in-Some.tx) c.requires.place c.index-txs-place.is c.in-Some.is)) (rw (c.clear.ensures.items, c.declared.ensures.all) at c.push_accesses.ensures)
