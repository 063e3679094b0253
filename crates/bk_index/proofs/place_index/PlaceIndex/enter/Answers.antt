use Rattle.std.proofs.Common.{refl, ap, ◌∙◌, sym}
use Rattle.bk_index.specs.private.Rows.{read_entry}
use Rattle.bk_index.proofs.Entered.{number_written}
use Rattle.bk_index.proofs.place_index.PlaceIndex.enter.Goals as goal

pub returns-then-write-clause-ok : goal.returns-then-write-clause-ok
returns-then-write-clause-ok c = number_written c.args.self.now.members c.args.number c.args.place c.args.self.now.beyond c.args.self.now.rows.items c.write.new.rows.items
    (ap (read_entry c.write.new.rows.items) (sym c.entry_of.ensures.is) ∙ (c.if-write.ensures.here refl ∙ c.requires))
    (λ j apart. c.if-write.ensures.others j (λ e. apart (e ∙ c.entry_of.ensures.is)))
