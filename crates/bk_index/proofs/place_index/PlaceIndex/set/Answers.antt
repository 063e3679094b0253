use Rattle.std.proofs.Common.{◌≡◌, ℕ, List, true, not, ap, ◌∙◌, sym}
use Rattle.std.proofs.lemmas.Bool.{true_from_ne_false}
use Rattle.bk_index.specs.private.Rows.{read_entry}
use Rattle.bk_index.proofs.Entered.{number_written}
use Rattle.bk_index.proofs.place_index.PlaceIndex.set.Goals as goal

pub returns-then-read-ne0 : goal.returns-then-read-ne0
returns-then-read-ne0 c =
    let written : c.write.result ≡ true = true_from_ne_false c.write.result (λ f. c.if-read-ne0.true (c.read.ensures ∙ (ap (λ (xs : List ℕ). read_entry xs c.entry_of-at.result) c.deref.ensures.value ∙ c.write.ensures.free (ap not f)))) in
    number_written c.args.self.now.members c.args.number c.args.place c.args.self.now.beyond c.args.self.now.rows.items c.write.new.rows.items
    (ap (read_entry c.write.new.rows.items) (sym c.entry_of-at.ensures.is) ∙ c.write.ensures.here written)
    (λ j apart. c.write.ensures.others j (λ e. apart (e ∙ c.entry_of-at.ensures.is)))
