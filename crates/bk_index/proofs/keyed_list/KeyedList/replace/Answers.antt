use Rattle.std.proofs.Common.{◌∙◌, sym, arith}
use Rattle.std.specs.Prelude.{map}
use Rattle.std.proofs.lemmas.List.{length-map}
use Rattle.std.proofs.lemmas.Option.{slice_get_within}
use Rattle.bk_index.proofs.Found.{first_set, same_at}
use Rattle.bk_index.proofs.keyed_list.KeyedList.replace.Goals as goal

pub invariant_of-self : goal.invariant_of-self
invariant_of-self g c = λ q. c.self.invariant q ∙ sym (first_set g.T.Keyed.key_of c.self.inside.entries.items c.args.index c.args.entry
    (same_at g.T.Keyed.key_of c.self.inside.entries.items c.args.index c.args.entry (rw (c.self.view_is) c.requires)) q)

pub index_mut-requires : goal.index_mut-requires
index_mut-requires g c =
    omega (arith, slice_get_within (map g.T.Keyed.key_of c.self.inside.entries.items) c.args.index (g.T.Keyed.key_of c.args.entry) (rw (c.self.view_is) c.requires), length-map c.self.inside.entries.items g.T.Keyed.key_of)
