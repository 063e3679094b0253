use Rattle.std.proofs.Common.{◌∙◌, sym, refl}
use Rattle.bk_rounds.proofs.Named.{grows_same}
use Rattle.bk_rounds.proofs.names.number_of.Goals as goal

pub returns-in-Some-clause-inside : goal.returns-in-Some-clause-inside
returns-in-Some-clause-inside c = (c.requires.numbering.sound c.args.id.now c.in-Some.number (sym c.get.ensures ∙ c.in-Some.is)).0

pub returns-in-Some-clause-id : goal.returns-in-Some-clause-id
returns-in-Some-clause-id c = (c.requires.numbering.sound c.args.id.now c.in-Some.number (sym c.get.ensures ∙ c.in-Some.is)).1

pub returns-in-Some-clause-grows : goal.returns-in-Some-clause-grows
returns-in-Some-clause-grows c = grows_same _ _ c.requires (record { slots = refl; marks = refl; pending = refl; sets = refl; unmarked = refl })
