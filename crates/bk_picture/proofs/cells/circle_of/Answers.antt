use Rattle.std.proofs.Common.{subst, sym}
use Rattle.bk_evidence.specs.Twins.{IsIdAt}
use Rattle.bk_picture.proofs.Ids.{id_here, id_there}
use Rattle.bk_picture.proofs.cells.circle_of.Goals as goal

pub returns-in_default : goal.returns-in_default
returns-in_default c = λ anchors order at id there. c.in_default.ensures.none id (id_here c.args.held.now c.args.rounds.now.held c.requires.same c.args.place id there)

pub circle_with-requires-clause-here : goal.circle_with-requires-clause-here
circle_with-requires-clause-here c =
    subst (IsIdAt c.args.rounds.now.held c.args.place) (sym c.id.ensures)
    (id_there c.args.held.now c.args.rounds.now.held c.requires.same c.args.place _ c.in-Some.ensures.found.1)
