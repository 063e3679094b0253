use Rattle.std.proofs.Common.{◌-◌, ap, ◌∙◌}
use Rattle.bk_cert.specs.Values.{HeaderValue}
use Rattle.bk_picture.specs.Picture.{at_place}
use Rattle.bk_picture.proofs.Named.{named_all, named_nowhere}
use Rattle.bk_picture.proofs.cells.named_at.Goals as goal

pub returns-in-Some : goal.returns-in-Some
returns-in-Some c =
    named_all c.args.rounds.now.held c.sound.ensures.clear c.args.held.now c.requires.same c.args.place c.in-Some.cert.now c.in-Some.ensures.found c.parents.result.now
    (c.parents.ensures.all ∙ ap (λ (h : HeaderValue). h.parents) c.header.ensures)
    c.named_of.result c.named_of.ensures

pub returns-in-None : goal.returns-in-None
returns-in-None c = λ y. (
  (λ h. absurd (c.none.ensures y h)),
  (λ h. absurd (named_nowhere c.args.rounds.now.held c.args.held.now c.requires.same c.args.place (at_place (c.args.place.round - 1) y) c.in-None.ensures.none h)),
)
