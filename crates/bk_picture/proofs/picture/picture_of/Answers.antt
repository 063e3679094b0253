use Rattle.std.proofs.Common.{List, refl, sym, subst}
use Rattle.bk_cert.specs.Node.{Node}
use Rattle.bk_cert.specs.declared.place.CertRef.{CertRef}
use Rattle.bk_views.specs.Anchors.{AreRows}
use Rattle.bk_picture.specs.Picture.{AreColumnsOf, HoldSame, graph_of}
use Rattle.bk_picture.specs.private.Marks.{AreMarks}
use Rattle.bk_picture.proofs.picture.picture_of.Goals as goal

pub columns_of-requires-clause-same : goal.columns_of-requires-clause-same
columns_of-requires-clause-same c = subst (λ (certs : List Node). HoldSame certs c.args.rounds.now.held) (sym c.held.ensures) c.requires.same

pub returns-clause-picture : goal.returns-clause-picture
returns-clause-picture c =
    let g = graph_of c.args.rounds.now c.args.intake.now in
    let ordered = c.args.intake.now.ordered in
    let marks = subst (λ (order : List CertRef). AreMarks order c.args.from c.shown_of-shown.result c.in_ok-marks.marks.items) c.order.ensures c.in_ok-marks.ensures in
    record {
      from_is = refl;
      last_is = c.in_ok-last.ensures;
      count_is = c.shown_of-shown.ensures.is;
      members_are = c.members-members.ensures.is;
      links_are = c.links_of.ensures;
      rows = c.in_ok-rows.rows.items;
      are_rows = subst (λ (anchors : List CertRef). AreRows g.sizes g.held anchors c.in_ok-rows.rows.items) c.anchors.ensures c.in_ok-rows.ensures;
      columns = subst (λ rows. AreColumnsOf g rows c.args.from c.shown_of-shown.result c.in_ok-columns.columns.items) c.deref.ensures.value
          (c.in_ok-columns.ensures ordered.anchors ordered.order (subst (AreMarks ordered.order c.args.from c.shown_of-shown.result) (sym c.deref-2.ensures.value) marks));
    }
