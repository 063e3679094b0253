use Rattle.std.proofs.Common.{[], List, length, sym, ap, subst, ◌∙◌, arith}
use Rattle.std.specs.List.{Contains, flat_map, fold}
use Rattle.std.proofs.lemmas.Result.{IfOk-weaker}
use Rattle.bk_cert.specs.declared.place.CertRef.{CertRef}
use Rattle.bk_tables.specs.private.Naming.{named_at, with_named}
use Rattle.bk_tables.specs.private.Placing.{ArePlaced}
use Rattle.bk_tables.specs.private.Rows.{AreRowsOf, rows_with}
use Rattle.bk_tables.specs.declared.naming.Named.{Named}
use Rattle.bk_tables.specs.declared.placing.Placed.{Placed}
use Rattle.bk_tables.proofs.BatchRows.{all_rows_are, many_named, placed_present}
use Rattle.bk_tables.proofs.batches.all_rows.Goals as goal

pub firsts_of-requires : goal.firsts_of-requires
firsts_of-requires c = λ p t.
    placed_present c.args.rounds.now c.args.intake.now.ordered.anchors c.in_ok-placed.placed.items c.requires.committed
    (subst (λ (xs : List CertRef). ArePlaced c.args.rounds.now.sizes c.args.rounds.now.held xs c.in_ok-placed.placed.items) c.anchors.ensures c.in_ok-placed.ensures)
    p (subst (λ (ps : List Placed). Contains ps p) c.deref.ensures.value t)

pub rows_of-requires-clause-many : goal.rows_of-requires-clause-many
rows_of-requires-clause-many c =
    let held = c.args.rounds.now.held in
    let many = many_named c.args.rounds.now c.args.intake.now.ordered c.in_ok-placed.placed.items c.in_ok-named.named
    (subst (λ (xs : List CertRef). ArePlaced c.args.rounds.now.sizes held xs c.in_ok-placed.placed.items) c.anchors.ensures c.in_ok-placed.ensures)
    c.requires.taken
    (c.in_ok-named.ensures ∙ ap (λ (ps : List Placed). fold with_named [] (flat_map (named_at held) ps)) c.deref.ensures.value) in
    omega (arith, many, ap length c.as_slice.ensures)

pub returns : goal.returns
returns c =
    let held = c.args.rounds.now.held in
    let o = c.args.intake.now.ordered in
    IfOk-weaker c.rows_of.result _ _
    (λ rows e. subst (AreRowsOf c.args.rounds.now o) (sym (e ∙ ap (λ (ns : List Named). rows_with ns o.payloads.list) c.as_slice.ensures))
    (all_rows_are c.args.rounds.now o c.in_ok-placed.placed.items c.in_ok-named.named
    (subst (λ (xs : List CertRef). ArePlaced c.args.rounds.now.sizes held xs c.in_ok-placed.placed.items) c.anchors.ensures c.in_ok-placed.ensures)
    c.requires.taken
    (c.in_ok-named.ensures ∙ ap (λ (ps : List Placed). fold with_named [] (flat_map (named_at held) ps)) c.deref.ensures.value)))
    c.rows_of.ensures
