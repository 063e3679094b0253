use Rattle.std.proofs.Common.{◌≤◌, ◌+◌, ◌∙◌, List, length, refl, sym, subst}
use Rattle.bk_rules.specs.declared.receipt.Receipt.{Receipt}
use Rattle.bk_tx.specs.Batches.{transactions_in}
use Rattle.bk_views.specs.Told.{IsRun}
use Rattle.bk_ask.specs.private.Replies.{course_in}
use Rattle.bk_ask.proofs.Statements.{batch_inside, batch_is_next, place_next}
use Rattle.bk_ask.proofs.replying.statement_of.Goals as goal

pub loop-index-init : goal.loop-index-init
loop-index-init c = record {
  id = c.in_ok-statement.ensures.id;
  place = c.in_ok-statement.ensures.place;
  told = c.in_ok-statement.ensures.told (course_in c.args.intake.now c.args.opening.now c.args.ledger.now) refl;
}

pub take-requires : goal.take-requires
take-requires c = record {
  inside = subst (λ (rs : List Receipt). c.loop-index.statement.place + length (transactions_in c.payload.result.now) ≤ length rs) (sym c.receipts.ensures)
      (batch_inside (course_in c.args.intake.now c.args.opening.now c.args.ledger.now) c.args.ledger.now.receipts c.loop-index.statement.place (transactions_in c.payload.result.now) c.requires.run
      (batch_is_next (course_in c.args.intake.now c.args.opening.now c.args.ledger.now) c.args.intake.now.ordered.payloads.list c.loop-index.index c.loop-index.statement.place c.payload.result.now refl c.payload.ensures c.loop-index.invariant.place));
}

pub loop-index-preserved : goal.loop-index-preserved
loop-index-preserved c = record {
  id = c.in_ok-take.ensures.same ∙ c.loop-index.invariant.id;
  place = place_next c.args.intake.now.ordered.payloads.list c.loop-index.index c.loop-index.statement.place c.take.new.self.place c.payload.result.now c.payload.ensures c.loop-index.invariant.place c.in_ok-take.ensures.place;
  told = c.in_ok-take.ensures.told (course_in c.args.intake.now c.args.opening.now c.args.ledger.now)
      (subst (λ (rs : List Receipt). IsRun (course_in c.args.intake.now c.args.opening.now c.args.ledger.now) rs) (sym c.receipts.ensures) c.requires.run)
      (batch_is_next (course_in c.args.intake.now c.args.opening.now c.args.ledger.now) c.args.intake.now.ordered.payloads.list c.loop-index.index c.loop-index.statement.place c.payload.result.now refl c.payload.ensures c.loop-index.invariant.place)
      c.loop-index.invariant.told;
}
