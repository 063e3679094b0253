use Rattle.std.proofs.Common.{⊎_elim, ap, subst}
use Rattle.bk_evidence.specs.Batches.{batch_with}
use Rattle.bk_order.specs.private.Tallies.{IsNewDigest}
use Rattle.bk_order.proofs.Tables.{batch_begins, batch_is_new, batch_same, is_fresh_batch}
use Rattle.bk_order.proofs.table.keep_batch.Goals as goal

pub returns-in-New-clause-new : goal.returns-in-New-clause-new
returns-in-New-clause-new c = subst (IsNewDigest c.args.batches.now c.args.digest) (ap is_fresh_batch c.in-New.is)
    (batch_is_new c.args.batches.now (batch_with c.args.digest c.args.payload.items) c.in_ok-offer.field-0 c.in_ok-offer.ensures.answer)

pub returns-in-New-clause-same : goal.returns-in-New-clause-same
returns-in-New-clause-same c = batch_same c.args.batches.now c.offer.new.self (batch_with c.args.digest c.args.payload.items) c.in_ok-offer.field-0 c.in_ok-offer.ensures.answer c.in_ok-offer.ensures.stored

pub returns-in-New-clause-begins : goal.returns-in-New-clause-begins
returns-in-New-clause-begins c = batch_begins c.args.batches.now c.offer.new.self (batch_with c.args.digest c.args.payload.items) c.in_ok-offer.field-0 c.in_ok-offer.ensures.stored

pub returns-in-Repeat-clause-new : goal.returns-in-Repeat-clause-new
returns-in-Repeat-clause-new c = subst (IsNewDigest c.args.batches.now c.args.digest) (⊎_elim (λ q. ap is_fresh_batch q) (λ q. ap is_fresh_batch q) c.in-Repeat.is)
    (batch_is_new c.args.batches.now (batch_with c.args.digest c.args.payload.items) c.in_ok-offer.field-0 c.in_ok-offer.ensures.answer)

pub returns-in-Repeat-clause-same : goal.returns-in-Repeat-clause-same
returns-in-Repeat-clause-same c = batch_same c.args.batches.now c.offer.new.self (batch_with c.args.digest c.args.payload.items) c.in_ok-offer.field-0 c.in_ok-offer.ensures.answer c.in_ok-offer.ensures.stored

pub returns-in-Repeat-clause-begins : goal.returns-in-Repeat-clause-begins
returns-in-Repeat-clause-begins c = batch_begins c.args.batches.now c.offer.new.self (batch_with c.args.digest c.args.payload.items) c.in_ok-offer.field-0 c.in_ok-offer.ensures.stored
