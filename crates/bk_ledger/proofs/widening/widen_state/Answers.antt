use Rattle.std.proofs.Common.{arith}
use Rattle.bk_ledger.proofs.SliceLemmas.{lent_count}
use Rattle.bk_ledger.proofs.MadeSlots.{widened_all, widened_more, widened_none}
use Rattle.bk_ledger.proofs.widening.widen_state.Goals as goal

pub loop-from-init : goal.loop-from-init
loop-from-init c = record { within = omega arith; so_far = widened_none _ _ }

pub overflow_add-from : goal.overflow_add-from
overflow_add-from c = omega (arith, c.in_ok-batches.batches.counts.ok.0, c.in_ok-batches.ensures.within, lent_count c.args.payloads.now)

pub loop-from-preserved : goal.loop-from-preserved
loop-from-preserved c =
    let read = c.in_ok-batches.ensures in
    record {
      within = omega (arith, read.within, c.len-from.ensures, c.in_ok-batches.batches.counts.ok.0, lent_count c.args.payloads.now);
      so_far = widened_more _ c.loop-from.from _ c.in_ok-batches.batches.counts.items c.in_ok-batches.batches.txs.items c.args.state.now c.loop-from.state c.prepare.new.self c.loop-from.invariant.so_far read.slice (omega (arith, c.len-from.ensures, c.in_ok-batches.batches.counts.ok.0))
          (rw c.deref.ensures.value at c.in_ok-prepare.ensures.prepared) (rw c.deref.ensures.value at c.in_ok-prepare.ensures.covers);
    }

pub loop-from-smaller : goal.loop-from-smaller
loop-from-smaller c =
    let read = c.in_ok-batches.ensures in
    let some = read.some (omega (arith, c.loop-from-test.true, lent_count c.args.payloads.now)) in
    omega (arith, some, read.within, c.in_ok-batches.batches.counts.ok.0, lent_count c.args.payloads.now)

pub returns : goal.returns
returns c = widened_all _ c.loop-from.from _ _ c.loop-from.invariant.so_far (omega (arith, lent_count c.args.payloads.now, c.loop-from-test.false))
