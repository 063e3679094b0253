use Rattle.std.proofs.Common.{refl, ◌∙◌, arith}
use Rattle.bk_rules.proofs.Folding.{state_turn, receipts_turn, room_turn}
use Rattle.bk_rules.proofs.paying.run_ops.Goals as goal

pub apply_op-requires-clause-room : goal.apply_op-requires-clause-room
apply_op-requires-clause-room c = room_turn c.args.txs.now c.loop-i.i c.args.state.now c.loop-i.state c.loop-i-test.true c.loop-i.invariant.state c.requires.room

pub loop-i-preserved : goal.loop-i-preserved
loop-i-preserved c =
    let low = c.loop-i-test.true in
    let so_far = c.loop-i.invariant.state in
    record {
      state = state_turn c.args.txs.now c.loop-i.i c.index-txs-i.result _ c.args.state.now c.loop-i.state low refl c.index-txs-i.is so_far c.apply_op.new.self c.apply_op.ensures.after;
      receipts = receipts_turn c.args.txs.now c.loop-i.i c.index-txs-i.result _ c.args.state.now c.loop-i.state low refl c.index-txs-i.is so_far c.loop-i.receipts.items c.push.new.self.items c.of.result c.loop-i.invariant.receipts c.in_ok-push.ensures.items (c.of.ensures ∙ c.apply_op.ensures.receipt);
      room = omega (arith, c.push.ensures.capacity);
      count = omega (arith, c.in_ok-push.ensures.len);
    }
