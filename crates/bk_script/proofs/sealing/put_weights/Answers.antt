use Rattle.std.proofs.Common.{◌++◌, ◌∙◌, ap}
use Rattle.std.specs.List.{flat_map}
use Rattle.std.specs.Int.{w32, to_be_bytes}
use Rattle.bk_script.proofs.Written.{item_more, items_all}
use Rattle.bk_script.proofs.sealing.put_weights.Goals as goal

pub loop-weight-preserved : goal.loop-weight-preserved
loop-weight-preserved c =
    item_more (to_be_bytes w32) c.args.weights.now c.loop-weight.weight-index 0 c.loop-weight.out.items c.extend_from_slice.new.self.items (c.args.out.now.items ++ flat_map (to_be_bytes w32) c.args.weights.now) c.loop-weight-test.true
    (c.in_ok-extend_from_slice.ensures.items ∙ ap (λ bytes. c.loop-weight.out.items ++ bytes) c.to_be_bytes.ensures) c.loop-weight.invariant

pub returns : goal.returns
returns c = items_all (to_be_bytes w32) c.args.weights.now c.loop-weight.weight-index c.loop-weight.out.items (c.args.out.now.items ++ flat_map (to_be_bytes w32) c.args.weights.now) c.loop-weight-test.false c.loop-weight.invariant
