use Rattle.std.proofs.Common.{◌≡◌, ◌++◌}
use Rattle.std.specs.List.{flat_map}
use Rattle.std.specs.Vec.Iter.{into_iter_items}
use Rattle.bk_certcheck.proofs.frames.joined.Given as goal

abbrev pub invariant-loop-part : goal.invariant-loop-part
invariant-loop-part l =
    flat_map (λ part. part.items) l.fn.parts.items ≡ l.out.items ++ flat_map (λ part. part.items) (into_iter_items l.part-iterator)
