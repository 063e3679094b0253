use Rattle.std.proofs.Common.{◌<◌, ◌∙◌, ap, arith, sym}
use Rattle.bk_digest.specs.private.Levels.{top_of}
use Rattle.bk_digest.proofs.Levels.{halved, last_level, level_above, root_top}
use Rattle.bk_digest.proofs.perfect.perfect_root.Goals as goal

pub levels-init : goal.levels-init
levels-init g c = (
  c.hash_leaves.array_long,
  c.requires.few,
  c.requires.perfect,
  λ k e. root_top k c.args.leaves.now e ∙ ap (top_of k) (sym c.hash_leaves.ensures),
)

pub levels-preserved : goal.levels-preserved
levels-preserved g c =
    let inv = c.levels.invariant in
    let more : 1 < c.levels.count = omega arith in (
      c.hash_level.array_long,
      omega arith,
      halved c.levels.count inv.2 more,
      level_above c.args.leaves.now c.levels.hashes c.hash_level.new.hashes c.levels.count inv.0 inv.1 inv.2 more inv.3 c.hash_level.ensures,
    )

pub returns : goal.returns
returns g c =
    let inv = c.levels.invariant in
    c.new.ensures ∙ sym (last_level c.args.leaves.now c.levels.hashes c.levels.count inv.2 (omega arith) inv.3)
