use Rattle.std.proofs.Common.{◌*◌, take}
use Rattle.std.specs.List.{AllZip}
use Rattle.bk_digest.specs.private.Tags.{IsTagOf}
use Rattle.bk_digest.proofs.tags.tags_each.Given as goal

abbrev pub invariant-groups : goal.invariant-groups
invariant-groups g l = AllZip IsTagOf (take (8 * l.group) l.of) l.tags.items
