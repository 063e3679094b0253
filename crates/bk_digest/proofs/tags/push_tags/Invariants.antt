use Rattle.std.proofs.Common.{◌+◌, take}
use Rattle.std.specs.List.{AllZip}
use Rattle.bk_digest.specs.private.Tags.{IsTagOf}
use Rattle.bk_digest.proofs.tags.push_tags.Given as goal

abbrev pub invariant-each : goal.invariant-each
invariant-each g l = AllZip IsTagOf (take (l.from + l.i) l.of) l.tags.items
