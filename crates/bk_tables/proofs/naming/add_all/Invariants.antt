use Rattle.std.proofs.Common.{◌≡◌, take}
use Rattle.std.specs.List.{fold}
use Rattle.bk_tables.specs.private.Naming.{named_by, with_named}
use Rattle.bk_tables.proofs.naming.add_all.Given as goal

abbrev pub invariant-loop-digest : goal.invariant-loop-digest
invariant-loop-digest l = l.firsts ≡ fold with_named l.initial.firsts (named_by l.by (take l.digest-index l.digests))
