use Rattle.std.proofs.Common.{take}
use Rattle.std.specs.List.{flat_map}
use Rattle.bk_cert.specs.Tagging.{AreTagsOf}
use Rattle.bk_certcheck.specs.private.Stages.{own_tags}
use Rattle.bk_certcheck.proofs.tagging.tags_of.Given as goal

abbrev pub invariant-loop-k : goal.invariant-loop-k
invariant-loop-k l = AreTagsOf l.wanted.items (flat_map (own_tags l.committee) (take l.k l.left))
