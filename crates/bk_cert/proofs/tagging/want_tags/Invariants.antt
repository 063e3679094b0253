use Rattle.std.proofs.Common.{◌++◌, ℕ, List, [], map, get_or}
use Rattle.bk_cert.specs.Identity.{tag_of}
use Rattle.bk_cert.proofs.Marks.{marked}
use Rattle.bk_cert.specs.Tagging.{AreTagsOf}
use Rattle.bk_cert.proofs.tagging.want_tags.Given as goal

abbrev pub invariant-loop-member : goal.invariant-loop-member
invariant-loop-member l =
    (tags : List (List ℕ)) → AreTagsOf l.fn.wanted.items tags → AreTagsOf l.wanted.items (tags ++ map (λ member. tag_of (get_or l.committee.keys member []) l.id) (marked l.mask l.member))
