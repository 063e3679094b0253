use Rattle.std.proofs.Common.{◌∙◌, ap, take}
use Rattle.bk_flatten.proofs.Listing.{cut_back}
use Rattle.bk_flatten.proofs.digests.add_all.Goals as goal

pub returns-in-Err-clause-err : goal.returns-in-Err-clause-err
returns-in-Err-clause-err c =
    c.cut.ensures ∙ (ap (take c.len-len.result) (c.in-Err.ensures.err ∙ c.loop-digest.invariant)
    ∙ cut_back c.args.digests.now (take c.loop-digest.digest-index c.args.named.now) c.len-len.result c.len-len.ensures)
