use Rattle.bk_plain.proofs.digest.+root_within.Given as goal

abbrev pub decreases-root_within : goal.decreases-root_within
decreases-root_within l = l.depth
