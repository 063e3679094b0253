use Rattle.std.proofs.Common.{arith}
use Rattle.bk_pool.proofs.WordsOfPlace.{claim_inside}
use Rattle.bk_pool.proofs.work.try_claim.Goals as goal

pub look-requires-clause-place : goal.look-requires-clause-place
look-requires-clause-place c = let l = c.if-len-place.false in let n = c.len.ensures.count in claim_inside c.args.plan.now c.args.bank.now c.requires.plan c.args.place (omega arith)

pub claim-requires-clause-place : goal.claim-requires-clause-place
claim-requires-clause-place c = let l = c.if-len-place.false in let n = c.len.ensures.count in claim_inside c.args.plan.now c.args.bank.now c.requires.plan c.args.place (omega arith)
