use Rattle.bk_flatten.proofs.Listing.{added}
use Rattle.bk_flatten.proofs.digests.add.Goals as goal

pub returns-clause-ok : goal.returns-clause-ok
returns-clause-ok c = added c.args.digests.now c.first_of.new.self c.args.digest c.in_ok-first_of.field-0 c.in_ok-first_of.ensures.found c.in_ok-first_of.ensures.known c.in_ok-first_of.ensures.new
