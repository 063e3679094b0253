use Rattle.bk_flatten.proofs.Listing.{added_by}
use Rattle.bk_tables.specs.declared.naming.Named.{Named}
use Rattle.bk_tables.proofs.Names.{named_added}
use Rattle.bk_tables.proofs.naming.add.Goals as goal

pub returns : goal.returns
returns c =
    named_added c.args.firsts.now c.first_of.new.self c.args.named
    (added_by (λ (n : Named). n.digest) c.args.firsts.now c.first_of.new.self c.args.named c.in_ok-first_of.field-0 c.in_ok-first_of.ensures.found c.in_ok-first_of.ensures.known c.in_ok-first_of.ensures.new)
