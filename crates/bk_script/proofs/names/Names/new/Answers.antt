use Rattle.bk_script.proofs.Named.{no_places}
use Rattle.bk_script.proofs.names.Names.new.Goals as goal

pub invariant_of-result : goal.invariant_of-result
invariant_of-result c = rw c.new.ensures.items (no_places c.new-2.result c.new-2.ensures.empty)
