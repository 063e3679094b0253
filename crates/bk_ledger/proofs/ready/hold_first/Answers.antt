use Rattle.std.proofs.Common.{refl}
use Rattle.bk_base.specs.declared.version.Version.TheVariants.{Two}
use Rattle.bk_ledger.proofs.NextLemmas.{ready_from, read_from}
use Rattle.bk_ledger.proofs.ready.hold_first.Goals as goal

pub returns-then-hold : goal.returns-then-hold
returns-then-hold c = ready_from c.args.batches Two c.args.ids.now c.in_ok-ready.ready c.in_ok-ready.ensures

pub returns : goal.returns
returns c = read_from c.args.batches _ Two c.args.ids.now refl refl
