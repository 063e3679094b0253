use Rattle.std.proofs.Common.{drop, refl, sym, ◌∙◌}
use Rattle.bk_rules.proofs.Widening.{covered_one}
use Rattle.bk_tx.specs.Batches.{transactions_of}
use Rattle.bk_tables.proofs.walk.cover.Goals as goal

pub returns-in-One : goal.returns-in-One
returns-in-One c = record {
  version = refl;
  rows = refl;
  covered = covered_one (transactions_of (drop c.args.first c.args.intake.now.ordered.payloads.list)) c.args.state.now (sym c.version.ensures.version ∙ c.in-One.is);
}
