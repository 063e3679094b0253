use Rattle.std.proofs.Common.{refl, ◌∙◌}
use Rattle.bk_base.specs.declared.version.Version.TheVariants.{One}
use Rattle.bk_ledger.proofs.Enough.{covered_in_one}
use Rattle.bk_ledger.proofs.NextLemmas.{read_from}
use Rattle.bk_ledger.proofs.ready.plan_first.Goals as goal

pub plan-requires-clause-covered : goal.plan-requires-clause-covered
plan-requires-clause-covered c = covered_in_one c.in_ok-touched.touched.ids c.args.batches.txs.items

pub returns-then-holds_all : goal.returns-then-holds_all
returns-then-holds_all c = let touched = c.in_ok-touched.ensures in let plan = c.in_ok-plan.ensures in rw c.in_ok-plan-2.ensures.ok (record {
  counts_are = refl;
  txs_are = plan.txs;
  planned = record {
    version_is = plan.version;
    indexes = touched.indexes;
    slots_are = plan.ids ∙ touched.ids_are;
    held = c.holds_all.ensures c.if-holds_all.true;
  };
})

pub returns : goal.returns
returns c = read_from c.args.batches _ One c.args.ids.now refl (c.into_txs-txs.ensures ∙ c.in_ok-plan.ensures.txs)
