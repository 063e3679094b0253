use Rattle.std.proofs.Common.{◌≡◌, ℕ, ◌<◌, true, None, get_or}
use Rattle.bk_base.specs.declared.version.Version.TheVariants.{One}
use Rattle.bk_rules.specs.Part.{is_held}
use Rattle.bk_ledger.proofs.held.holds_all.Given as goal

abbrev pub invariant-loop-place : goal.invariant-loop-place
invariant-loop-place l = (p : ℕ) → p < l.place → is_held One l.slots l.plan.ids (get_or l.plan.txs p None) ≡ true
