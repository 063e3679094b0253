use Rattle.std.proofs.Common.{◌≡◌, true, take}
use Rattle.std.specs.List.{list_all}
use Rattle.bk_base.specs.declared.version.Version.TheVariants.{One}
use Rattle.bk_tx.specs.declared.declared.Declared.{Declared}
use Rattle.bk_rules.specs.Part.{is_held_id}
use Rattle.bk_ledger.proofs.held.holds_declared.Given as goal

abbrev pub invariant-loop-k : goal.invariant-loop-k
invariant-loop-k l = list_all (λ (d : Declared). is_held_id One l.slots l.ids d.id) (take l.k l.declared) ≡ true
