use Rattle.std.proofs.Common.{◌≡◌, true, take}
use Rattle.std.specs.List.{list_all}
use Rattle.bk_rules.specs.Part.{is_held}
use Rattle.bk_rules.proofs.ids.Ids.hold.Given as goal

abbrev pub invariant-loop-tx : goal.invariant-loop-tx
invariant-loop-tx l = list_all (is_held l.version l.slots l.self) (take l.tx-index l.txs) ≡ true
