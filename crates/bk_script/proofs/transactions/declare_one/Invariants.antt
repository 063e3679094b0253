use Rattle.std.proofs.Common.{◌≡◌, ◌++◌, take, drop}
use Rattle.bk_script.specs.Transactions.{declare}
use Rattle.bk_script.proofs.transactions.declare_one.Given as goal

abbrev pub invariant-loop-i : goal.invariant-loop-i
invariant-loop-i l = record {
  same : l.declared.items ≡ l.initial.declared.items;
  read : take l.i l.declared.items ++ declare l.id l.writable (drop l.i l.declared.items) ≡ declare l.id l.writable l.declared.items;
}
