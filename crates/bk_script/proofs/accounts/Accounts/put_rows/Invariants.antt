use Rattle.std.proofs.Common.{◌≡◌, ◌++◌, map}
use Rattle.std.specs.List.{flat_map}
use Rattle.bk_base.specs.Genesis.{row_text}
use Rattle.bk_script.specs.private.Held.{row_with}
use Rattle.bk_script.proofs.accounts.Accounts.put_rows.Given as goal

abbrev pub invariant-loop-id : goal.invariant-loop-id
invariant-loop-id l = l.out.items ++ flat_map row_text (map row_with l.id-iterator) ≡ l.initial.out.items ++ flat_map row_text l.self
