use Rattle.std.proofs.Common.{ap}
use Rattle.bk_base.specs.Genesis.{ids_of}
use Rattle.bk_rules.specs.Ledger.{ledger_of}
use Rattle.bk_rules.proofs.Slots.{slots_of_rows, shows_rows}
use Rattle.bk_rules.proofs.state.State.new.Goals as goal

pub invariant_of-result : goal.invariant_of-result
invariant_of-result c = rw (c.in_ok-ids-2.ensures, c.in_ok-ids.ensures, c.in_ok-numbers.ensures) (slots_of_rows c.args.version c.args.rows.now c.requires.ledger c.requires.room)

pub returns : goal.returns
returns c = rw (c.in_ok-ids-2.ensures, c.in_ok-ids.ensures, c.in_ok-numbers.ensures) (ap (ledger_of c.args.version (ids_of c.args.rows.now)) (shows_rows c.args.version c.args.rows.now c.requires.room))
