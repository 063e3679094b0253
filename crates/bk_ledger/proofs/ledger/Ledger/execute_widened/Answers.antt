use Rattle.std.proofs.Common.{length, ap, arith}
use Rattle.bk_ledger.proofs.NextLemmas.{same_room}
use Rattle.bk_ledger.proofs.SliceLemmas.{lent_count, way_ends}
use Rattle.bk_ledger.proofs.MadeSlots.{same_executed}
use Rattle.bk_ledger.proofs.ledger.Ledger.execute_widened.Goals as goal

pub execute_covered-requires-clause-room : goal.execute_covered-requires-clause-room
execute_covered-requires-clause-room g c = λ _ _. same_room _ c.args.self c.widen.new.self c.in_ok-widen.ensures.same c.requires.room

pub execute_covered-requires-clause-few : goal.execute_covered-requires-clause-few
execute_covered-requires-clause-few g c = let same = c.in_ok-widen.ensures.same in omega (arith, c.requires.few, ap length same.receipts)

pub execute_covered-requires-clause-slots : goal.execute_covered-requires-clause-slots
execute_covered-requires-clause-slots g c = omega (arith, c.requires.slots, c.in_ok-widen.ensures.slots)

pub returns-clause-executed : goal.returns-clause-executed
returns-clause-executed g c =
    let all = c.in_ok-ledger.ensures.all c.in_ok-widen.ensures.covered in
    same_executed _ c.args.self c.widen.new.self c.in_ok-ledger.ledger c.in_ok-widen.ensures.same c.in_ok-widen.ensures.slots c.in_ok-ledger.ensures.slots
    (way_ends _ c.in_ok-ledger.field-0-1 c.widen.new.self c.in_ok-ledger.ledger c.in_ok-ledger.ensures.ran (omega (arith, all, lent_count c.args.payloads.now)))
