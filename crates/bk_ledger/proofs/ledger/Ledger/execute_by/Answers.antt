use Rattle.std.proofs.Common.{arith}
use Rattle.bk_ledger.proofs.SliceLemmas.{lent_count, way_ends}
use Rattle.bk_ledger.proofs.MadeSlots.{lent_rest, rest_room, rest_few, rest_slots, rest_executed, rest_leaves}
use Rattle.bk_ledger.proofs.ledger.Ledger.execute_by.Goals as goal

pub execute_widened-requires-clause-room : goal.execute_widened-requires-clause-room
execute_widened-requires-clause-room g c = λ _ _. rest_room _ _ _ (lent_rest c.args.payloads.now c.in_ok-ledger.from) c.args.self c.in_ok-ledger.ledger c.in_ok-ledger.ensures.ran c.requires.room

pub execute_widened-requires-clause-few : goal.execute_widened-requires-clause-few
execute_widened-requires-clause-few g c = λ _ _. rest_few _ _ _ (lent_rest c.args.payloads.now c.in_ok-ledger.from) c.args.self c.in_ok-ledger.ledger c.in_ok-ledger.ensures.ran c.requires.few

pub execute_widened-requires-clause-slots : goal.execute_widened-requires-clause-slots
execute_widened-requires-clause-slots g c = λ _ _. rest_slots _ _ _ (lent_rest c.args.payloads.now c.in_ok-ledger.from) c.args.self c.in_ok-ledger.ledger c.in_ok-ledger.ensures.ran c.in_ok-ledger.ensures.slots c.requires.slots

pub returns-clause-executed : goal.returns-clause-executed
returns-clause-executed g c = rest_executed _ _ _ (lent_rest c.args.payloads.now c.in_ok-ledger.from) c.args.self c.in_ok-ledger.ledger c.in_ok-ledger.ensures.ran c.execute_widened.result c.execute_widened.ensures.executed

pub returns-clause-fault : goal.returns-clause-fault
returns-clause-fault g c = rest_leaves _ _ _ (lent_rest c.args.payloads.now c.in_ok-ledger.from) c.args.self c.in_ok-ledger.ledger c.in_ok-ledger.ensures.ran c.execute_widened.result c.execute_widened.ensures.fault

pub returns-then-from-payloads-clause-executed : goal.returns-then-from-payloads-clause-executed
returns-then-from-payloads-clause-executed g c = way_ends _ c.in_ok-ledger.from c.args.self c.in_ok-ledger.ledger c.in_ok-ledger.ensures.ran (omega (arith, c.if-from-payloads.true, lent_count c.args.payloads.now))
