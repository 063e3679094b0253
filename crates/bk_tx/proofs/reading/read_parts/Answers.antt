use Rattle.std.proofs.Common.{sym}
use Rattle.bk_tx.proofs.Transactions.{not_read, is_read}
use Rattle.bk_tx.proofs.reading.read_parts.Goals as goal

pub returns-then-pays : goal.returns-then-pays
returns-then-pays c = not_read c.args.bytes.now c.u8.new.self c.declarations.new.fields c.u64.new.self c.u64-2.new.self c.body.new.fields c.in_ok-kind.kind c.in_ok-seq.field-0 c.in_ok-from.field-0 c.declarations.new.read c.body.new.read (rw c.new-fields.ensures at c.in_ok-kind.ensures.found) c.in_ok-declarations.ensures c.in_ok-seq.ensures.found c.in_ok-from.ensures.found c.in_ok-body.ensures (rw c.rest.ensures at c.if-not-is_empty.ensures) (sym c.if-pays.ensures)

pub returns : goal.returns
returns c = is_read c.args.bytes.now c.u8.new.self c.declarations.new.fields c.u64.new.self c.u64-2.new.self c.body.new.fields c.in_ok-kind.kind c.in_ok-seq.field-0 c.in_ok-from.field-0 c.declarations.new.read c.body.new.read (rw c.new-fields.ensures at c.in_ok-kind.ensures.found) c.in_ok-declarations.ensures c.in_ok-seq.ensures.found c.in_ok-from.ensures.found c.in_ok-body.ensures (rw c.rest.ensures at c.if-not-is_empty.ensures) (sym c.if-pays.ensures)
