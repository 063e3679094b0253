use Rattle.std.proofs.Common.{◌≡◌, ◌++◌, List, ℕ, Option, None, length, take, sym, ap, ◌∙◌, arith}
use Rattle.bk_tx.specs.Transaction.{Transaction}
use Rattle.bk_tx.specs.Batches.{transactions_in}
use Rattle.bk_tx.specs.Reading.{texts_of}
use Rattle.bk_tx.proofs.Batches.{count_missing, no_room}
use Rattle.bk_tx.proofs.Puts.{count_void, nothing_put, put_void, put_batch}
use Rattle.bk_tx.proofs.pushing.push_transactions.Goals as goal

pub returns-in_default-clause-count : goal.returns-in_default-clause-count
returns-in_default-clause-count c = count_void c.args.bytes.now (count_missing c.args.bytes.now (rw c.new-fields.ensures at c.in_default.ensures.found))

pub returns-in_default-clause-txs : goal.returns-in_default-clause-txs
returns-in_default-clause-txs c = nothing_put c.args.bytes.now c.args.txs.now.items (count_missing c.args.bytes.now (rw c.new-fields.ensures at c.in_default.ensures.found))

pub returns-then-rest-count-clause-count : goal.returns-then-rest-count-clause-count
returns-then-rest-count-clause-count c =
    let read = rw c.new-fields.ensures at c.in-Some.ensures.found in
    count_void c.args.bytes.now (no_room c.args.bytes.now c.u16.new.self c.in-Some.count (sym read) (rw c.rest.ensures at c.if-rest-count.true))

pub returns-then-rest-count-clause-txs : goal.returns-then-rest-count-clause-txs
returns-then-rest-count-clause-txs c =
    let read = rw c.new-fields.ensures at c.in-Some.ensures.found in
    nothing_put c.args.bytes.now c.args.txs.now.items (no_room c.args.bytes.now c.u16.new.self c.in-Some.count (sym read) (rw c.rest.ensures at c.if-rest-count.true))

void_here : (c : goal.After-truncate) → None ≡ texts_of c.args.bytes.now
void_here c = let read = rw c.new-fields.ensures at c.in-Some.ensures.found in
    put_void c.args.bytes.now c.u16.new.self c.in-Some.count (sym read) c.reserve.new.self.items c.push_texts.new.txs.items (rw c.if-not-is_batch.true at c.in_ok-is_batch.ensures.read)

pub returns-then-not-is_batch-clause-count : goal.returns-then-not-is_batch-clause-count
returns-then-not-is_batch-clause-count c = count_void c.args.bytes.now (void_here c)

pub returns-then-not-is_batch-clause-txs : goal.returns-then-not-is_batch-clause-txs
returns-then-not-is_batch-clause-txs c =
    let at : c.len-before.result ≡ length c.reserve.new.self.items = omega (arith, ap length c.in_ok-reserve.ensures.items) in
    c.truncate.ensures.items ∙ ap (λ (n : ℕ). take n c.push_texts.new.txs.items) at ∙ c.in_ok-is_batch.ensures.kept ∙ c.in_ok-reserve.ensures.items ∙ nothing_put c.args.bytes.now c.args.txs.now.items (void_here c)

pub returns-clause-count : goal.returns-clause-count
returns-clause-count c = let read = rw c.new-fields.ensures at c.in-Some.ensures.found in
    (put_batch c.args.bytes.now c.u16.new.self c.in-Some.count (sym read) c.reserve.new.self.items c.push_texts.new.txs.items (rw c.if-not-is_batch.false at c.in_ok-is_batch.ensures.read) (omega arith)).0

pub returns-clause-txs : goal.returns-clause-txs
returns-clause-txs c = let read = rw c.new-fields.ensures at c.in-Some.ensures.found in
    (put_batch c.args.bytes.now c.u16.new.self c.in-Some.count (sym read) c.reserve.new.self.items c.push_texts.new.txs.items (rw c.if-not-is_batch.false at c.in_ok-is_batch.ensures.read) (omega arith)).1 ∙ ap (λ (t : List (Option Transaction)). t ++ transactions_in c.args.bytes.now) c.in_ok-reserve.ensures.items

pub returns-clause-few : goal.returns-clause-few
returns-clause-few c = let read = rw c.new-fields.ensures at c.in-Some.ensures.found in
    let few = (put_batch c.args.bytes.now c.u16.new.self c.in-Some.count (sym read) c.reserve.new.self.items c.push_texts.new.txs.items (rw c.if-not-is_batch.false at c.in_ok-is_batch.ensures.read) (omega arith)).2 in
    omega (arith, few, ap length c.in_ok-reserve.ensures.items)
