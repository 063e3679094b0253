use Rattle.std.proofs.Common.{◌≡◌, ◌+◌, ◌++◌, ◌∙◌, true, List, [], Option, ap, append-nil, append_assoc, drop, refl, sym, subst, arith}
use Rattle.bk_tx.specs.Batches.{transactions_in, transactions_of}
use Rattle.bk_tx.specs.Transaction.{Transaction}
use Rattle.bk_rules.specs.Ledger.{IsPrepared, are_covered}
use Rattle.bk_tables.proofs.Slots.{AreMaking, all_made, left_txs, making_begun, making_made, making_waits, no_txs}
use Rattle.bk_tables.proofs.walk.make_slots.Goals.{else-are_enough, then-are_enough+in_ok-prepare}
use Rattle.bk_tables.proofs.walk.make_slots.Goals as goal

pub loop-index-init : goal.loop-index-init
loop-index-init c = record { so_far = []; left = refl; making = rw c.new-txs.ensures.items (making_begun c.args.state.now) }

pub loop-index-preserved : goal.loop-index-preserved
loop-index-preserved c =
    let payloads = c.args.intake.now.ordered.payloads.list in
    let i = c.loop-index.invariant in
    let here = transactions_in c.payload.result.now in
    let rest = transactions_of (drop (c.loop-index.index + 1) payloads) in
    let left = append_assoc i.so_far here rest ∙ ap (λ (ts : List (Option Transaction)). i.so_far ++ ts) (sym (left_txs payloads c.loop-index.index c.payload.result.now c.payload.ensures)) ∙ i.left in
    let waits : AreMaking (i.so_far ++ here) c.push_transactions.new.txs.items c.args.state.now c.loop-index.state =
    making_waits i.so_far c.loop-index.txs.items here c.push_transactions.new.txs.items c.args.state.now c.loop-index.state c.in_ok-push_transactions.ensures.txs i.making in
    elim c.if-are_enough.branch [
      | then-are_enough+in_ok-prepare w ↦
          rw (w.state-is, w.txs-is, w.clear.ensures.items) (record {
            so_far = i.so_far ++ here;
            left = left;
            making = making_made (i.so_far ++ here) c.push_transactions.new.txs.items c.args.state.now c.loop-index.state w.prepare.new.self waits
                (subst (λ (ts : List (Option Transaction)). IsPrepared ts c.loop-index.state w.prepare.new.self) w.deref-then-are_enough.ensures.value w.in_ok-prepare.ensures.prepared)
                (subst (λ (ts : List (Option Transaction)). are_covered w.prepare.new.self.version w.prepare.new.self.slots ts ≡ true) w.deref-then-are_enough.ensures.value w.in_ok-prepare.ensures.covers);
          })
      | else-are_enough w ↦ rw (w.state-is, w.txs-is) (record { so_far = i.so_far ++ here; left = left; making = waits })
    ]

pub returns : goal.returns
returns c =
    let payloads = c.args.intake.now.ordered.payloads.list in
    let all = transactions_of (drop c.args.first payloads) in
    let i = c.loop-index.invariant in
    let none = no_txs payloads c.loop-index.index (omega (arith, c.loop-index-test.false, c.batches-index-end.ensures)) in
    let is_all : i.so_far ≡ all = sym (append-nil i.so_far) ∙ ap (λ (ts : List (Option Transaction)). i.so_far ++ ts) (sym none) ∙ i.left in
    let making : AreMaking all c.loop-index.txs.items c.args.state.now c.loop-index.state =
    subst (λ (ts : List (Option Transaction)). AreMaking ts c.loop-index.txs.items c.args.state.now c.loop-index.state) is_all i.making in
    all_made all c.args.state.now c.prepare-2.new.self
    (making_made all c.loop-index.txs.items c.args.state.now c.loop-index.state c.prepare-2.new.self making
    (subst (λ (ts : List (Option Transaction)). IsPrepared ts c.loop-index.state c.prepare-2.new.self) c.deref-2.ensures.value c.in_ok-prepare-2.ensures.prepared)
    (subst (λ (ts : List (Option Transaction)). are_covered c.prepare-2.new.self.version c.prepare-2.new.self.slots ts ≡ true) c.deref-2.ensures.value c.in_ok-prepare-2.ensures.covers))
