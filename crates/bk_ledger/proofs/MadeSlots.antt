-- Slots that are made for batches, and what these give afterwards.
use Rattle.std.proofs.Common.{◌≡◌, ℕ, ◌+◌, ◌-◌, ◌^◌, ◌<◌, ◌≤◌, Bor, Bool, ◌||◌, true, List, [], ◌++◌, length, map, take, drop, Option, Result, Ok, Err, refl, sym, ap, subst, ◌∙◌, append-nil, append_assoc, length-append, length-drop, take_all, drop_of_length-le, arith}
use Rattle.std.specs.Prelude.{IfOk, IfErr}
use Rattle.std.proofs.lemmas.List.{drop-map}
use Rattle.bk_base.specs.declared.version.Version.{Version}
use Rattle.bk_base.specs.declared.version.Version.TheVariants.{One, Two}
use Rattle.bk_tx.specs.Batches.{count_in, transactions_of}
use Rattle.bk_tx.specs.Transaction.{Transaction}
use Rattle.bk_rules.specs.Fold.{HasRoom}
use Rattle.bk_rules.specs.Ledger as rules
use Rattle.bk_pool.specs.declared.outcome.ExecFault.{ExecFault}
use Rattle.bk_ledger.specs.Executing.{HasExecuted, Leaves}
use Rattle.bk_ledger.specs.Ledger.{LedgerValue}
use Rattle.bk_ledger.specs.Naming.{named_by}
use Rattle.bk_ledger.specs.private.Slices.{IsOnTheWay, IsSame, IsSliceOf}
use Rattle.bk_ledger.specs.private.Widened.{IsWidened, IsWidenedTo}
use Rattle.bk_ledger.proofs.Covering.{covered_both, covered_kept}
use Rattle.bk_ledger.proofs.Growth.{named-append, slots_long}
use Rattle.bk_ledger.proofs.NextLemmas.{same_ran}
use Rattle.bk_ledger.proofs.SliceLemmas.{executed_then, leaves_weaker, receipts_after, room_after, transactions-append}

-- ---- making slots

-- a slot stays
slot_kept : (v : Version) (slots : List ℕ) (txs : List (Option Transaction)) (id : ℕ) → rules.has_slot slots id ≡ true → rules.has_slot_after v slots txs id ≡ true
slot_kept One slots txs id h = h
slot_kept Two slots txs id h = ap (λ (b : Bool). b || rules.is_declared_by txs id) h

pub widened_none : (payloads : List (List ℕ)) (l : rules.Ledger) → IsWidenedTo payloads 0 l l
widened_none payloads l = record {
  done = [];
  split = refl;
  widened = record { version = refl; rows = refl; covered = refl; slots = omega arith };
}

-- and those of a slice more
pub widened_more : (payloads : List (List ℕ)) (at later : ℕ) (counts : List (Option ℕ)) (txs : List (Option Transaction)) (before now after : rules.Ledger) → IsWidenedTo payloads at before now → IsSliceOf payloads at counts txs → at + length counts ≡ later
    → rules.IsPrepared txs now after → rules.are_covered after.version after.slots txs ≡ true → IsWidenedTo payloads later before after
widened_more payloads at later counts txs before now after so_far slice same p covers =
    let w = so_far.widened in
    let old = transactions_of so_far.done in
    let all : transactions_of (so_far.done ++ slice.batches) ≡ old ++ txs = transactions-append so_far.done slice.batches ∙ ap (λ (t : List (Option Transaction)). old ++ t) (sym slice.txs_are) in
    let kept = covered_kept now.version now.slots after.slots old (λ id h. p.slots id ∙ slot_kept now.version now.slots txs id h) w.covered in
    record {
      done = so_far.done ++ slice.batches;
      split = so_far.split ∙ ap (λ (t : List (List ℕ)). so_far.done ++ t) slice.split ∙ sym (append_assoc so_far.done slice.batches (drop (at + length counts) payloads)) ∙ ap (λ n. (so_far.done ++ slice.batches) ++ drop n payloads) same;
      widened = record {
        version = p.version ∙ w.version;
        rows = p.rows ∙ w.rows;
        covered = ap (λ (t : List (Option Transaction)). rules.are_covered after.version after.slots t) all
            ∙ covered_both after.version after.slots old txs (ap (λ (v : Version). rules.are_covered v after.slots old) p.version ∙ kept) covers;
        slots = omega (arith, w.slots, slots_long txs now after p, ap named_by all, named-append old txs);
      };
    }

pub widened_all : (payloads : List (List ℕ)) (at : ℕ) (before after : rules.Ledger) → IsWidenedTo payloads at before after → length payloads ≤ at → IsWidened payloads before after
widened_all payloads at before after so_far all =
    let whole : so_far.done ≡ payloads = sym (so_far.split ∙ ap (λ (t : List (List ℕ)). so_far.done ++ t) (drop_of_length-le payloads all) ∙ append-nil so_far.done) in
    subst (λ (t : List (List ℕ)). IsWidened t before after) whole so_far.widened

-- ---- executing batches once they have slots

pub same_executed : (payloads : List (List ℕ)) (a b c : LedgerValue) → IsSame a b → length b.state.slots ≤ length a.state.slots + named_by (transactions_of payloads) → c.state.slots ≡ b.state.slots → HasExecuted payloads b c → HasExecuted payloads a c
same_executed payloads a b c same grown still ran = same_ran (map count_in payloads) (transactions_of payloads) a b c same grown still ran

-- ---- executing the batches that are left

-- the transactions of the batches that are done, and of those that are left
sums : (payloads : List (List ℕ)) (at : ℕ) (a b : LedgerValue) (way : IsOnTheWay payloads at a b) → transactions_of payloads ≡ transactions_of way.done ++ transactions_of (drop at payloads)
sums payloads at a b way = ap transactions_of way.split ∙ transactions-append way.done (drop at payloads)

rest_count : (payloads : List (List ℕ)) (at : ℕ) (a b : LedgerValue) → IsOnTheWay payloads at a b → length b.receipts + length (transactions_of (drop at payloads)) ≡ length a.receipts + length (transactions_of payloads)
rest_count payloads at a b way =
    omega (arith, ap length (sums payloads at a b way), length-append (transactions_of way.done) (transactions_of (drop at payloads)), receipts_after (map count_in way.done) (transactions_of way.done) a b way.ran)

-- what is left of lent payloads
pub lent_rest : (payloads : List (Bor (List ℕ))) (at : ℕ) → map (λ (p : Bor (List ℕ)). p.now) (take (length payloads - at) (drop at payloads)) ≡ drop at (map (λ (p : Bor (List ℕ)). p.now) payloads)
lent_rest payloads at =
    ap (map (λ (p : Bor (List ℕ)). p.now)) (take_all (length payloads - at) (drop at payloads) (omega (arith, length-drop at payloads)))
    ∙ sym (drop-map (λ (p : Bor (List ℕ)). p.now) at payloads)

module _ (payloads rest : List (List ℕ)) (at : ℕ) (is : rest ≡ drop at payloads) (a b : LedgerValue) (way : IsOnTheWay payloads at a b) where
  pub rest_room : HasRoom a.state.version (length (transactions_of payloads)) a.state.rows → HasRoom b.state.version (length (transactions_of rest)) b.state.rows
  rest_room room =
      let left = room_after way.done (drop at payloads) a b way.ran (subst (λ (t : List (List ℕ)). HasRoom a.state.version (length (transactions_of t)) a.state.rows) way.split room) in
      subst (λ (t : List (List ℕ)). HasRoom b.state.version (length (transactions_of t)) b.state.rows) (sym is) left

  rest_size : length (transactions_of rest) ≡ length (transactions_of (drop at payloads))
  rest_size = ap (λ (t : List (List ℕ)). length (transactions_of t)) is

  pub rest_few : length a.receipts + length (transactions_of payloads) < 2 ^ 32 → length b.receipts + length (transactions_of rest) < 2 ^ 32
  rest_few few = omega (arith, few, rest_count payloads at a b way, rest_size)

  pub rest_slots : b.state.slots ≡ a.state.slots → length a.state.slots + named_by (transactions_of payloads) < 2 ^ 31 → length b.state.slots + named_by (transactions_of rest) < 2 ^ 31
  rest_slots still few =
      let named : named_by (transactions_of rest) ≡ named_by (transactions_of (drop at payloads)) = ap (λ (t : List (List ℕ)). named_by (transactions_of t)) is in
      omega (arith, few, named, ap length still, ap named_by (sums payloads at a b way), named-append (transactions_of way.done) (transactions_of (drop at payloads)))

  pub rest_executed : (x : Result LedgerValue ExecFault) → IfOk x (HasExecuted rest b) → IfOk x (HasExecuted payloads a)
  rest_executed (Ok c) ran =
      let last = subst (λ (t : List (List ℕ)). HasExecuted t b c) is ran in
      subst (λ (t : List (List ℕ)). HasExecuted t a c) (sym way.split) (executed_then way.done (drop at payloads) a b c way.ran last)
  rest_executed (Err e) ran = tt

  pub rest_leaves : (x : Result LedgerValue ExecFault) → IfErr x (Leaves (length b.receipts) (length b.receipts + length (transactions_of rest))) → IfErr x (Leaves (length a.receipts) (length a.receipts + length (transactions_of payloads)))
  rest_leaves (Ok c) left = tt
  rest_leaves (Err e) left =
      let count = rest_count payloads at a b way in
      leaves_weaker _ _ _ _ e (omega (arith, receipts_after (map count_in way.done) (transactions_of way.done) a b way.ran)) (omega (arith, count, rest_size)) left
