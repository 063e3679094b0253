-- Slices of batches, one after another.
use Rattle.std.proofs.Common.{◌≡◌, ℕ, zero, suc, ◌+◌, ◌<◌, ◌≤◌, Bor, get_or, List, [], ◌∷◌, ◌++◌, length, map, drop, Option, Some, refl, sym, ap, subst, ◌∙◌, append-nil, append_assoc, length-append, drop_of_length-le, arith}
use Rattle.std.specs.Prelude.{slice_get}
use Rattle.std.proofs.lemmas.List.{map-append}
use Rattle.std.proofs.lemmas.List.Concat.{flat_map-append, flat_map-cons}
use Rattle.bk_base.specs.declared.genesis.Row.{Row}
use Rattle.bk_base.specs.declared.version.Version.{Version}
use Rattle.bk_tx.specs.Transaction.{Transaction}
use Rattle.bk_rules.specs.declared.receipt.Receipt.{Receipt}
use Rattle.bk_rules.specs.Fold.{state_after, receipts_of, HasRoom}
use Rattle.bk_rules.proofs.Folding.{state_append, receipts_append, length-receipts}
use Rattle.bk_rules.proofs.Room.{room_kept, room_weaker}
use Rattle.bk_ledger.specs.Ledger.{LedgerValue}
use Rattle.bk_ledger.specs.declared.batches.Batches.{Batches}
use Rattle.bk_tx.specs.Batches.{count_in, transactions_in, transactions_of}
use Rattle.bk_pool.specs.declared.outcome.ExecFault.{ExecFault}
use Rattle.bk_pool.specs.declared.outcome.ExecFault.TheVariants.{OutOfMemory, Unfinished}
use Rattle.bk_ledger.specs.Executing.{HasRun, HasExecuted, HasRunInSlices, Leaves}
use Rattle.bk_ledger.specs.private.Slices.{IsSliceOf, IsOnTheWay}
use Rattle.bk_ledger.specs.Sliced.{RunInSlices}
use Rattle.bk_ledger.proofs.Growth.{named-append}
use Rattle.bk_ledger.proofs.ReadInOrder.{read_in_order}
use Rattle.bk_ledger.proofs.Sliced.{in_order_first, in_order_rest, no_slices, sliced_then}

-- ---- lists

pub transactions-append : (xs ys : List (List ℕ)) → transactions_of (xs ++ ys) ≡ transactions_of xs ++ transactions_of ys
transactions-append xs ys = flat_map-append transactions_in xs ys

transactions-one : (payload : List ℕ) → transactions_of (payload ∷ []) ≡ transactions_in payload
transactions-one payload = flat_map-cons transactions_in payload [] ∙ append-nil (transactions_in payload)

-- what is there from a place on begins with what is at the place
pub drop_next : {A : Type 0} (xs : List A) (i : ℕ) (a : A) → slice_get xs i ≡ Some a → drop i xs ≡ a ∷ drop (suc i) xs
drop_next [] i a e = absurd cc
drop_next (x ∷ xs) zero a e = let same : x ≡ a = cc in ap (λ b. b ∷ xs) same
drop_next (x ∷ xs) (suc i) a e = drop_next xs i a e

-- a lent payload among the payloads
pub lent_at : (payloads : List (Bor (List ℕ))) (i : ℕ) (d : Bor (List ℕ)) → i < length payloads → slice_get (map (λ p. p.now) payloads) i ≡ Some (get_or payloads i d).now
lent_at [] i d l = absurd (omega (arith, l))
lent_at (p ∷ payloads) zero d l = refl
lent_at (p ∷ payloads) (suc i) d l = lent_at payloads i d (omega (arith, l))

-- one item more
pub one_more : {A : Type 0} (xs ys : List A) (a : A) → ys ≡ xs ++ a ∷ [] → length ys ≡ length xs + 1
one_more xs ys a e = ap length e ∙ length-append xs (a ∷ [])

-- as many as were lent
pub lent_count : (payloads : List (Bor (List ℕ))) → length (map (λ p. p.now) payloads) ≡ length payloads
lent_count [] = refl
lent_count (p ∷ payloads) = ap suc (lent_count payloads)

-- ---- a ledger after batches

-- after two courses of runs
ran_then : (v w : Version) (txs others : List (Option Transaction)) (rows mid after : List Row) → w ≡ v → mid ≡ state_after v txs rows
    → RunInSlices v txs rows (receipts_of v txs rows) mid → RunInSlices w others mid (receipts_of w others mid) after
    → RunInSlices v (txs ++ others) rows (receipts_of v (txs ++ others) rows) after
ran_then v w txs others rows mid after version left first second =
    let on = subst (λ (u : Version). RunInSlices u others mid (receipts_of u others mid) after) version second in
    subst (λ (rs : List Receipt). RunInSlices v (txs ++ others) rows rs after)
    (ap (λ (xs : List Row). receipts_of v txs rows ++ receipts_of v others xs) left ∙ sym (receipts_append v txs others rows))
    (sliced_then v txs others rows mid after (receipts_of v txs rows) (receipts_of v others mid) first on)

-- after two runs
run_then : (counts more : List (Option ℕ)) (txs others : List (Option Transaction)) (a b c : LedgerValue) → HasRun counts txs a b → HasRun more others b c → HasRun (counts ++ more) (txs ++ others) a c
run_then counts more txs others a b c first second =
    let v = a.state.version in
    record {
      version = second.version ∙ first.version;
      counts_are = second.counts_are ∙ ap (λ (xs : List (Option ℕ)). xs ++ more) first.counts_are ∙ append_assoc a.counts counts more;
      receipts = second.receipts ∙ (λ i. first.receipts i ++ receipts_of (first.version i) others (first.rows i))
          ∙ append_assoc a.receipts (receipts_of v txs a.state.rows) (receipts_of v others (state_after v txs a.state.rows))
          ∙ ap (λ (rs : List Receipt). a.receipts ++ rs) (sym (receipts_append v txs others a.state.rows));
      rows = second.rows ∙ (λ i. state_after (first.version i) others (first.rows i)) ∙ sym (state_append v txs others a.state.rows);
      slots = omega (arith, first.slots, second.slots, named-append txs others);
      ran = λ few. ran_then a.state.version b.state.version txs others a.state.rows b.state.rows c.state.rows first.version first.rows
          (first.ran (in_order_first txs others few)) (second.ran (in_order_rest txs others few));
    }

pub executed_then : (xs ys : List (List ℕ)) (a b c : LedgerValue) → HasExecuted xs a b → HasExecuted ys b c → HasExecuted (xs ++ ys) a c
executed_then xs ys a b c first second =
    let both = run_then (map count_in xs) (map count_in ys) (transactions_of xs) (transactions_of ys) a b c first second in
    let counts : map count_in (xs ++ ys) ≡ map count_in xs ++ map count_in ys = map-append count_in xs ys in
    subst (λ (s : List (Option ℕ) × List (Option Transaction)). HasRun s.0 s.1 a c) (λ i. (sym counts i, sym (transactions-append xs ys) i)) both

-- there is room for what is left
pub room_after : (xs ys : List (List ℕ)) (a b : LedgerValue) → HasExecuted xs a b → HasRoom a.state.version (length (transactions_of (xs ++ ys))) a.state.rows → HasRoom b.state.version (length (transactions_of ys)) b.state.rows
room_after xs ys a b ran room =
    let v = a.state.version in
    let sum : length (transactions_of (xs ++ ys)) ≡ length (transactions_of xs) + length (transactions_of ys) = ap length (transactions-append xs ys) ∙ length-append (transactions_of xs) (transactions_of ys) in
    let left = room_kept v (transactions_of xs) (length (transactions_of ys)) a.state.rows (subst (λ n. HasRoom v n a.state.rows) sum room) in
    subst (λ (s : Version × List Row). HasRoom s.0 (length (transactions_of ys)) s.1) (λ i. (sym ran.version i, sym ran.rows i)) left

-- so many receipts
pub receipts_after : (counts : List (Option ℕ)) (txs : List (Option Transaction)) (a b : LedgerValue) → HasRun counts txs a b → length b.receipts ≡ length a.receipts + length txs
receipts_after counts txs a b ran =
    ap length ran.receipts ∙ length-append a.receipts (receipts_of a.state.version txs a.state.rows)
    ∙ ap (λ n. length a.receipts + n) (length-receipts a.state.version txs a.state.rows)

-- ---- reading a slice

pub slice_none : (payloads : List (List ℕ)) (from : ℕ) (counts : List (Option ℕ)) (txs : List (Option Transaction)) → counts ≡ [] → txs ≡ [] → IsSliceOf payloads from counts txs
slice_none payloads from counts txs none empty = record {
  batches = [];
  split = let e : from ≡ from + length counts = omega (arith, ap length none) in ap (λ n. drop n payloads) e;
  counts_are = none;
  txs_are = empty;
}

pub slice_more : (payloads : List (List ℕ)) (from place : ℕ) (payload : List ℕ) (b c : Batches) → IsSliceOf payloads from b.counts.items b.txs.items → from + length b.counts.items ≡ place → slice_get payloads place ≡ Some payload
    → c.counts.items ≡ b.counts.items ++ count_in payload ∷ [] → c.txs.items ≡ b.txs.items ++ transactions_in payload → IsSliceOf payloads from c.counts.items c.txs.items
slice_more payloads from place payload b c slice at found counts txs =
    let longer : length c.counts.items ≡ length b.counts.items + 1 = ap length counts ∙ length-append b.counts.items (count_in payload ∷ []) in
    let next : suc place ≡ from + length c.counts.items = omega (arith, at, longer) in
    record {
      batches = slice.batches ++ payload ∷ [];
      split = slice.split ∙ ap (λ n. slice.batches ++ drop n payloads) at ∙ ap (λ (t : List (List ℕ)). slice.batches ++ t) (drop_next payloads place payload found ∙ ap (λ n. payload ∷ drop n payloads) next)
          ∙ sym (append_assoc slice.batches (payload ∷ []) (drop (from + length c.counts.items) payloads));
      counts_are = counts ∙ ap (λ (t : List (Option ℕ)). t ++ count_in payload ∷ []) slice.counts_are ∙ sym (map-append count_in slice.batches (payload ∷ []));
      txs_are = txs ∙ ap (λ (t : List (Option Transaction)). t ++ transactions_in payload) slice.txs_are ∙ ap (λ (t : List (Option Transaction)). transactions_of slice.batches ++ t) (sym (transactions-one payload)) ∙ sym (transactions-append slice.batches (payload ∷ []));
    }

-- ---- executing one slice after another

pub way_begins : (payloads : List (List ℕ)) (l : LedgerValue) → IsOnTheWay payloads 0 l l
way_begins payloads l = record {
  done = [];
  split = refl;
  ran = record { version = refl; counts_are = sym (append-nil l.counts); receipts = sym (append-nil l.receipts); rows = refl; slots = omega arith; ran = λ _. no_slices l.state.version l.state.rows };
}

-- the batches of a slice that is executed
slice_executed : (payloads : List (List ℕ)) (at : ℕ) (counts : List (Option ℕ)) (txs : List (Option Transaction)) (now next : LedgerValue) (slice : IsSliceOf payloads at counts txs) → HasRun counts txs now next → HasExecuted slice.batches now next
slice_executed payloads at counts txs now next slice ran = subst (λ (s : List (Option ℕ) × List (Option Transaction)). HasRun s.0 s.1 now next) (λ i. (slice.counts_are i, slice.txs_are i)) ran

pub way_goes_on : (payloads : List (List ℕ)) (at : ℕ) (counts : List (Option ℕ)) (txs : List (Option Transaction)) (first now next : LedgerValue) → IsOnTheWay payloads at first now → IsSliceOf payloads at counts txs → HasRun counts txs now next → IsOnTheWay payloads (at + length counts) first next
way_goes_on payloads at counts txs first now next way slice ran = record {
  done = way.done ++ slice.batches;
  split = way.split ∙ ap (λ (t : List (List ℕ)). way.done ++ t) slice.split ∙ sym (append_assoc way.done slice.batches (drop (at + length counts) payloads));
  ran = executed_then way.done slice.batches first now next way.ran (slice_executed payloads at counts txs now next slice ran);
}

pub way_ends : (payloads : List (List ℕ)) (at : ℕ) (first now : LedgerValue) → IsOnTheWay payloads at first now → length payloads ≤ at → HasExecuted payloads first now
way_ends payloads at first now way all =
    let whole : way.done ≡ payloads = sym (way.split ∙ ap (λ (t : List (List ℕ)). way.done ++ t) (drop_of_length-le payloads all) ∙ append-nil way.done) in
    subst (λ (t : List (List ℕ)). HasExecuted t first now) whole way.ran

-- the transactions of the next slice are among those that are left
sizes : (payloads : List (List ℕ)) (at : ℕ) (counts : List (Option ℕ)) (txs : List (Option Transaction)) (first now : LedgerValue) → IsOnTheWay payloads at first now → IsSliceOf payloads at counts txs
    → (length txs ≤ length (transactions_of (drop at payloads))) × (length now.receipts + length (transactions_of (drop at payloads)) ≡ length first.receipts + length (transactions_of payloads))
sizes payloads at counts txs first now way slice =
    let rest = drop (at + length counts) payloads in
    let part : length (transactions_of (drop at payloads)) ≡ length (transactions_of slice.batches) + length (transactions_of rest) =
    ap (λ (t : List (List ℕ)). length (transactions_of t)) slice.split ∙ ap length (transactions-append slice.batches rest) ∙ length-append (transactions_of slice.batches) (transactions_of rest) in
    let whole : length (transactions_of payloads) ≡ length (transactions_of way.done) + length (transactions_of (drop at payloads)) =
    ap (λ (t : List (List ℕ)). length (transactions_of t)) way.split ∙ ap length (transactions-append way.done (drop at payloads)) ∙ length-append (transactions_of way.done) (transactions_of (drop at payloads)) in
    (omega (arith, part, ap length slice.txs_are), omega (arith, whole, receipts_after (map count_in way.done) (transactions_of way.done) first now way.ran))

-- the places of the next slice are among those of all that is left
pub places_within : (payloads : List (List ℕ)) (at : ℕ) (counts : List (Option ℕ)) (txs : List (Option Transaction)) (first now : LedgerValue) → IsOnTheWay payloads at first now → IsSliceOf payloads at counts txs
    → (length first.receipts ≤ length now.receipts) × (length now.receipts + length txs ≤ length first.receipts + length (transactions_of payloads))
places_within payloads at counts txs first now way slice =
    let s = sizes payloads at counts txs first now way slice in
    (omega (arith, receipts_after (map count_in way.done) (transactions_of way.done) first now way.ran), omega (arith, s.0, s.1))

pub room_for_slice : (payloads : List (List ℕ)) (at : ℕ) (counts : List (Option ℕ)) (txs : List (Option Transaction)) (first now : LedgerValue) → IsOnTheWay payloads at first now → IsSliceOf payloads at counts txs
    → HasRoom first.state.version (length (transactions_of payloads)) first.state.rows → HasRoom now.state.version (length txs) now.state.rows
room_for_slice payloads at counts txs first now way slice room =
    let left = room_after way.done (drop at payloads) first now way.ran (subst (λ (t : List (List ℕ)). HasRoom first.state.version (length (transactions_of t)) first.state.rows) way.split room) in
    room_weaker now.state.version (length (transactions_of (drop at payloads))) (length txs) now.state.rows (sizes payloads at counts txs first now way slice).0 left

-- a place of some is one of more
pub leaves_weaker : (first end start stop : ℕ) (e : ExecFault) → start ≤ first → end ≤ stop → Leaves first end e → Leaves start stop e
leaves_weaker first end start stop OutOfMemory low high h = tt
leaves_weaker first end start stop (Unfinished place) low high h = let from = h.0 in let to = h.1 in (omega arith, omega arith)

-- ---- in slices by runs

pub executed_in_slices : (payloads : List (List ℕ)) (a : LedgerValue) → (b : LedgerValue) → HasExecuted payloads a b → HasRunInSlices payloads a b
executed_in_slices payloads a b ran = (receipts_of a.state.version (transactions_of payloads) a.state.rows, ran.receipts, ran.ran (read_in_order payloads))
