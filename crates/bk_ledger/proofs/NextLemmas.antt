-- Slices that are planned before their turn comes.
use Rattle.std.proofs.Common.{◌≡◌, ℕ, ◌+◌, ◌^◌, ◌<◌, ◌≤◌, List, [], ◌++◌, length, Option, refl, sym, ap, subst, ◌∙◌, arith}
use Rattle.std.specs.Arc.{arc_value}
use Rattle.bk_base.specs.declared.genesis.Row.{Row}
use Rattle.bk_base.specs.declared.version.Version.{Version}
use Rattle.bk_tx.specs.Transaction.{Transaction}
use Rattle.bk_rules.specs.Fold.{state_after, receipts_of, HasRoom}
use Rattle.bk_rules.specs.Ledger as rules
use Rattle.bk_rules.specs.Rows.{IsLedger}
use Rattle.bk_rules.specs.Part.{HaveSlots}
use Rattle.bk_ledger.specs.Ledger.{LedgerValue}
use Rattle.bk_ledger.specs.declared.ready.Ready.{Ready}
use Rattle.bk_ledger.specs.declared.ready.Next.{Next}
use Rattle.bk_ledger.specs.declared.ready.Next.TheVariants as next
use Rattle.bk_ledger.specs.declared.batches.Batches.{Batches}
use Rattle.bk_ledger.specs.Executing.{HasRun}
use Rattle.bk_ledger.specs.Naming.{named_by}
use Rattle.bk_ledger.specs.private.Slices.{CanRunPart, IsNextFrom, IsNextOf, IsPlannedOn, IsReadOf, IsReady, IsSame, counts_of, txs_of}
use Rattle.bk_ledger.specs.Sliced.{RunInSlices}
use Rattle.bk_ledger.proofs.Alone.{all_alone}
use Rattle.bk_ledger.proofs.Growth.{slots_long}
use Rattle.bk_ledger.proofs.SliceLemmas.{slice_none}

-- ---- reading

-- a slice that was read, and planned
pub ready_from : (b : Batches) (version : Version) (slots : List ℕ) (r : Ready) → IsReady version slots b.counts.items b.txs.items r → IsNextFrom b version slots (next.Ready r)
ready_from b version slots r ready = record { counts_are = ready.counts_are; txs_are = ready.txs_are; planned = ready.planned }

-- or not
pub read_from : (b c : Batches) (version : Version) (slots : List ℕ) → c.counts.items ≡ b.counts.items → c.txs.items ≡ b.txs.items → IsNextFrom b version slots (next.Read c)
read_from b c version slots counts txs = record { counts_are = counts; txs_are = txs; planned = tt }

-- a slice that was read and then planned is the one that begins at the same index
pub next_from : (payloads : List (List ℕ)) (from : ℕ) (version : Version) (slots : List ℕ) (b : Batches) (n : Next) → IsReadOf payloads from b.counts.items b.txs.items → IsNextFrom b version slots n → IsNextOf payloads from version slots n
next_from payloads from version slots b n read planned = record {
  read = subst (λ (s : List (Option ℕ) × List (Option Transaction)). IsReadOf payloads from s.0 s.1) (λ i. (sym planned.counts_are i, sym planned.txs_are i)) read;
  planned = planned.planned;
}

-- a slice that was planned is ready as it is
pub ready_again : (version : Version) (slots : List ℕ) (n : Next) (r : Ready) → n ≡ next.Ready r → IsPlannedOn version slots n → IsReady version slots (counts_of n) (txs_of n) r
ready_again version slots n r is planned =
    subst (λ (m : Next). IsPlannedOn version slots m → IsReady version slots (counts_of m) (txs_of m) r) (sym is) (λ p. record { planned = p; counts_are = refl; txs_are = refl }) planned

-- nothing is left
pub read_none : (payloads : List (List ℕ)) (from : ℕ) (counts : List (Option ℕ)) (txs : List (Option Transaction)) → length payloads ≤ from → from ≤ length payloads → counts ≡ [] → txs ≡ [] → IsReadOf payloads from counts txs
read_none payloads from counts txs all within none empty = record {
  slice = slice_none payloads from counts txs none empty;
  some = λ low. absurd (omega (arith, all, low));
  within = omega (arith, within, ap length none);
  few = omega (arith, ap length empty);
}

-- ---- executing

-- a slice that is planned over slots of a ledger can run on it
pub ready_runs : (l : rules.Ledger) (counts : List (Option ℕ)) (txs : List (Option Transaction)) (r : Ready) → IsReady l.version l.slots counts txs r → IsLedger l.rows
    → HaveSlots l.slots l.rows → HasRoom l.version (length txs) l.rows → CanRunPart r l
ready_runs l counts txs r ready is_ledger have room = record {
  planned = ready.planned;
  is_ledger = is_ledger;
  have_slots = have;
  has_room = subst (λ (n : ℕ). HasRoom l.version n l.rows) (ap length (sym ready.txs_are)) room;
}

-- there is room on a ledger that is the same
pub same_room : (n : ℕ) (a b : LedgerValue) → IsSame a b → HasRoom a.state.version n a.state.rows → HasRoom b.state.version n b.state.rows
same_room n a b same room = subst (λ (y : Version × List Row). HasRoom y.0 n y.1) (λ j. (sym same.version j, sym same.rows j)) room

-- the same, seen from the ledger before its slots were made
pub same_ran : (counts : List (Option ℕ)) (txs : List (Option Transaction)) (a b c : LedgerValue) → IsSame a b → length b.state.slots ≤ length a.state.slots + named_by txs → c.state.slots ≡ b.state.slots → HasRun counts txs b c → HasRun counts txs a c
same_ran counts txs a b c same grown still ran = record {
  version = ran.version ∙ same.version;
  counts_are = ran.counts_are ∙ ap (λ (xs : List (Option ℕ)). xs ++ counts) same.counts_are;
  receipts = ran.receipts ∙ (λ i. same.receipts i ++ receipts_of (same.version i) txs (same.rows i));
  rows = ran.rows ∙ (λ i. state_after (same.version i) txs (same.rows i));
  slots = omega (arith, grown, ap length still);
  ran = λ few. subst (λ (y : Version × List Row). RunInSlices y.0 txs y.1 (receipts_of y.0 txs y.1) c.state.rows) (λ i. (same.version i, same.rows i)) (ran.ran few);
}

-- its places are numbered
pub ready_places : (first : ℕ) (version : Version) (slots : List ℕ) (counts : List (Option ℕ)) (txs : List (Option Transaction)) (r : Ready) → IsReady version slots counts txs r → first + length txs < 2 ^ 32 → first + length (arc_value r.plan).txs < 2 ^ 32
ready_places first version slots counts txs r ready few = omega (arith, few, ap length ready.txs_are)

-- transactions in their order, on the slots that there are
pub run_here : (counts : List (Option ℕ)) (txs : List (Option Transaction)) (a b : LedgerValue) → b.counts ≡ a.counts ++ counts → b.receipts ≡ a.receipts ++ receipts_of a.state.version txs a.state.rows
    → b.state ≡ rules.ledger_of a.state.version a.state.slots (state_after a.state.version txs a.state.rows) → IsLedger a.state.rows → HasRoom a.state.version (length txs) a.state.rows → HasRun counts txs a b
run_here counts txs a b counted received after ledger room = record {
  version = ap (λ (l : rules.Ledger). l.version) after;
  counts_are = counted;
  receipts = received;
  rows = ap (λ (l : rules.Ledger). l.rows) after;
  slots = omega (arith, ap (λ (l : rules.Ledger). length l.slots) after);
  ran = λ few. subst (RunInSlices a.state.version txs a.state.rows (receipts_of a.state.version txs a.state.rows))
      (sym (ap (λ (l : rules.Ledger). l.rows) after))
      (all_alone a.state.version txs a.state.rows ledger room few);
}

-- transactions in their order, once slots are made for them
pub run_is : (counts : List (Option ℕ)) (txs : List (Option Transaction)) (a : LedgerValue) (mid : rules.Ledger) (b : LedgerValue) → rules.IsPrepared txs a.state mid → b.counts ≡ a.counts ++ counts → b.receipts ≡ a.receipts ++ receipts_of mid.version txs mid.rows
    → b.state ≡ rules.ledger_of mid.version mid.slots (state_after mid.version txs mid.rows) → IsLedger a.state.rows → HasRoom a.state.version (length txs) a.state.rows → HasRun counts txs a b
run_is counts txs a mid b p counted received after ledger room = record {
  version = ap (λ (l : rules.Ledger). l.version) after ∙ p.version;
  counts_are = counted;
  receipts = received ∙ (λ i. a.receipts ++ receipts_of (p.version i) txs (p.rows i));
  rows = ap (λ (l : rules.Ledger). l.rows) after ∙ (λ i. state_after (p.version i) txs (p.rows i));
  slots = omega (arith, ap (λ (l : rules.Ledger). length l.slots) after, slots_long txs a.state mid p);
  ran = λ few. subst (RunInSlices a.state.version txs a.state.rows (receipts_of a.state.version txs a.state.rows))
      (sym (ap (λ (l : rules.Ledger). l.rows) after ∙ (λ i. state_after (p.version i) txs (p.rows i))))
      (all_alone a.state.version txs a.state.rows ledger room few);
}
