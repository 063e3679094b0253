-- Slots that are made for transactions, some at a time.
use Rattle.std.proofs.Common.{◌≡◌, ℕ, ◌+◌, ◌≤◌, Bool, ◌||◌, true, List, [], ◌++◌, length, drop, take, Option, Some, refl, sym, ap, subst, ◌∙◌, append-nil, append_assoc, take_all}
use Rattle.std.specs.Prelude.{slice_get}
use Rattle.std.proofs.lemmas.List.Concat.{flat_map-cons}
use Rattle.bk_base.specs.declared.version.Version.{Version}
use Rattle.bk_base.specs.declared.version.Version.TheVariants.{One, Two}
use Rattle.bk_tx.specs.Batches.{transactions_in, transactions_of}
use Rattle.bk_tx.specs.Transaction.{Transaction}
use Rattle.bk_rules.specs.Ledger.{IsPrepared, Ledger, are_covered, has_slot, has_slot_after, is_declared_by}
use Rattle.bk_ledger.proofs.Covering.{covered_both, covered_kept}
use Rattle.bk_tables.specs.private.Walking.{HasSlotsFor}
use Rattle.bk_tables.proofs.BatchWalks.{drop_at}
use Rattle.bk_tables.proofs.TableTexts.{drop_past}

-- of the transactions so far all but the last have slots; these wait
pub record AreMaking (all waiting : List (Option Transaction)) (old now : Ledger) : Type 0 where
  pub done : List (Option Transaction)
  pub split : all ≡ done ++ waiting
  pub ready : HasSlotsFor done old now

pub making_begun : (l : Ledger) → AreMaking [] [] l l
making_begun l = record { done = []; split = refl; ready = record { version = refl; rows = refl; covered = refl } }

-- more wait
pub making_waits : (all waiting more waiting' : List (Option Transaction)) (old now : Ledger) → waiting' ≡ waiting ++ more → AreMaking all waiting old now → AreMaking (all ++ more) waiting' old now
making_waits all waiting more waiting' old now e h = record {
  done = h.done;
  split = ap (λ (ts : List (Option Transaction)). ts ++ more) h.split ∙ append_assoc h.done waiting more ∙ ap (λ (ts : List (Option Transaction)). h.done ++ ts) (sym e);
  ready = h.ready;
}

-- a slot stays
slot_kept : (v : Version) (slots : List ℕ) (txs : List (Option Transaction)) (id : ℕ) → has_slot slots id ≡ true → has_slot_after v slots txs id ≡ true
slot_kept One slots txs id h = h
slot_kept Two slots txs id h = ap (λ (b : Bool). b || is_declared_by txs id) h

-- slots are made for those that wait
pub making_made : (all waiting : List (Option Transaction)) (old now after : Ledger) → AreMaking all waiting old now → IsPrepared waiting now after → are_covered after.version after.slots waiting ≡ true → AreMaking all [] old after
making_made all waiting old now after h p covers =
    let kept = covered_kept now.version now.slots after.slots h.done (λ id k. p.slots id ∙ slot_kept now.version now.slots waiting id k) h.ready.covered in
    record {
      done = all;
      split = sym (append-nil all);
      ready = record {
        version = p.version ∙ h.ready.version;
        rows = p.rows ∙ h.ready.rows;
        covered = ap (are_covered after.version after.slots) h.split
            ∙ covered_both after.version after.slots h.done waiting (ap (λ (v : Version). are_covered v after.slots h.done) p.version ∙ kept) covers;
      };
    }

pub all_made : (all : List (Option Transaction)) (old now : Ledger) → AreMaking all [] old now → HasSlotsFor all old now
all_made all old now h = subst (λ (ts : List (Option Transaction)). HasSlotsFor ts old now) (sym (h.split ∙ append-nil h.done)) h.ready

-- ---- the transactions of batches

pub all_txs : (payloads : List (List ℕ)) (i : ℕ) → length payloads ≤ i → transactions_of (take i payloads) ≡ transactions_of payloads
all_txs payloads i high = ap transactions_of (take_all i payloads high)

-- those of a batch and of the batches after it
pub left_txs : (payloads : List (List ℕ)) (i : ℕ) (payload : List ℕ) → slice_get payloads i ≡ Some payload → transactions_of (drop i payloads) ≡ transactions_in payload ++ transactions_of (drop (i + 1) payloads)
left_txs payloads i payload here = ap transactions_of (drop_at payloads i payload here) ∙ flat_map-cons transactions_in payload (drop (i + 1) payloads)

pub void_txs : (payloads : List (List ℕ)) (i : ℕ) (payload : List ℕ) → slice_get payloads i ≡ Some payload → transactions_in payload ≡ [] → transactions_of (drop i payloads) ≡ transactions_of (drop (i + 1) payloads)
void_txs payloads i payload here e = left_txs payloads i payload here ∙ ap (λ (ts : List (Option Transaction)). ts ++ transactions_of (drop (i + 1) payloads)) e

pub no_txs : (payloads : List (List ℕ)) (i : ℕ) → length payloads ≤ i → transactions_of (drop i payloads) ≡ []
no_txs payloads i high = ap transactions_of (drop_past payloads i high)
