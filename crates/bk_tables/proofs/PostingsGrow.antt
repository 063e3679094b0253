-- The postings of an order that grows, from the accounts after the batches that are shown.
use Rattle.std.proofs.Common.{◌≡◌, ◌∙◌, ℕ, ◌+◌, List, ◌++◌, length, drop, take, Option, Some, refl, sym, ap, subst, length-append, take_all, arith}
use Rattle.std.proofs.lemmas.List.{take-append-drop}
use Rattle.std.proofs.lemmas.List.Concat.{flat_map-append}
use Rattle.bk_base.specs.declared.genesis.Row.{Row}
use Rattle.bk_base.specs.declared.version.Version.{Version}
use Rattle.bk_answer.specs.Closed.{ClosedValue}
use Rattle.bk_answer.proofs.Reports.{IsMade}
use Rattle.bk_rules.specs.Fold.{HasRoom, state_after}
use Rattle.bk_rules.specs.Ledger.{Ledger, ledger_of}
use Rattle.bk_rules.proofs.Folding.{state_append}
use Rattle.bk_rules.proofs.Room.{room_kept, room_weaker}
use Rattle.bk_tx.specs.Batches.{transactions_in, transactions_of}
use Rattle.bk_tx.specs.Transaction.{Transaction}
use Rattle.bk_tables.specs.Growing.{AreAfter, HasWalked, IsReadyFor, Walked, course_in}
use Rattle.bk_tables.specs.Postings.{postings_from}
use Rattle.bk_tables.specs.private.Walking.{HasSlotsFor, walk_rows}
use Rattle.bk_tables.proofs.PostingTables.{opening_room, walk_from}

module _ (c : ClosedValue) (w : Walked) where
  abbrev payloads : List (List ℕ)
  payloads = c.order.taken.ordered.payloads.list

  abbrev version : Version
  version = c.ledger.state.version

  -- the transactions that are shown, and the others
  abbrev before : List (Option Transaction)
  before = transactions_of (take w.shown.batch payloads)

  abbrev more : List (Option Transaction)
  more = transactions_of (drop w.shown.batch payloads)

  splits : transactions_of payloads ≡ before ++ more
  splits = ap transactions_of (sym (take-append-drop w.shown.batch payloads)) ∙ flat_map-append transactions_in (take w.shown.batch payloads) (drop w.shown.batch payloads)

  -- the accounts are there, with their slots
  pub is_ready : (old new : Ledger) → HasWalked c (record { shown = w.shown; state = Some old }) → HasSlotsFor more old new → IsReadyFor c (record { shown = w.shown; state = Some new })
  is_ready old new h r = record {
    ledger = new;
    known = refl;
    walked = (r.version ∙ h.0, r.rows ∙ h.1);
    covered = r.covered;
  }

  module _ (made : IsMade c) (h : IsReadyFor c w) (l : Ledger) (known : w.state ≡ Some l) where
    same : h.ledger ≡ l
    same = let both : Some h.ledger ≡ Some l = sym h.known ∙ known in cc

    walked : AreAfter version c.order.opening (take w.shown.batch payloads) (Some l)
    walked = subst (λ (x : Ledger). AreAfter version c.order.opening (take w.shown.batch payloads) (Some x)) same h.walked

    -- there is room for the others
    pub left_room : HasRoom l.version (length more) l.rows
    left_room =
        let n = ap length splits in
        let m = length-append before more in
        let all = room_weaker version (length (transactions_of payloads)) (length before + length more) c.order.opening (omega (arith, n, m)) (opening_room c made) in
        subst (λ (x : Version × List Row). HasRoom x.0 (length more) x.1) (λ i. (sym walked.0 i, sym walked.1 i)) (room_kept version before (length more) c.order.opening all)

    -- their rows
    pub left_rows : (place : ℕ) → place ≡ length before → walk_rows l.version place more l.rows ≡ postings_from (course_in c) place more
    left_rows place at = (λ i. walk_rows (walked.0 i) place more (walked.1 i)) ∙ walk_from (course_in c) before more splits place at

    -- the accounts after them
    pub all_walked : (last : Ledger) (n : ℕ) → last ≡ ledger_of l.version l.slots (state_after l.version more l.rows) → n ≡ length payloads → AreAfter version c.order.opening (take n payloads) (Some last)
    all_walked last n e all =
        let taken : take n payloads ≡ payloads = take_all n payloads (omega (arith, all)) in (
          ap (λ (x : Ledger). x.version) e ∙ walked.0,
          ap (λ (x : Ledger). x.rows) e ∙ (λ i. state_after (walked.0 i) more (walked.1 i)) ∙ sym (state_append version before more c.order.opening)
              ∙ ap (λ (ts : List (Option Transaction)). state_after version ts c.order.opening) (sym splits ∙ ap transactions_of (sym taken)),
        )
