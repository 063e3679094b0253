-- Slices that are executed by runs, one after another.
use Rattle.std.proofs.Common.{◌≡◌, ℕ, cond, List, [], ◌∷◌, ◌++◌, Option, refl, sym, ap, subst, ◌∙◌, append_assoc, append-nil}
use Rattle.std.proofs.lemmas.List.Concat.{flat_map-append, flat_map-cons}
use Rattle.bk_base.specs.declared.genesis.Row.{Row}
use Rattle.bk_base.specs.declared.version.Version.{Version}
use Rattle.bk_base.specs.Genesis.{ids_of}
use Rattle.bk_tx.specs.Transaction.{Transaction}
use Rattle.bk_rules.specs.declared.account.Account.{Account}
use Rattle.bk_rules.specs.declared.receipt.Receipt.{Receipt}
use Rattle.bk_rules.specs.Fold.{state_after, receipts_of}
use Rattle.bk_rules.specs.Ledger.{ledger_of, has_slot}
use Rattle.bk_rules.specs.Part.{HaveSlots, rows_among}
use Rattle.bk_rules.specs.Rows.{IsLedger, account_at}
use Rattle.bk_rules.proofs.Folding.{ledger_kept_by_fold, receipts_append, state_append}
use Rattle.bk_rules.proofs.Kept.{known_by_ids}
use Rattle.bk_rules.proofs.Parts.{part_receipts, part_state}
use Rattle.bk_conflicts.proofs.Ran.{none_known}
use Rattle.bk_steps.proofs.Leaving.{runs_leave_fold}
use Rattle.bk_ledger.specs.Sliced.{SliceRuns, SlicesRun, RunInSlices, DeclareInOrder, joined}

-- an account that is there is one of a row
pub have_rows : (rows : List Row) → HaveSlots (ids_of rows) rows
have_rows rows id none = sym (none_known (account_at rows id) (known_by_ids rows id ∙ none))

-- ---- a slice gives the fold

module _ (v : Version) (txs : List (Option Transaction)) (rows : List Row) (ledger : IsLedger rows) (receipts : List Receipt) (after : List Row) (s : SliceRuns v txs rows receipts after) where
  abbrev part : List Row
  part = rows_among s.ids rows

  -- what the run left on the part
  left : (receipts ≡ receipts_of v txs part) × ((id : ℕ) → account_at s.part id ≡ account_at (state_after v txs part) id)
  left =
      let r = s.ran in
      let same = sym r.can_run.same_version in
      subst (λ (y : Version × List (Option Transaction)). (receipts ≡ receipts_of y.0 y.1 part) × ((id : ℕ) → account_at s.part id ≡ account_at (state_after y.0 y.1 part) id))
      (λ i. (same i, r.txs_are i))
      (runs_leave_fold r.plan (ledger_of v s.ids part) r.is_plan r.can_run receipts s.part r.left)

  pub slice_receipts : receipts ≡ receipts_of v txs rows
  slice_receipts = left.0 ∙ part_receipts v (ids_of rows) s.ids txs rows ledger (have_rows rows) s.held

  pub slice_rows : after ≡ state_after v txs rows
  slice_rows = part_state v (ids_of rows) s.ids txs rows ledger (have_rows rows) s.held after record {
    ascending = s.back.ascending;
    accounts = λ id. s.back.accounts id ∙ ap (λ (o : Option Account). cond (has_slot s.ids id) o (account_at rows id)) (left.1 id);
  }

-- ---- and so do many

joined-cons : (txs : List (Option Transaction)) (more : List (List (Option Transaction))) → joined (txs ∷ more) ≡ txs ++ joined more
joined-cons txs more = flat_map-cons (λ (xs : List (Option Transaction)). xs) txs more

slices_fold : (v : Version) (slices : List (List (Option Transaction))) (rows : List Row) → IsLedger rows → (receipts : List Receipt) (after : List Row)
    → SlicesRun v slices rows receipts after → (receipts ≡ receipts_of v (joined slices) rows) × (after ≡ state_after v (joined slices) rows)
slices_fold v [] rows ledger receipts after run = run
slices_fold v (txs ∷ more) rows ledger receipts after (first, rest, next, slice, run, is) =
    let one = slice_receipts v txs rows ledger first next slice in
    let on = slice_rows v txs rows ledger first next slice in
    let kept : IsLedger next = subst IsLedger (sym on) (ledger_kept_by_fold v txs rows ledger) in
    let ih = slices_fold v more next kept rest after run in
    let cut = joined-cons txs more in (
      is ∙ (λ i. one i ++ (ih.0 ∙ ap (receipts_of v (joined more)) on) i)
          ∙ sym (receipts_append v txs (joined more) rows)
          ∙ ap (λ (ts : List (Option Transaction)). receipts_of v ts rows) (sym cut),
      ih.1 ∙ ap (state_after v (joined more)) on ∙ sym (state_append v txs (joined more) rows)
          ∙ ap (λ (ts : List (Option Transaction)). state_after v ts rows) (sym cut),
    )

pub slices_leave_fold : (v : Version) (txs : List (Option Transaction)) (rows : List Row) → IsLedger rows → (receipts : List Receipt) (after : List Row)
    → RunInSlices v txs rows receipts after → (receipts ≡ receipts_of v txs rows) × (after ≡ state_after v txs rows)
slices_leave_fold v txs rows ledger receipts after r =
    subst (λ (ts : List (Option Transaction)). (receipts ≡ receipts_of v ts rows) × (after ≡ state_after v ts rows)) r.cut
    (slices_fold v r.slices rows ledger receipts after r.runs)

-- ---- slices after others

slices_then : (v : Version) (xs ys : List (List (Option Transaction))) (rows mid after : List Row) (some more : List Receipt)
    → SlicesRun v xs rows some mid → SlicesRun v ys mid more after → SlicesRun v (xs ++ ys) rows (some ++ more) after
slices_then v [] ys rows mid after some more (none, same) second =
    subst (λ (y : List Receipt × List Row). SlicesRun v ys y.1 (y.0 ++ more) after) (λ i. (sym none i, same i)) second
slices_then v (txs ∷ xs) ys rows mid after some more (first, rest, next, slice, run, is) second = (
  first,
  rest ++ more,
  next,
  slice,
  slices_then v xs ys next mid after rest more run second,
  ap (λ (rs : List Receipt). rs ++ more) is ∙ append_assoc first rest more,
)

pub no_slices : (v : Version) (rows : List Row) → RunInSlices v [] rows [] rows
no_slices v rows = record { slices = []; cut = refl; runs = (refl, refl) }

pub one_slice : (v : Version) (txs : List (Option Transaction)) (rows : List Row) (receipts : List Receipt) (after : List Row)
    → SliceRuns v txs rows receipts after → RunInSlices v txs rows receipts after
one_slice v txs rows receipts after slice = record {
  slices = txs ∷ [];
  cut = joined-cons txs [] ∙ append-nil txs;
  runs = (receipts, [], after, slice, (refl, refl), sym (append-nil receipts));
}

pub sliced_then : (v : Version) (txs others : List (Option Transaction)) (rows mid after : List Row) (some more : List Receipt)
    → RunInSlices v txs rows some mid → RunInSlices v others mid more after → RunInSlices v (txs ++ others) rows (some ++ more) after
sliced_then v txs others rows mid after some more first second = record {
  slices = first.slices ++ second.slices;
  cut = flat_map-append (λ (xs : List (Option Transaction)). xs) first.slices second.slices ∙ (λ i. first.cut i ++ second.cut i);
  runs = slices_then v first.slices second.slices rows mid after some more first.runs second.runs;
}

-- ---- what is declared in order

pub in_order_first : (txs others : List (Option Transaction)) → DeclareInOrder (txs ++ others) → DeclareInOrder txs
in_order_first [] others all = tt
in_order_first (t ∷ txs) others all = (all.0, in_order_first txs others all.1)

pub in_order_rest : (txs others : List (Option Transaction)) → DeclareInOrder (txs ++ others) → DeclareInOrder others
in_order_rest [] others all = all
in_order_rest (t ∷ txs) others all = in_order_rest txs others all.1
