-- What the places of an order that grows do to each account.
use Rattle.std.proofs.Common.{◌≡◌, ◌∙◌, ℕ, ◌+◌, ◌-◌, List, ◌++◌, length, drop, take, Option, sym, ap, arith}
use Rattle.std.proofs.lemmas.List.{take-append-drop}
use Rattle.std.proofs.lemmas.List.Concat.{flat_map-append}
use Rattle.bk_base.specs.declared.genesis.Row.{Row}
use Rattle.bk_base.specs.declared.version.Version.{Version}
use Rattle.bk_answer.specs.Closed.{ClosedValue}
use Rattle.bk_rules.specs.Fold.{state_after}
use Rattle.bk_tx.specs.Batches.{transactions_in, transactions_of}
use Rattle.bk_tx.specs.Transaction.{Transaction}
use Rattle.bk_tables.specs.Growing.{Shown, ShowsFirst, course_in, course_with}
use Rattle.bk_tables.specs.Kinds.{IsMore, payloads_in, postings}
use Rattle.bk_tables.specs.Postings.{postings_from, postings_text}
use Rattle.bk_tables.specs.declared.posting.Posting.{Posting}
use Rattle.bk_tables.specs.private.Walking.{walk_rows}
use Rattle.bk_tables.proofs.PostingTables.{walk_all, walk_from}
use Rattle.bk_tables.proofs.PostingTexts.{postings_two}
use Rattle.bk_tables.proofs.PostingWalks.{walk_append}

-- the text of the rows of a list of batches goes on where the list does
pub postings_grow : (ids : Option (List ℕ)) (v : Version) (genesis : List Row) (xs ys : List (List ℕ))
    → (postings ids).rows v genesis (xs ++ ys) ≡ (postings ids).rows v genesis xs ++ postings_text ids (walk_rows v (length (transactions_of xs)) (transactions_of ys) (state_after v (transactions_of xs) genesis))
postings_grow ids v genesis xs ys =
    ap (postings_text ids) (sym (walk_all (course_with v genesis (xs ++ ys))))
    ∙ ap (λ (ts : List (Option Transaction)). postings_text ids (walk_rows v 0 ts genesis)) (flat_map-append transactions_in xs ys)
    ∙ ap (postings_text ids) (walk_append v 0 (length (transactions_of xs)) (transactions_of xs) (transactions_of ys) genesis (omega arith))
    ∙ postings_two ids (walk_rows v 0 (transactions_of xs) genesis) (walk_rows v (length (transactions_of xs)) (transactions_of ys) (state_after v (transactions_of xs) genesis))
    ∙ ap (λ (qs : List Posting). postings_text ids qs ++ postings_text ids (walk_rows v (length (transactions_of xs)) (transactions_of ys) (state_after v (transactions_of xs) genesis))) (walk_all (course_with v genesis xs))

-- ---- what a call puts

module _ (ids : Option (List ℕ)) (c : ClosedValue) (rows : Shown) (h : ShowsFirst (payloads_in c) rows) where
  abbrev pub more : List ℕ
  more = postings_text ids (postings_from (course_in c) rows.place (transactions_of (drop rows.batch (payloads_in c))))

  pub is_more : IsMore (postings ids) c rows.batch more
  is_more =
      let v = c.ledger.state.version in
      let xs = take rows.batch (payloads_in c) in
      let ys = drop rows.batch (payloads_in c) in
      let splits : payloads_in c ≡ xs ++ ys = sym (take-append-drop rows.batch (payloads_in c)) in
      let txs : transactions_of (payloads_in c) ≡ transactions_of xs ++ transactions_of ys = ap transactions_of splits ∙ flat_map-append transactions_in xs ys in
      ap ((postings ids).rows v c.order.opening) splits ∙ postings_grow ids v c.order.opening xs ys
      ∙ ap (λ (qs : List Posting). (postings ids).rows v c.order.opening xs ++ postings_text ids qs)
      (ap (λ (n : ℕ). walk_rows v n (transactions_of ys) (state_after v (transactions_of xs) c.order.opening)) (sym h.places)
      ∙ walk_from (course_in c) (transactions_of xs) (transactions_of ys) txs rows.place h.places)
