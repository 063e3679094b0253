-- Rows that are picked, and rows of batches as lines of a report.
use Rattle.std.proofs.Common.{◌≡◌, ℕ, Bool, true, false, cond, List, [], ◌∷◌, map, Some, refl, sym, ap, subst}
use Rattle.std.specs.Prelude.{filter}
use Rattle.std.specs.List.{AllByRecursion, AllZip, Contains, find}
use Rattle.bk_cert.specs.Node.{Node}
use Rattle.bk_cert.specs.declared.place.CertRef.{CertRef}
use Rattle.bk_cert.proofs.Lists.{contains_first, contains_later, in_map}
use Rattle.bk_committee.specs.Sizes.{Sizes}
use Rattle.bk_order.specs.Orders.{Ordered}
use Rattle.bk_report.specs.Report.{batch_lines}
use Rattle.bk_report.specs.RunLines.{cert_lines}
use Rattle.bk_report.specs.declared.line.Line.TheVariants as line
use Rattle.bk_tx.specs.Batches.{count_in}
use Rattle.bk_tables.specs.Batches.{IsBatchRow, names}
use Rattle.bk_tables.specs.Csv.{table_text}
use Rattle.bk_tables.specs.Laws.{ListPicksPostings, ListPicksRows, RowsAreBatchLines}
use Rattle.bk_tables.specs.Payments.{is_among, names_one, payment_fields}
use Rattle.bk_tables.specs.Postings.{posting_fields}
use Rattle.bk_tables.specs.declared.batches.BatchRow.{BatchRow}
use Rattle.bk_tables.specs.declared.payment.PaymentRow.{PaymentRow}
use Rattle.bk_tables.specs.declared.posting.Posting.{Posting}

all_kept : {X : Type 0} (xs : List X) → filter (λ (x : X). true) xs ≡ xs
all_kept [] = refl
all_kept (x ∷ xs) = ap (λ (ys : List _). x ∷ ys) (all_kept xs)

pub list_picks : ListPicksRows
list_picks ids rows = ap (λ (xs : List PaymentRow). table_text (map payment_fields xs)) (sym (all_kept (filter (λ (row : PaymentRow). names_one ids row.asked) rows)))

pub list_picks_accounts : ListPicksPostings
list_picks_accounts ids rows = ap (λ (xs : List Posting). table_text (map posting_fields xs)) (sym (all_kept (filter (λ (row : Posting). is_among ids row.account) rows)))

-- what is found is there
found_inside : (p : CertRef → Bool) (xs : List CertRef) (y : CertRef) → find p xs ≡ Some y → Contains xs y
found_inside p [] y e = absurd cc
found_inside p (x ∷ xs) y e = by_test (p x) e (λ k. found_inside p xs y k)
  where
    by_test : (b : Bool) → cond b (Some x) (find p xs) ≡ Some y → (find p xs ≡ Some y → Contains xs y) → Contains (x ∷ xs) y
    by_test true k go = let same : x ≡ y = cc in subst (Contains (x ∷ xs)) same (contains_first x xs)
    by_test false k go = contains_later x xs y (go k)

module _ (z : Sizes) (held : List Node) (o : Ordered) where
  counts_are : (payloads : List (List ℕ)) (rows : List BatchRow) → AllZip (IsBatchRow z held o) payloads rows → map count_in payloads ≡ map (λ (row : BatchRow). row.count) rows
  counts_are [] [] h = refl
  counts_are [] (row ∷ rows) h = absurd h
  counts_are (p ∷ payloads) [] h = absurd h
  counts_are (p ∷ payloads) (row ∷ rows) h = λ i. sym h.0.count_is i ∷ counts_are payloads rows h.1 i

  certs_are : (payloads : List (List ℕ)) (rows : List BatchRow) → AllZip (IsBatchRow z held o) payloads rows
      → AllByRecursion (λ (row : BatchRow). Contains (cert_lines o.order) (line.Cert row.cert.round row.cert.author)) rows
  certs_are [] [] h = tt
  certs_are [] (row ∷ rows) h = absurd h
  certs_are (p ∷ payloads) [] h = absurd h
  certs_are (p ∷ payloads) (row ∷ rows) h =
      (in_map (λ (c : CertRef). line.Cert c.round c.author) o.order row.cert (found_inside (names held row.digest) o.order row.cert h.0.cert_is), certs_are payloads rows h.1)

pub batch_lines_are : RowsAreBatchLines
batch_lines_are z held o rows h = (ap (batch_lines 0) (counts_are z held o o.payloads.list rows h), certs_are z held o o.payloads.list rows h)
