-- A feed has one of each table.
use Rattle.std.proofs.Common.{◌≡◌, ℕ, List, Option, ◌++◌, reverse, sym, ap, subst, ◌∙◌}
use Rattle.std.specs.List.{AllZip}
use Rattle.bk_base.specs.Feed.{genesis_of}
use Rattle.bk_committee.specs.Payload.{sizes_of}
use Rattle.bk_flatten.proofs.Orders.{order_present}
use Rattle.bk_order.specs.Orders.{Ordered}
use Rattle.bk_order.proofs.OneReading.{one_ordered}
use Rattle.bk_order.proofs.Sets.{clear_of}
use Rattle.bk_rounds.proofs.Grown.{present_more}
use Rattle.bk_rules.specs.Fold.{receipts_of}
use Rattle.bk_tx.specs.Batches.{transactions_of}
use Rattle.bk_answer.specs.RunReport.{committee_in, later_frames, reach_of}
use Rattle.bk_tables.specs.Batches.{IsBatchRow, batches_text}
use Rattle.bk_tables.specs.Csv.{row_text}
use Rattle.bk_tables.specs.Payments.{payments_header, payments_text, rows_from}
use Rattle.bk_tables.specs.Postings.{postings, postings_header, postings_text}
use Rattle.bk_tables.specs.TextLaws.{HasNoOther, OneBatchTable, OnePaymentTable, OnePostingTable}
use Rattle.bk_tables.specs.Tables.{IsBatchTable, IsPaymentTable, IsPostingTable}
use Rattle.bk_tables.proofs.OneBatches.{one_rows}
use Rattle.bk_tables.proofs.SomeTable.{some_batches, some_payments, some_postings}

no_other_payments : (ids : Option (List ℕ)) → HasNoOther (IsPaymentTable ids)
no_other_payments ids feed end also text other h k =
    let orders : h.outcome.ordered ≡ k.outcome.ordered = one_ordered (committee_in feed) (later_frames feed) h.outcome.ordered k.outcome.ordered h.is_outcome.clear h.is_outcome.ordered k.is_outcome.ordered in
    let receipts : h.outcome.receipts ≡ k.outcome.receipts =
    h.is_outcome.receipts ∙ ap (λ (o : Ordered). receipts_of feed.version (transactions_of o.payloads.list) (genesis_of feed.frames)) orders ∙ sym k.is_outcome.receipts in (
      h.text_is ∙ (λ i. row_text payments_header ++ payments_text ids (rows_from (receipts i) 0 0 (orders i).payloads.list)) ∙ sym k.text_is,
      h.end_is ∙ ap (λ (o : Ordered). reach_of o.payloads.missing) orders ∙ sym k.end_is,
    )

no_other_postings : (ids : Option (List ℕ)) → HasNoOther (IsPostingTable ids)
no_other_postings ids feed end also text other h k =
    let orders : h.outcome.ordered ≡ k.outcome.ordered = one_ordered (committee_in feed) (later_frames feed) h.outcome.ordered k.outcome.ordered h.is_outcome.clear h.is_outcome.ordered k.is_outcome.ordered in (
      h.text_is
          ∙ (λ i. row_text postings_header ++ postings_text ids (postings (record { version = feed.version; opening = genesis_of feed.frames; txs = transactions_of (orders i).payloads.list })))
          ∙ sym k.text_is,
      h.end_is ∙ ap (λ (o : Ordered). reach_of o.payloads.missing) orders ∙ sym k.end_is,
    )

no_other_batches : HasNoOther IsBatchTable
no_other_batches feed end also text other h k =
    let orders : h.ordered ≡ k.ordered = one_ordered (committee_in feed) (later_frames feed) h.ordered k.ordered h.clear h.is_order k.is_order in
    let clear = clear_of (committee_in feed) (later_frames feed) k.certs h.clear k.are_certs in
    let present = order_present (sizes_of (committee_in feed)) h.is_order.certs (reverse h.ordered.anchors) h.ordered.order h.is_order.holds.committed h.is_order.holds.ordered in
    let rows : h.rows ≡ k.rows = one_rows (sizes_of (committee_in feed)) h.certs k.certs
    (λ c t. k.are_certs.complete c (h.are_certs.sound c t)) (λ c t. h.are_certs.complete c (k.are_certs.sound c t)) clear h.ordered
    (λ a t. present_more (sizes_of (committee_in feed)) h.is_order.certs h.certs (λ c u. h.are_certs.complete c (h.is_order.are_certs.sound c u)) a (present a t))
    h.ordered.payloads.list h.rows k.rows h.are_rows
    (subst (λ (o : Ordered). AllZip (IsBatchRow (sizes_of (committee_in feed)) k.certs o) o.payloads.list k.rows) (sym orders) k.are_rows) in (
      h.text_is ∙ ap batches_text rows ∙ sym k.text_is,
      h.end_is ∙ ap (λ (o : Ordered). reach_of o.payloads.missing) orders ∙ sym k.end_is,
    )

-- ---- and exactly one

pub one_payments : OnePaymentTable
one_payments ids = (some_payments ids, no_other_payments ids)

pub one_postings : OnePostingTable
one_postings ids = (some_postings ids, no_other_postings ids)

pub one_batches : OneBatchTable
one_batches = (some_batches, no_other_batches)
