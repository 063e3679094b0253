-- Rows of a feed's table stay in that of each larger feed.
use Rattle.std.proofs.Common.{◌≡◌, ◌∙◌, ℕ, List, ◌++◌, Option, sym, ap, subst, append_assoc}
use Rattle.bk_base.specs.Feed.{FeedValue, genesis_of}
use Rattle.bk_base.specs.declared.genesis.Row.{Row}
use Rattle.bk_base.specs.declared.version.Version.{Version}
use Rattle.bk_committee.specs.Payload.{CommitteeValue}
use Rattle.bk_commit.specs.Growth.{IsPartOf, IsPrefix}
use Rattle.bk_order.specs.Orders.{IsOrderOf, Ordered}
use Rattle.bk_order.specs.Stops.{HasNoStop}
use Rattle.bk_order.proofs.Sets.{frames_grow}
use Rattle.bk_results.specs.declared.status.Status.{Status}
use Rattle.bk_rules.specs.declared.receipt.Receipt.{Receipt}
use Rattle.bk_answer.specs.RunReport.{HasNoStopIn, IsOrderIn, committee_in, later_frames}
use Rattle.bk_follow.specs.Agreement.{HaveOneSetup}
use Rattle.bk_tables.specs.Csv.{row_text}
use Rattle.bk_tables.specs.Payments.{payments_header, payments_text, rows_from}
use Rattle.bk_tables.specs.Tables.{IsPaymentTable, IsPostingTable}
use Rattle.bk_tail.specs.Laws.{RowsStay}
use Rattle.bk_tables.specs.Kinds.{TableKind, payments, postings}
use Rattle.bk_tables.proofs.PaymentsPut.{payments_grow}
use Rattle.bk_tables.proofs.PostingsPut.{postings_grow}

-- a table is read off an order: its header and the rows of the order's batches
pub record IsReadOff (k : TableKind) (feed : FeedValue) (text : List ℕ) : Type 0 where
  pub clear : HasNoStopIn feed
  pub order : Ordered
  pub ordered : IsOrderIn feed order
  pub text_is : text ≡ k.header ++ k.rows feed.version (genesis_of feed.frames) order.payloads.list

-- the text of more batches goes on
abbrev GrowsOn : TableKind → Type 0
GrowsOn k = (v : Version) (genesis : List Row) (xs ys : List (List ℕ)) → (more : List ℕ) × (k.rows v genesis (xs ++ ys) ≡ k.rows v genesis xs ++ more)

reads_grow : (k : TableKind) → GrowsOn k → (small large : FeedValue) (rows more : List ℕ) → HaveOneSetup small large → IsPartOf (later_frames small) (later_frames large) → IsReadOff k small rows → IsReadOff k large more → IsPrefix rows more
reads_grow k grows small large rows more setup part h g =
    let clear : HasNoStop (committee_in small) (later_frames large) = subst (λ (c : CommitteeValue). HasNoStop c (later_frames large)) (sym setup.committee) g.clear in
    let order : IsOrderOf (committee_in small) (later_frames large) g.order = subst (λ (c : CommitteeValue). IsOrderOf c (later_frames large) g.order) (sym setup.committee) g.ordered in
    let longer = (frames_grow (committee_in small) (later_frames small) (later_frames large) h.order g.order part clear h.ordered order).2 in
    let on = grows small.version (genesis_of small.frames) h.order.payloads.list longer.0 in
    let here : more ≡ k.header ++ k.rows small.version (genesis_of small.frames) (h.order.payloads.list ++ longer.0) =
    g.text_is ∙ (λ i. k.header ++ k.rows (sym setup.version i) (sym setup.genesis i) (longer.1 i)) in (
      on.0,
      here ∙ ap (λ (t : List ℕ). k.header ++ t) on.1
          ∙ sym (append_assoc k.header (k.rows small.version (genesis_of small.frames) h.order.payloads.list) on.0)
          ∙ ap (λ (t : List ℕ). t ++ on.0) (sym h.text_is),
    )

payments_read : (ids : Option (List ℕ)) (feed : FeedValue) (end : Status) (text : List ℕ) → IsPaymentTable ids feed end text → IsReadOff (payments ids) feed text
payments_read ids feed end text h = record {
  clear = h.is_outcome.clear;
  order = h.outcome.ordered;
  ordered = h.is_outcome.ordered;
  text_is = h.text_is ∙ ap (λ (rs : List Receipt). row_text payments_header ++ payments_text ids (rows_from rs 0 0 h.outcome.ordered.payloads.list)) h.is_outcome.receipts;
}

postings_read : (ids : Option (List ℕ)) (feed : FeedValue) (end : Status) (text : List ℕ) → IsPostingTable ids feed end text → IsReadOff (postings ids) feed text
postings_read ids feed end text h = record {
  clear = h.is_outcome.clear;
  order = h.outcome.ordered;
  ordered = h.is_outcome.ordered;
  text_is = h.text_is;
}

pub rows_stay : RowsStay
rows_stay ids = (
  λ small large end also rows more setup part h g. reads_grow (payments ids) (λ v genesis xs ys. (_, payments_grow ids v genesis xs ys)) small large rows more setup part (payments_read ids small end rows h) (payments_read ids large also more g),
  λ small large end also rows more setup part h g. reads_grow (postings ids) (λ v genesis xs ys. (_, postings_grow ids v genesis xs ys)) small large rows more setup part (postings_read ids small end rows h) (postings_read ids large also more g),
)
