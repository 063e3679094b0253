-- A feed with a report has each table.
use Rattle.std.proofs.Common.{◌≡◌, ℕ, Option, zero, suc, ◌<◌, ◌≤◌, List, [], ◌∷◌, ◌++◌, length, map, take, get_or, reverse, refl, sym, ap, subst, ◌∙◌, ⊎_elim, arith, add-one}
use Rattle.std.specs.Prelude.{fold}
use Rattle.std.specs.List.{Contains, flat_map}
use Rattle.std.proofs.lemmas.List.{take_all, take_more}
use Rattle.std.proofs.lemmas.List.Elements.{Contains-append_cases}
use Rattle.bk_base.specs.Feed.{FeedValue}
use Rattle.bk_cert.specs.Node.{Node}
use Rattle.bk_cert.specs.declared.place.CertRef.{CertRef}
use Rattle.bk_cert.proofs.Lists.{from_map, none_in_nil}
use Rattle.bk_commit.specs.Ordering.{IsCommitted}
use Rattle.bk_committee.specs.Payload.{sizes_of}
use Rattle.bk_committee.specs.Sizes.{Sizes}
use Rattle.bk_flatten.specs.Batches.{Payloads, digests_of}
use Rattle.bk_flatten.specs.Order.{IsOrder}
use Rattle.bk_flatten.proofs.Whole.{reverse_push}
use Rattle.bk_order.specs.Orders.{Ordered}
use Rattle.bk_results.specs.declared.status.Status.{Status}
use Rattle.bk_rounds.specs.Rounds.{rounds_with}
use Rattle.bk_answer.specs.Outcomes.{IsOutcomeOf, Outcome}
use Rattle.bk_answer.specs.RunReport.{IsOrderIn, IsReportOf, committee_in, later_frames}
use Rattle.sha2.specs.Sha256.{sha256}
use Rattle.bk_tables.specs.Batches.{IsOrderedIn, batches_text}
use Rattle.bk_tables.specs.Csv.{row_text}
use Rattle.bk_tables.specs.Postings.{postings, postings_header, postings_text}
use Rattle.bk_tables.specs.Tables.{IsBatchTable, IsPaymentTable, IsPostingTable, course_of, transactions_text}
use Rattle.bk_tables.specs.TextLaws.{HasText}
use Rattle.bk_tables.specs.declared.batches.BatchRow.{BatchRow}
use Rattle.bk_tables.specs.declared.naming.Named.{Named}
use Rattle.bk_tables.specs.declared.placing.Placed.{Placed}
use Rattle.bk_tables.specs.private.Naming.{named_at, with_named}
use Rattle.bk_tables.specs.private.Placing.{ArePlaced, certs_of, placed_with}
use Rattle.bk_tables.specs.private.Rows.{IsTakenOf, rows_with}
use Rattle.bk_tables.proofs.BatchRows.{all_rows_are}
use Rattle.bk_tables.proofs.OrderTaken.{front}
use Rattle.bk_tables.proofs.Places.{added, certs_added, nobody}

-- ---- payments and postings

outcome_is : (feed : FeedValue) (report : List ℕ) (end : Status) (h : IsReportOf feed end report) → IsOutcomeOf feed (record { ordered = h.reading.ordered; receipts = h.reading.receipts; rows = h.reading.rows })
outcome_is feed report end h = record { clear = h.clear; ordered = h.reads.ordered; receipts = h.reads.receipts; rows = h.reads.rows }

pub some_payments : (ids : Option (List ℕ)) → HasText (IsPaymentTable ids)
some_payments ids feed report end h =
    let o : Outcome = record { ordered = h.reading.ordered; receipts = h.reading.receipts; rows = h.reading.rows } in
    (transactions_text ids o, record { outcome = o; is_outcome = outcome_is feed report end h; text_is = refl; end_is = h.status_is })

pub some_postings : (ids : Option (List ℕ)) → HasText (IsPostingTable ids)
some_postings ids feed report end h =
    let o : Outcome = record { ordered = h.reading.ordered; receipts = h.reading.receipts; rows = h.reading.rows } in
    (row_text postings_header ++ postings_text ids (postings (course_of feed o)), record { outcome = o; is_outcome = outcome_is feed report end h; text_is = refl; end_is = h.status_is })

-- ---- each certificate of an order has its anchor

-- what an anchor adds to the order before it
split : (z : Sizes) (held : List Node) (a : CertRef) (back flat : List CertRef) → IsOrder z held (a ∷ back) flat → (kept : List CertRef) × (part : List CertRef) × IsOrder z held back kept × (flat ≡ kept ++ part)
split z held a [] flat h = ([], flat, refl, refl)
split z held a (p ∷ ps) flat (kept, part, first, lists, e) = (kept, part, first, e)

module _ (z : Sizes) (held : List Node) (anchors : List CertRef) (settled : IsCommitted z held anchors) where
  abbrev AreWith : List CertRef → List Placed → Type 0
  AreWith flat placed = (certs_of placed ≡ flat) × ((p : Placed) → Contains placed p → IsOrderedIn z held anchors p.cert p.anchor)

  one_more : (i : ℕ) → i < length anchors → (flat : List CertRef) → IsOrder z held (get_or anchors i nobody ∷ reverse (take i anchors)) flat
      → (kept : List CertRef) × (part : List CertRef) × IsOrder z held (reverse (take i anchors)) kept × (flat ≡ kept ++ part)
      → ((kept : List CertRef) → IsOrder z held (reverse (take i anchors)) kept → (placed : List Placed) × AreWith kept placed)
      → (placed : List Placed) × AreWith flat placed
  one_more i here flat order (kept, part, first, e) go =
      let (placed, (certs, each)) = go kept first in
      let anchor : CertRef = get_or anchors i nobody in
      let new : IsOrder z held (anchor ∷ reverse (take i anchors)) (kept ++ part) = subst (IsOrder z held (anchor ∷ reverse (take i anchors))) e order in (
        placed ++ map (placed_with anchor.round) part,
        (
          certs_added kept part placed anchor.round certs ∙ sym e,
          λ p t. ⊎_elim
              (λ (early : Contains placed p). each p early)
              (λ (late : Contains (map (placed_with anchor.round) part) p).
              let f = from_map (placed_with anchor.round) part p late in
              subst (λ (q : Placed). IsOrderedIn z held anchors q.cert q.anchor) f.2 (added z held anchors i settled here kept part first new f.0 f.1))
              (Contains-append_cases placed (map (placed_with anchor.round) part) p t),
        ),
      )

  placed_up_to : (i : ℕ) → i ≤ length anchors → (flat : List CertRef) → IsOrder z held (reverse (take i anchors)) flat → (placed : List Placed) × AreWith flat placed
  placed_up_to zero low flat h = ([], (sym h, λ p t. absurd (none_in_nil p t)))
  placed_up_to (suc i) low flat h =
      let here : i < length anchors = omega (arith, low) in
      let a : CertRef = get_or anchors i nobody in
      let back : reverse (take (suc i) anchors) ≡ a ∷ reverse (take i anchors) = ap (λ (k : ℕ). reverse (take k anchors)) (sym (add-one i)) ∙ ap reverse (take_more anchors i nobody here) ∙ reverse_push (take i anchors) a in
      let order : IsOrder z held (a ∷ reverse (take i anchors)) flat = subst (λ (xs : List CertRef). IsOrder z held xs flat) back h in
      one_more i here flat order (split z held a (reverse (take i anchors)) flat order) (λ kept first. placed_up_to i (omega (arith, low)) kept first)

  some_placed : (flat : List CertRef) → IsOrder z held (reverse anchors) flat → (placed : List Placed) × ArePlaced z held anchors placed
  some_placed flat h =
      let all : reverse (take (length anchors) anchors) ≡ reverse anchors = ap reverse (take_all (length anchors) anchors (omega arith)) in
      let (placed, (certs, each)) = placed_up_to (length anchors) (omega arith) flat (subst (λ (xs : List CertRef). IsOrder z held xs flat) (sym all) h) in
      (placed, record { order = subst (IsOrder z held (reverse anchors)) (sym certs) h; each = each })

-- ---- batches

pub some_batches : HasText IsBatchTable
some_batches feed report end h =
    let is : IsOrderIn feed h.reading.ordered = h.reads.ordered in
    let z : Sizes = sizes_of (committee_in feed) in
    let o : Ordered = h.reading.ordered in
    let cut = front (later_frames feed) is.batches is.are_batches (digests_of is.certs o.order) in
    let taken : IsTakenOf (rounds_with z is.certs) o = record {
      order = is.holds.ordered;
      rest = cut.0;
      digests = cut.1 ∙ ap (λ (p : Payloads). map sha256 p.list ++ cut.0) (sym is.holds.payloads_are);
    } in
    let (placed, are) = some_placed z is.certs o.anchors is.holds.committed o.order is.holds.ordered in
    let named : List Named = fold with_named [] (flat_map (named_at is.certs) placed) in
    let rows : List BatchRow = rows_with named o.payloads.list in (
      batches_text rows,
      record {
        clear = h.clear;
        ordered = o;
        is_order = is;
        certs = is.certs;
        are_certs = is.are_certs;
        rows = rows;
        are_rows = all_rows_are (rounds_with z is.certs) o placed named are taken refl;
        text_is = refl;
        end_is = h.status_is;
      },
    )
