-- Two feeds agree, or differ for one reason.
use Rattle.std.proofs.Common.{◌≡◌, ◌⊎◌, ℕ, ◌≤◌, List, [], ◌∷◌, ◌++◌, length, Option, refl, sym, ap, subst, ◌∙◌, inl, inr, ⊎_elim, arith, length-append}
use Rattle.std.specs.List.{Contains}
use Rattle.std.proofs.lemmas.List.{append-nil}
use Rattle.std.proofs.lemmas.List.Concat.{flat_map-append}
use Rattle.std.proofs.lemmas.List.Elements.{Contains-append_left, Contains-append_right}
use Rattle.bk_base.specs.declared.genesis.Row.{Row}
use Rattle.bk_base.specs.declared.version.Version.{Version}
use Rattle.bk_base.specs.declared.version.Version.TheVariants.{One, Two}
use Rattle.bk_base.specs.Feed.{Frame, FeedValue, IsFeed, genesis_of}
use Rattle.bk_committee.specs.Payload.{CommitteeValue}
use Rattle.bk_cert.specs.Node.{Node}
use Rattle.bk_commit.specs.Growth.{IsPrefix, IsPartOf}
use Rattle.bk_evidence.specs.Batches.{Batch}
use Rattle.bk_order.specs.Agreement.{OneBegins, OrderBegins}
use Rattle.bk_order.specs.Orders.{IsOrderOf}
use Rattle.bk_order.specs.Stops.{AreClear, HasNoStop, IsStopOf}
use Rattle.bk_order.specs.declared.stop.Stop.{Stop}
use Rattle.bk_order.proofs.Agreeing.{parts_agree}
use Rattle.bk_order.proofs.OneReading.{no_stop, one_stop}
use Rattle.bk_evidence.proofs.Colliding.{id_order}
use Rattle.bk_evidence.proofs.Lesser.{same_or_not}
use Rattle.bk_rules.specs.Fold.{receipts_of, state_after}
use Rattle.bk_rules.proofs.Folding.{length-receipts, receipts_append}
use Rattle.bk_tx.specs.Transaction.{Transaction}
use Rattle.bk_tx.specs.Batches.{transactions_in, transactions_of}
use Rattle.bk_results.specs.declared.differ.Agreed.{Agreed}
use Rattle.bk_follow.specs.Agreement.{Agree, OneBeginsFor, HaveOneSetup, frames_together}
use Rattle.bk_answer.specs.Outcomes.{IsOutcomeOf, Outcome}
use Rattle.bk_compare.specs.FeedAgreement.{FeedsAgree}
use Rattle.bk_answer.specs.RunReport.{HasNoStopIn, committee_in, later_frames}
use Rattle.bk_follow.proofs.ComparedBooks.{committee_same, row_of_fields}
use Rattle.bk_laws.specs.Laws.{Comparison, ComparesTo, IsPartOfFeed, agreed, differing, stopped}
use Rattle.bk_laws.proofs.Answers.{reading_exists}
use Rattle.bk_laws.proofs.Deciding.{Decided, decided_as, decided_three, same_number}
use Rattle.bk_laws.proofs.Replying.{one_outcome}
use Rattle.bk_laws.proofs.Stops.{stop_or_none}
use Rattle.bk_laws.proofs.Verdicts.{batches_exist, certs_exist}

-- ---- whether two feeds have one setup

decided_list : {X : Type 0} → ((x y : X) → Decided (x ≡ y)) → (xs ys : List X) → Decided (xs ≡ ys)
decided_list same [] [] = inl refl
decided_list same [] (y ∷ ys) = inr (λ e. let n = ap length e in omega arith)
decided_list same (x ∷ xs) [] = inr (λ e. let n = ap length e in omega arith)
decided_list same (x ∷ xs) (y ∷ ys) = by (same x y) (decided_list same xs ys)
  where
    by : Decided (x ≡ y) → Decided (xs ≡ ys) → Decided (x ∷ xs ≡ y ∷ ys)
    by (inl e) (inl f) = inl (λ i. e i ∷ f i)
    by (inl e) (inr n) = inr (λ g. n cc)
    by (inr n) d = inr (λ g. n cc)

decided_version : (v w : Version) → Decided (v ≡ w)
decided_version One One = inl refl
decided_version One Two = inr (λ e. cc)
decided_version Two One = inr (λ e. cc)
decided_version Two Two = inl refl

decided_committee : (j k : CommitteeValue) → Decided (j ≡ k)
decided_committee j k = decided_as ((j.version ≡ k.version) × (j.weights ≡ k.weights) × (j.keys ≡ k.keys)) (j ≡ k)
    (λ h. committee_same j k h.0 h.1 h.2)
    (λ e. (ap (λ (c : CommitteeValue). c.version) e, ap (λ (c : CommitteeValue). c.weights) e, ap (λ (c : CommitteeValue). c.keys) e))
    (decided_three (j.version ≡ k.version) (j.weights ≡ k.weights) (j.keys ≡ k.keys)
    (decided_version j.version k.version) (decided_list same_number j.weights k.weights) (decided_list (same_or_not id_order) j.keys k.keys))

fields_of : Row → List ℕ
fields_of r = r.id ∷ r.balance ∷ r.seq ∷ []

decided_row : (a b : Row) → Decided (a ≡ b)
unfolding fields_of
decided_row a b = decided_as (fields_of a ≡ fields_of b) (a ≡ b) (row_of_fields a b) (λ e. ap fields_of e) (decided_list same_number (fields_of a) (fields_of b))

decided_setup : (one other : FeedValue) → IsFeed one → IsFeed other → Decided (HaveOneSetup one other)
decided_setup one other good also = decided_as
    ((one.version ≡ other.version) × (committee_in one ≡ committee_in other) × (genesis_of one.frames ≡ genesis_of other.frames))
    (HaveOneSetup one other)
    (λ h. record { opened = good.opened; also_opened = also.opened; version = h.0; committee = h.1; genesis = h.2 })
    (λ s. (s.version, s.committee, s.genesis))
    (decided_three (one.version ≡ other.version) (committee_in one ≡ committee_in other) (genesis_of one.frames ≡ genesis_of other.frames)
    (decided_version one.version other.version) (decided_committee (committee_in one) (committee_in other)) (decided_list decided_row (genesis_of one.frames) (genesis_of other.frames)))

-- ---- a part of frames that have no stop has none

part_is_clear : (k : CommitteeValue) (part whole : List Frame) → IsPartOf part whole → HasNoStop k whole → HasNoStop k part
part_is_clear k part whole into none =
    let certs = certs_exist k part in
    let batches = batches_exist part in
    let clear = none.holds.clear in
    let apart = none.holds.apart in
    let cert : (c : Node) → Contains certs.0 c → Contains none.certs c = λ c t. let s = certs.1.sound c t in none.are_certs.complete c (s.0, into _ s.1, s.2) in
    let batch : (b : Batch) → Contains batches.0 b → Contains none.batches b = λ b t. let s = batches.1.sound b t in none.are_batches.complete b (s.0, into _ s.1, s.2) in
    record {
      certs = certs.0;
      batches = batches.0;
      are_certs = certs.1;
      are_batches = batches.1;
      holds = record {
        clear = record {
          no_collision = λ c d t u e. clear.no_collision c d (cert c t) (cert d u) e;
          no_twins = λ c d t u e. clear.no_twins c d (cert c t) (cert d u) e;
        };
        apart = λ c d t u e. apart c d (batch c t) (batch d u) e;
      };
    }

pub stops_stay : (small large : FeedValue) → IsPartOfFeed small large → HasNoStopIn large → HasNoStopIn small
stops_stay small large part clear =
    part_is_clear (committee_in small) (later_frames small) (later_frames large) part.frames
    (subst (λ (k : CommitteeValue). HasNoStop k (later_frames large)) (sym part.setup.committee) clear)

-- ---- lists of which one begins the other

module _ {X : Type 0} (xs ys : List X) where
  longer : IsPrefix xs ys → length xs ≤ length ys
  longer (rest, e) = let l = ap length e in omega (arith, l, length-append xs rest)

  whole_begins : IsPrefix xs ys → length xs ≡ length ys → xs ≡ ys
  whole_begins (rest, e) same = ended rest e (ap length e)
    where
      ended : (us : List X) → ys ≡ xs ++ us → length ys ≡ length (xs ++ us) → xs ≡ ys
      ended [] g p = sym (g ∙ append-nil xs)
      ended (u ∷ us) g p = absurd (omega (arith, same, p, length-append xs (u ∷ us)))

counted : {X : Type 0} (xs ys : List X) → OneBegins xs ys → (n : ℕ) × OneBeginsFor n xs ys
counted xs ys (inl h) = (length xs, inl (h, refl))
counted xs ys (inr h) = (length ys, inr (h, refl))

one_count : {X : Type 0} (m n : ℕ) (xs ys : List X) → OneBeginsFor m xs ys → OneBeginsFor n xs ys → m ≡ n
one_count m n xs ys (inl h) (inl g) = h.1 ∙ sym g.1
one_count m n xs ys (inl h) (inr g) = let a = longer xs ys h.0 in let b = longer ys xs g.0 in let e = h.1 in let f = g.1 in omega arith
one_count m n xs ys (inr h) (inl g) = let a = longer ys xs h.0 in let b = longer xs ys g.0 in let e = h.1 in let f = g.1 in omega arith
one_count m n xs ys (inr h) (inr g) = h.1 ∙ sym g.1

same_length : {X : Type 0} (xs ys : List X) → OneBegins xs ys → length xs ≡ length ys → xs ≡ ys
same_length xs ys (inl h) e = whole_begins xs ys h e
same_length xs ys (inr h) e = sym (whole_begins ys xs h (sym e))

one_txs : (ps qs : List (List ℕ)) → OneBegins ps qs → OneBegins (transactions_of ps) (transactions_of qs)
one_txs ps qs (inl h) = inl (transactions_of h.0, ap transactions_of h.1 ∙ flat_map-append transactions_in ps h.0)
one_txs ps qs (inr h) = inr (transactions_of h.0, ap transactions_of h.1 ∙ flat_map-append transactions_in qs h.0)

one_receipts : (v : Version) (rows : List Row) (ts us : List (Option Transaction)) → OneBegins ts us → OneBegins (receipts_of v ts rows) (receipts_of v us rows)
one_receipts v rows ts us (inl h) = inl (receipts_of v h.0 (state_after v ts rows), ap (λ (xs : List (Option Transaction)). receipts_of v xs rows) h.1 ∙ receipts_append v ts h.0 rows)
one_receipts v rows ts us (inr h) = inr (receipts_of v h.0 (state_after v us rows), ap (λ (xs : List (Option Transaction)). receipts_of v xs rows) h.1 ∙ receipts_append v us h.0 rows)

-- ---- where nothing stops both together, they agree

outcome_exists : (feed : FeedValue) → HasNoStopIn feed → (end : Outcome) × IsOutcomeOf feed end
outcome_exists feed clear =
    let r = reading_exists feed in (
      record { ordered = r.0.ordered; receipts = r.0.receipts; rows = r.0.rows },
      record { clear = clear; ordered = r.1.ordered; receipts = r.1.receipts; rows = r.1.rows },
    )

module _ (one other : FeedValue) (setup : HaveOneSetup one other) (none : HasNoStop (committee_in one) (frames_together one other)) where
  left_part : IsPartOf (later_frames one) (frames_together one other)
  left_part f t = Contains-append_left (later_frames one) (later_frames other) f t

  right_part : IsPartOf (later_frames other) (frames_together one other)
  right_part f t = Contains-append_right (later_frames one) (later_frames other) f t

  clear_one : HasNoStopIn one
  clear_one = part_is_clear (committee_in one) (later_frames one) (frames_together one other) left_part none

  clear_other : HasNoStopIn other
  clear_other = subst (λ (k : CommitteeValue). HasNoStop k (later_frames other)) setup.committee (part_is_clear (committee_in one) (later_frames other) (frames_together one other) right_part none)

  module _ (end also : Outcome) (is : IsOutcomeOf one end) (are : IsOutcomeOf other also) where
    order_other : IsOrderOf (committee_in one) (later_frames other) also.ordered
    order_other = subst (λ (k : CommitteeValue). IsOrderOf k (later_frames other) also.ordered) (sym setup.committee) are.ordered

    meet : (OrderBegins end.ordered also.ordered ⊎ OrderBegins also.ordered end.ordered) × OneBegins end.ordered.payloads.list also.ordered.payloads.list
    meet = parts_agree (committee_in one) (later_frames one) (later_frames other) (frames_together one other) end.ordered also.ordered left_part right_part none is.ordered order_other

    txs_meet : OneBegins (transactions_of end.ordered.payloads.list) (transactions_of also.ordered.payloads.list)
    txs_meet = one_txs end.ordered.payloads.list also.ordered.payloads.list meet.1

    receipts_other : also.receipts ≡ receipts_of one.version (transactions_of also.ordered.payloads.list) (genesis_of one.frames)
    receipts_other =
        let version : other.version ≡ one.version = sym setup.version in
        let genesis : genesis_of other.frames ≡ genesis_of one.frames = sym setup.genesis in
        are.receipts ∙ (λ i. receipts_of (version i) (transactions_of also.ordered.payloads.list) (genesis i))

    rows_other : also.rows ≡ state_after one.version (transactions_of also.ordered.payloads.list) (genesis_of one.frames)
    rows_other =
        let version : other.version ≡ one.version = sym setup.version in
        let genesis : genesis_of other.frames ≡ genesis_of one.frames = sym setup.genesis in
        are.rows ∙ (λ i. state_after (version i) (transactions_of also.ordered.payloads.list) (genesis i))

    receipts_meet : OneBegins end.receipts also.receipts
    receipts_meet = subst (λ rs. OneBegins rs also.receipts) (sym is.receipts)
        (subst (OneBegins (receipts_of one.version (transactions_of end.ordered.payloads.list) (genesis_of one.frames))) (sym receipts_other)
        (one_receipts one.version (genesis_of one.frames) (transactions_of end.ordered.payloads.list) (transactions_of also.ordered.payloads.list) txs_meet))

    rows_meet : length end.receipts ≡ length also.receipts → end.rows ≡ also.rows
    rows_meet e =
        let ts = transactions_of end.ordered.payloads.list in
        let us = transactions_of also.ordered.payloads.list in
        let rows = genesis_of one.frames in
        let count : length ts ≡ length us =
        sym (ap length is.receipts ∙ length-receipts one.version ts rows) ∙ (e ∙ (ap length receipts_other ∙ length-receipts one.version us rows)) in
        is.rows ∙ (ap (λ (xs : List (Option Transaction)). state_after one.version xs rows) (same_length ts us txs_meet count) ∙ sym rows_other)

    anchors_meet : OrderBegins end.ordered also.ordered ⊎ OrderBegins also.ordered end.ordered → OneBegins end.ordered.anchors also.ordered.anchors × OneBegins end.ordered.order also.ordered.order
    anchors_meet (inl h) = (inl h.0, inl h.1)
    anchors_meet (inr h) = (inr h.0, inr h.1)

    agreed_exists : (a : Agreed) × Agree end also a
    agreed_exists =
        let orders = anchors_meet meet.0 in
        let certs = counted end.ordered.order also.ordered.order orders.1 in
        let places = counted end.receipts also.receipts receipts_meet in (
          record { certs = certs.0; places = places.0 },
          record { anchors = orders.0; certs = certs.1; places = places.1; rows = rows_meet },
        )

  agreement : (a : Agreed) × FeedsAgree one other a
  agreement =
      let end = outcome_exists one clear_one in
      let also = outcome_exists other clear_other in
      let a = agreed_exists end.0 also.0 end.1 also.1 in
      (a.0, record { clear = (setup, none); end = end.0; also = also.0; outcome = end.1; also_outcome = also.1; agree = a.1 })

-- ---- what a comparison comes to

comparison_exists : (one other : FeedValue) → IsFeed one → IsFeed other → (c : Comparison) × ComparesTo one other c
comparison_exists one other good also = ⊎_elim
    (λ (setup : HaveOneSetup one other). with_setup setup)
    (λ (n : HaveOneSetup one other → ⊥). (differing, n))
    (decided_setup one other good also)
  where
    with_setup : HaveOneSetup one other → (c : Comparison) × ComparesTo one other c
    with_setup setup =
        let k = committee_in one in
        let frames = frames_together one other in
        let certs = certs_exist k frames in
        let batches = batches_exist frames in
        ⊎_elim
        (λ (s : (s : Stop) × IsStopOf certs.0 batches.0 s). (
          stopped s.0,
          (setup, record { certs = certs.0; batches = batches.0; are_certs = certs.1; are_batches = batches.1; holds = s.1 }),
        ))
        (λ (clear : AreClear certs.0 batches.0).
        let a = agreement one other setup (record { certs = certs.0; batches = batches.0; are_certs = certs.1; are_batches = batches.1; holds = clear }) in
        (agreed a.0, a.1))
        (stop_or_none certs.0 batches.0)

one_agreed : (one other : FeedValue) (a b : Agreed) → FeedsAgree one other a → FeedsAgree one other b → a ≡ b
one_agreed one other a b h g =
    let end : g.end ≡ h.end = one_outcome one g.end h.end g.outcome h.outcome in
    let also : g.also ≡ h.also = one_outcome other g.also h.also g.also_outcome h.also_outcome in
    let agree : Agree h.end h.also b = subst (λ (x : Outcome). Agree x h.also b) end (subst (λ (y : Outcome). Agree g.end y b) also g.agree) in
    let certs = one_count a.certs b.certs h.end.ordered.order h.also.ordered.order h.agree.certs agree.certs in
    let places = one_count a.places b.places h.end.receipts h.also.receipts h.agree.places agree.places in
    λ i. record { certs = certs i; places = places i }

one_comparison : (one other : FeedValue) (c d : Comparison) → ComparesTo one other c → ComparesTo one other d → c ≡ d
one_comparison one other (agreed a) (agreed b) h g = ap agreed (one_agreed one other a b h g)
one_comparison one other (agreed a) differing h g = absurd (g h.clear.0)
one_comparison one other (agreed a) (stopped s) h g = absurd (no_stop (committee_in one) (frames_together one other) s h.clear.1 g.1)
one_comparison one other differing (agreed b) h g = absurd (h g.clear.0)
one_comparison one other differing differing h g = refl
one_comparison one other differing (stopped s) h g = absurd (h g.0)
one_comparison one other (stopped s) (agreed b) h g = absurd (no_stop (committee_in one) (frames_together one other) s g.clear.1 h.1)
one_comparison one other (stopped s) differing h g = absurd (g h.0)
one_comparison one other (stopped s) (stopped t) h g = ap stopped (one_stop (committee_in one) (frames_together one other) s t h.1 g.1)

pub exactly_one_comparison : (one other : FeedValue) → IsFeed one → IsFeed other
    → (c : Comparison) × ComparesTo one other c × ((d : Comparison) → ComparesTo one other d → c ≡ d)
exactly_one_comparison one other good also =
    let c = comparison_exists one other good also in
    (c.0, c.1, λ d h. one_comparison one other c.0 d c.1 h)
