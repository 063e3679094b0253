-- What two books that are compared say of their feeds.
use Rattle.std.proofs.Common.{◌≡◌, ℕ, suc, ◌+◌, ◌<◌, ◌≤◌, ◌⊎◌, inl, inr, ⊎_elim, List, [], ◌∷◌, ◌++◌, length, Option, Some, None, refl, sym, ap, subst, ◌∙◌, arith, length-append}
use Rattle.std.specs.Prelude.{slice_get}
use Rattle.std.proofs.lemmas.Bool.{cases_lt}
use Rattle.std.proofs.lemmas.List.{append-nil}
use Rattle.std.proofs.lemmas.List.Elements.{Contains-append_left, Contains-append_right}
use Rattle.std.proofs.lemmas.List.Concat.{flat_map-append}
use Rattle.bk_base.specs.declared.version.Version.{Version}
use Rattle.bk_base.specs.declared.genesis.Row.{Row}
use Rattle.bk_base.specs.Feed.{Frame, FeedValue, feed_of, genesis_of}
use Rattle.bk_committee.specs.Payload.{CommitteeValue}
use Rattle.bk_commit.specs.Growth.{IsPrefix}
use Rattle.bk_order.specs.Agreement.{OneBegins, OrderBegins}
use Rattle.bk_order.specs.Orders.{Ordered, IsOrderOf}
use Rattle.bk_order.specs.Stops.{HasNoStop, IsStop}
use Rattle.bk_order.specs.Frames.{AreCerts}
use Rattle.bk_order.specs.Intake.{HasAsOrder, IsKeptOf}
use Rattle.bk_order.specs.declared.stop.Stop.TheVariants as stop
use Rattle.bk_order.proofs.Agreeing.{parts_agree}
use Rattle.bk_order.proofs.Sets.{none_in_part}
use Rattle.bk_rules.specs.declared.receipt.Receipt.{Receipt}
use Rattle.bk_rules.specs.Fold.{state_after, receipts_of}
use Rattle.bk_rules.proofs.Folding.{length-receipts, receipts_append}
use Rattle.bk_tx.specs.Transaction.{Transaction}
use Rattle.bk_tx.specs.Batches.{transactions_in, transactions_of}
use Rattle.bk_answer.specs.RunReport.{IsOrderIn, committee_in, later_frames}
use Rattle.bk_follow.specs.Follower.{BookValue, Followed, OrdersPart, FollowsBy, Follows, HasCome, OfFrames, receipts_of_executed, receipts_in}
use Rattle.bk_follow.specs.Queries.{rows_of_executed, rows_in}
use Rattle.bk_results.specs.declared.differ.Agreed.{Agreed}
use Rattle.bk_results.specs.declared.differ.SetupPart.{SetupPart}
use Rattle.bk_results.specs.declared.differ.SetupPart.TheVariants as part
use Rattle.bk_results.specs.declared.differ.Differ.{Differ}
use Rattle.bk_results.specs.declared.differ.Differ.TheVariants as differ
use Rattle.bk_results.specs.declared.fault.Fault.{Fault}
use Rattle.bk_follow.specs.declared.opening.Opened.{Opened}
use Rattle.bk_follow.specs.Agreement.{AgreeInOrder, HaveOneSetup, frames_together, HaveNoStop, HaveStop, OneBeginsFor, OfBoth, SetupsDiffer, FollowersAgree, FollowersDiffer}
use Rattle.bk_follow.specs.private.Books.{IsGoodBook}
use Rattle.bk_follow.specs.private.Comparing.{HasOrderOf, IsLesser, HaveSameSetup, OfTaken, BooksAgree, BooksDiffer, BooksUnlike}
use Rattle.bk_follow.specs.private.Parts.{followed}
use Rattle.bk_follow.proofs.Books.{committee_version}
use Rattle.bk_follow.proofs.Following.{follower_of, good_of, of_frames}
use Rattle.bk_frames.specs.Cutting.{Cut}

-- ---- lists

-- lists of one length with the same items are the same
pub same_by_items : {X : Type 0} (xs ys : List X) → length xs ≡ length ys → ((i : ℕ) → i < length xs → slice_get xs i ≡ slice_get ys i) → xs ≡ ys
same_by_items {X} [] [] e h = refl
same_by_items {X} [] (y ∷ ys) e h = absurd (omega (arith, e))
same_by_items {X} (x ∷ xs) [] e h = absurd (omega (arith, e))
same_by_items {X} (x ∷ xs) (y ∷ ys) e h =
    let first : Some x ≡ Some y = h 0 (omega arith) in
    let rest : xs ≡ ys = same_by_items xs ys (omega (arith, e)) (λ i lt. h (suc i) (omega (arith, lt))) in
    cc

-- items of one place of the same list are the same
pub same_item : {X : Type 0} (xs ys : List X) (i : ℕ) (a b : X) → slice_get xs i ≡ Some a → slice_get ys i ≡ Some b → xs ≡ ys → a ≡ b
same_item {X} xs ys i a b h g e = let both : Some a ≡ Some b = sym h ∙ ap (λ (zs : List X). slice_get zs i) e ∙ g in cc

-- the same items before a place and at it
pub same_on : {X : Type 0} (xs ys : List X) (n : ℕ) (a b : X) → ((i : ℕ) → i < n → slice_get xs i ≡ slice_get ys i) → slice_get xs n ≡ Some a → slice_get ys n ≡ Some b → a ≡ b
    → (i : ℕ) → i < n + 1 → slice_get xs i ≡ slice_get ys i
same_on {X} xs ys n a b before h g e i lt = ⊎_elim
    (λ below. before i below)
    (λ above. let here : n ≡ i = omega (arith, lt, above) in subst (λ (k : ℕ). slice_get xs k ≡ slice_get ys k) here (h ∙ ap Some e ∙ sym g))
    (cases_lt i n)

pub committee_same : (j k : CommitteeValue) → j.version ≡ k.version → j.weights ≡ k.weights → j.keys ≡ k.keys → j ≡ k
committee_same j k v w e = λ i. record { version = v i; keys = e i; weights = w i }

-- accounts of the same fields are the same
pub row_of_fields : (a b : Row) → a.id ∷ a.balance ∷ a.seq ∷ [] ≡ b.id ∷ b.balance ∷ b.seq ∷ [] → a ≡ b
row_of_fields a b e =
    let id : a.id ≡ b.id = cc in
    let balance : a.balance ≡ b.balance = cc in
    let seq : a.seq ≡ b.seq = cc in
    λ i. record { id = id i; balance = balance i; seq = seq i }

lesser_first : (n a b : ℕ) → IsLesser n a b → a ≤ b → n ≡ a
lesser_first n a b (inl h) le = h.0
lesser_first n a b (inr h) le = let e = h.0 in let l = h.1 in omega (arith, e, l, le)

lesser_second : (n a b : ℕ) → IsLesser n a b → b ≤ a → n ≡ b
lesser_second n a b (inl h) le = let e = h.0 in let l = h.1 in omega (arith, e, l, le)
lesser_second n a b (inr h) le = h.0

begins_short : {X : Type 0} (xs ys : List X) → IsPrefix xs ys → length xs ≤ length ys
begins_short {X} xs ys (rest, e) = let l = ap length e in omega (arith, l, length-append xs rest)

-- the lesser of the lengths is that of the list that begins the other
pub begins_with : {X : Type 0} (n : ℕ) (xs ys : List X) → OneBegins xs ys → IsLesser n (length xs) (length ys) → OneBeginsFor n xs ys
begins_with {X} n xs ys h l = ⊎_elim
    (λ (t : IsPrefix xs ys). inl (t, lesser_first n (length xs) (length ys) l (begins_short xs ys t)))
    (λ (t : IsPrefix ys xs). inr (t, lesser_second n (length xs) (length ys) l (begins_short ys xs t)))
    h

begins_whole : {X : Type 0} (xs ys : List X) → IsPrefix xs ys → length xs ≡ length ys → xs ≡ ys
begins_whole {X} xs ys (rest, e) same = ended rest e (ap length e)
  where
    ended : (us : List X) → ys ≡ xs ++ us → length ys ≡ length (xs ++ us) → xs ≡ ys
    ended [] g p = sym (g ∙ append-nil xs)
    ended (u ∷ us) g p = absurd (omega (arith, same, p, length-append xs (u ∷ us)))

same_of_length : {X : Type 0} (xs ys : List X) → OneBegins xs ys → length xs ≡ length ys → xs ≡ ys
same_of_length {X} xs ys h e = ⊎_elim (λ (t : IsPrefix xs ys). begins_whole xs ys t e) (λ (t : IsPrefix ys xs). sym (begins_whole ys xs t (sym e))) h

-- ---- what executing the payloads gives

txs_begin : (ps qs : List (List ℕ)) → IsPrefix ps qs → IsPrefix (transactions_of ps) (transactions_of qs)
txs_begin ps qs (rest, e) = (transactions_of rest, ap transactions_of e ∙ flat_map-append transactions_in ps rest)

one_txs : (ps qs : List (List ℕ)) → OneBegins ps qs → OneBegins (transactions_of ps) (transactions_of qs)
one_txs ps qs h = ⊎_elim (λ (t : IsPrefix ps qs). inl (txs_begin ps qs t)) (λ (t : IsPrefix qs ps). inr (txs_begin qs ps t)) h

module _ (v : Version) (rows : List Row) where
  receipts_begin : (ts us : List (Option Transaction)) → IsPrefix ts us → IsPrefix (receipts_of v ts rows) (receipts_of v us rows)
  receipts_begin ts us (rest, e) = (receipts_of v rest (state_after v ts rows), ap (λ (xs : List (Option Transaction)). receipts_of v xs rows) e ∙ receipts_append v ts rest rows)

  one_receipts : (ps qs : List (List ℕ)) → OneBegins ps qs → OneBegins (receipts_of v (transactions_of ps) rows) (receipts_of v (transactions_of qs) rows)
  one_receipts ps qs h = ⊎_elim
      (λ (t : IsPrefix (transactions_of ps) (transactions_of qs)). inl (receipts_begin (transactions_of ps) (transactions_of qs) t))
      (λ (t : IsPrefix (transactions_of qs) (transactions_of ps)). inr (receipts_begin (transactions_of qs) (transactions_of ps) t))
      (one_txs ps qs h)

  -- after equally many receipts the accounts are the same
  same_rows : (ps qs : List (List ℕ)) → OneBegins ps qs → length (receipts_of v (transactions_of ps) rows) ≡ length (receipts_of v (transactions_of qs) rows)
      → state_after v (transactions_of ps) rows ≡ state_after v (transactions_of qs) rows
  same_rows ps qs h e =
      let count : length (transactions_of ps) ≡ length (transactions_of qs) = sym (length-receipts v (transactions_of ps) rows) ∙ e ∙ length-receipts v (transactions_of qs) rows in
      ap (λ (xs : List (Option Transaction)). state_after v xs rows) (same_of_length (transactions_of ps) (transactions_of qs) (one_txs ps qs h) count)

-- ---- two books

-- the order of all frames of a feed is that of a part
all_of : (f : FeedValue) (o : Ordered) → IsOrderIn f o → OrdersPart f o
all_of f o h = record { part = later_frames f; within = λ x t. t; ordered = h }

module _ (f g : FeedValue) (b c : BookValue) (good : IsGoodBook f b) (also : IsGoodBook g c) where
  committees : HaveSameSetup b c → committee_in f ≡ committee_in g
  committees s = sym good.book.committee ∙ s.committee ∙ also.book.committee

  -- one setup of the books is one of the feeds
  pub one_setup : HaveSameSetup b c → HaveOneSetup f g
  one_setup s = record {
    opened = good.opened;
    also_opened = also.opened;
    version = sym (committee_version f.version _) ∙ ap (λ (k : CommitteeValue). k.version) (committees s) ∙ committee_version g.version _;
    committee = committees s;
    genesis = sym good.book.opening ∙ s.opening ∙ also.book.opening;
  }

  version_forth : b.taken.committee.version ≡ c.taken.committee.version → f.version ≡ g.version
  version_forth e = sym (committee_version f.version _) ∙ ap (λ (k : CommitteeValue). k.version) (sym good.book.committee) ∙ e
      ∙ ap (λ (k : CommitteeValue). k.version) also.book.committee ∙ committee_version g.version _

  version_back : f.version ≡ g.version → b.taken.committee.version ≡ c.taken.committee.version
  version_back e = ap (λ (k : CommitteeValue). k.version) good.book.committee ∙ committee_version f.version _ ∙ e
      ∙ sym (committee_version g.version _) ∙ ap (λ (k : CommitteeValue). k.version) (sym also.book.committee)

  -- the setups of the feeds differ in the part in which those of the books do
  pub setups_differ : (part : SetupPart) → BooksUnlike b c part → SetupsDiffer part f g
  setups_differ part.Absent h = absurd h
  setups_differ part.Version h = ((good.opened, also.opened), λ e. h (version_back e))
  setups_differ part.Committee h = ((good.opened, also.opened), version_forth h.0, λ e. h.1 (good.book.committee ∙ e ∙ sym also.book.committee))
  setups_differ part.Accounts h = (
    (good.opened, also.opened),
    version_forth (ap (λ (k : CommitteeValue). k.version) h.0),
    sym good.book.committee ∙ h.0 ∙ also.book.committee,
    λ e. h.1 (good.book.opening ∙ e ∙ sym also.book.opening),
  )

  -- what holds of all that was taken holds of the frames of both feeds
  pub of_feeds : (P : CommitteeValue → List Frame → Type 0) → OfTaken b c (P b.taken.committee) → P (committee_in f) (frames_together f g)
  of_feeds P h = subst (λ (k : CommitteeValue). P k (frames_together f g)) good.book.committee (h (later_frames f) (later_frames g) good.book.taken also.book.taken)

  module _ (s : HaveSameSetup b c) (none : HasNoStop (committee_in f) (frames_together f g)) where
    setup : HaveOneSetup f g
    setup = one_setup s

    -- the orders of parts of both agree
    parts : (o p : Ordered) → OrdersPart f o → OrdersPart g p → (OrderBegins o p ⊎ OrderBegins p o) × OneBegins o.payloads.list p.payloads.list
    parts o p h i = parts_agree (committee_in f) h.part i.part (frames_together f g) o p
        (λ x t. Contains-append_left (later_frames f) (later_frames g) x (h.within x t))
        (λ x t. Contains-append_right (later_frames f) (later_frames g) x (i.within x t))
        none h.ordered (subst (λ (k : CommitteeValue). IsOrderOf k i.part p) (sym (committees s)) i.ordered)

    -- nothing stops the frames of one of them
    here_clear : HasNoStop (committee_in f) (later_frames f)
    here_clear = none_in_part (committee_in f) (later_frames f) (frames_together f g) (λ x t. Contains-append_left (later_frames f) (later_frames g) x t) none
        b.taken.kept.certs b.taken.kept.batches (subst (λ (k : CommitteeValue). AreCerts k (later_frames f) b.taken.kept.certs) good.book.committee good.book.taken.certs) good.book.taken.batches

    there_clear : HasNoStop (committee_in g) (later_frames g)
    there_clear = none_in_part (committee_in g) (later_frames g) (frames_together f g) (λ x t. Contains-append_right (later_frames f) (later_frames g) x t)
        (subst (λ (k : CommitteeValue). HasNoStop k (frames_together f g)) (committees s) none)
        c.taken.kept.certs c.taken.kept.batches (subst (λ (k : CommitteeValue). AreCerts k (later_frames g) c.taken.kept.certs) also.book.committee also.book.taken.certs) also.book.taken.batches

    -- the orders of all frames of each agree as far as the shorter one goes
    pub orders_agree : (count m n : ℕ) → HasOrderOf b m → HasOrderOf c n → IsLesser count m n → AgreeInOrder f g count
    orders_agree count m n first second lesser =
        let o = subst (λ (k : CommitteeValue). HasAsOrder k b.taken.kept m) good.book.committee (first good.book.works) (later_frames f)
        (subst (λ (k : CommitteeValue). IsKeptOf k (later_frames f) b.taken.kept) good.book.committee good.book.taken) here_clear in
        let p = subst (λ (k : CommitteeValue). HasAsOrder k c.taken.kept n) also.book.committee (second also.book.works) (later_frames g)
        (subst (λ (k : CommitteeValue). IsKeptOf k (later_frames g) c.taken.kept) also.book.committee also.book.taken) there_clear in
        let begin : OrderBegins o.0 p.0 ⊎ OrderBegins p.0 o.0 = (parts o.0 p.0 (all_of f o.0 o.1) (all_of g p.0 p.1)).0 in
        record {
          order = o.0;
          also = p.0;
          is_order = o.1;
          also_is = p.1;
          anchors = ⊎_elim (λ (t : OrderBegins o.0 p.0). inl t.0) (λ (t : OrderBegins p.0 o.0). inr t.0) begin;
          certs = begins_with count o.0.order p.0.order (⊎_elim (λ (t : OrderBegins o.0 p.0). inl t.1) (λ (t : OrderBegins p.0 o.0). inr t.1) begin)
              (subst (λ (r : ℕ × ℕ). IsLesser count r.0 r.1) (λ i. (o.2 i, p.2 i)) lesser);
        }

    lists : OneBegins good.book.order.payloads.list also.book.order.payloads.list
    lists = (parts good.book.order also.book.order good.book.before also.book.before).1

    receipts_here : receipts_in (Some b) ≡ receipts_of f.version (transactions_of good.book.order.payloads.list) (genesis_of f.frames)
    receipts_here = ap receipts_of_executed good.book.is_done ∙ good.book.executed.receipts

    receipts_there : receipts_in (Some c) ≡ receipts_of f.version (transactions_of also.book.order.payloads.list) (genesis_of f.frames)
    receipts_there = ap receipts_of_executed also.book.is_done ∙ also.book.executed.receipts
        ∙ (λ i. receipts_of (sym (one_setup s).version i) (transactions_of also.book.order.payloads.list) (sym (one_setup s).genesis i))

    rows_here : rows_in (Some b) ≡ state_after f.version (transactions_of good.book.order.payloads.list) (genesis_of f.frames)
    rows_here = ap rows_of_executed good.book.is_done ∙ good.book.executed.rows

    rows_there : rows_in (Some c) ≡ state_after f.version (transactions_of also.book.order.payloads.list) (genesis_of f.frames)
    rows_there = ap rows_of_executed also.book.is_done ∙ also.book.executed.rows
        ∙ (λ i. state_after (sym (one_setup s).version i) (transactions_of also.book.order.payloads.list) (sym (one_setup s).genesis i))

    begin_now : OneBegins (receipts_in (Some b)) (receipts_in (Some c))
    begin_now = subst (λ (p : List Receipt × List Receipt). OneBegins p.0 p.1) (λ i. (sym receipts_here i, sym receipts_there i))
        (one_receipts f.version (genesis_of f.frames) good.book.order.payloads.list also.book.order.payloads.list lists)

    -- what was executed of both agrees
    pub places_agree : (count : ℕ) → IsLesser count (length (receipts_in (Some b))) (length (receipts_in (Some c))) → OneBeginsFor count (receipts_in (Some b)) (receipts_in (Some c))
    places_agree count lesser = begins_with count (receipts_in (Some b)) (receipts_in (Some c)) begin_now lesser

    pub rows_agree : length (receipts_in (Some b)) ≡ length (receipts_in (Some c)) → rows_in (Some b) ≡ rows_in (Some c)
    rows_agree e = rows_here ∙ same_rows f.version (genesis_of f.frames) good.book.order.payloads.list also.book.order.payloads.list lists (sym (ap length receipts_here) ∙ e ∙ ap length receipts_there)
        ∙ sym rows_there

-- ---- two Followers

-- of whatever has come to both, what their books say
of_both : (one other : Followed) (b c : BookValue) (holds : FeedValue → FeedValue → Type 0) → one.book ≡ Some b → other.book ≡ Some c
    → ((f g : FeedValue) → IsGoodBook f b → IsGoodBook g c → holds f g) → OfBoth one other holds
of_both one other b c holds is also h = of_frames one b (λ f. OfFrames other (holds f)) is (λ f good. of_frames other c (holds f) also (λ g fine. h f g good fine))

pub followers_agree : (one other : Followed) (b c : BookValue) (bytes more : List ℕ) (fs gs : List Frame) (a : Agreed) → HasCome bytes fs one → HasCome more gs other → one.book ≡ Some b → other.book ≡ Some c
    → BooksAgree b c a → FollowersAgree one other a
followers_agree one other b c bytes more fs gs a come came is also h =
    let x = good_of bytes fs one b come is in
    let y = good_of more gs other c came also in
    record {
      clear = of_both one other b c HaveNoStop is also (λ f g good fine. (one_setup f g b c good fine h.setup, of_feeds f g b c good fine HasNoStop h.clear));
      orders = of_both one other b c (λ f g. AgreeInOrder f g a.certs) is also (λ f g good fine.
          orders_agree f g b c good fine h.setup (of_feeds f g b c good fine HasNoStop h.clear) a.certs h.first h.second h.first_is h.second_is h.certs);
      places = subst (λ (p : Option BookValue × Option BookValue). OneBeginsFor a.places (receipts_in p.0) (receipts_in p.1)) (λ i. (sym is i, sym also i))
          (places_agree (feed_of x.version fs) (feed_of y.version gs) b c x.good y.good h.setup (of_feeds (feed_of x.version fs) (feed_of y.version gs) b c x.good y.good HasNoStop h.clear) a.places h.places);
      rows = subst (λ (p : Option BookValue × Option BookValue). length (receipts_in p.0) ≡ length (receipts_in p.1) → rows_in p.0 ≡ rows_in p.1) (λ i. (sym is i, sym also i))
          (rows_agree (feed_of x.version fs) (feed_of y.version gs) b c x.good y.good h.setup (of_feeds (feed_of x.version fs) (feed_of y.version gs) b c x.good y.good HasNoStop h.clear));
    }

pub version_is : (v w : Version) (known : Option Version) → known ≡ Some v → known ≡ Some w → v ≡ w
version_is v w known e g = let same : Some v ≡ Some w = sym e ∙ g in cc

-- where there is a book there is a version
has_version : (v : Followed) (b : BookValue) (bytes : List ℕ) (frames : List Frame) → HasCome bytes frames v → v.book ≡ Some b → v.cut.version ≡ None → ⊥
has_version v b bytes frames come is none =
    let h = subst (λ (w : Option Version). Follows w frames v.committee v.book) none come.follows in
    let e : None ≡ Some b = sym h.1 ∙ is in cc

pub followers_differ : (one other : Followed) (b c : BookValue) (bytes more : List ℕ) (fs gs : List Frame) (d : Differ) → HasCome bytes fs one → HasCome more gs other → one.book ≡ Some b → other.book ≡ Some c → BooksDiffer b c d → FollowersDiffer one other d
followers_differ one other b c begun past hs ks (differ.Setup part) first second is also h = (
  λ bytes more fs gs v w come came known named.
      let x = good_of bytes fs one b come is in
      let y = good_of more gs other c came also in
      subst (λ (p : Version × Version). SetupsDiffer part (feed_of p.0 fs) (feed_of p.1 gs)) (λ i. (version_is x.version v one.cut.version x.known known i, version_is y.version w other.cut.version y.known named i))
      (setups_differ (feed_of x.version fs) (feed_of y.version gs) b c x.good y.good part h),
  λ lack. absurd (⊎_elim (has_version one b begun hs first is) (has_version other c past ks second also) lack),
)
followers_differ one other b c begun past hs ks (differ.Collision id) first second is also h =
    of_both one other b c (λ f g. HaveStop f g (stop.Collision id)) is also
    (λ f g good fine. (one_setup f g b c good fine h.0, of_feeds f g b c good fine (λ k fs. IsStop k fs (stop.Collision id)) h.1))
followers_differ one other b c begun past hs ks (differ.Twins round author least next) first second is also h =
    of_both one other b c (λ f g. HaveStop f g (stop.Twins (record { round = round; author = author; first = least; second = next }))) is also
    (λ f g good fine. (one_setup f g b c good fine h.0, of_feeds f g b c good fine (λ k fs. IsStop k fs (stop.Twins (record { round = round; author = author; first = least; second = next }))) h.1))
followers_differ one other b c begun past hs ks differ.Memory first second is also h = of_both one other b c HaveOneSetup is also (λ f g good fine. one_setup f g b c good fine h)

-- where there is no book the genesis is not whole
pub unopened : (v : Followed) (bytes : List ℕ) (frames : List Frame) (version : Version) → v.book ≡ None → HasCome bytes frames v → v.cut.version ≡ Some version → 2 ≤ length frames → ⊥
unopened v bytes frames version none come known two =
    no_book version frames two (subst (FollowsBy version frames v.committee) none (subst (λ (w : Option Version). Follows w frames v.committee v.book) known come.follows))
  where
    no_book : (version : Version) (fs : List Frame) → 2 ≤ length fs → FollowsBy version fs v.committee None → ⊥
    no_book version [] le h = absurd (omega (arith, le))
    no_book version (f ∷ []) le h = absurd (omega (arith, le))
    no_book version (f ∷ g ∷ more) le h = absurd (let e = h.1 in cc)

pub first_unopened : (one other : Followed) → one.book ≡ None → FollowersDiffer one other (differ.Setup part.Absent)
first_unopened one other none = (λ bytes more fs gs v w come came known named opened. unopened one bytes fs v none come known opened.0, λ lack. refl)

pub second_unopened : (one other : Followed) → other.book ≡ None → FollowersDiffer one other (differ.Setup part.Absent)
second_unopened one other none = (λ bytes more fs gs v w come came known named opened. unopened other more gs w none came named opened.1, λ lack. refl)

-- what has come to a Follower, in which no fault is kept
pub record HasSomething (v : Followed) : Type 0 where
  pub bytes : List ℕ
  pub frames : List Frame
  pub come : HasCome bytes frames v

pub something : (cut : Cut) (opened : Opened) (stands : Option Fault) (v : Followed) → follower_of cut opened.committee opened.book stands ≡ v → v.fault ≡ None
    → (stands ≡ None → (bytes : List ℕ) × (frames : List Frame) × HasCome bytes frames (followed cut opened)) → HasSomething v
something cut opened stands v view none inv =
    let open_ : stands ≡ None = ap (λ (w : Followed). w.fault) view ∙ none in
    let i = inv open_ in
    record {
      bytes = i.0;
      frames = i.1;
      come = subst (HasCome i.0 i.1) ((λ j. follower_of cut opened.committee opened.book (sym open_ j)) ∙ view) i.2;
    }
