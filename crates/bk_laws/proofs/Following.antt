-- What a Follower finds at one moment and at a later one.
use Rattle.std.proofs.Common.{◌≡◌, ◌∙◌, ℕ, List, [], ◌∷◌, ◌++◌, sym, ap, subst, refl, Option, Some, None, ◌<◌, length, arith, append_assoc}
use Rattle.std.proofs.lemmas.List.Elements.{Contains-append_left}
use Rattle.bk_frames.specs.declared.fault.FeedFault.{FeedFault}
use Rattle.bk_base.specs.declared.version.Version.{Version}
use Rattle.bk_frames.specs.Cutting.{Cut, Cuts, Reaches, RefusesPiece, ShowsFault, fresh}
use Rattle.bk_base.specs.Feed.{Frame, feed_of, genesis_of, magic}
use Rattle.bk_frames.specs.FirstFault.{HasFault}
use Rattle.bk_frames.specs.Pulling.{ByCode}
use Rattle.bk_frames.proofs.CutJoining.{bytes_so_far, fault_is_the_feeds, none_before_magic}
use Rattle.bk_frames.proofs.FrameFaults.{by_code}
use Rattle.bk_frames.proofs.FrontAndWhole.{fault_stays}
use Rattle.bk_frames.proofs.OneReading.{magic_and, magic_injective}
use Rattle.bk_cert.specs.declared.place.CertRef.{CertRef}
use Rattle.bk_commit.specs.Growth.{IsPrefix, IsPartOf}
use Rattle.bk_order.specs.Orders.{IsOrderOf, Ordered}
use Rattle.bk_order.specs.Stops.{HasNoStop}
use Rattle.bk_order.proofs.Sets.{frames_grow}
use Rattle.bk_rules.specs.Fold.{receipts_of}
use Rattle.bk_tx.specs.Batches.{transactions_of}
use Rattle.bk_follow.specs.Follower.{BookValue, Followed, Follows, FollowsBy, HasCome, IsCurrent, IsSettled, IsSettledBy, OrdersPart, executed_in, receipts_in, receipts_of_executed}
use Rattle.bk_answer.specs.Closed.{Executed, IsExecuted}
use Rattle.bk_follow.specs.Ordering.{AreOrderedIn, IsOrderSoFar}
use Rattle.bk_answer.specs.RunReport.{committee_in}
use Rattle.bk_laws.proofs.Growing.{receipts_begin}

-- ---- the first fault

pub names_first : (c : Cut) (bytes piece rest : List ℕ) (frames : List Frame) (found : FeedFault) → Cuts fresh bytes frames c → RefusesPiece c piece found
    → ByCode found.code ⊥ (Unit {0}) (HasFault ((bytes ++ piece) ++ rest) found)
names_first c bytes piece rest frames found cuts refuses =
    by_code found.code ⊥ (Reaches c piece found.offset) (ShowsFault c piece found) ⊥ (Unit {0}) (HasFault ((bytes ++ piece) ++ rest) found) (λ h. h) (λ h. tt)
    (λ s. fault_stays (bytes ++ piece) rest found (fault_is_the_feeds bytes piece frames c found cuts s) refuses.shown_already) refuses.cause

-- ---- one version

-- the magic stands first
front : (bytes : List ℕ) (frames : List Frame) (c : Cut) (version : Version) → Cuts fresh bytes frames c → c.version ≡ Some version
    → (rest : List ℕ) × (bytes ≡ magic version ++ rest)
front bytes frames c version cuts is =
    let b = (bytes_so_far bytes frames c version cuts is).0 in
    (_, b.spelled ∙ magic_and (feed_of version frames) c.kept)

pub one_version : (bytes more : List ℕ) (frames others : List Frame) (c d : Cut) (v w : Version) → Cuts fresh bytes frames c → Cuts fresh (bytes ++ more) others d
    → c.version ≡ Some v → d.version ≡ Some w → v ≡ w
one_version bytes more frames others c d v w cuts then is also =
    let first = front bytes frames c v cuts is in
    let second = front (bytes ++ more) others d w then also in
    (magic_injective v w (first.0 ++ more) second.0 (sym (append_assoc (magic v) first.0 more) ∙ (sym (ap (λ (t : List ℕ). t ++ more) first.1) ∙ second.1))).0

-- ---- the order goes on

begins_empty : {X : Type 0} (xs ys : List X) → xs ≡ [] → IsPrefix xs ys
begins_empty xs ys e = (ys, ap (λ t. t ++ ys) (sym e))

begins_as : {X : Type 0} (a b xs ys : List X) → a ≡ xs → b ≡ ys → IsPrefix xs ys → IsPrefix a b
begins_as a b xs ys e f h = (h.0, f ∙ (h.1 ∙ ap (λ t. t ++ h.0) (sym e)))

-- the frames after the genesis, and those after more have come
is_part : (xs ys : List Frame) → IsPartOf xs (xs ++ ys)
is_part xs ys = λ c h. Contains-append_left xs ys c h

pub grows : (version : Version) (first second : Frame) (frames next : List Frame) (o p : Ordered)
    → HasNoStop (committee_in (feed_of version (first ∷ second ∷ frames))) (frames ++ next)
    → IsOrderOf (committee_in (feed_of version (first ∷ second ∷ frames))) frames o
    → IsOrderOf (committee_in (feed_of version (first ∷ second ∷ frames))) (frames ++ next) p
    → IsPrefix o.anchors p.anchors × IsPrefix o.order p.order × IsPrefix o.payloads.list p.payloads.list
grows version first second frames next o p clear one more =
    frames_grow (committee_in (feed_of version (first ∷ second ∷ frames))) frames (frames ++ next) o p (is_part frames next) clear one more

order_goes_on : (version : Version) (first second : Frame) (frames next : List Frame) (anchors certs later_anchors later_certs : List CertRef)
    → AreOrderedIn (feed_of version (first ∷ second ∷ frames)) anchors certs
    → AreOrderedIn (feed_of version (first ∷ second ∷ (frames ++ next))) later_anchors later_certs
    → IsPrefix anchors later_anchors × IsPrefix certs later_certs
order_goes_on version first second frames next anchors certs later_anchors later_certs a b =
    let g = grows version first second frames next a.order b.order b.clear a.is_order b.is_order in (
      begins_as anchors later_anchors a.order.anchors b.order.anchors a.anchors_are b.anchors_are g.0,
      begins_as certs later_certs a.order.order b.order.order a.certs_are b.certs_are g.1,
    )

few_frames : (v : Followed) (bytes : List ℕ) (frames : List Frame) (anchors certs later_anchors later_certs : List CertRef) → HasCome bytes frames v → IsOrderSoFar v anchors certs
    → length frames < 2 → IsPrefix anchors later_anchors × IsPrefix certs later_certs
few_frames v bytes frames anchors certs later_anchors later_certs come o few =
    let none = o.none bytes frames come few in
    (begins_empty anchors later_anchors none.0, begins_empty certs later_certs none.1)

pub order_so_far_stays : (v w : Followed) (bytes more : List ℕ) (frames next : List Frame) (anchors certs later_anchors later_certs : List CertRef)
    → HasCome bytes frames v → HasCome (bytes ++ more) (frames ++ next) w → IsOrderSoFar v anchors certs → IsOrderSoFar w later_anchors later_certs
    → IsPrefix anchors later_anchors × IsPrefix certs later_certs
order_so_far_stays v w bytes more [] next anchors certs later_anchors later_certs come then o p =
    few_frames v bytes [] anchors certs later_anchors later_certs come o (omega arith)
order_so_far_stays v w bytes more (a ∷ []) next anchors certs later_anchors later_certs come then o p =
    few_frames v bytes (a ∷ []) anchors certs later_anchors later_certs come o (omega arith)
order_so_far_stays v w bytes more (a ∷ b ∷ frames) next anchors certs later_anchors later_certs come then o p =
    let here = o.ordered bytes (a ∷ b ∷ frames) come (omega arith) in
    let there = p.ordered (bytes ++ more) (a ∷ b ∷ (frames ++ next)) then (omega arith) in
    let same : here.0 ≡ there.0 = one_version bytes more (a ∷ b ∷ frames) (a ∷ b ∷ (frames ++ next)) v.cut w.cut here.0 there.0 come.cuts then.cuts here.1 there.1 in
    order_goes_on there.0 a b frames next anchors certs later_anchors later_certs
    (subst (λ (x : Version). AreOrderedIn (feed_of x (a ∷ b ∷ frames)) anchors certs) same here.2) there.2

-- ---- the receipts go on

receipts_as : (book : Option BookValue) (done : Executed) → executed_in book ≡ Some done → receipts_in book ≡ done.receipts
receipts_as book done is = ap receipts_of_executed is

receipts_go_on : (version : Version) (first second : Frame) (frames next : List Frame) (b c : BookValue)
    → IsCurrent (feed_of version (first ∷ second ∷ frames)) b → IsCurrent (feed_of version (first ∷ second ∷ (frames ++ next))) c
    → IsPrefix (receipts_in (Some b)) (receipts_in (Some c))
receipts_go_on version first second frames next b c x y =
    let g = grows version first second frames next b.taken.ordered c.taken.ordered y.clear x.ordered y.ordered in
    let rows = genesis_of (first ∷ second ∷ frames) in
    let r = receipts_begin version b.taken.ordered.payloads.list c.taken.ordered.payloads.list rows g.2 in
    let ours : receipts_in (Some b) ≡ receipts_of version (transactions_of b.taken.ordered.payloads.list) rows = receipts_as (Some b) x.done x.is_done ∙ x.executed.receipts in
    let later : receipts_in (Some c) ≡ receipts_of version (transactions_of c.taken.ordered.payloads.list) rows = receipts_as (Some c) y.done y.is_done ∙ y.executed.receipts in
    begins_as _ _ _ _ ours later r

no_receipts : (book : Option BookValue) → book ≡ None → receipts_in book ≡ []
no_receipts book is = ap receipts_in is

settled_as : (version : Version) (frames : List Frame) (book : Option BookValue) (b : BookValue) → book ≡ Some b → IsSettledBy (Some version) frames book
    → IsCurrent (feed_of version frames) b
settled_as version frames book b is h = subst (λ (o : Option BookValue). IsSettledBy (Some version) frames o) is h

not_nothing : (x : Frame) (xs : List Frame) → x ∷ xs ≡ [] → ⊥
not_nothing x xs e = absurd (cc)

by_books : (ov ow : Option Version) (frames next : List Frame) (k l : _) (book later : Option BookValue)
    → Follows ov frames k book → Follows ow (frames ++ next) l later
    → ((x y : Version) → ov ≡ Some x → ow ≡ Some y → x ≡ y) → (ow ≡ None → frames ++ next ≡ [])
    → IsSettledBy ov frames book → IsSettledBy ow (frames ++ next) later → IsPrefix (receipts_in book) (receipts_in later)
by_books None ow frames next k l book later f g same none s t = begins_empty _ _ (no_receipts book f.1)
by_books (Some x) ow [] next k l book later f g same none s t = begins_empty _ _ (no_receipts book f.1)
by_books (Some x) ow (a ∷ []) next k l book later f g same none s t = begins_empty _ _ (no_receipts book f.1)
by_books (Some x) None (a ∷ b ∷ frames) next k l book later f g same none s t = absurd (not_nothing a (b ∷ (frames ++ next)) (none refl))
by_books (Some x) (Some y) (a ∷ b ∷ frames) next k l book later (one, is, ours) (two, also, theirs) same none s t =
    let x_is : x ≡ y = same x y refl refl in
    let here : IsCurrent (feed_of y (a ∷ b ∷ frames)) one = subst (λ (z : Version). IsCurrent (feed_of z (a ∷ b ∷ frames)) one) x_is (settled_as x (a ∷ b ∷ frames) book one is s) in
    let there : IsCurrent (feed_of y (a ∷ b ∷ (frames ++ next))) two = settled_as y (a ∷ b ∷ (frames ++ next)) later two also t in
    begins_as _ _ _ _ (ap receipts_in is) (ap receipts_in also) (receipts_go_on y a b frames next one two here there)

pub receipts_stay : (v w : Followed) (bytes more : List ℕ) (frames next : List Frame) → HasCome bytes frames v → HasCome (bytes ++ more) (frames ++ next) w
    → IsSettled frames v → IsSettled (frames ++ next) w → IsPrefix (receipts_in v.book) (receipts_in w.book)
receipts_stay v w bytes more frames next come then s t =
    by_books v.cut.version w.cut.version frames next _ _ v.book w.book come.follows then.follows
    (λ x y is also. one_version bytes more frames (frames ++ next) v.cut w.cut x y come.cuts then.cuts is also)
    (λ none. (none_before_magic (bytes ++ more) (frames ++ next) w.cut then.cuts none).0) s t

-- ---- what is executed

nothing_executed : (book : Option BookValue) (done : Executed) → book ≡ None → executed_in book ≡ Some done → ⊥
nothing_executed book done none is = absurd (let e : None ≡ Some done = sym (ap executed_in none) ∙ is in cc)

of_book : (version : Version) (frames : List Frame) (k : _) (book : Option BookValue) (done : Executed) → FollowsBy version frames k book → executed_in book ≡ Some done
    → (o : Ordered) × OrdersPart (feed_of version frames) o × IsExecuted (feed_of version frames) o done
of_book version [] k book done f is = absurd (nothing_executed book done f.1 is)
of_book version (a ∷ []) k book done f is = absurd (nothing_executed book done f.1 is)
of_book version (a ∷ b ∷ frames) k book done (it, book_is, of) is =
    let same : of.done ≡ done = let e : Some of.done ≡ Some done = sym of.is_done ∙ (sym (ap executed_in book_is) ∙ is) in cc in
    (of.order, of.before, subst (λ (e : Executed). IsExecuted (feed_of version (a ∷ b ∷ frames)) of.order e) same of.executed)

pub executed_is_fold : (v : Followed) (bytes : List ℕ) (frames : List Frame) (version : Version) (done : Executed) → HasCome bytes frames v → v.cut.version ≡ Some version
    → executed_in v.book ≡ Some done → (o : Ordered) × OrdersPart (feed_of version frames) o × IsExecuted (feed_of version frames) o done
executed_is_fold v bytes frames version done come is done_is =
    of_book version frames _ v.book done (subst (λ (o : Option Version). Follows o frames v.committee v.book) is come.follows) done_is
