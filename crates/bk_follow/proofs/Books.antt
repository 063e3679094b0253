-- What is made of the frames of a feed, from the opening to a settle.
use Rattle.std.proofs.Common.{◌≡◌, ℕ, ◌+◌, ◌^◌, ◌<◌, ◌≤◌, List, [], ◌∷◌, ◌++◌, length, map, take, drop, Option, Some, None, false, refl, sym, ap, subst, ◌∙◌, arith, length-append}
use Rattle.std.specs.Prelude.{Contains, option_map}
use Rattle.std.proofs.lemmas.List.{length-map, map-append, take-append-drop, drop_at}
use Rattle.std.proofs.lemmas.List.Elements.{Contains-append_left, Contains-append_right}
use Rattle.std.proofs.lemmas.List.Concat.{flat_map-append}
use Rattle.bk_base.specs.declared.version.Version.{Version}
use Rattle.bk_base.specs.declared.genesis.Row.{Row}
use Rattle.bk_base.specs.Feed.{Frame, FeedValue, IsFeed, feed_of, genesis_of}
use Rattle.bk_base.proofs.Accounts.{genesis_accounts, genesis_few}
use Rattle.bk_committee.specs.Payload.{CommitteeValue, committee_of}
use Rattle.bk_commit.specs.Growth.{IsPartOf, IsPrefix}
use Rattle.bk_order.specs.Intake.{Taken, Kept, HasTaken, IsKeptOf, nothing_ordered}
use Rattle.bk_order.specs.Orders.{Ordered, IsOrderOf}
use Rattle.bk_order.specs.Stops.{HasNoStop, IsStop}
use Rattle.bk_order.specs.declared.stop.Stop.{Stop}
use Rattle.bk_order.specs.declared.stop.Stop.TheVariants as stop
use Rattle.bk_order.proofs.Sets.{frames_grow}
use Rattle.bk_order.proofs.Ordering.{none_ordered}
use Rattle.bk_rules.specs.Fold.{state_after, receipts_of, HasRoom}
use Rattle.bk_rules.proofs.Room.{room_left}
use Rattle.bk_rules.proofs.Folding.{length-receipts, state_append, receipts_append}
use Rattle.bk_tx.specs.Batches.{transactions_in, transactions_of, count_in}
use Rattle.bk_ledger.specs.Ledger.{LedgerValue}
use Rattle.bk_answer.specs.RunReport.{committee_in, later_frames, HasNoStopIn, IsOrderIn, IsStopIn, HasPlaceIn, fault_of}
use Rattle.bk_answer.specs.Closed.{Executed, IsExecuted}
use Rattle.bk_follow.specs.Follower.{BookValue, OrdersPart, IsBookOf, IsCurrent, receipts_of_executed}
use Rattle.bk_follow.specs.private.Books.{IsGoodBook, BookSettleFails}
use Rattle.bk_answer.specs.Closed.{executed_of}
use Rattle.bk_follow.specs.private.Ledgers.{book_with}
use Rattle.bk_pool.specs.declared.outcome.ExecFault.{ExecFault}
use Rattle.bk_pool.specs.declared.outcome.ExecFault.TheVariants.{OutOfMemory, Unfinished}
use Rattle.bk_ledger.specs.Executing.{Leaves}
use Rattle.bk_follow.specs.private.Ledgers.{fault_of_execution}
use Rattle.bk_ledger.specs.Naming.{named_by}
use Rattle.bk_ledger.proofs.Growth.{named-append}
use Rattle.bk_answer.proofs.Counting.{few_places, few_named}

-- ---- the opening

pub committee_version : (v : Version) (payload : List ℕ) → (committee_of v payload).version ≡ v
committee_version v [] = refl
committee_version v (n ∷ bytes) = refl

none_in : {X : Type 0} (xs : List X) → IsPartOf [] xs
none_in xs = λ c h. absurd (let lt = h.1 in omega (arith, lt))

-- no order is that of no frames
nothing_of : (feed : FeedValue) → OrdersPart feed nothing_ordered
nothing_of feed = record { part = []; within = none_in (later_frames feed); ordered = none_ordered (committee_in feed) }

-- the order of all frames of a feed
pub whole_part : (feed : FeedValue) (o : Ordered) → IsOrderIn feed o → OrdersPart feed o
whole_part feed o h = record { part = later_frames feed; within = λ c i. i; ordered = h }

-- the order of a part is that of a part of more frames
part_more : (version : Version) (f g : Frame) (rest more : List Frame) (o : Ordered) → OrdersPart (feed_of version (f ∷ g ∷ rest)) o → OrdersPart (feed_of version ((f ∷ g ∷ rest) ++ more)) o
part_more version f g rest more o h = record { part = h.part; within = λ c i. Contains-append_left rest more c (h.within c i); ordered = h.ordered }

-- the book of the committee and the genesis alone
pub opened_book : (feed : FeedValue) (taken : Taken) (e : Executed) (rows : List Row) → later_frames feed ≡ [] → taken.committee ≡ committee_in feed → HasTaken [] taken → taken.ordered ≡ nothing_ordered → taken.failed ≡ false
    → e.version ≡ taken.committee.version → e.counts ≡ [] → e.receipts ≡ [] → e.rows ≡ rows → rows ≡ genesis_of feed.frames → e.slots ≡ length rows → IsBookOf feed (record { opening = rows; taken = taken; executed = Some e })
opened_book feed taken e rows none same took nothing works version counts receipts rows_are genesis slots = record {
  opening = genesis;
  committee = same;
  taken = subst (λ (fs : List Frame). HasTaken fs taken) (sym none) took;
  works = works;
  found = subst (OrdersPart feed) (sym nothing) (nothing_of feed);
  order = nothing_ordered;
  before = nothing_of feed;
  done = e;
  is_done = refl;
  executed = record {
    version = version ∙ ap (λ (k : CommitteeValue). k.version) same ∙ committee_version feed.version _;
    counts = counts;
    receipts = receipts;
    rows = rows_are ∙ genesis;
    slots = omega (arith, slots, ap length genesis);
  };
}

-- ---- more frames

-- the book of more frames
pub book_more : (version : Version) (before more : List Frame) (old : BookValue) (new : Taken) → 2 ≤ length before → new.committee ≡ old.taken.committee → new.ordered ≡ old.taken.ordered → new.failed ≡ false
    → ((fs : List Frame) → HasTaken fs old.taken → HasTaken (fs ++ more) new) → IsBookOf (feed_of version before) old → IsBookOf (feed_of version (before ++ more)) (record { opening = old.opening; taken = new; executed = old.executed })
book_more version [] more old new two same kept works took b = absurd (omega (arith, two))
book_more version (f ∷ []) more old new two same kept works took b = absurd (omega (arith, two))
book_more version (f ∷ g ∷ rest) more old new two same kept works took b = record {
  opening = b.opening;
  committee = same ∙ b.committee;
  taken = took rest b.taken;
  works = works;
  found = subst (OrdersPart (feed_of version ((f ∷ g ∷ rest) ++ more))) (sym kept) (part_more version f g rest more old.taken.ordered b.found);
  order = b.order;
  before = part_more version f g rest more b.order b.before;
  done = b.done;
  is_done = b.is_done;
  executed = record { version = b.executed.version; counts = b.executed.counts; receipts = b.executed.receipts; rows = b.executed.rows; slots = b.executed.slots };
}

-- ---- a settle

-- where an order goes on after what was executed
pub record GoesOn (e : Executed) (list : List (List ℕ)) : Type 0 where
  pub within : length e.counts ≤ length list
  pub room : HasRoom e.version (length (transactions_of (drop (length e.counts) list))) e.rows
  pub few : length e.receipts + length (transactions_of (drop (length e.counts) list)) < 2 ^ 31
  pub slots : e.slots + named_by (transactions_of (drop (length e.counts) list)) < 2 ^ 31
  pub all : length e.receipts + length (transactions_of (drop (length e.counts) list)) ≡ length (transactions_of list)

later_part : (frames : List Frame) → IsPartOf (drop 2 frames) frames
later_part frames = λ c h. subst (λ (fs : List Frame). Contains fs c) (take-append-drop 2 frames) (Contains-append_right (take 2 frames) (drop 2 frames) c h)

pub feed_good : (feed : FeedValue) (b : BookValue) → IsGoodBook feed b → IsFeed feed
feed_good feed b good = record { good = good.good; opened = good.opened }

-- an order in two parts, of which the first was executed
record InTwo (feed : FeedValue) (o : Ordered) (e : Executed) (list : List (List ℕ)) : Type 0 where
  rest : List (List ℕ)
  both : list ≡ o.payloads.list ++ rest
  dropped : drop (length e.counts) list ≡ rest
  txs : transactions_of list ≡ transactions_of o.payloads.list ++ transactions_of rest

in_two : (feed : FeedValue) (o : Ordered) (e : Executed) (list : List (List ℕ)) → IsExecuted feed o e → IsPrefix o.payloads.list list → InTwo feed o e list
in_two feed o e list x begins =
    let count : length e.counts ≡ length o.payloads.list = ap length x.counts ∙ length-map o.payloads.list count_in in
    record {
      rest = begins.0;
      both = begins.1;
      dropped = ap (drop (length e.counts)) begins.1 ∙ drop_at o.payloads.list begins.0 (length e.counts) (sym count);
      txs = ap transactions_of begins.1 ∙ flat_map-append transactions_in o.payloads.list begins.0;
    }

begins_now : (feed : FeedValue) (old : BookValue) (now : Ordered) → (good : IsGoodBook feed old) → HasNoStopIn feed → IsOrderIn feed now → IsPrefix good.book.order.payloads.list now.payloads.list
begins_now feed old now good clear ordered = (frames_grow (committee_in feed) good.book.before.part (later_frames feed) good.book.order now good.book.before.within clear good.book.before.ordered ordered).2

pub goes_on : (feed : FeedValue) (old : BookValue) (now : Ordered) (good : IsGoodBook feed old) → HasNoStopIn feed → IsOrderIn feed now → GoesOn good.book.done now.payloads.list
goes_on feed old now good clear ordered =
    let e = good.book.done in
    let x = good.book.executed in
    let before = good.book.order.payloads.list in
    let t = in_two feed good.book.order e now.payloads.list x (begins_now feed old now good clear ordered) in
    let count : length e.counts ≡ length before = ap length x.counts ∙ length-map before count_in in
    let receipts : length e.receipts ≡ length (transactions_of before) = ap length x.receipts ∙ length-receipts feed.version (transactions_of before) (genesis_of feed.frames) in
    let tail : length (transactions_of (drop (length e.counts) now.payloads.list)) ≡ length (transactions_of t.rest) = ap (λ (l : List (List ℕ)). length (transactions_of l)) t.dropped in
    let txs : length (transactions_of now.payloads.list) ≡ length (transactions_of before) + length (transactions_of t.rest) = ap length t.txs ∙ length-append (transactions_of before) (transactions_of t.rest) in
    let few = few_places feed.version (committee_in feed) feed.frames (later_frames feed) now good.good (later_part feed.frames) ordered in
    let named = few_named feed.version (committee_in feed) feed.frames (later_frames feed) now good.good (later_part feed.frames) ordered in
    let all : length e.receipts + length (transactions_of (drop (length e.counts) now.payloads.list)) ≡ length (transactions_of now.payloads.list) = omega (arith, receipts, tail, txs) in
    let sum : length (transactions_of before) + length (transactions_of t.rest) < 2 ^ 63 = omega (arith, txs, few) in
    record {
      within = omega (arith, count, ap length t.both, length-append before t.rest);
      room = subst (λ (p : Version × ℕ × List Row). HasRoom p.0 p.1 p.2) (λ i. (sym x.version i, sym tail i, sym x.rows i))
          (room_left feed.version (transactions_of before) (length (transactions_of t.rest)) (genesis_of feed.frames) (genesis_accounts feed.version feed.frames (feed_good feed old good)) sum);
      few = omega (arith, all, few);
      slots = omega (arith, x.slots, named, genesis_few feed.frames, ap (λ (l : List (List ℕ)). named_by (transactions_of l)) t.dropped, ap named_by t.txs, named-append (transactions_of before) (transactions_of t.rest));
      all = all;
    }

-- what an execution of the rest of an order gives
pub record Executes (e f : Executed) (list : List (List ℕ)) : Type 0 where
  pub version : f.version ≡ e.version
  pub counts : f.counts ≡ e.counts ++ map count_in (drop (length e.counts) list)
  pub receipts : f.receipts ≡ e.receipts ++ receipts_of e.version (transactions_of (drop (length e.counts) list)) e.rows
  pub rows : f.rows ≡ state_after e.version (transactions_of (drop (length e.counts) list)) e.rows
  pub slots : f.slots ≤ e.slots + named_by (transactions_of (drop (length e.counts) list))

-- the fold of a front and then of the rest is the fold of both
executed_all : (feed : FeedValue) (o now : Ordered) (e f : Executed) → IsExecuted feed o e → IsPrefix o.payloads.list now.payloads.list → Executes e f now.payloads.list → IsExecuted feed now f
executed_all feed o now e f x begins r =
    let before = o.payloads.list in
    let t = in_two feed o e now.payloads.list x begins in
    let genesis = genesis_of feed.frames in
    record {
      version = r.version ∙ x.version;
      counts = r.counts ∙ (λ i. x.counts i ++ map count_in (t.dropped i)) ∙ sym (map-append count_in before t.rest) ∙ sym (ap (map count_in) t.both);
      receipts = r.receipts ∙ (λ i. x.receipts i ++ receipts_of (x.version i) (transactions_of (t.dropped i)) (x.rows i))
          ∙ sym (receipts_append feed.version (transactions_of before) (transactions_of t.rest) genesis) ∙ sym (ap (λ (txs : List (Option _)). receipts_of feed.version txs genesis) t.txs);
      rows = r.rows ∙ (λ i. state_after (x.version i) (transactions_of (t.dropped i)) (x.rows i))
          ∙ sym (state_append feed.version (transactions_of before) (transactions_of t.rest) genesis) ∙ sym (ap (λ (txs : List (Option _)). state_after feed.version txs genesis) t.txs);
      slots = omega (arith, r.slots, x.slots, ap (λ (l : List (List ℕ)). named_by (transactions_of l)) t.dropped, ap named_by t.txs, named-append (transactions_of before) (transactions_of t.rest));
    }

-- the book that a settle leaves
pub settled_book : (feed : FeedValue) (old : BookValue) (new : Taken) (f : Executed) (good : IsGoodBook feed old) → new.committee ≡ old.taken.committee → new.kept ≡ old.taken.kept → new.failed ≡ false → HasNoStopIn feed → IsOrderIn feed new.ordered
    → Executes good.book.done f new.ordered.payloads.list → IsCurrent feed (record { opening = old.opening; taken = new; executed = Some f })
settled_book feed old new f good same kept works clear ordered r =
    let b = good.book in
    let all = executed_all feed b.order new.ordered b.done f b.executed (begins_now feed old new.ordered good clear ordered) r in
    record {
      book = record {
        opening = b.opening;
        committee = same ∙ b.committee;
        taken = subst (λ (p : CommitteeValue × Kept). IsKeptOf p.0 (later_frames feed) p.1) (λ i. (sym same i, sym kept i)) b.taken;
        works = works;
        found = whole_part feed new.ordered ordered;
        order = new.ordered;
        before = whole_part feed new.ordered ordered;
        done = f;
        is_done = refl;
        executed = all;
      };
      clear = clear;
      ordered = ordered;
      done = f;
      is_done = refl;
      executed = all;
    }

-- the stop, or that there is none, of what was taken is that of the feed
pub clear_in : (feed : FeedValue) (b : BookValue) → IsBookOf feed b → HasNoStop b.taken.committee (later_frames feed) → HasNoStopIn feed
clear_in feed b book h = subst (λ (k : CommitteeValue). HasNoStop k (later_frames feed)) book.committee h

pub stop_in : (feed : FeedValue) (b : BookValue) (s : Stop) → IsBookOf feed b → IsStop b.taken.committee (later_frames feed) s → IsStopIn feed (fault_of s)
stop_in feed b (stop.Collision id) book h = subst (λ (k : CommitteeValue). IsStop k (later_frames feed) (stop.Collision id)) book.committee h
stop_in feed b (stop.Twins e) book h = subst (λ (k : CommitteeValue). IsStop k (later_frames feed) (stop.Twins e)) book.committee h

pub order_in_feed : (feed : FeedValue) (b : BookValue) (new : Taken) → IsBookOf feed b → new.committee ≡ b.taken.committee → IsOrderOf new.committee (later_frames feed) new.ordered → IsOrderIn feed new.ordered
order_in_feed feed b new book same h = subst (λ (k : CommitteeValue). IsOrderOf k (later_frames feed) new.ordered) (same ∙ book.committee) h

-- ---- what a settle does to a ledger

-- the order of what was taken is settled, and nothing stops it
pub record IsSettling (intake now : Taken) : Type 0 where
  pub same : now.committee ≡ intake.committee
  pub kept : now.kept ≡ intake.kept
  pub works : now.failed ≡ false
  pub clear : (frames : List Frame) → HasTaken frames intake → HasNoStop intake.committee frames
  pub order : (frames : List Frame) → HasTaken frames now → HasNoStop now.committee frames → IsOrderOf now.committee frames now.ordered

-- the feed has no stop, and this is its order
record IsFound (feed : FeedValue) (now : Taken) : Type 0 where
  clear : HasNoStopIn feed
  ordered : IsOrderIn feed now.ordered

found_in : (feed : FeedValue) (old : BookValue) (now : Taken) → IsSettling old.taken now → IsGoodBook feed old → IsFound feed now
found_in feed old now s good =
    let b = good.book in
    let clear = s.clear (later_frames feed) b.taken in
    let taken : HasTaken (later_frames feed) now = subst (λ (p : CommitteeValue × Kept). IsKeptOf p.0 (later_frames feed) p.1) (λ i. (sym s.same i, sym s.kept i)) b.taken in
    let order = s.order (later_frames feed) taken (subst (λ (k : CommitteeValue). HasNoStop k (later_frames feed)) (sym s.same) clear) in
    record {
      clear = clear_in feed old b clear;
      ordered = order_in_feed feed old now b s.same order;
    }

done_is : (l : LedgerValue) (taken : Taken) (ledger : Option LedgerValue) (opening : List Row) (done : Executed) → ledger ≡ Some l → (book_with taken ledger opening).executed ≡ Some done → done ≡ executed_of l
done_is l taken ledger opening done is is_done = let e : Some done ≡ Some (executed_of l) = sym is_done ∙ ap (option_map executed_of) is in cc

-- and a good book has executed something
pub no_ledger : (feed : FeedValue) (taken : Taken) (ledger : Option LedgerValue) (opening : List Row) → IsGoodBook feed (book_with taken ledger opening) → ledger ≡ None → ⊥
no_ledger feed taken ledger opening good none =
    absurd (let e : None ≡ Some good.book.done = sym (ap (option_map executed_of) none) ∙ good.book.is_done in cc)

pub ledger_next : (feed : FeedValue) (intake now : Taken) (ledger : Option LedgerValue) (opening : List Row) (l : LedgerValue) → IsSettling intake now → ledger ≡ Some l → IsGoodBook feed (book_with intake ledger opening) → GoesOn (executed_of l) now.ordered.payloads.list
ledger_next feed intake now ledger opening l s is good =
    let f = found_in feed (book_with intake ledger opening) now s good in
    subst (λ (e : Executed). GoesOn e now.ordered.payloads.list) (done_is l intake ledger opening good.book.done is good.book.is_done) (goes_on feed (book_with intake ledger opening) now.ordered good f.clear f.ordered)

pub ledger_done : (feed : FeedValue) (intake now : Taken) (ledger : Option LedgerValue) (opening : List Row) (l m : LedgerValue) → IsSettling intake now → ledger ≡ Some l → IsGoodBook feed (book_with intake ledger opening) → Executes (executed_of l) (executed_of m) now.ordered.payloads.list → IsCurrent feed (book_with now (Some m) opening)
ledger_done feed intake now ledger opening l m s is good r =
    let f = found_in feed (book_with intake ledger opening) now s good in
    settled_book feed (book_with intake ledger opening) now (executed_of m) good s.same s.kept s.works f.clear f.ordered
    (subst (λ (e : Executed). Executes e (executed_of m) now.ordered.payloads.list) (sym (done_is l intake ledger opening good.book.done is good.book.is_done)) r)

pub ledger_place : (feed : FeedValue) (intake now : Taken) (ledger : Option LedgerValue) (opening : List Row) (l : LedgerValue) (place : ℕ) → IsSettling intake now → ledger ≡ Some l → IsGoodBook feed (book_with intake ledger opening)
    → place < length l.receipts + length (transactions_of (drop (length l.counts) now.ordered.payloads.list)) → HasPlaceIn feed place
ledger_place feed intake now ledger opening l place s is good lt =
    let f = found_in feed (book_with intake ledger opening) now s good in
    let n = ledger_next feed intake now ledger opening l s is good in
    (f.clear, (now.ordered, f.ordered, omega (arith, lt, n.all)))

-- nothing stops the feed whose book is settled
pub ledger_clear : (feed : FeedValue) (intake now : Taken) (ledger : Option LedgerValue) (opening : List Row) → IsSettling intake now → IsGoodBook feed (book_with intake ledger opening) → HasNoStopIn feed
ledger_clear feed intake now ledger opening s good = (found_in feed (book_with intake ledger opening) now s good).clear

-- a ledger has the receipts of what its book has executed
pub ledger_first : (intake : Taken) (ledger : Option LedgerValue) (opening : List Row) (l : LedgerValue) → ledger ≡ Some l → length (receipts_of_executed (book_with intake ledger opening).executed) ≡ length l.receipts
ledger_first intake ledger opening l is = ap (λ (o : Option LedgerValue). length (receipts_of_executed (option_map executed_of o))) is

-- why executing failed is why the settle did
pub execution_fails : (old new : BookValue) (first end : ℕ) (x : ExecFault) → length (receipts_of_executed old.executed) ≡ first → ((feed : FeedValue) → IsGoodBook feed old → HasNoStopIn feed) → ((feed : FeedValue) (place : ℕ) → IsGoodBook feed old → place < end → HasPlaceIn feed place)
    → Leaves first end x → BookSettleFails old new (fault_of_execution x)
execution_fails old new first end OutOfMemory begins clear there h = clear
execution_fails old new first end (Unfinished place) begins clear there h = (λ feed good. there feed place good h.1, omega (arith, h.0, begins))
