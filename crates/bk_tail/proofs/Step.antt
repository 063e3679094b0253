-- The rows of the places that a settle executed.
use Rattle.std.proofs.Common.{◌≡◌, ◌∙◌, ℕ, ◌+◌, ◌*◌, ◌^◌, ◌<◌, ◌≤◌, Bool, List, [], ◌++◌, length, take, Option, Some, None, refl, sym, ap, subst, length-append, arith}
use Rattle.std.proofs.lemmas.List.{take_at}
use Rattle.std.specs.Prelude.{IfErr, IfSome, OnOk, Result, Ok, Err}
use Rattle.bk_base.specs.declared.genesis.Row.{Row}
use Rattle.bk_base.specs.declared.version.Version.{Version}
use Rattle.bk_base.specs.Feed.{Frame, FeedValue, feed_of, genesis_of}
use Rattle.bk_commit.specs.Growth.{IsPrefix}
use Rattle.bk_frames.specs.Device.{Device}
use Rattle.bk_order.specs.Intake.{nothing_ordered}
use Rattle.bk_order.specs.Orders.{Ordered}
use Rattle.bk_results.specs.declared.fault.Fault.{Fault}
use Rattle.bk_results.specs.declared.fault.Fault.TheVariants as fault
use Rattle.bk_tx.specs.Batches.{transactions_of}
use Rattle.bk_answer.specs.Answers.{IsMadeOf}
use Rattle.bk_answer.specs.Closed.{ClosedValue, IsClosedFor, OrderValue}
use Rattle.bk_follow.specs.Follower.{BookValue, Followed, HasCome, IsSettled, executed_in}
use Rattle.bk_follow.specs.Queries.{IsClosedBook}
use Rattle.bk_follow.proofs.ClosedBooks.{closed_for}
use Rattle.bk_tables.specs.Growing.{Shown, ShowsAll, ShowsFirst, none_shown}
use Rattle.bk_tables.proofs.PostingTables.{few_transactions}
use Rattle.bk_tail.specs.Tailing.{TableSoFar}
use Rattle.bk_tables.specs.Kinds.{AboutAccounts, IsMore, IsTextOf, MoreIsPut, PutsMore, TableKind, payloads_in}
use Rattle.bk_tail.specs.private.Putting.{IsPutOn, PutNot, WherePut}
use Rattle.bk_tail.specs.private.Steps.{Advanced}
use Rattle.bk_tail.proofs.Growing.{IsBookAt, begins, book_at, holds_longer, none_put, put_longer, put_more, put_stops, same_version}
use Rattle.bk_tail.proofs.OneVersion.{known_before}
use Rattle.bk_tail.proofs.Places.{out_so_far}

-- ---- the batches that a table shows

pub shows_first : (xs payloads : List (List ℕ)) (s : Shown) → IsPrefix xs payloads → ShowsAll xs s → ShowsFirst payloads s
shows_first xs payloads s begins all = record {
  within = let n = ap length begins.1 in let m = length-append xs begins.0 in omega (arith, n, m, all.batches);
  places = all.places ∙ ap (λ (ps : List (List ℕ)). length (transactions_of ps)) (sym (ap (take s.batch) begins.1 ∙ take_at xs begins.0 s.batch (sym all.batches)));
}

-- ---- the rows that a settle adds

module _ (k : TableKind) (is_text : IsTextOf k) (bytes : List ℕ) (frames : List Frame) (v : Followed) (b : BookValue) (c : ClosedValue) (first now : Device) (rows : Shown) (holds : AboutAccounts) (done : Ordered)
    (come : HasCome bytes frames v) (settled : IsSettled frames v) (is : v.book ≡ Some b) (h : IsClosedBook b c) (p : IsPutOn k bytes frames v first now rows holds done) where
  at : IsBookAt bytes frames v b
  at = book_at bytes frames v b come settled is

  abbrev feed : FeedValue
  feed = feed_of at.version frames

  closed : IsClosedFor feed c
  closed = closed_for feed b c at.current h

  -- it was made of a feed
  pub made : (feed : FeedValue) × IsMadeOf c feed
  made = (feed, (at.good, closed))

  same : c.order.taken.ordered ≡ b.taken.ordered
  same = ap (λ (o : OrderValue). o.taken.ordered) h.order

  longer : IsPrefix done.payloads.list b.taken.ordered.payloads.list
  longer = begins k bytes frames v b first now rows.page done come at p.table

  pub shows : ShowsFirst (payloads_in c) rows
  shows = subst (λ (o : Ordered). ShowsFirst o.payloads.list rows) (sym same) (shows_first done.payloads.list b.taken.ordered.payloads.list rows longer p.shows)

  -- the batches that are shown
  are_shown : take rows.batch (payloads_in c) ≡ done.payloads.list
  are_shown = ap (λ (o : Ordered). take rows.batch o.payloads.list) same ∙ ap (take rows.batch) longer.1 ∙ take_at done.payloads.list longer.0 rows.batch (sym p.shows.batches)

  -- what is said of the accounts, of what was made
  pub held : holds c.ledger.state.version c.order.opening (take rows.batch (payloads_in c))
  held =
      let after : holds at.version (genesis_of frames) done.payloads.list = p.after at.version at.known at.good.opened in
      subst (λ (x : Version × List Row × List (List ℕ)). holds x.0 x.1 x.2) (λ i. (sym closed.executed.version i, sym closed.order.opening i, sym are_shown i)) after

  grows : (more : List ℕ) → IsMore k c rows.batch more → k.rows at.version (genesis_of frames) b.taken.ordered.payloads.list ≡ k.rows at.version (genesis_of frames) done.payloads.list ++ more
  grows more is =
      let moved : (payloads : List (List ℕ)) → k.rows c.ledger.state.version c.order.opening payloads ≡ k.rows at.version (genesis_of frames) payloads = λ payloads i. k.rows (closed.executed.version i) (closed.order.opening i) payloads in
      ap (λ (o : Ordered). k.rows at.version (genesis_of frames) o.payloads.list) (sym same) ∙ sym (moved (payloads_in c)) ∙ is
      ∙ ap (λ (t : List ℕ). t ++ more) (moved (take rows.batch (payloads_in c)) ∙ ap (k.rows at.version (genesis_of frames)) are_shown)

  within : length (k.header ++ p.table.shown) ≤ 1800 * rows.place + 100
  within = omega (arith, p.table.short, p.shows.places)

  -- their rows are put
  pub step_put : {X : Type 0} (x : X) (later : Device) (after : Shown) (holds' : AboutAccounts) → PutsMore {X = X} (Ok x) k c rows after now later → holds' c.ledger.state.version c.order.opening (payloads_in c)
      → (d : Ordered) × IsPutOn k bytes frames v first later after holds' d × IfSome v.book (λ b. d ≡ b.taken.ordered)
  step_put {X} x later after holds' m known = (
    b.taken.ordered,
    record {
      table = put_more k bytes frames v b first now rows.page done come at p.table m.more (grows m.more m.is_more) (is_text feed b.taken.ordered at.current.clear at.current.ordered) later after.page m.puts
          (let all = ap (λ (o : Ordered). length (transactions_of o.payloads.list)) same in omega (arith, all, m.size, m.all.places, p.shows.places))
          (m.out first (k.header ++ p.table.shown) p.table.put within);
      shows = subst (λ (o : Ordered). ShowsAll o.payloads.list after) same m.all;
      few = let few = few_transactions c made in let here = m.all.places in omega (arith, few, here);
      before = λ short. absurd (let two = at.good.opened in omega (arith, short, two));
      after = λ version is two.
          subst (λ (x : Version × List Row × Ordered). holds' x.0 x.1 x.2.payloads.list)
          (λ i. ((closed.executed.version ∙ same_version v.cut.version at.version version at.known is) i, closed.order.opening i, same i)) known;
    },
    subst (λ (o : Option BookValue). IfSome o (λ x. b.taken.ordered ≡ x.taken.ordered)) (sym is) refl,
  )

  -- they are not
  pub step_not : (X : Type 0) (later : Device) (after : Shown) (f : Fault) → MoreIsPut {X = X} (Err f) k c rows after now later → PutNot k f bytes first later
  step_not X later after (fault.Feed found) n = n
  step_not X later after (fault.Collision id) n = n
  step_not X later after (fault.Equivocation round author one other) n = n
  step_not X later after (fault.Unfinished place) n = n
  step_not X later after (fault.Write written) m = put_stops k bytes frames v b first now rows.page done come at p.table m.more (grows m.more m.is_more) (is_text feed b.taken.ordered at.current.clear at.current.ordered) later (record { written = written })
      (m.out first (k.header ++ p.table.shown) p.table.put within)
  step_not X later after fault.Memory n = subst (λ (d : Device). TableSoFar k.text first d bytes) n (out_so_far k.text first now (length (transactions_of done.payloads.list)) bytes p.table.so_far)

-- there is no book yet
pub step_none : (bytes : List ℕ) (frames : List Frame) (v : Followed) (done : Ordered) → HasCome bytes frames v → IsSettled frames v → executed_in v.book ≡ None → IfSome v.book (λ b. done ≡ b.taken.ordered)
step_none bytes frames v done come settled none = by_book v.book refl
  where
    by_book : (o : Option BookValue) → v.book ≡ o → IfSome o (λ b. done ≡ b.taken.ordered)
    by_book None e = tt
    by_book (Some b) e =
        let current = (book_at bytes frames v b come settled e).current in
        absurd (let some : None ≡ Some current.done = sym none ∙ ap executed_in e ∙ current.is_done in cc)

-- ---- what came of a call that puts them

module _ {X : Type 0} (k : TableKind) (is_text : IsTextOf k) (v : Followed) (b : BookValue) (c : ClosedValue) (now later : Device) (rows after : Shown) (holds holds' : AboutAccounts) (is : v.book ≡ Some b) (h : IsClosedBook b c) where
  pub put_by : (result : Result X Fault) → MoreIsPut result k c rows after now later → OnOk result (holds' c.ledger.state.version c.order.opening (payloads_in c))
      → OnOk result (WherePut k v now rows holds (λ bytes frames first. (d : Ordered) × IsPutOn k bytes frames v first later after holds' d × IfSome v.book (λ b. d ≡ b.taken.ordered)))
  put_by (Ok x) put known = λ bytes frames first done come settled p. step_put k is_text bytes frames v b c first now rows holds done come settled is h p x later after holds' put known
  put_by (Err e) put known = tt

  pub stops_by : (result : Result X Fault) → MoreIsPut result k c rows after now later → IfErr result (λ f. WherePut k v now rows holds (λ bytes frames first. PutNot k f bytes first later))
  stops_by (Ok x) put = tt
  stops_by (Err f) put = λ bytes frames first done come settled p. step_not k is_text bytes frames v b c first now rows holds done come settled is h p X later after f put

-- a table that was put can be counted
pub table_short : {k : TableKind} {bytes : List ℕ} {frames : List Frame} {v : Followed} {first now : Device} {rows : Shown} {holds : AboutAccounts} {done : Ordered} (p : IsPutOn k bytes frames v first now rows holds done) → length (k.header ++ p.table.shown) < 2 ^ 62
table_short p = omega (arith, p.table.short, p.shows.places, p.few)

-- ---- before the first byte, and where more comes

module _ (k : TableKind) (no_rows : (version : Version) (genesis : List Row) → k.rows version genesis [] ≡ []) where
  pub none_put_on : (v : Followed) (first : Device) (rows : Shown) (holds : AboutAccounts) → length k.header ≤ 100 → rows ≡ none_shown k.header → ((version : Version) (genesis : List Row) → holds version genesis []) → IsPutOn k [] [] v first first rows holds nothing_ordered
  none_put_on v first rows holds short is before = subst (λ (s : Shown). IsPutOn k [] [] v first first s holds nothing_ordered) (sym is) (record {
    table = none_put k no_rows v first short;
    shows = record { batches = refl; places = refl };
    few = omega arith;
    before = λ few. before;
    after = λ version known two. absurd (omega (arith, two));
  })

  pub put_on : (bytes all : List ℕ) (frames whole : List Frame) (v w : Followed) (first now : Device) (rows : Shown) (holds : AboutAccounts) (done : Ordered) → IsPrefix bytes all → IsPrefix frames whole → HasCome bytes frames v → HasCome all whole w
      → IsPutOn k bytes frames v first now rows holds done → IsPutOn k all whole w first now rows holds done
  put_on bytes all frames whole v w first now rows holds done longer more come then p = record {
    table = put_longer k no_rows bytes all frames whole v w first now rows.page done longer more come then p.table;
    shows = p.shows;
    few = p.few;
    before = λ short. p.before (let n = ap length more.1 in let m = length-append frames more.0 in omega (arith, n, m, short));
    after = λ version known two. subst (λ (fs : List Frame). holds version (genesis_of fs) done.payloads.list) (sym more.1)
        (holds_longer k holds frames more.0 version done p.table.shown p.table.few p.before (λ two. p.after version (known_before bytes all frames whole v.cut w.cut version longer come.cuts then.cuts two known) two));
  }

  -- what is said where it is put, of what a piece adds
  pub where_put : {start source first now : Device} {bytes : List ℕ} {frames : List Frame} {v w : Followed} {ended : Bool} {rows : Shown} {holds : AboutAccounts} {done : Ordered} (says : List ℕ → List Frame → Device → Type 0)
      → HasCome bytes frames v → (a : Advanced start source bytes frames w ended) → IsPutOn k bytes frames v first now rows holds done → WherePut k w now rows holds says → says a.all a.whole first
  where_put {start} {source} {first} {now} {bytes} {frames} {v} {w} {ended} {rows} {holds} {done} says come a p put =
      put a.all a.whole first done a.followed.come a.settled (put_on bytes a.all frames a.whole v w first now rows holds done a.longer a.more come a.followed.come p)
