-- A table that is put while its feed is followed: more comes, more is put, and why it is not.
use Rattle.std.proofs.Common.{◌≡◌, ◌⊎◌, inl, inr, ◌∙◌, ℕ, ◌+◌, ◌*◌, ◌<◌, ◌≤◌, List, [], ◌∷◌, ◌++◌, length, Option, Some, refl, sym, ap, subst, append_assoc, append-nil, length-append, arith}
use Rattle.std.proofs.KnownBytes.{Appends-nil}
use Rattle.std.proofs.lemmas.List.Elements.{Contains-append_left}
use Rattle.bk_base.specs.declared.genesis.Row.{Row}
use Rattle.bk_base.specs.declared.version.Version.{Version}
use Rattle.bk_base.specs.Feed.{Frame, FeedValue, IsFeed, feed_of, genesis_of, spelling}
use Rattle.bk_commit.specs.Growth.{IsPrefix}
use Rattle.bk_frames.specs.Device.{Device, Receives, Works}
use Rattle.bk_frames.specs.Writing.{StopsWriting}
use Rattle.bk_frames.specs.declared.writing.WriteFault.{WriteFault}
use Rattle.bk_frames.proofs.CutJoining.{bytes_so_far}
use Rattle.bk_order.specs.Intake.{nothing_ordered}
use Rattle.bk_order.specs.Orders.{Ordered}
use Rattle.bk_order.proofs.Ordering.{none_ordered}
use Rattle.bk_order.proofs.Sets.{frames_grow}
use Rattle.bk_report.specs.Pages.{HasPut, PageValue, Puts, desk}
use Rattle.bk_results.specs.declared.status.Status.{Status}
use Rattle.bk_answer.specs.RunReport.{committee_in, later_frames, reach_of}
use Rattle.bk_follow.specs.Follower.{BookValue, Followed, HasCome, IsCurrent, IsSettled, IsSettledBy, OrdersPart}
use Rattle.bk_follow.proofs.Books.{whole_part}
use Rattle.bk_follow.proofs.Following.{good_of}
use Rattle.bk_tx.specs.Batches.{transactions_of}
use Rattle.bk_tables.specs.Growing.{none_shown}
use Rattle.bk_tables.specs.Kinds.{AboutAccounts, TableKind}
use Rattle.bk_tables.proofs.WholeTables.{header_put}
use Rattle.bk_tail.specs.private.Putting.{HasTable, IsPartDone, PutFails, TableUpTo}
use Rattle.bk_tail.proofs.Places.{below_order, up_to_longer}
use Rattle.bk_tail.proofs.OneVersion.{known_before}

-- no order is that of no frames
nothing_of : (feed : FeedValue) → OrdersPart feed nothing_ordered
nothing_of feed = record { part = []; within = λ c h. absurd (let low = h.1 in omega (arith, low)); ordered = none_ordered (committee_in feed) }

-- ---- more frames come

module _ (k : TableKind) (none_rows : (version : Version) (genesis : List Row) → k.rows version genesis [] ≡ []) where
  -- of no order nothing is shown, of whatever frames
  nothing_done : (frames : List Frame) (version : Version) (done : Ordered) (shown : List ℕ) → (done ≡ nothing_ordered) × (shown ≡ []) → IsPartDone k frames version done shown
  nothing_done frames version done shown (none, empty) = record {
    part = subst (OrdersPart (feed_of version frames)) (sym none) (nothing_of (feed_of version frames));
    shown_is = empty ∙ sym (none_rows version (genesis_of frames)) ∙ ap (λ (o : Ordered). k.rows version (genesis_of frames) o.payloads.list) (sym none);
  }

  -- the order of a part is that of a part of more frames
  part_on : (first second : Frame) (rest next : List Frame) (version : Version) (done : Ordered) (shown : List ℕ) → IsPartDone k (first ∷ second ∷ rest) version done shown → IsPartDone k ((first ∷ second ∷ rest) ++ next) version done shown
  part_on first second rest next version done shown h = record {
    part = record { part = h.part.part; within = λ c i. Contains-append_left rest next c (h.part.within c i); ordered = h.part.ordered };
    shown_is = h.shown_is;
  }

  many_on : (frames next : List Frame) (version : Version) (done : Ordered) (shown : List ℕ) → (length frames < 2 → (done ≡ nothing_ordered) × (shown ≡ [])) → (2 ≤ length frames → IsPartDone k frames version done shown) → IsPartDone k (frames ++ next) version done shown
  many_on [] next version done shown few many = nothing_done next version done shown (few (omega arith))
  many_on (f ∷ []) next version done shown few many = nothing_done (f ∷ next) version done shown (few (omega arith))
  many_on (f ∷ g ∷ rest) next version done shown few many = part_on f g rest next version done shown (many (omega arith))

  pub put_longer : (bytes all : List ℕ) (frames whole : List Frame) (v w : Followed) (first now : Device) (page : PageValue) (done : Ordered) → IsPrefix bytes all → IsPrefix frames whole → HasCome bytes frames v → HasCome all whole w
      → HasTable k bytes frames v.cut.version first now page done → HasTable k all whole w.cut.version first now page done
  put_longer bytes all frames whole v w first now page done longer more come then h = record {
    shown = h.shown;
    so_far = up_to_longer k.text first now (length (transactions_of done.payloads.list)) bytes all longer h.so_far;
    put = h.put;
    short = h.short;
    few = λ short. h.few (let n = ap length more.1 in let m = length-append frames more.0 in omega (arith, n, m, short));
    many = λ version known two. subst (λ (fs : List Frame). IsPartDone k fs version done h.shown) (sym more.1)
        (many_on frames more.0 version done h.shown h.few (λ two. h.many version (known_before bytes all frames whole v.cut w.cut version longer come.cuts then.cuts two known) two));
  }

  -- before the first byte: the header waits
  pub none_put : (v : Followed) (first : Device) → length k.header ≤ 100 → HasTable k [] [] v.cut.version first first (none_shown k.header).page nothing_ordered
  none_put v first short = record {
    shown = [];
    so_far = (refl, inl (Appends-nil first.bytes));
    put = subst (HasPut first (desk (none_shown k.header).page first)) (sym (append-nil k.header)) (header_put first k.header (none_shown k.header) refl);
    short = omega (arith, short, length-append k.header []);
    few = λ _. (refl, refl);
    many = λ version known two. absurd (omega (arith, two));
  }

-- ---- a Follower with a book, all of whose frames are settled

-- the frames are those of a feed, and this is its book
pub record IsBookAt (bytes : List ℕ) (frames : List Frame) (v : Followed) (b : BookValue) : Type 0 where
  pub version : Version
  pub known : v.cut.version ≡ Some version
  pub good : IsFeed (feed_of version frames)
  pub begins : IsPrefix (spelling (feed_of version frames)) bytes
  pub current : IsCurrent (feed_of version frames) b

pub book_at : (bytes : List ℕ) (frames : List Frame) (v : Followed) (b : BookValue) → HasCome bytes frames v → IsSettled frames v → v.book ≡ Some b → IsBookAt bytes frames v b
book_at bytes frames v b come settled is =
    let g = good_of bytes frames v b come is in
    record {
      version = g.version;
      known = g.known;
      good = record { good = g.good.good; opened = g.good.opened };
      begins = (v.cut.kept, (bytes_so_far bytes frames v.cut g.version come.cuts g.known).0.spelled);
      current = subst (λ (x : Option Version × Option BookValue). IsSettledBy x.0 frames x.1) (λ i. (g.known i, is i)) settled;
    }

pub same_version : (o : Option Version) (v w : Version) → o ≡ Some v → o ≡ Some w → v ≡ w
same_version o v w e f = cc

module _ (k : TableKind) (bytes : List ℕ) (frames : List Frame) (v : Followed) (b : BookValue) (first now : Device) (page : PageValue) (done : Ordered) (come : HasCome bytes frames v) (at : IsBookAt bytes frames v b) (h : HasTable k bytes frames v.cut.version first now page done) where
  abbrev feed : FeedValue
  feed = feed_of at.version frames

  -- the text of the rows of a list of batches
  abbrev rows_of : List (List ℕ) → List ℕ
  rows_of payloads = k.rows at.version (genesis_of frames) payloads

  abbrev payloads : List (List ℕ)
  payloads = b.taken.ordered.payloads.list

  pub part_done : IsPartDone k frames at.version done h.shown
  part_done = h.many at.version at.known at.good.opened

  -- the batches that are shown begin those of the order
  pub begins : IsPrefix done.payloads.list payloads
  begins = (frames_grow (committee_in feed) part_done.part.part (later_frames feed) done b.taken.ordered part_done.part.within at.current.clear part_done.part.ordered at.current.ordered).2

  abbrev end : Status
  end = reach_of b.taken.ordered.payloads.missing

  module _ (more : List ℕ) (grows : rows_of payloads ≡ rows_of done.payloads.list ++ more) (is_text : k.text feed end (k.header ++ rows_of payloads)) where
    all_text : (k.header ++ h.shown) ++ more ≡ k.header ++ rows_of payloads
    all_text = append_assoc k.header h.shown more ∙ ap (λ (t : List ℕ). k.header ++ t) (ap (λ (t : List ℕ). t ++ more) part_done.shown_is ∙ sym grows)

    out_so_far : (later : Device) → Works first later × (Receives first later [] ⊎ Receives first later ((k.header ++ h.shown) ++ more)) → TableUpTo k.text (length (transactions_of payloads)) first later bytes
    out_so_far later (works, inl none) = (works, inl none)
    out_so_far later (works, inr out) = (works, inr (feed, (at.good, at.begins), below_order feed b.taken.ordered at.current.clear at.current.ordered, end, (k.header ++ rows_of payloads, is_text, subst (Receives first later) all_text out)))

    -- more rows are put
    pub put_more : (later : Device) (after : PageValue) → Puts (desk page now) (desk after later) (length more) more → length more + 1800 * length (transactions_of done.payloads.list) ≤ 1800 * length (transactions_of payloads)
        → Works first later × (Receives first later [] ⊎ Receives first later ((k.header ++ h.shown) ++ more)) → HasTable k bytes frames v.cut.version first later after b.taken.ordered
    put_more later after puts few out = record {
      shown = rows_of payloads;
      so_far = out_so_far later out;
      put = subst (HasPut first (desk after later)) all_text (puts.put first (k.header ++ h.shown) h.put);
      short = omega (arith, few, h.short, ap length all_text, length-append (k.header ++ h.shown) more);
      few = λ few. absurd (let two = at.good.opened in omega (arith, few, two));
      many = λ version known two.
          subst (λ (x : Version). IsPartDone k frames x b.taken.ordered (rows_of payloads)) (same_version v.cut.version at.version version at.known known)
          (record { part = whole_part feed b.taken.ordered at.current.ordered; shown_is = refl });
    }

    -- the sink failed
    pub put_stops : (later : Device) (e : WriteFault) → StopsWriting e ((k.header ++ h.shown) ++ more) first later → PutFails k e.written bytes first later
    put_stops later e stop =
        let s = subst (λ (t : List ℕ). StopsWriting e t first later) all_text stop in
        (s.fails, (feed, (v.cut, come.cuts, come.is_open, at.known), (end, (k.header ++ rows_of payloads, is_text, s.short, s.out))))

-- ---- what rows say of the accounts, where more frames come

pub holds_longer : (k : TableKind) (holds : AboutAccounts) (frames next : List Frame) (version : Version) (done : Ordered) (shown : List ℕ) → (length frames < 2 → (done ≡ nothing_ordered) × (shown ≡ []))
    → (length frames < 2 → (v : Version) (genesis : List Row) → holds v genesis []) → (2 ≤ length frames → holds version (genesis_of frames) done.payloads.list) → holds version (genesis_of (frames ++ next)) done.payloads.list
holds_longer k holds [] next version done shown none few many = subst (λ (o : Ordered). holds version (genesis_of next) o.payloads.list) (sym (none (omega arith)).0) (few (omega arith) version (genesis_of next))
holds_longer k holds (f ∷ []) next version done shown none few many = subst (λ (o : Ordered). holds version (genesis_of (f ∷ next)) o.payloads.list) (sym (none (omega arith)).0) (few (omega arith) version (genesis_of (f ∷ next)))
holds_longer k holds (f ∷ g ∷ rest) next version done shown none few many = many (omega arith)
