-- How following a feed ends.
use Rattle.std.proofs.Common.{◌≡◌, inl, ◌∙◌, ℕ, ◌≤◌, Bool, List, [], ◌++◌, length, Option, refl, sym, ap, subst, append-nil, arith}
use Rattle.std.specs.Prelude.{IfSome}
use Rattle.bk_answer.specs.Answers.{IsAnswered}
use Rattle.bk_answer.specs.Flaws.{IsFlawIf, judged_text}
use Rattle.bk_answer.specs.declared.strict.Ended.{Ended}
use Rattle.bk_results.specs.declared.flaw.Flaw.{Flaw}
use Rattle.bk_answer.specs.RunReport.{reach_of}
use Rattle.bk_frames.specs.Device.{IsWhole, Receives}
use Rattle.bk_frames.specs.Writing.{StopsWriting, Writes}
use Rattle.bk_frames.specs.declared.writing.WriteFault.{WriteFault}
use Rattle.bk_order.specs.Orders.{Ordered}
use Rattle.bk_report.specs.Pages.{PageValue}
use Rattle.bk_follow.specs.Follower.{BookValue, IsSettled}
use Rattle.bk_follow.specs.Queries.{missing_in}
use Rattle.std.proofs.KnownBytes.{Appends-nil}
use Rattle.bk_base.specs.Feed.{Frame, feed_of, genesis_of}
use Rattle.bk_frames.specs.Device.{Device}
use Rattle.bk_frames.specs.Pulling.{Gave}
use Rattle.bk_frames.proofs.Devices.{gives_none}
use Rattle.bk_results.specs.Devices.{devices}
use Rattle.bk_results.specs.declared.fault.Fault.{Fault}
use Rattle.bk_results.specs.declared.fault.Fault.TheVariants as fault
use Rattle.bk_results.specs.declared.status.Status.{Status}
use Rattle.bk_follow.specs.Follower.{Followed}
use Rattle.bk_tx.specs.Batches.{transactions_of}
use Rattle.bk_tail.specs.Tailing.{TableBefore, TableSoFar, TailFailsBy}
use Rattle.bk_tables.specs.Kinds.{IsTextOf, TableKind}
use Rattle.bk_tail.specs.private.Putting.{HasTable, PutFails, PutNot, TableUpTo}
use Rattle.bk_tail.specs.private.Steps.{AdvanceFails, GaveAfter, HasFollowed, IsWholeFeed}
use Rattle.bk_tail.proofs.Growing.{IsBookAt, book_at, put_stops}
use Rattle.bk_tail.proofs.Places.{before_longer, out_before, out_so_far, so_far_longer}

module _ (k : TableKind) (start now first sink : Device) where
  gave_so_far : (bytes : List ℕ) → GaveAfter start now bytes (λ given. Unit {0}) → TableSoFar k.text first sink bytes → Gave start now (TableSoFar k.text first sink)
  gave_so_far bytes (given, gives, (longer, _)) out = (given, gives, so_far_longer k.text first sink bytes given longer out)

  gave_with : (bytes : List ℕ) (holds : List ℕ → Type 0) → GaveAfter start now bytes holds → TableSoFar k.text first sink bytes → Gave start now (λ given. TableSoFar k.text first sink given × holds given)
  gave_with bytes holds (given, gives, (longer, h)) out = (given, gives, (so_far_longer k.text first sink bytes given longer out, h))

  gave_before : (bytes : List ℕ) (place : ℕ) (holds : List ℕ → Type 0) → GaveAfter start now bytes holds → TableBefore k.text place first sink bytes → Gave start now (λ given. TableBefore k.text place first sink given × holds given)
  gave_before bytes place holds (given, gives, (longer, h)) out = (given, gives, (before_longer k.text first sink place bytes given longer out, h))

  -- the feed was not followed further: of its order so many places were executed, and no others are out
  module _ (bytes : List ℕ) (count executed : ℕ) (few : count ≤ executed) (out : TableUpTo k.text count first sink bytes) where
    so_far : TableSoFar k.text first sink bytes
    so_far = out_so_far k.text first sink count bytes out

    pub advance_fails : (f : Fault) → AdvanceFails f start now bytes executed → TailFailsBy k.text f (devices start first) (devices now sink)
    advance_fails (fault.Feed found) h = (h.0, gave_so_far bytes h.1 so_far)
    advance_fails (fault.Collision id) h = (h.0, gave_with bytes _ h.1 so_far)
    advance_fails (fault.Equivocation round author one other) h = (h.0, gave_with bytes _ h.1 so_far)
    advance_fails (fault.Unfinished place) h = (h.1, gave_before bytes place _ h.2 (out_before k.text first sink count place bytes (let high = h.0 in omega (arith, high, few)) out))
    advance_fails (fault.Write written) h = absurd h
    advance_fails fault.Memory h = (h.0, gave_so_far bytes h.1 so_far)

  -- rows were not put
  pub put_fails : (f : Fault) (written : ℕ) (bytes : List ℕ) (frames : List Frame) (v : Followed) → f ≡ fault.Write written → HasFollowed start now bytes frames v → PutFails k written bytes first sink → TailFailsBy k.text f (devices start first) (devices now sink)
  put_fails f written bytes frames v is h fails = subst (λ (g : Fault). TailFailsBy k.text g (devices start first) (devices now sink)) (sym is) (h.works, fails.0, (bytes, h.gave, fails.1))

  -- or memory ran out
  pub put_not : (f : Fault) (bytes : List ℕ) (frames : List Frame) (v : Followed) → HasFollowed start now bytes frames v → PutNot k f bytes first sink → TailFailsBy k.text f (devices start first) (devices now sink)
  put_not (fault.Feed found) bytes frames v h fails = absurd fails
  put_not (fault.Collision id) bytes frames v h fails = absurd fails
  put_not (fault.Equivocation round author one other) bytes frames v h fails = absurd fails
  put_not (fault.Unfinished place) bytes frames v h fails = absurd fails
  put_not (fault.Write written) bytes frames v h fails = (h.works, fails.0, (bytes, h.gave, fails.1))
  put_not fault.Memory bytes frames v h out = (h.works, (bytes, h.gave, out))

-- ---- the end of the feed

-- how it ends
abbrev pub ended_with : Status → Option Flaw → Ended Status
ended_with end flaw = record { end = end; flaw = flaw }

-- memory ran out where all rows are out but the header
pub no_flaw : (k : TableKind) (start now first sink : Device) (f : Fault) (all : List ℕ) (whole : List Frame) (v : Followed) (page : PageValue) (done : Ordered) → f ≡ fault.Memory → HasFollowed start now all whole v → HasTable k all whole v.cut.version first sink page done
    → TailFailsBy k.text f (devices start first) (devices now sink)
no_flaw k start now first sink f all whole v page done is h p = subst (λ (g : Fault). TailFailsBy k.text g (devices start first) (devices now sink)) (sym is) (h.works, (all, h.gave, out_so_far k.text first sink (length (transactions_of done.payloads.list)) all p.so_far))

module _ (k : TableKind) (is_text : IsTextOf k) (start now first sink : Device) (all : List ℕ) (whole : List Frame) (v : Followed) (page : PageValue) (done : Ordered)
    (f : HasFollowed start now all whole v) (settled : IsSettled whole v) (w : IsWholeFeed all whole v) (h : HasTable k all whole v.cut.version first sink page done) (last : IfSome v.book (λ b. done ≡ b.taken.ordered)) where
  at : IsBookAt all whole v w.holds.0
  at = book_at all whole v w.holds.0 f.come settled w.holds.1

  done_is : done ≡ w.holds.0.taken.ordered
  done_is = subst (λ (o : Option BookValue). IfSome o (λ b. done ≡ b.taken.ordered)) w.holds.1 last

  nothing_grows : k.rows at.version (genesis_of whole) w.holds.0.taken.ordered.payloads.list ≡ k.rows at.version (genesis_of whole) done.payloads.list ++ []
  nothing_grows = ap (λ (o : Ordered). k.rows at.version (genesis_of whole) o.payloads.list) (sym done_is) ∙ sym (append-nil (k.rows at.version (genesis_of whole) done.payloads.list))

  -- the header did not go out
  pub end_fails : (later : Device) (e : WriteFault) → StopsWriting e (k.header ++ h.shown) first later → PutFails k e.written all first later
  end_fails later e stop = put_stops k all whole v w.holds.0 first sink page done f.come at h [] nothing_grows (is_text (feed_of at.version whole) w.holds.0.taken.ordered at.current.clear at.current.ordered) later e
      (subst (λ (t : List ℕ). StopsWriting e t first later) (sym (append-nil (k.header ++ h.shown))) stop)

  -- all is out
  pub answered : (strict : Bool) (flaw : Option Flaw) (later : Device) → IsWhole start now all → Writes (k.header ++ h.shown) first later → IsFlawIf strict (feed_of w.version whole) flaw
      → IsAnswered (judged_text strict k.text) (ended_with (reach_of (missing_in v.book)) flaw) (devices start first) (devices now later)
  answered strict flaw later known (works, out) flawed =
      let o = w.holds.0.taken.ordered in
      let feed = feed_of w.version whole in
      let text = k.header ++ k.rows w.version (genesis_of whole) o.payloads.list in
      let shown : k.header ++ h.shown ≡ text = ap (λ (t : List ℕ). k.header ++ t) ((h.many w.version w.known w.good.opened).shown_is ∙ ap (λ (x : Ordered). k.rows w.version (genesis_of whole) x.payloads.list) done_is) in
      let end : reach_of o.payloads.missing ≡ reach_of (missing_in v.book) = ap (λ (b : Option BookValue). reach_of (missing_in b)) (sym w.holds.1) in
      subst (λ (e : Status). IsAnswered (judged_text strict k.text) (ended_with e flaw) (devices start first) (devices now later)) end (record {
        source = f.works;
        sink = works;
        out = (all, f.gave, known, (text, record { feed = feed; good = w.good; spelled = w.spelled; holds = (is_text feed o w.holds.2.clear w.holds.2.ordered, flawed) }, subst (Receives first later) shown out));
      })

-- memory ran out before the first byte
pub none_read : (k : TableKind) (start first : Device) → TailFailsBy k.text fault.Memory (devices start first) (devices start first)
none_read k start first = (refl, ([], gives_none start, (refl, inl (Appends-nil first.bytes))))
