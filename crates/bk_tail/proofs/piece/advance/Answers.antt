use Rattle.std.proofs.Common.{◌≡◌, ℕ, zero, suc, ◌<◌, Bool, true, false, take, length, length-take, refl, ap, arith}
use Rattle.std.proofs.lemmas.Result.{err_from_is_err_and}
use Rattle.bk_frames.proofs.Devices.{ends_at, ends_not_at, ends_then}
use Rattle.bk_follow.specs.Follower.{receipts_in}
use Rattle.bk_tail.proofs.Asked.{ended_as_asked, feed_not_short, going_as_asked, read_as_asked, settle_not_short}
use Rattle.bk_tail.proofs.Pieces.{all_given, close_fails, closed, feed_fails, nearer, nothing_more, read_fails, settle_fails, settled, taken}
use Rattle.bk_tail.proofs.piece.advance.Goals as goal

not_zero : (n : ℕ) → ¬ (n ≡ 0) → 0 < n
not_zero zero h = absurd (h refl)
not_zero (suc n) h = omega arith

-- an end is not reached where it is waited for
not_waited : (waits : Bool) (n : ℕ) → n ≡ 0 → (waits ≡ true → 0 < n) → waits ≡ false
not_waited true n none some = absurd (omega (arith, none, some refl))
not_waited false n none some = refl

pub returns-in_err-count-clause-fault : goal.returns-in_err-count-clause-fault
returns-in_err-count-clause-fault g c =
    let p = err_from_is_err_and c.from_residual.result c.from_residual.ensures.1 in
    rw (p.1, p.2) (λ start bytes frames h goes_on.
    read_fails _ c.offset.result start (g.S.Source.state c.args.source.now) (g.S.Source.state c.pull.new.source) bytes frames c.args.follower.now
    c.in_err-count.ensures.failed.fault c.offset.ensures c.in_err-count.ensures.failed.kept c.in_err-count.ensures.failed.fails h (length (receipts_in c.args.follower.now.book)))

pub returns-in_err-close-clause-fault : goal.returns-in_err-close-clause-fault
returns-in_err-close-clause-fault g c =
    let p = err_from_is_err_and c.from_residual-in_err-close.result c.from_residual-in_err-close.ensures.1 in
    let now = g.S.Source.state c.args.source.now in
    let later = g.S.Source.state c.pull.new.source in
    let piece = take c.in_ok-count.count c.pull.new.piece in
    let none : length piece ≡ 0 = omega (arith, length-take c.in_ok-count.count c.pull.new.piece, c.if-count-eq0.true) in
    let unwaited = not_waited c.args.waits c.in_ok-count.count c.if-count-eq0.true c.in_ok-count.ensures.came.some in
    rw (p.1, p.2) (λ start bytes frames h goes_on.
    close_fails _ start later bytes frames c.args.follower.now c.close.new.self (c.in_err-close.ensures.fault h.come.works) (
      all_given start now later bytes piece frames c.args.follower.now none c.in_ok-count.ensures.came.came (c.in_ok-count.ensures.came.end c.if-count-eq0.true) h,
      ends_then start now later (goes_on unwaited) (ends_at c.in_ok-count.count now later (c.in_ok-count.ensures.came.ends unwaited) c.if-count-eq0.true),
    )
    (nothing_more start now later bytes piece frames c.args.follower.now none c.in_ok-count.ensures.came.came c.in_ok-count.ensures.came.works h))

pub returns-then-count-eq0-clause-next : goal.returns-then-count-eq0-clause-next
returns-then-count-eq0-clause-next g c =
    let now = g.S.Source.state c.args.source.now in
    let later = g.S.Source.state c.pull.new.source in
    let piece = take c.in_ok-count.count c.pull.new.piece in
    let none : length piece ≡ 0 = omega (arith, length-take c.in_ok-count.count c.pull.new.piece, c.if-count-eq0.true) in
    λ start bytes frames h.
    closed start later bytes frames c.args.follower.now c.close.new.self c.in_ok-close.ensures.closed
    (all_given start now later bytes piece frames c.args.follower.now none c.in_ok-count.ensures.came.came (c.in_ok-count.ensures.came.end c.if-count-eq0.true) h)
    (nothing_more start now later bytes piece frames c.args.follower.now none c.in_ok-count.ensures.came.came c.in_ok-count.ensures.came.works h)

pub returns-in_err-feed-clause-fault : goal.returns-in_err-feed-clause-fault
returns-in_err-feed-clause-fault g c =
    let p = err_from_is_err_and c.from_residual-in_err-feed.result c.from_residual-in_err-feed.ensures.1 in
    rw (p.1, p.2) (λ start bytes frames h goes_on.
    feed_fails _ start (g.S.Source.state c.args.source.now) (g.S.Source.state c.pull.new.source) bytes (take c.in_ok-count.count c.pull.new.piece) frames c.args.follower.now
    c.in_ok-count.ensures.came.came c.in_ok-count.ensures.came.works (omega (arith, length-take c.in_ok-count.count c.pull.new.piece, c.pull.auto.piece, c.requires.few))
    (c.in_err-feed.ensures.fault h.come.works) h (length (receipts_in c.args.follower.now.book)))

pub returns-in_err-settle-clause-fault : goal.returns-in_err-settle-clause-fault
returns-in_err-settle-clause-fault g c =
    let p = err_from_is_err_and c.from_residual-in_err-settle.result c.from_residual-in_err-settle.ensures.1 in
    let piece = take c.in_ok-count.count c.pull.new.piece in
    rw (p.1, p.2) (λ start bytes frames h goes_on.
    let t = taken start (g.S.Source.state c.args.source.now) (g.S.Source.state c.pull.new.source) bytes piece frames c.args.follower.now c.feed.new.self
    c.in_ok-count.ensures.came.came c.in_ok-count.ensures.came.works c.in_ok-feed.ensures.takes h in
    settle_fails _ start (g.S.Source.state c.pull.new.source) bytes piece _ c.feed.new.self c.settle.new.self (c.in_err-settle.ensures.fault t.1.come.works) t.1 (length (receipts_in c.args.follower.now.book)) (ap length c.in_ok-feed.ensures.rests))

pub returns-clause-next : goal.returns-clause-next
returns-clause-next g c =
    let piece = take c.in_ok-count.count c.pull.new.piece in
    λ start bytes frames h.
    let t = taken start (g.S.Source.state c.args.source.now) (g.S.Source.state c.pull.new.source) bytes piece frames c.args.follower.now c.feed.new.self
    c.in_ok-count.ensures.came.came c.in_ok-count.ensures.came.works c.in_ok-feed.ensures.takes h in
    settled start (g.S.Source.state c.pull.new.source) bytes piece frames t.0 c.feed.new.self c.settle.new.self _ c.in_ok-settle.ensures.settled t.1

pub returns-clause-nearer : goal.returns-clause-nearer
returns-clause-nearer g c =
    let piece = take c.in_ok-count.count c.pull.new.piece in
    let some = not_zero c.in_ok-count.count c.if-count-eq0.false in
    let (start, bytes, frames, h) = c.requires.followed in
    let t = taken start (g.S.Source.state c.args.source.now) (g.S.Source.state c.pull.new.source) bytes piece frames c.args.follower.now c.feed.new.self
    c.in_ok-count.ensures.came.came c.in_ok-count.ensures.came.works c.in_ok-feed.ensures.takes h in
    λ _. nearer start (g.S.Source.state c.args.source.now) (g.S.Source.state c.pull.new.source) bytes piece frames _ c.args.follower.now c.feed.new.self c.settle.new.self
    c.in_ok-settle.ensures.settled.cut (omega (arith, some, length-take c.in_ok-count.count c.pull.new.piece, c.in_ok-count.ensures.came.bound)) h t.1

pub returns-then-count-eq0-clause-ends : goal.returns-then-count-eq0-clause-ends
returns-then-count-eq0-clause-ends g c = λ unwaited. ends_at c.in_ok-count.count (g.S.Source.state c.args.source.now) (g.S.Source.state c.pull.new.source) (c.in_ok-count.ensures.came.ends unwaited) c.if-count-eq0.true

pub returns-clause-ends : goal.returns-clause-ends
returns-clause-ends g c = λ unwaited. ends_not_at c.in_ok-count.count (g.S.Source.state c.args.source.now) (g.S.Source.state c.pull.new.source) (c.in_ok-count.ensures.came.ends unwaited) (not_zero c.in_ok-count.count c.if-count-eq0.false)

pub returns-then-count-eq0-clause-goes_on : goal.returns-then-count-eq0-clause-goes_on
returns-then-count-eq0-clause-goes_on g c = λ waited. let some = c.in_ok-count.ensures.came.some waited in absurd (omega (arith, some, c.if-count-eq0.true))

pub returns-in_err-count-clause-asked : goal.returns-in_err-count-clause-asked
returns-in_err-count-clause-asked g c =
    let p = err_from_is_err_and c.from_residual.result c.from_residual.ensures.1 in
    rw (p.1, p.2) (read_as_asked c.args.waits _ c.offset.result (g.S.Source.state c.args.source.now) (g.S.Source.state c.pull.new.source) c.in_err-count.ensures.failed.fault c.in_err-count.ensures.failed.goes_on)

pub returns-in_err-close-clause-asked : goal.returns-in_err-close-clause-asked
returns-in_err-close-clause-asked g c =
    let p = err_from_is_err_and c.from_residual-in_err-close.result c.from_residual-in_err-close.ensures.1 in
    let now = g.S.Source.state c.args.source.now in
    let later = g.S.Source.state c.pull.new.source in
    let unwaited = not_waited c.args.waits c.in_ok-count.count c.if-count-eq0.true c.in_ok-count.ensures.came.some in
    rw (p.1, p.2) (ended_as_asked c.args.waits _ now later unwaited (ends_at c.in_ok-count.count now later (c.in_ok-count.ensures.came.ends unwaited) c.if-count-eq0.true))

pub returns-in_err-feed-clause-asked : goal.returns-in_err-feed-clause-asked
returns-in_err-feed-clause-asked g c =
    let p = err_from_is_err_and c.from_residual-in_err-feed.result c.from_residual-in_err-feed.ensures.1 in
    let now = g.S.Source.state c.args.source.now in
    let later = g.S.Source.state c.pull.new.source in
    let some = not_zero c.in_ok-count.count c.if-count-eq0.false in
    let (start, bytes, frames, h) = c.requires.followed in
    rw (p.1, p.2) (going_as_asked c.args.waits _ now later (feed_not_short c.args.follower.now _ _ (c.in_err-feed.ensures.fault h.come.works)) (λ unwaited. ends_not_at c.in_ok-count.count now later (c.in_ok-count.ensures.came.ends unwaited) some))

pub returns-in_err-settle-clause-asked : goal.returns-in_err-settle-clause-asked
returns-in_err-settle-clause-asked g c =
    let p = err_from_is_err_and c.from_residual-in_err-settle.result c.from_residual-in_err-settle.ensures.1 in
    let now = g.S.Source.state c.args.source.now in
    let later = g.S.Source.state c.pull.new.source in
    let piece = take c.in_ok-count.count c.pull.new.piece in
    let some = not_zero c.in_ok-count.count c.if-count-eq0.false in
    let (start, bytes, frames, h) = c.requires.followed in
    let t = taken start now later bytes piece frames c.args.follower.now c.feed.new.self c.in_ok-count.ensures.came.came c.in_ok-count.ensures.came.works c.in_ok-feed.ensures.takes h in
    rw (p.1, p.2) (going_as_asked c.args.waits _ now later (settle_not_short c.feed.new.self c.settle.new.self _ (c.in_err-settle.ensures.fault t.1.come.works)) (λ unwaited. ends_not_at c.in_ok-count.count now later (c.in_ok-count.ensures.came.ends unwaited) some))
