use Rattle.std.proofs.Common.{◌≡◌, Bool, true, false, [], ◌++◌, length, refl, sym, subst, arith}
use Rattle.std.proofs.lemmas.Result.{err_from_is_err_and}
use Rattle.bk_answer.specs.Answers.{IsAnswered}
use Rattle.bk_answer.specs.Flaws.{judged_text}
use Rattle.bk_base.specs.Feed.{feed_of}
use Rattle.bk_order.specs.Intake.{nothing_ordered}
use Rattle.bk_frames.specs.Device.{Device, Ends}
use Rattle.bk_frames.proofs.Devices.{ends_not_then, ends_not_yet, ends_then}
use Rattle.bk_results.specs.Devices.{devices}
use Rattle.bk_tail.specs.private.Steps.{EndsIf}
use Rattle.bk_results.specs.declared.status.Status.{Status}
use Rattle.bk_tail.proofs.Asked.{after_others, ends_or_not, memory_not_short, put_not_short, write_not_short}
use Rattle.bk_tail.proofs.Ends.{advance_fails, answered, end_fails, ended_with, no_flaw, put_fails, put_not}
use Rattle.bk_tx.specs.Batches.{transactions_of}
use Rattle.bk_follow.specs.Follower.{receipts_in}
use Rattle.bk_tail.proofs.Executed.{done_executed}
use Rattle.bk_tail.proofs.Flawed.{whole_order}
use Rattle.bk_tail.proofs.Step.{none_put_on, put_on, table_short, where_put}
use Rattle.bk_tail.proofs.Pieces.{none_followed}
use Rattle.bk_tail.proofs.tail.tail_rows.Goals as goal

ends_if : (old new : Device) (ended : Bool) → ended ≡ true → EndsIf ended old new → Ends 1 old new
ends_if old new true is e = e
ends_if old new false is e = absurd cc

-- a source that ended is not waited for
not_waited : (waits ended : Bool) → ended ≡ true → (waits ≡ true → ended ≡ false) → waits ≡ false
not_waited false ended is on = refl
not_waited true true is on = let no : true ≡ false = on refl in absurd cc
not_waited true false is on = absurd cc

goes_on_if : (old new : Device) (ended : Bool) → ended ≡ false → EndsIf ended old new → Ends 0 old new
goes_on_if old new true is e = absurd cc
goes_on_if old new false is e = e

pub pieces-init : goal.pieces-init
pieces-init g c = record {
  bytes = [];
  frames = [];
  done = nothing_ordered;
  followed = none_followed (g.S.Source.state c.args.source.now) c.args.follower.now c.requires.first;
  put = none_put_on (g.T.TableRows.kind c.args.accounts.now) (g.met.T.TableRows.no_rows c.args.accounts.now) c.args.follower.now (g.K.Sink.state c.args.sink.now) (g.T.TableRows.shown c.args.rows.now) (g.T.TableRows.holds c.args.rows.now) (g.met.T.TableRows.short c.args.accounts.now) c.requires.none c.requires.before;
  shown = let zero : length (transactions_of nothing_ordered.payloads.list) ≡ 0 = refl in omega (arith, zero);
  goes_on = λ _. ends_not_yet (g.S.Source.state c.args.source.now);
  source = c.requires.source;
  sink = c.requires.sink;
  some = c.requires.some;
  few = c.requires.few;
}

pub returns-in_err-ended-clause-fault : goal.returns-in_err-ended-clause-fault
returns-in_err-ended-clause-fault g c =
    let p = err_from_is_err_and c.from_residual.result c.from_residual.ensures.1 in
    let i = c.pieces.invariant in
    rw (p.1, p.2) (advance_fails (g.T.TableRows.kind c.args.accounts.now) (g.S.Source.state c.args.source.now) (g.S.Source.state c.advance.new.source) (g.K.Sink.state c.args.sink.now) (g.K.Sink.state c.pieces.sink) i.bytes
    (length (transactions_of i.done.payloads.list)) (length (receipts_in c.pieces.follower.book)) i.shown i.put.table.so_far _
    (c.in_err-ended.ensures.fault (g.S.Source.state c.args.source.now) i.bytes i.frames i.followed i.goes_on))

pub put_new-requires-clause-put : goal.put_new-requires-clause-put
put_new-requires-clause-put g c =
    let i = c.pieces.invariant in
    let a = c.in_ok-ended.ensures.next (g.S.Source.state c.args.source.now) i.bytes i.frames i.followed in (
      a.all,
      a.whole,
      g.K.Sink.state c.args.sink.now,
      i.done,
      a.followed.come,
      a.settled,
      put_on (g.T.TableRows.kind c.args.accounts.now) (g.met.T.TableRows.no_rows c.args.accounts.now) i.bytes a.all i.frames a.whole c.pieces.follower c.advance.new.follower (g.K.Sink.state c.args.sink.now) (g.K.Sink.state c.pieces.sink) (g.T.TableRows.shown c.pieces.rows) (g.T.TableRows.holds c.pieces.rows) i.done a.longer a.more i.followed.come a.followed.come i.put,
    )

pub returns-in_err-put_new-clause-fault : goal.returns-in_err-put_new-clause-fault
returns-in_err-put_new-clause-fault g c =
    let p = err_from_is_err_and c.from_residual-in_err-put_new.result c.from_residual-in_err-put_new.ensures.1 in
    let i = c.pieces.invariant in
    let start = g.S.Source.state c.args.source.now in
    let first = g.K.Sink.state c.args.sink.now in
    let a = c.in_ok-ended.ensures.next start i.bytes i.frames i.followed in
    rw (p.1, p.2) (put_not (g.T.TableRows.kind c.args.accounts.now) start (g.S.Source.state c.advance.new.source) first (g.K.Sink.state c.put_new.new.sink) _ a.all a.whole c.advance.new.follower a.followed
    (where_put (g.T.TableRows.kind c.args.accounts.now) (g.met.T.TableRows.no_rows c.args.accounts.now) _ i.followed.come a i.put c.in_err-put_new.ensures.fault))

pub flaw_if-requires : goal.flaw_if-requires
flaw_if-requires g c =
    let i = c.pieces.invariant in
    let a = c.in_ok-ended.ensures.next (g.S.Source.state c.args.source.now) i.bytes i.frames i.followed in
    let e = a.ends c.if-ended.true in
    (feed_of e.1.version a.whole, whole_order a.all a.whole c.advance.new.follower e.1)

pub returns-in_err-flaw-clause-fault : goal.returns-in_err-flaw-clause-fault
returns-in_err-flaw-clause-fault g c =
    let i = c.pieces.invariant in
    let start = g.S.Source.state c.args.source.now in
    let first = g.K.Sink.state c.args.sink.now in
    let a = c.in_ok-ended.ensures.next start i.bytes i.frames i.followed in
    let n = where_put (g.T.TableRows.kind c.args.accounts.now) (g.met.T.TableRows.no_rows c.args.accounts.now) _ i.followed.come a i.put c.in_ok-put_new.ensures.put in
    let p = err_from_is_err_and c.from_residual-in_err-flaw.result c.from_residual-in_err-flaw.ensures.1 in
    rw (p.1, p.2) (no_flaw (g.T.TableRows.kind c.args.accounts.now) start (g.S.Source.state c.advance.new.source) first (g.K.Sink.state c.put_new.new.sink) _ a.all a.whole c.advance.new.follower (g.T.TableRows.shown c.put_new.new.rows).page n.0 refl a.followed n.1.table)

pub put_end-requires : goal.put_end-requires
put_end-requires g c =
    let i = c.pieces.invariant in
    let start = g.S.Source.state c.args.source.now in
    let first = g.K.Sink.state c.args.sink.now in
    let a = c.in_ok-ended.ensures.next start i.bytes i.frames i.followed in
    let n = where_put (g.T.TableRows.kind c.args.accounts.now) (g.met.T.TableRows.no_rows c.args.accounts.now) _ i.followed.come a i.put c.in_ok-put_new.ensures.put in
    let wrote = n.1.table.so_far.0 in
    λ _. omega (arith, wrote, c.requires.sink)

pub returns-in_err-put_end-clause-fault : goal.returns-in_err-put_end-clause-fault
returns-in_err-put_end-clause-fault g c =
    let p = err_from_is_err_and c.from_residual-in_err-put_end.result c.from_residual-in_err-put_end.ensures.1 in
    let i = c.pieces.invariant in
    let start = g.S.Source.state c.args.source.now in
    let now = g.S.Source.state c.advance.new.source in
    let first = g.K.Sink.state c.args.sink.now in
    let sink = g.K.Sink.state c.put_new.new.sink in
    let v = c.advance.new.follower in
    let ids = c.args.accounts.now in
    let k = g.T.TableRows.kind ids in
    let a = c.in_ok-ended.ensures.next start i.bytes i.frames i.followed in
    let n = where_put (g.T.TableRows.kind c.args.accounts.now) (g.met.T.TableRows.no_rows c.args.accounts.now) _ i.followed.come a i.put c.in_ok-put_new.ensures.put in
    let e = a.ends c.if-ended.true in
    rw (p.1, p.2) (put_fails k start now first (g.K.Sink.state c.put_end.new.sink) _ _ a.all a.whole v refl a.followed
    (end_fails k (g.met.T.TableRows.is_text ids) start now first sink a.all a.whole v (g.T.TableRows.shown c.put_new.new.rows).page n.0 a.followed a.settled e.1 n.1.table n.2 (g.K.Sink.state c.put_end.new.sink) c.in_err-put_end.field-0.0
    (c.in_err-put_end.ensures first (k.header ++ n.1.table.shown) n.1.table.put (table_short n.1))))

pub returns-then-ended-clause-answer : goal.returns-then-ended-clause-answer
returns-then-ended-clause-answer g c =
    let i = c.pieces.invariant in
    let start = g.S.Source.state c.args.source.now in
    let now = g.S.Source.state c.advance.new.source in
    let first = g.K.Sink.state c.args.sink.now in
    let sink = g.K.Sink.state c.put_new.new.sink in
    let v = c.advance.new.follower in
    let ids = c.args.accounts.now in
    let k = g.T.TableRows.kind ids in
    let a = c.in_ok-ended.ensures.next start i.bytes i.frames i.followed in
    let n = where_put (g.T.TableRows.kind c.args.accounts.now) (g.met.T.TableRows.no_rows c.args.accounts.now) _ i.followed.come a i.put c.in_ok-put_new.ensures.put in
    let e = a.ends c.if-ended.true in
    let unwaited = not_waited c.args.waits c.in_ok-ended.ended c.if-ended.true c.in_ok-ended.ensures.goes_on in
    let flawed = c.in_ok-flaw.ensures (feed_of e.1.version a.whole) (whole_order a.all a.whole v e.1) in
    subst (λ (s : Status). IsAnswered (judged_text c.args.strict k.text) (ended_with s c.in_ok-flaw.flaw) (devices start first) (devices now (g.K.Sink.state c.put_end.new.sink))) (sym c.reach-end.ensures)
    (answered k (g.met.T.TableRows.is_text ids) start now first sink a.all a.whole v (g.T.TableRows.shown c.put_new.new.rows).page n.0 a.followed a.settled e.1 n.1.table n.2
    c.args.strict c.in_ok-flaw.flaw (g.K.Sink.state c.put_end.new.sink)
    (e.0, ends_then start (g.S.Source.state c.pieces.source) now (i.goes_on unwaited) (ends_if (g.S.Source.state c.pieces.source) now c.in_ok-ended.ended c.if-ended.true (c.in_ok-ended.ensures.ends unwaited))) (c.in_ok-put_end.ensures first (k.header ++ n.1.table.shown) n.1.table.put (table_short n.1)) flawed)

pub pieces-preserved : goal.pieces-preserved
pieces-preserved g c =
    let i = c.pieces.invariant in
    let start = g.S.Source.state c.args.source.now in
    let first = g.K.Sink.state c.args.sink.now in
    let a = c.in_ok-ended.ensures.next start i.bytes i.frames i.followed in
    let n = where_put (g.T.TableRows.kind c.args.accounts.now) (g.met.T.TableRows.no_rows c.args.accounts.now) _ i.followed.come a i.put c.in_ok-put_new.ensures.put in
    let read = a.followed.works in
    let wrote = n.1.table.so_far.0 in
    record {
      bytes = a.all;
      frames = a.whole;
      done = n.0;
      followed = a.followed;
      put = n.1;
      shown = done_executed a.all a.whole c.advance.new.follower n.0 a.followed.come a.settled (λ few. (n.1.table.few few).0) n.2;
      goes_on = λ unwaited. ends_not_then start (g.S.Source.state c.pieces.source) (g.S.Source.state c.advance.new.source) (i.goes_on unwaited) (goes_on_if (g.S.Source.state c.pieces.source) (g.S.Source.state c.advance.new.source) c.in_ok-ended.ended c.if-ended.false (c.in_ok-ended.ensures.ends unwaited));
      source = omega (arith, read, c.requires.source);
      sink = omega (arith, wrote, c.requires.sink);
      some = omega (arith, c.advance.auto.piece, i.some);
      few = omega (arith, c.advance.auto.piece, i.few);
    }

pub returns-then-ended-clause-unwaited : goal.returns-then-ended-clause-unwaited
returns-then-ended-clause-unwaited g c = not_waited c.args.waits c.in_ok-ended.ended c.if-ended.true c.in_ok-ended.ensures.goes_on

pub returns-in_err-ended-clause-asked : goal.returns-in_err-ended-clause-asked
returns-in_err-ended-clause-asked g c =
    let p = err_from_is_err_and c.from_residual.result c.from_residual.ensures.1 in
    rw (p.1, p.2) (after_others c.args.waits _ (g.S.Source.state c.args.source.now) (g.S.Source.state c.pieces.source) (g.S.Source.state c.advance.new.source) c.pieces.invariant.goes_on c.in_err-ended.ensures.asked)

pub returns-in_err-put_new-clause-asked : goal.returns-in_err-put_new-clause-asked
returns-in_err-put_new-clause-asked g c =
    let p = err_from_is_err_and c.from_residual-in_err-put_new.result c.from_residual-in_err-put_new.ensures.1 in
    let i = c.pieces.invariant in
    let start = g.S.Source.state c.args.source.now in
    let first = g.K.Sink.state c.args.sink.now in
    let a = c.in_ok-ended.ensures.next start i.bytes i.frames i.followed in
    rw (p.1, p.2) (ends_or_not c.args.waits c.in_ok-ended.ended _ start (g.S.Source.state c.pieces.source) (g.S.Source.state c.advance.new.source)
    (put_not_short (g.T.TableRows.kind c.args.accounts.now) _ a.all first (g.K.Sink.state c.put_new.new.sink) (where_put (g.T.TableRows.kind c.args.accounts.now) (g.met.T.TableRows.no_rows c.args.accounts.now) _ i.followed.come a i.put c.in_err-put_new.ensures.fault)) i.goes_on c.in_ok-ended.ensures.ends)

pub returns-in_err-flaw-clause-asked : goal.returns-in_err-flaw-clause-asked
returns-in_err-flaw-clause-asked g c =
    let p = err_from_is_err_and c.from_residual-in_err-flaw.result c.from_residual-in_err-flaw.ensures.1 in
    rw (p.1, p.2) (ends_or_not c.args.waits c.in_ok-ended.ended _ (g.S.Source.state c.args.source.now) (g.S.Source.state c.pieces.source) (g.S.Source.state c.advance.new.source) (memory_not_short _ refl) c.pieces.invariant.goes_on c.in_ok-ended.ensures.ends)

pub returns-in_err-put_end-clause-asked : goal.returns-in_err-put_end-clause-asked
returns-in_err-put_end-clause-asked g c =
    let p = err_from_is_err_and c.from_residual-in_err-put_end.result c.from_residual-in_err-put_end.ensures.1 in
    rw (p.1, p.2) (ends_or_not c.args.waits c.in_ok-ended.ended _ (g.S.Source.state c.args.source.now) (g.S.Source.state c.pieces.source) (g.S.Source.state c.advance.new.source) (write_not_short _ _ refl) c.pieces.invariant.goes_on c.in_ok-ended.ensures.ends)
