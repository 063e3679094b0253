use Rattle.std.proofs.Common.{◌≡◌, ℕ, ◌<◌, ◌++◌, List, [], length, Ok, Err, arith, sym, subst, ◌∙◌}
use Rattle.std.specs.Prelude.{IfOk, IfErr, OnOk}
use Rattle.std.specs.declared.result.Result.{Result}
use Rattle.std.specs.Global.{Vec}
use Rattle.std.proofs.lemmas.Result.{err_from_is_err_and}
use Rattle.bk_base.specs.declared.kind.Kind.{Kind}
use Rattle.bk_base.specs.declared.version.Version.{Version}
use Rattle.bk_frames.specs.Cutting.{frames_in}
use Rattle.bk_frames.specs.Device.{Works}
use Rattle.bk_base.specs.Feed.{AreGoodFrom}
use Rattle.bk_frames.specs.Reading.{IsPulled}
use Rattle.bk_frames.specs.private.Openings.{IsOpening, CallsForAccounts}
use Rattle.bk_frames.proofs.Devices.{ends_not_at, ends_not_then, ends_not_yet}
use Rattle.bk_frames.proofs.EarlyGenesis.{accounts_refused, good_frames, opening_stays, none_yet}
use Rattle.bk_frames.proofs.Pulls.{none_pulled, ended_short, at_end, whole_read}
use Rattle.bk_frames.proofs.feed.read_in_pieces.Goals as goal

map_err : {T E : Type 0} (r : Result T E) (P Q : E → Type 0) → ((e : E) → P e → Q e) → IfErr r P → IfErr r Q
map_err (Ok x) P Q f h = tt
map_err (Err e) P Q f h = f e h

map_ok : {T E : Type 0} (r : Result T E) (P Q : T → Type 0) → ((t : T) → P t → Q t) → IfOk r P → IfOk r Q
map_ok (Ok x) P Q f h = f x h
map_ok (Err e) P Q f h = tt

on_ok : {T E : Type 0} (r : Result T E) (P : Type 0) → P → OnOk r P
on_ok (Ok x) P h = h
on_ok (Err e) P h = tt

pub pieces-init : goal.pieces-init
pieces-init g c = record {
  pulled = ([], subst (λ (fs : List (Kind × Vec ℕ)). IsPulled (g.S.Source.state c.args.source.now) (g.S.Source.state c.args.source.now) [] (frames_in fs) c.new-cutter.result) (sym c.new-frames.ensures.items) (none_pulled (g.S.Source.state c.args.source.now) c.new-cutter.result c.new-cutter.ensures));
  goes_on = ends_not_yet (g.S.Source.state c.args.source.now);
  opening = subst (λ (fs : List (Kind × Vec ℕ)). length (frames_in fs) < 2) (sym c.new-frames.ensures.items) (omega arith);
  some = c.requires.some;
  few = c.requires.few;
}

pub returns-in_err-count-clause-fault : goal.returns-in_err-count-clause-fault
returns-in_err-count-clause-fault g c =
    let p = err_from_is_err_and c.from_residual.result c.from_residual.ensures.1 in
    rw (p.1, p.2) (c.in_err-count.ensures.refused (g.S.Source.state c.args.source.now) c.pieces.invariant.pulled.0 (frames_in c.pieces.frames.items) c.pieces.invariant.pulled.1)

pub read_opening-requires-clause-good : goal.read_opening-requires-clause-good
read_opening-requires-clause-good g c =
    let q = c.in_ok-count.ensures.pulls (g.S.Source.state c.args.source.now) c.pieces.invariant.pulled.0 [] c.pieces.invariant.pulled.1 in
    subst (λ (fs : List (Kind × Vec ℕ)). (v : Version) × AreGoodFrom v 0 4 (frames_in fs)) (sym c.deref.ensures.value) (good_frames (c.pieces.invariant.pulled.0 ++ q.came) (frames_in c.pull_frames.new.frames.items) c.pull_frames.new.cutter q.pulled.cuts)

pub read_opening-requires-clause-read : goal.read_opening-requires-clause-read
read_opening-requires-clause-read g c =
    opening_stays c.pieces.frames.items c.deref.result.now c.in_ok-count.ensures.cuts.1.0 c.pieces.genesis c.pieces.invariant.opening (c.deref.ensures.value ∙ c.in_ok-count.ensures.cuts.1.1)

pub pieces-preserved : goal.pieces-preserved
pieces-preserved g c =
    let q = c.in_ok-count.ensures.pulls (g.S.Source.state c.args.source.now) c.pieces.invariant.pulled.0 [] c.pieces.invariant.pulled.1 in
    record {
      pulled = (c.pieces.invariant.pulled.0 ++ q.came, q.pulled);
      goes_on = ends_not_then (g.S.Source.state c.args.source.now) (g.S.Source.state c.pieces.source) (g.S.Source.state c.pull_frames.new.source) c.pieces.invariant.goes_on
          (ends_not_at c.in_ok-count.count (g.S.Source.state c.pieces.source) (g.S.Source.state c.pull_frames.new.source) c.in_ok-count.ensures.ends (omega (arith, c.if-count-eq0.false)));
      opening = subst (λ (fs : List (Kind × Vec ℕ)). IsOpening (frames_in fs) c.read_opening.new.genesis) c.deref.ensures.value c.in_ok-read_opening.ensures.read;
      some = omega (arith, c.pieces.invariant.some, c.pull_frames.auto.piece);
      few = omega (arith, c.pieces.invariant.few, c.pull_frames.auto.piece);
    }

pub returns-in_err-read_opening-clause-fault : goal.returns-in_err-read_opening-clause-fault
returns-in_err-read_opening-clause-fault g c =
    let p = err_from_is_err_and c.from_residual-in_err-read_opening.result c.from_residual-in_err-read_opening.ensures.1 in
    let start = g.S.Source.state c.args.source.now in
    let q = c.in_ok-count.ensures.pulls start c.pieces.invariant.pulled.0 [] c.pieces.invariant.pulled.1 in
    let calls = subst (λ (fs : List (Kind × Vec ℕ)). CallsForAccounts (frames_in fs) c.in_err-read_opening.field-0.0) c.deref.ensures.value c.in_err-read_opening.ensures.refused.1 in
    rw (p.1, p.2) (accounts_refused start (g.S.Source.state c.pieces.source) (g.S.Source.state c.pull_frames.new.source) c.pieces.invariant.pulled.0 (frames_in c.pieces.frames.items) (frames_in c.pull_frames.new.frames.items) c.pieces.cutter c.pull_frames.new.cutter c.in_ok-count.count
    c.in_err-read_opening.field-0.0 c.pieces.invariant.pulled.1 (none_yet (frames_in c.pieces.frames.items) c.pieces.genesis c.pieces.invariant.opening c.in_err-read_opening.ensures.refused.0) q c.in_ok-count.ensures.few calls)

pub whole_feed-requires-clause-works : goal.whole_feed-requires-clause-works
whole_feed-requires-clause-works g c = (c.in_ok-count.ensures.pulls (g.S.Source.state c.args.source.now) c.pieces.invariant.pulled.0 [] c.pieces.invariant.pulled.1).pulled.reads

pub whole_feed-requires-clause-cuts : goal.whole_feed-requires-clause-cuts
whole_feed-requires-clause-cuts g c =
    let q = c.in_ok-count.ensures.pulls (g.S.Source.state c.args.source.now) c.pieces.invariant.pulled.0 [] c.pieces.invariant.pulled.1 in
    (c.pieces.invariant.pulled.0 ++ q.came, q.pulled.cuts)

pub whole_feed-requires-clause-opening : goal.whole_feed-requires-clause-opening
whole_feed-requires-clause-opening g c = subst (λ (fs : List (Kind × Vec ℕ)). IsOpening (frames_in fs) c.read_opening.new.genesis) c.deref.ensures.value c.in_ok-read_opening.ensures.read

pub returns-clause-feed : goal.returns-clause-feed
returns-clause-feed g c =
    let start = g.S.Source.state c.args.source.now in
    let bytes = c.pieces.invariant.pulled.0 in
    let q = c.in_ok-count.ensures.pulls start bytes [] c.pieces.invariant.pulled.1 in
    let zero : c.in_ok-count.count ≡ 0 = c.if-count-eq0.true in
    let all = at_end start (g.S.Source.state c.pull_frames.new.source) bytes q.came (q.counted ∙ zero) (c.in_ok-count.ensures.all zero start bytes (frames_in c.pieces.frames.items) c.pieces.invariant.pulled.1 c.pieces.invariant.goes_on) in
    map_ok c.whole_feed.result _ _ (λ feed h. (h.0, whole_read start (g.S.Source.state c.pull_frames.new.source) (bytes ++ q.came) feed q.pulled.gave (h.1 (bytes ++ q.came) q.pulled.cuts) all)) c.whole_feed.ensures.feed

pub returns-clause-sound : goal.returns-clause-sound
returns-clause-sound g c =
    let start = g.S.Source.state c.args.source.now in
    let q = c.in_ok-count.ensures.pulls start c.pieces.invariant.pulled.0 [] c.pieces.invariant.pulled.1 in
    on_ok c.whole_feed.result (Works start (g.S.Source.state c.pull_frames.new.source)) q.pulled.works

pub returns-clause-fault : goal.returns-clause-fault
returns-clause-fault g c =
    let start = g.S.Source.state c.args.source.now in
    let bytes = c.pieces.invariant.pulled.0 in
    let q = c.in_ok-count.ensures.pulls start bytes [] c.pieces.invariant.pulled.1 in
    let zero : c.in_ok-count.count ≡ 0 = c.if-count-eq0.true in
    let all = at_end start (g.S.Source.state c.pull_frames.new.source) bytes q.came (q.counted ∙ zero) (c.in_ok-count.ensures.all zero start bytes (frames_in c.pieces.frames.items) c.pieces.invariant.pulled.1 c.pieces.invariant.goes_on) in
    map_err c.whole_feed.result _ _ (λ f h. ended_short start (g.S.Source.state c.pull_frames.new.source) (bytes ++ q.came) (frames_in c.pull_frames.new.frames.items) c.pull_frames.new.cutter f q.pulled all h) c.whole_feed.ensures.fault
