use Rattle.std.proofs.Common.{ℕ, List, ◌<◌, length, sym, subst, arith, rules}
use Rattle.std.proofs.lemmas.Slice.Zip.{AllZip-long}
use Rattle.bk_base.specs.Feed.{frame_of}
use Rattle.bk_frames.specs.Cutting.{frames_in}
use Rattle.bk_certcheck.specs.Frames.{IsFound}
use Rattle.bk_listing.specs.private.FrameRow.{IsRow}
use Rattle.bk_listing.proofs.LineTexts.{long_frames, rows_all, rows_on, zip_frame}
use Rattle.bk_listing.proofs.rows.rows_of.Goals as goal

pub offset_bounds-found-i : goal.offset_bounds-found-i
offset_bounds-found-i c =
    let low : c.loop-i.i < length c.args.found.now = omega (arith, AllZip-long (IsFound c.args.committee.now) (frames_in c.args.frames.now) c.args.found.now c.requires, long_frames c.args.frames.now, c.loop-i-test.true) in
    search (rules, low)

pub bounds-found-i : goal.bounds-found-i
bounds-found-i c = omega (arith, AllZip-long (IsFound c.args.committee.now) (frames_in c.args.frames.now) c.args.found.now c.requires, long_frames c.args.frames.now, c.loop-i-test.true)

pub row_of-requires : goal.row_of-requires
row_of-requires c = (
  c.args.committee.now,
  subst (λ (t : List ℕ). IsFound c.args.committee.now (frame_of c.index-frames-i.result.0 t) c.index-found-i.result) (sym c.deref.ensures.value)
      (zip_frame (IsFound c.args.committee.now) c.args.frames.now c.args.found.now c.loop-i.i c.index-frames-i.result c.index-found-i.result c.requires c.loop-i-test.true c.index-frames-i.is c.index-found-i.is),
)

pub loop-i-preserved : goal.loop-i-preserved
loop-i-preserved c =
    let x = c.index-frames-i.result in
    let k = c.args.committee.now in
    let is = zip_frame (IsFound k) c.args.frames.now c.args.found.now c.loop-i.i x c.index-found-i.result c.requires c.loop-i-test.true c.index-frames-i.is c.index-found-i.is in
    rows_on k c.args.frames.now c.loop-i.i x c.loop-i.rows.items c.push.new.self.items c.in_ok-row.row c.loop-i-test.true c.index-frames-i.is c.loop-i.invariant
    (subst (λ (t : List ℕ). IsRow k (frame_of x.0 t) c.in_ok-row.row) c.deref.ensures.value (c.in_ok-row.ensures k (subst (λ (t : List ℕ). IsFound k (frame_of x.0 t) c.index-found-i.result) (sym c.deref.ensures.value) is))) c.in_ok-push.ensures.items

pub returns : goal.returns
returns c = rows_all c.args.committee.now c.args.frames.now c.loop-i.i c.loop-i.rows.items c.loop-i-test.false c.loop-i.invariant
