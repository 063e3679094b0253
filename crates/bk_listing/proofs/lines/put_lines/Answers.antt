use Rattle.std.proofs.Common.{◌<◌, length, refl, arith, rules}
use Rattle.std.proofs.lemmas.Slice.Zip.{AllZip-long}
use Rattle.bk_frames.specs.Cutting.{frames_in}
use Rattle.bk_listing.specs.private.FrameRow.{IsRow}
use Rattle.bk_listing.proofs.LineTexts.{long_frames, place_fits, puts_on, zip_frame}
use Rattle.bk_listing.proofs.lines.put_lines.Goals as goal

pub offset_bounds-rows-i : goal.offset_bounds-rows-i
offset_bounds-rows-i c =
    let low : c.loop-i.i < length c.args.rows.now = omega (arith, AllZip-long (IsRow c.args.committee.now) (frames_in c.args.frames.now) c.args.rows.now c.requires.rows, long_frames c.args.frames.now, c.loop-i-test.true) in
    search (rules, low)

pub bounds-rows-i : goal.bounds-rows-i
bounds-rows-i c = omega (arith, AllZip-long (IsRow c.args.committee.now) (frames_in c.args.frames.now) c.args.rows.now c.requires.rows, long_frames c.args.frames.now, c.loop-i-test.true)

pub overflow_add-place-in-loop-i-2 : goal.overflow_add-place-in-loop-i-2
overflow_add-place-in-loop-i-2 c =
    let x = c.index-frames-i.result in
    let fits = place_fits c.args.committee.now c.args.place.now c.loop-i.place c.args.frames.now c.loop-i.i x c.args.text.now.items c.loop-i.text.items c.loop-i-test.true c.index-frames-i.is c.loop-i.invariant c.requires.index c.requires.offset in
    omega (arith, fits.1, c.len.ensures, x.1.ok.0)

pub loop-i-preserved : goal.loop-i-preserved
loop-i-preserved c =
    let x = c.index-frames-i.result in
    puts_on c.args.committee.now c.args.place.now c.loop-i.place _ c.args.frames.now c.loop-i.i x c.index-rows-i.result c.args.text.now.items c.loop-i.text.items c.put_line.new.text.items c.loop-i-test.true c.index-frames-i.is
    (zip_frame (IsRow c.args.committee.now) c.args.frames.now c.args.rows.now c.loop-i.i x c.index-rows-i.result c.requires.rows c.loop-i-test.true c.index-frames-i.is c.index-rows-i.is)
    c.loop-i.invariant c.in_ok-put_line.ensures refl (omega (arith, c.len.ensures, x.1.ok.0))
