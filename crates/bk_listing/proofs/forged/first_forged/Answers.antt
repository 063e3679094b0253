use Rattle.std.proofs.Common.{◌≡◌, ℕ, ◌<◌, List, length, Some, sym, subst, arith, rules}
use Rattle.std.proofs.lemmas.Slice.Zip.{AllZip-long}
use Rattle.bk_base.specs.Feed.{frame_of}
use Rattle.bk_frames.specs.Cutting.{frames_in}
use Rattle.bk_cert.specs.Values.{CertValue}
use Rattle.bk_cert.specs.Reading.{certificate_of}
use Rattle.bk_certcheck.specs.Verdicts.{IsVerdict}
use Rattle.bk_certcheck.specs.declared.rule.Rule.TheVariants as rule
use Rattle.bk_certcheck.specs.declared.verdict.Verdict.TheVariants as verdict
use Rattle.bk_listing.specs.Forged.{HasWrongTag}
use Rattle.bk_listing.specs.private.FrameRow.{IsRow}
use Rattle.bk_listing.proofs.LineTexts.{long_frames, zip_frame}
use Rattle.bk_listing.proofs.Forgeries.{none_yet, none_more, none_at_all, first_here, forged_row}
use Rattle.bk_listing.proofs.forged.first_forged.Goals as goal

pub loop-i-init : goal.loop-i-init
loop-i-init c = none_yet c.args.committee.now

pub offset_bounds-rows-i : goal.offset_bounds-rows-i
offset_bounds-rows-i c =
    let low : c.loop-i.i < length c.args.rows.now = omega (arith, AllZip-long (IsRow c.args.committee.now) (frames_in c.args.frames.now) c.args.rows.now c.requires, long_frames c.args.frames.now, c.loop-i-test.true) in
    search (rules, low)

pub bounds-rows-i : goal.bounds-rows-i
bounds-rows-i c = omega (arith, AllZip-long (IsRow c.args.committee.now) (frames_in c.args.frames.now) c.args.rows.now c.requires, long_frames c.args.frames.now, c.loop-i-test.true)

pub wrong_signer-signer-requires : goal.wrong_signer-signer-requires
wrong_signer-signer-requires c =
    let k = c.args.committee.now in
    let x = c.index-frames-i.result in
    let is = zip_frame (IsRow k) c.args.frames.now c.args.rows.now c.loop-i.i x c.index-rows-i.result c.requires c.loop-i-test.true c.index-frames-i.is c.index-rows-i.is in
    subst (λ (t : List ℕ). IsVerdict k t (verdict.Broken rule.Tag)) (sym c.deref.ensures.value) (forged_row k (frame_of x.0 x.1.items) c.index-rows-i.result is (sym c.if-is_forged.ensures)).1

pub returns-then-is_forged : goal.returns-then-is_forged
returns-then-is_forged c =
    let k = c.args.committee.now in
    let x = c.index-frames-i.result in
    let is = zip_frame (IsRow k) c.args.frames.now c.args.rows.now c.loop-i.i x c.index-rows-i.result c.requires c.loop-i-test.true c.index-frames-i.is c.index-rows-i.is in
    first_here k c.args.frames.now c.loop-i.i c.wrong_signer-signer.result x c.index-rows-i.result c.loop-i-test.true c.index-frames-i.is is (sym c.if-is_forged.ensures) c.loop-i.invariant
    (subst (λ (t : List ℕ). (v : CertValue) × (certificate_of t ≡ Some v) × HasWrongTag k v c.wrong_signer-signer.result) c.deref.ensures.value c.wrong_signer-signer.ensures)

pub loop-i-preserved : goal.loop-i-preserved
loop-i-preserved c =
    let k = c.args.committee.now in
    let x = c.index-frames-i.result in
    let is = zip_frame (IsRow k) c.args.frames.now c.args.rows.now c.loop-i.i x c.index-rows-i.result c.requires c.loop-i-test.true c.index-frames-i.is c.index-rows-i.is in
    none_more k c.args.frames.now c.loop-i.i x c.index-rows-i.result c.loop-i-test.true c.index-frames-i.is is (sym c.if-is_forged.ensures) c.loop-i.invariant

pub returns : goal.returns
returns c = none_at_all c.args.committee.now c.args.frames.now c.loop-i.i c.loop-i-test.false c.loop-i.invariant
