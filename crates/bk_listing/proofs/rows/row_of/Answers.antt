use Rattle.std.proofs.Common.{subst}
use Rattle.bk_base.specs.Feed.{frame_of}
use Rattle.bk_certcheck.specs.Frames.{IsFound}
use Rattle.bk_certcheck.specs.declared.verdict.Verdict.TheVariants as verdict
use Rattle.bk_listing.proofs.Words.{cert_shown}
use Rattle.bk_listing.proofs.rows.row_of.Goals as goal

pub returns-in-Good : goal.returns-in-Good
returns-in-Good c = λ k h.
    let is = subst (IsFound k (frame_of c.args.kind c.args.payload.now)) c.in-Good.is h in
    cert_shown k c.args.kind c.args.payload.now (verdict.Good c.in-Good.checked) c.good.result is.0 is.1 (c.good.ensures.words k) c.good.ensures.rules

pub returns-in-Broken : goal.returns-in-Broken
returns-in-Broken c = λ k h.
    let is = subst (IsFound k (frame_of c.args.kind c.args.payload.now)) c.in-Broken.is h in
    cert_shown k c.args.kind c.args.payload.now (verdict.Broken c.in-Broken.rule) c.broken.result is.0 is.1 (c.broken.ensures.words k) c.broken.ensures.rules
