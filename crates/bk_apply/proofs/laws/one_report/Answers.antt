use Rattle.std.proofs.Common.{◌∙◌, ap, sym}
use Rattle.bk_base.specs.Feed.{FeedValue}
use Rattle.bk_frames.proofs.OneReading.{one_feed}
use Rattle.bk_report.specs.Lines.{text_of}
use Rattle.bk_report.specs.Report.{apply_report_of}
use Rattle.bk_apply.proofs.laws.one_report.Goals as goal

pub returns : goal.returns
returns c = λ bytes one other a b.
    a.report ∙ ap (λ (feed : FeedValue). text_of (apply_report_of feed)) (one_feed a.feed b.feed a.good b.good (sym a.spelled ∙ b.spelled)) ∙ sym b.report
