-- The summary as what a feed answers, read off its frames alone.
use Rattle.std.specs.Prelude.{◌≡◌, ℕ, List}
use Rattle.bk_base.specs.Feed.{FeedValue}
use Rattle.bk_results.specs.declared.status.Status.{Status}
use Rattle.bk_answer.specs.RunReport.{reach_of}
use Rattle.bk_summary.specs.Summary.{IsSummaryOf}
use Rattle.bk_summary.specs.Text.{summary_text}
use Rattle.bk_summary.specs.declared.summary.Summary.{Summary}

-- nothing stops the feed, this is the text of its summary, and this says whether a batch is missing
pub record IsSummaryText (feed : FeedValue) (end : Status) (text : List ℕ) : Type 0 where
  pub summary : Summary
  pub is_summary : IsSummaryOf feed summary
  pub text_is : text ≡ summary_text summary
  pub end_is : end ≡ reach_of summary.missing
