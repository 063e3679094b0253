use Rattle.std.proofs.Common.{◌∙◌, ◌≡◌}
use Rattle.std.proofs.lemmas.Result.{err_from_is_err_and}
use Rattle.bk_base.specs.Feed.{spelling}
use Rattle.bk_frames.proofs.Devices.{gave_all}
use Rattle.bk_apply.specs.Answers.{ReportIsOut}
use Rattle.bk_apply.proofs.FeedReports.{are_feed, few_accounts, few_counts, few_receipts, part_is_out, all_is_out, untouched}
use Rattle.bk_apply.proofs.applying.apply.Goals as goal

pub write_report-requires-clause-few : goal.write_report-requires-clause-few
write_report-requires-clause-few g c =
    let l = c.in_ok-summary.summary in
    let good = c.in_ok-feed.ensures.feed.0 in
    let counts = c.in_ok-summary.ensures.counts ∙ c.in_ok-ledger.ensures.counts in
    let receipts = c.in_ok-summary.ensures.receipts ∙ c.in_ok-ledger.ensures.receipts in
    (few_counts c.in_ok-feed.feed l.counts.items _ good counts l.counts.ok.0, few_receipts c.in_ok-feed.feed l.receipts.items _ good receipts l.receipts.ok.0, few_accounts c.in_ok-feed.feed l.rows.items good (c.in_ok-summary.ensures.rows ∙ c.in_ok-ledger.ensures.rows))

pub returns-in_err-page-clause-fault : goal.returns-in_err-page-clause-fault
returns-in_err-page-clause-fault g c =
    let p = err_from_is_err_and c.from_residual-in_err-page.result c.from_residual-in_err-page.ensures.1 in
    rw (p.1, p.2) (
      c.in_ok-feed.ensures.sound,
      are_feed (g.S.Source.state c.args.source.now) (g.S.Source.state c.read.new.source) c.in_ok-feed.feed c.in_ok-feed.ensures.feed.0 c.in_ok-feed.ensures.feed.1,
      untouched (g.K.Sink.state c.args.sink.now),
    )

pub returns-in_err-write_report-clause-fault : goal.returns-in_err-write_report-clause-fault
returns-in_err-write_report-clause-fault g c =
    let l = c.in_ok-summary.summary in
    let counts = c.in_ok-summary.ensures.counts ∙ c.in_ok-ledger.ensures.counts in
    let receipts = c.in_ok-summary.ensures.receipts ∙ c.in_ok-ledger.ensures.receipts in
    let rows = c.in_ok-summary.ensures.rows ∙ c.in_ok-ledger.ensures.rows in
    let p = err_from_is_err_and c.from_residual-in_err-write_report.result c.from_residual-in_err-write_report.ensures.1 in
    rw (p.1, p.2) (
      c.in_ok-feed.ensures.sound,
      c.in_err-write_report.ensures.fails,
      part_is_out c.in_ok-feed.feed l.counts.items l.receipts.items l.rows.items c.in_ok-feed.ensures.feed.0 (record { counts_are = counts; receipts_are = receipts; rows_are = rows })
          (g.S.Source.state c.args.source.now) (g.S.Source.state c.read.new.source) _ _ _ c.in_ok-feed.ensures.feed.1 c.in_err-write_report.ensures,
    )

pub returns-clause-report : goal.returns-clause-report
returns-clause-report g c =
    let l = c.in_ok-summary.summary in
    let counts = c.in_ok-summary.ensures.counts ∙ c.in_ok-ledger.ensures.counts in
    let receipts = c.in_ok-summary.ensures.receipts ∙ c.in_ok-ledger.ensures.receipts in
    let rows = c.in_ok-summary.ensures.rows ∙ c.in_ok-ledger.ensures.rows in
    gave_all (g.S.Source.state c.args.source.now) (g.S.Source.state c.read.new.source) (λ bytes. bytes ≡ spelling c.in_ok-feed.feed) (ReportIsOut (g.K.Sink.state c.args.sink.now) (g.K.Sink.state c.write_report.new.sink)) c.in_ok-feed.ensures.feed.1
    (all_is_out c.in_ok-feed.feed l.counts.items l.receipts.items l.rows.items c.in_ok-feed.ensures.feed.0
    (record { counts_are = counts; receipts_are = receipts; rows_are = rows }) (g.K.Sink.state c.args.sink.now) (g.K.Sink.state c.write_report.new.sink) c.in_ok-write_report.ensures)
