use Rattle.std.proofs.lemmas.Result.{err_from_is_err_and}
use Rattle.bk_script.proofs.WholeTexts.{text_gives, text_fails, reading_fails}
use Rattle.bk_script.proofs.making.feed_from.Goals as goal

pub returns-in_err-text-clause-fault : goal.returns-in_err-text-clause-fault
returns-in_err-text-clause-fault g c =
    let p = err_from_is_err_and c.from_residual.result c.from_residual.ensures.1 in
    rw (p.1, p.2) (reading_fails c.args.most (g.S.Source.state c.args.source.now) (g.S.Source.state c.read_text.new.source) c.in_err-text.field-0.0 c.in_err-text.ensures.fault)

pub returns-in_err-feed-clause-fault : goal.returns-in_err-feed-clause-fault
returns-in_err-feed-clause-fault g c =
    let p = err_from_is_err_and c.from_residual-in_err-feed.result c.from_residual-in_err-feed.ensures.1 in
    rw (p.1, p.2) (text_fails c.args.most (g.S.Source.state c.args.source.now) (g.S.Source.state c.read_text.new.source) c.in_ok-text.text.items c.in_err-feed.field-0.0 c.in_ok-text.ensures.text (rw (← c.deref.ensures.value) c.in_err-feed.ensures))

pub returns-clause-feed : goal.returns-clause-feed
returns-clause-feed g c = text_gives c.args.most (g.S.Source.state c.args.source.now) (g.S.Source.state c.read_text.new.source) c.in_ok-text.text.items c.in_ok-feed.feed.items c.in_ok-text.ensures.text (rw (← c.deref.ensures.value) c.in_ok-feed.ensures)
