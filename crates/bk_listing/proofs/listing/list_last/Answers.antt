use Rattle.std.proofs.Common.{[], ◌≡◌, ◌≤◌, ap, subst, ◌∙◌}
use Rattle.std.proofs.lemmas.Result.{err_from_is_err_and}
use Rattle.bk_frames.specs.Cutting.{Cut, EndsShort}
use Rattle.bk_listing.proofs.ShownSoFar.{ends_fault}
use Rattle.bk_listing.proofs.listing.list_last.Goals as goal

pub returns-in_err-list_waiting-clause-fault : goal.returns-in_err-list_waiting-clause-fault
returns-in_err-list_waiting-clause-fault g c =
    let p = err_from_is_err_and c.from_residual.result c.from_residual.ensures.1 in
    rw (p.1, p.2) (λ taken text h. ends_fault taken text c.args.reader.now _ (g.K.Sink.state c.args.sink.now) (g.K.Sink.state c.list_waiting.new.sink) c.in_err-list_waiting.field-0.0 (c.in_err-list_waiting.ensures.fault taken text h))

pub returns-in_err-end-clause-fault : goal.returns-in_err-end-clause-fault
returns-in_err-end-clause-fault g c =
    let p = err_from_is_err_and c.from_residual-in_err-end.result c.from_residual-in_err-end.ensures.1 in
    let e = c.in_ok-list_waiting.ensures.emptied in
    let short = c.in_err-end.ensures.cut_short (ap (λ (d : Cut). d.fault) e.cutter ∙ c.requires.reads) in
    rw (p.1, p.2) (λ taken text h. (subst (λ (d : Cut). EndsShort d c.in_err-end.field-0.0) e.cutter short, c.in_ok-list_waiting.ensures.listed taken text h))

pub returns-clause-listed : goal.returns-clause-listed
returns-clause-listed g c = c.in_ok-list_waiting.ensures.listed

pub returns-clause-whole : goal.returns-clause-whole
returns-clause-whole g c = subst (λ (d : Cut). (d.kept ≡ []) × (2 ≤ d.index)) c.in_ok-list_waiting.ensures.emptied.cutter (c.in_ok-end.ensures.ok.1, c.in_ok-end.ensures.ok.2)
