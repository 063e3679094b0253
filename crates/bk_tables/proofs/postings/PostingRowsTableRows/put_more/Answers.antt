use Rattle.std.proofs.Common.{sym, subst}
use Rattle.std.specs.Prelude.{Ok, Err}
use Rattle.std.proofs.lemmas.Result.{err_from_is_err_and}
use Rattle.bk_answer.specs.Values.{closed_value}
use Rattle.bk_report.specs.Pages.{IsReady, desk}
use Rattle.bk_results.specs.declared.fault.Fault.TheVariants as fault
use Rattle.bk_tables.specs.Growing.{Shown}
use Rattle.bk_tables.specs.Kinds.{MoreIsPut, PutsMore, postings}
use Rattle.bk_tables.proofs.postings.PostingRowsTableRows.put_more.Goals as goal

pub write_more-requires-clause-page : goal.write_more-requires-clause-page
write_more-requires-clause-page g c = subst (λ (s : Shown). IsReady (desk s.page (g.K.Sink.state c.args.sink.now))) (sym c.prepare.ensures.same) c.requires.ready

pub returns-in_err-write_more-clause-put : goal.returns-in_err-write_more-clause-put
returns-in_err-write_more-clause-put g c =
    let p = err_from_is_err_and c.from_residual-in_err-write_more.result c.from_residual-in_err-write_more.ensures.1 in
    rw (p.1, p.2) (subst (λ (s : Shown). MoreIsPut (Err (fault.Write c.in_err-write_more.field-0.0.written)) (postings c.args.accounts.now) (closed_value c.args.closed.now) s c.write_more.new.self.shown (g.K.Sink.state c.args.sink.now) (g.K.Sink.state c.write_more.new.sink)) c.prepare.ensures.same c.in_err-write_more.ensures.put)

pub returns-clause-put : goal.returns-clause-put
returns-clause-put g c =
    subst (λ (s : Shown). PutsMore (Ok tt) (postings c.args.accounts.now) (closed_value c.args.closed.now) s c.write_more.new.self.shown (g.K.Sink.state c.args.sink.now) (g.K.Sink.state c.write_more.new.sink)) c.prepare.ensures.same c.in_ok-write_more.ensures.put
