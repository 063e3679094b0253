use Rattle.std.proofs.lemmas.Result.{err_from_is_err_and}
use Rattle.bk_script.proofs.WholeLists.{text_lists, text_lists_none, no_text}
use Rattle.bk_script.proofs.listing.read_list.Goals as goal

pub returns-in_err-text-clause-fault : goal.returns-in_err-text-clause-fault
returns-in_err-text-clause-fault g c =
    let p = err_from_is_err_and c.from_residual-in_err-text.result c.from_residual-in_err-text.ensures.1 in
    rw (p.1, p.2) (no_text g.L.LineList.with_line (g.L.LineList.value c.args.list) (g.S.Source.state c.args.source.now) (g.S.Source.state c.text_of.new.source) c.args.most c.in_err-text.field-0.0 c.in_err-text.ensures.fault)

pub returns-in_err-take_text-clause-fault : goal.returns-in_err-take_text-clause-fault
returns-in_err-take_text-clause-fault g c =
    let p = err_from_is_err_and c.from_residual-in_err-take_text.result c.from_residual-in_err-take_text.ensures.1 in
    rw (p.1, p.2) (text_lists_none g.L.LineList.with_line (g.L.LineList.value c.args.list) (g.S.Source.state c.args.source.now) (g.S.Source.state c.text_of.new.source) (g.L.LineList.value c.take_text.new.list) c.args.most c.in_ok-text.text.items c.in_err-take_text.field-0.0 c.in_ok-text.ensures.text (rw (← c.deref.ensures.value) c.in_err-take_text.ensures))

pub returns-clause-list : goal.returns-clause-list
returns-clause-list g c = text_lists g.L.LineList.with_line (g.L.LineList.value c.args.list) (g.S.Source.state c.args.source.now) (g.S.Source.state c.text_of.new.source) c.args.most c.in_ok-text.text.items (g.L.LineList.value c.take_text.new.list) c.in_ok-text.ensures.text (rw (← c.deref.ensures.value) c.in_ok-take_text.ensures)
