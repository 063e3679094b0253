use Rattle.std.proofs.Common.{sym, drop, ◌∙◌}
use Rattle.std.proofs.lemmas.List.{take_rest}
use Rattle.bk_tx.proofs.Batches.{text_lies, text_missing, text_cut_off}
use Rattle.bk_tx.proofs.batch.slice_at.Goals as goal

pub returns-in_err-len-clause-found : goal.returns-in_err-len-clause-found
returns-in_err-len-clause-found c = rw c.from_residual.ensures (text_missing (drop c.args.at c.args.bytes.now) (rw (c.new-fields.ensures ∙ take_rest c.args.bytes.now c.args.at) at c.in_err-len.ensures.found))

pub returns-in_err-take-clause-found : goal.returns-in_err-take-clause-found
returns-in_err-take-clause-found c = rw c.from_residual-in_err-take.ensures (text_cut_off (drop c.args.at c.args.bytes.now) c.u16.new.self c.in_ok-len.len (rw (c.new-fields.ensures ∙ take_rest c.args.bytes.now c.args.at) at c.in_ok-len.ensures.found) c.in_err-take.ensures.found)

pub returns-clause-found : goal.returns-clause-found
returns-clause-found c = rw c.from.ensures (sym (text_lies c.args.bytes.now c.u16.new.self c.in_ok-take.field-0.now c.take.new.self c.args.at c.in_ok-len.len (sym (rw (c.new-fields.ensures ∙ take_rest c.args.bytes.now c.args.at) at c.in_ok-len.ensures.found)) (sym c.in_ok-take.ensures.found)))
