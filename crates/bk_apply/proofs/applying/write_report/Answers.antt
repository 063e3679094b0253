use Rattle.std.proofs.Common.{◌++◌, ◌∷◌, [], ap, sym, ◌∙◌, length, arith}
use Rattle.bk_base.specs.Genesis.{total_of}
use Rattle.bk_report.specs.declared.line.Line.TheVariants as line
use Rattle.bk_report.specs.Report.{account_lines, batch_lines, tx_lines}
use Rattle.bk_report.proofs.Putting.{groups_put, one_put, put_all}
use Rattle.bk_apply.proofs.applying.write_report.Goals as goal

pub put_batches-requires-clause-ready : goal.put_batches-requires-clause-ready
put_batches-requires-clause-ready g c = λ _. c.requires.sound

pub put_receipts-requires-clause-ready : goal.put_receipts-requires-clause-ready
put_receipts-requires-clause-ready g c = c.put_batches.ensures.ready

pub put_accounts-requires : goal.put_accounts-requires
put_accounts-requires g c = c.put_receipts.ensures.ready

pub put-requires : goal.put-requires
put-requires g c = c.put_accounts.ensures.ready

pub end-requires : goal.end-requires
end-requires g c = c.put.ensures.ready

pub returns : goal.returns
returns g c =
    let batches = batch_lines 0 c.deref.result.now in
    let txs = tx_lines 0 c.deref-2.result.now in
    let accounts = account_lines c.deref-3.result.now in
    let money = line.Money (total_of c.deref-3.result.now) in
    let three = groups_put (batches ++ txs) accounts (groups_put batches txs c.put_batches.ensures c.put_receipts.ensures) c.put_accounts.ensures in
    let all = groups_put (batches ++ txs ++ accounts) (money ∷ []) three (one_put _ money (ap (λ n. line.Money n) (c.requires.total ∙ ap total_of (sym c.deref-3.ensures.value))) c.put.ensures) in
    rw (← c.deref.ensures.value, ← c.deref-2.ensures.value, ← c.deref-3.ensures.value) (c.end.ensures.written (g.K.Sink.state c.args.sink.now) _ (put_all c.requires.blank all) (omega (arith, all.short, c.requires.few, c.deref.ensures.len, c.deref-2.ensures.len, ap length c.deref-3.ensures.value)))
