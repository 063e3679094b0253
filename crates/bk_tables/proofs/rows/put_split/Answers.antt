use Rattle.std.proofs.Common.{◌+◌, [], ◌∷◌, ◌++◌, drop, map, refl, sym, ap, ◌∙◌, arith}
use Rattle.bk_tx.specs.declared.payments.Payment.{Payment}
use Rattle.bk_tables.specs.Payments.{payments_text, row_of, rows_of}
use Rattle.bk_tables.specs.private.Asking.{split_of}
use Rattle.bk_tables.specs.declared.payment.PaymentRow.{PaymentRow}
use Rattle.bk_tables.proofs.Done.{all_done, begun, next_done}
use Rattle.bk_tables.proofs.TableTexts.{split_next, split_none}
use Rattle.bk_tables.proofs.rows.put_split.Goals as goal

pub loop-item-init : goal.loop-item-init
loop-item-init g c = begun _ _ _ c.requires.ready refl

pub put_row-requires : goal.put_row-requires
put_row-requires g c = c.loop-item.invariant.puts.ready

pub loop-item-preserved : goal.loop-item-preserved
loop-item-preserved g c =
    let none : Payment = record { to = 0; amount = 0 } in
    let more = payments_text c.args.accounts.now (rows_of c.args.at (c.loop-item.item + 1) (map (split_of c.args.from c.args.seq) (drop (c.loop-item.item + 1) c.args.payments.now))) in
    next_done _ (payments_text c.args.accounts.now (c.row_of-row.result ∷ [])) more
    (split_next c.args.accounts.now c.args.at (split_of c.args.from c.args.seq) c.args.payments.now c.loop-item.item none c.loop-item-test.true
    ∙ ap (λ (r : PaymentRow). payments_text c.args.accounts.now (r ∷ []) ++ more) (sym (c.row_of-row.ensures ∙ ap (row_of c.args.at c.loop-item.item) c.split_of.ensures)))
    c.loop-item.invariant c.put_row.ensures (omega arith)

pub returns : goal.returns
returns g c = all_done 1800 (split_none c.args.accounts.now c.args.at (split_of c.args.from c.args.seq) c.args.payments.now c.loop-item.item c.loop-item-test.false) c.loop-item.invariant (omega (arith, c.requires.few, c.loop-item.auto.item-end))
