use Rattle.std.proofs.Common.{◌∙◌}
use Rattle.bk_tables.specs.Payments.{asked_fields}
use Rattle.bk_tables.proofs.RowTexts.{payment_made}
use Rattle.bk_tables.proofs.payment.make_row.Goals as goal

pub returns-clause-text : goal.returns-clause-text
returns-clause-text c =
    payment_made _ _ _ _ _ _ _ _ _ _ _ _ _ _ _ _ (asked_fields c.args.row.now.asked) c.clear.ensures c.from.ensures c.from-2.ensures c.from-3.ensures (c.from-4.ensures ∙ c.number.ensures.number) c.put_number.ensures.text c.put_number-2.ensures.text c.put_number-3.ensures.text c.put_asked.ensures.text c.put_number-4.ensures.text c.put_number-5.ensures.text
