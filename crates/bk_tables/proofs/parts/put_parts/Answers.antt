use Rattle.std.proofs.Common.{List, ap, subst}
use Rattle.std.specs.Option.{option_copied}
use Rattle.bk_report.specs.Pages.{Puts, desk}
use Rattle.bk_tables.specs.Postings.{postings_text}
use Rattle.bk_tables.specs.declared.posting.Posting.{Posting}
use Rattle.bk_tables.proofs.PartAmounts.{place_rows}
use Rattle.bk_tables.proofs.parts.put_parts.Goals as goal

pub returns-in-Some-clause-put : goal.returns-in-Some-clause-put
returns-in-Some-clause-put g c =
    subst (λ (rows : List Posting). Puts (desk c.args.sheet.now.page (g.K.Sink.state c.args.sink.now)) (desk c.put_tx.new.sheet.page (g.K.Sink.state c.put_tx.new.sink)) 1200 (postings_text c.args.accounts.now rows))
    (place_rows c.args.place c.args.state.now c.apply-receipt.new.self (option_copied c.args.tx) c.in-Some.tx.now c.apply-receipt.result (ap option_copied c.in-Some.is) c.requires.transaction c.apply-receipt.ensures.receipt c.apply-receipt.ensures.after)
    c.put_tx.ensures
