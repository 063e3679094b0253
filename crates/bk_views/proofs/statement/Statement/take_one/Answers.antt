use Rattle.std.proofs.Common.{◌≡◌, ◌∙◌, Some, ap, subst, sym}
use Rattle.std.specs.Prelude.{slice_get}
use Rattle.bk_tx.specs.Reading.{transaction_of}
use Rattle.bk_views.specs.Told.{Told}
use Rattle.bk_views.proofs.Reading.{place_of_run, told_one}
use Rattle.bk_views.proofs.statement.Statement.take_one.Goals as goal

pub returns-clause-told : goal.returns-clause-told
returns-clause-told c = λ course run low here told.
    told_one course c.args.self.now.place _ _ c.self-2.view_is
    (c.in_ok-take_part.ensures.told course
    (place_of_run course c.args.receipts.now c.args.self.now.place c.decode.result c.receipt_at-receipt.result run low (here ∙ ap transaction_of (sym c.of.ensures) ∙ sym c.decode.ensures.exact)
    (subst (λ (v : Told). slice_get c.args.receipts.now v.place ≡ Some c.receipt_at-receipt.result) c.self.view_is c.receipt_at-receipt.ensures))
    told)
    c.in_ok-take_part.ensures.same.1
