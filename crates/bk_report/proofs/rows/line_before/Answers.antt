use Rattle.std.proofs.Common.{List, ℕ, [], ◌∷◌, ◌++◌, drop, ap, ◌∙◌}
use Rattle.bk_report.proofs.Pieces.{tx_text, account_text}
use Rattle.bk_report.proofs.rows.line_before.Goals as goal

pub returns-then-index-receipts-clause-text : goal.returns-then-index-receipts-clause-text
returns-then-index-receipts-clause-text c = λ l e. c.three_before.ensures.text ∙ ap (λ (t : List ℕ). (t ++ 10 ∷ []) ++ drop c.args.end c.args.text.now) (tx_text c.args.receipts.now c.args.rows.now c.args.index _ c.receipt-status.result _ l c.if-index-receipts.true (c.receipt-status.ensures ∙ c.index-receipts-index.is) (c.from-status.ensures ∙ c.number.ensures.number) e)

pub returns-clause-text : goal.returns-clause-text
returns-clause-text c = λ l e. c.three_before-2.ensures.text ∙ ap (λ (t : List ℕ). (t ++ 10 ∷ []) ++ drop c.args.end c.args.text.now) (account_text c.args.receipts.now c.args.rows.now c.args.index _ l c.if-index-receipts.false c.requires.inside e)
