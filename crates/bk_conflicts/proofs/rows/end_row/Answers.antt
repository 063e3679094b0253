use Rattle.std.proofs.Common.{ℕ, ◌+◌, ◌∷◌, [], ◌++◌, List, length, sym, subst, ap, arith}
use Rattle.bk_conflicts.specs.private.Rows.{IsRows}
use Rattle.bk_conflicts.proofs.First.{rows_more}
use Rattle.bk_conflicts.proofs.rows.end_row.Goals as goal

pub returns-clause-row : goal.returns-clause-row
returns-clause-row c = λ f n before row r e lies. rw c.in_ok-push.ensures.items
    (subst (λ (xs : List ℕ). IsRows f (n + 1) (c.args.rows.now.start.items ++ c.len-end.result ∷ []) xs) (sym lies)
    (rows_more f n c.args.rows.now.start.items before row c.len-end.result r e (let a = c.len-end.ensures in let b = ap length lies in omega arith)))
