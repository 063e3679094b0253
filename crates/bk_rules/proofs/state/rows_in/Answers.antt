use Rattle.std.proofs.Common.{◌++◌, [], List, Option, get_or, sym, ap₂, ◌∙◌, arith}
use Rattle.bk_base.specs.declared.genesis.Row.{Row}
use Rattle.bk_rules.specs.declared.account.Account.{Account}
use Rattle.bk_rules.specs.Ledger.{row_before}
use Rattle.bk_rules.proofs.Words.{rows_more}
use Rattle.bk_rules.proofs.state.rows_in.Goals as goal

pub loop-k-preserved : goal.loop-k-preserved
loop-k-preserved c =
    c.in_ok-push_row.ensures
    ∙ ap₂ (λ (rows : List Row) (o : Option Account). rows ++ row_before (get_or c.args.ids.now c.loop-k.k 0) o []) c.loop-k.invariant c.shown.ensures
    ∙ sym (rows_more c.args.version c.args.ids.now c.args.numbers.now c.loop-k.k _ (omega arith) c.requires)
