use Rattle.std.proofs.Common.{sym, ap, ◌∙◌}
use Rattle.std.specs.Global.{Vec}
use Rattle.std.specs.Option.{option_map}
use Rattle.bk_base.specs.declared.genesis.Row.{Row}
use Rattle.bk_base.proofs.Accounts.{rows_are_accounts}
use Rattle.bk_follow.proofs.opening.genesis_of.Goals as goal

pub returns-clause-accounts : goal.returns-clause-accounts
returns-clause-accounts c = rows_are_accounts c.args.payload.now c.in-Some.rows.items (sym c.in_ok-rows.ensures ∙ ap (option_map (λ (v : Vec Row). v.items)) c.in-Some.is)
