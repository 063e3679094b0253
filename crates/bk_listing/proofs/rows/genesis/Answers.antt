use Rattle.std.proofs.Common.{List, ◌^◌, ◌<◌, sym, ap, subst, ◌∙◌}
use Rattle.std.specs.Global.{Vec}
use Rattle.std.specs.Option.{option_map}
use Rattle.bk_base.specs.declared.genesis.Row.{Row}
use Rattle.bk_base.specs.Genesis.{total_of}
use Rattle.bk_base.proofs.Accounts.{rows_are_accounts}
use Rattle.bk_listing.proofs.rows.genesis.Goals as goal

pub money_of-requires : goal.money_of-requires
money_of-requires c =
    subst (λ (rows : List Row). total_of rows < 2 ^ 63) (sym c.deref.ensures.value)
    (rows_are_accounts c.args.payload.now c.in-Some.rows.items (sym c.in_ok-rows.ensures ∙ ap (option_map (λ (v : Vec Row). v.items)) c.in-Some.is)).within
