use Rattle.std.proofs.Common.{sym, subst, arith}
use Rattle.bk_bank.specs.Bank.{IsPassOf}
use Rattle.bk_bank.proofs.Seats.{joins}
use Rattle.bk_bank.proofs.Own.{own_inside}
use Rattle.bk_bank.proofs.bank.Bank.join.Goals as goal

pub join_seat-requires : goal.join_seat-requires
join_seat-requires c =
    let own = subst (IsPassOf c.args.self.now) (sym c.pass.view_is) c.requires.own in
    let others = subst (IsPassOf c.args.self.now) (sym c.other.view_is) c.requires.other in (
      (own_inside _ _ _ _ c.pass.inside.seat.me.0 c.self.view_is own).0,
      (own_inside _ _ _ _ c.other.inside.seat.me.0 c.self.view_is others).0,
      c.other.invariant.1,
      (let wide = c.self.invariant.wide in omega arith),
      joins _ _ _ _ _ c.pass.invariant.0 c.other.invariant.0,
    )
