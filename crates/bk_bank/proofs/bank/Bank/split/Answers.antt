use Rattle.std.proofs.Common.{sym, subst, arith}
use Rattle.bk_bank.specs.Bank.{IsPassOf}
use Rattle.bk_bank.proofs.Seats.{splits}
use Rattle.bk_bank.proofs.Own.{own_inside}
use Rattle.bk_bank.proofs.bank.Bank.split.Goals as goal

pub split_seat-other-requires : goal.split_seat-other-requires
split_seat-other-requires c =
    let own = subst (IsPassOf c.args.self.now) (sym c.pass.view_is) c.requires.own in
    ((own_inside _ _ _ _ c.pass.inside.seat.me.0 c.self.view_is own).0, (let wide = c.self.invariant.wide in omega arith), splits _ _ _ c.pass.invariant.0)
