use Rattle.std.proofs.Common.{◌≡◌, ◌+◌, ◌^◌, Some, sym, ap, ◌∙◌, arith}
use Rattle.bk_rules.specs.Numbers.{number_of}
use Rattle.bk_rules.specs.declared.receipt.Status.{Status}
use Rattle.bk_pool.proofs.Ended.{number_low, found_status}
use Rattle.bk_pool.proofs.outcome.receipt_of.Goals as goal

pub overflow_sub-number : goal.overflow_sub-number
overflow_sub-number c = let s = c.requires.statuses c.args.place c.requires.place in let e = s.1 in let h = c.state_of.ensures in omega arith

pub overflow_cast-number : goal.overflow_cast-number
overflow_cast-number c = let s = c.requires.statuses c.args.place c.requires.place in let e = s.1 in let h = c.state_of.ensures in let low = number_low s.0 in omega arith

pub unreachable-requires : goal.unreachable-requires
unreachable-requires c = let s = c.requires.statuses c.args.place c.requires.place in
    c.in_default.not-Some s.0 (found_status c.of_number.result c.state_of.result s.0 c.of_number.ensures (c.state_of.ensures ∙ s.1))

pub returns-clause-status : goal.returns-clause-status
returns-clause-status c = let s = c.requires.statuses c.args.place c.requires.place in
    let is : Some c.in-Some.status ≡ Some s.0 = sym c.in-Some.is ∙ found_status c.of_number.result c.state_of.result s.0 c.of_number.ensures (c.state_of.ensures ∙ s.1) in
    let same : c.in-Some.status ≡ s.0 = cc in
    s.1 ∙ ap (λ (z : Status). 2 ^ 63 + number_of z) (sym same)
