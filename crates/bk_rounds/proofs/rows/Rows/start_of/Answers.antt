use Rattle.std.proofs.Common.{◌-◌, ◌^◌, arith}
use Rattle.std.proofs.lemmas.Nat.{mul-lt}
use Rattle.bk_rounds.proofs.rows.Rows.start_of.Goals as goal

pub overflow_mul-result : goal.overflow_mul-result
overflow_mul-result c =
    let few = mul-lt (c.args.round - 1) c.from.result (2 ^ 32) (2 ^ 8) (omega arith) (omega arith) in
    omega (arith, few)

pub returns : goal.returns
returns c = mul-lt (c.args.round - 1) c.from.result (2 ^ 32) (2 ^ 8) (omega arith) (omega arith)
