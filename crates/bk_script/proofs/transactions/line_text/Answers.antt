use Rattle.std.proofs.Common.{arith, map, ap, length}
use Rattle.bk_script.specs.Words.{number_of}
use Rattle.bk_script.proofs.Each.{each_length, count}
use Rattle.bk_script.proofs.transactions.line_text.Goals as goal

pub said_by-said-requires : goal.said_by-said-requires
said_by-said-requires c =
    let n = each_length number_of (map (λ w. w.now) c.args.words.now) c.in_ok-numbers.numbers.items c.in_ok-numbers.ensures in
    let m = count c.args.words.now in
    let few = ap length c.deref.ensures.value in
    (omega (arith, n, m, few, c.requires.0), omega (arith, n, m, few, c.requires.1))
