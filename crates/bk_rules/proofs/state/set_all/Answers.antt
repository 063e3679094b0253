use Rattle.std.proofs.Common.{length, map, sym, ap, ◌∙◌, arith}
use Rattle.std.proofs.lemmas.List.{take_all}
use Rattle.bk_rules.specs.Ledger.{numbers_of, in_pairs}
use Rattle.bk_rules.specs.private.Slots.{tidied}
use Rattle.bk_rules.proofs.Words.{set_more, length-pairs}
use Rattle.bk_rules.proofs.state.set_all.Goals as goal

pub loop-k-preserved : goal.loop-k-preserved
loop-k-preserved c = set_more c.args.version c.loop-k.numbers c.args.words.now c.loop-k.k c.numbers_of.result (omega arith) (omega arith) c.loop-k.invariant (c.numbers_of.ensures ∙ ap numbers_of c.shown.ensures)

pub returns : goal.returns
returns c =
    let pairs = length-pairs (length c.args.numbers.now) c.args.words.now c.requires in
    sym (take_all c.loop-k.k c.loop-k.numbers (omega arith)) ∙ c.loop-k.invariant ∙ ap (map (tidied c.args.version)) (take_all c.loop-k.k (in_pairs c.args.words.now) (omega arith))
