use Rattle.std.proofs.Common.{◌≡◌, ◌*◌, ℕ, List, length-set, refl, subst, ◌∙◌, arith}
use Rattle.std.proofs.lemmas.List.{take_all}
use Rattle.bk_rules.specs.declared.account.Account.{Account}
use Rattle.bk_pool.specs.private.Receipts.{AreNumbers}
use Rattle.bk_pool.proofs.Ended.{no_numbers, more_written}
use Rattle.bk_pool.proofs.outcome.write_numbers.Goals as goal

pub loop-k-init : goal.loop-k-init
loop-k-init c = record { long = refl; written = no_numbers c.args.words.now c.args.numbers.now }

pub loop-k-preserved : goal.loop-k-preserved
loop-k-preserved c = record {
  long = length-set c.loop-k.numbers c.loop-k.k _ ∙ c.loop-k.invariant.long;
  written = more_written c.args.words.now c.loop-k.numbers c.loop-k.k c.word.result c.word-in-loop-k.result (omega arith) c.loop-k.invariant.written c.word.ensures c.word-in-loop-k.ensures;
}

pub returns : goal.returns
returns c =
    let long = c.loop-k.invariant.long in
    let test = c.loop-k-test.false in
    let asked = c.requires in
    let last = c.loop-k.auto.k-end in
    subst (λ (y : List Account × ℕ). AreNumbers c.args.words.now y.0 y.1) (λ j. (take_all c.loop-k.k c.loop-k.numbers (omega arith) j, (let z : 2 * c.loop-k.k ≡ c.args.words.now.words = omega arith in z) j)) c.loop-k.invariant.written
