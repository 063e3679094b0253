use Rattle.std.proofs.Common.{length-set, refl, ap, ◌∙◌, arith}
use Rattle.bk_base.specs.declared.version.Version.TheVariants.{Two}
use Rattle.bk_rules.specs.Ledger.{numbers_of}
use Rattle.bk_rules.specs.private.Slots.{tidied}
use Rattle.bk_rules.proofs.Words.{tidied_more, tidied_rest, tidied_all}
use Rattle.bk_rules.proofs.numbers.tidy_all.Goals as goal

pub loop-k-init : goal.loop-k-init
loop-k-init c = record { long = refl; before = λ i l. absurd (omega arith); after = λ i l. refl }

pub loop-k-preserved : goal.loop-k-preserved
loop-k-preserved c = record {
  long = length-set c.loop-k.numbers c.loop-k.k _ ∙ c.loop-k.invariant.long;
  before = tidied_more c.loop-k.numbers c.args.numbers.now c.loop-k.k _ (omega arith) (c.numbers_of.ensures ∙ (ap numbers_of c.shown.ensures ∙ ap (tidied Two) (c.loop-k.invariant.after c.loop-k.k (omega arith)))) c.loop-k.invariant.before;
  after = tidied_rest c.loop-k.numbers c.args.numbers.now c.loop-k.k _ c.loop-k.invariant.after;
}

pub returns : goal.returns
returns c = tidied_all c.loop-k.numbers c.args.numbers.now c.loop-k.invariant.long (λ i l. c.loop-k.invariant.before i (let e = c.loop-k-test.false in omega arith))
