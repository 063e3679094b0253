use Rattle.bk_steps.proofs.Opening.{words_more}
use Rattle.bk_steps.proofs.machine.opening_words.Goals as goal

pub loop-account-preserved : goal.loop-account-preserved
loop-account-preserved c = rw (c.in_ok-push-2.ensures.items, c.in_ok-push.ensures.items)
    (words_more c.loop-account.words.items c.args.numbers.now c.loop-account.account-index _ c.loop-account-test.true c.loop-account.invariant)
