use Rattle.std.proofs.Common.{◌∙◌, arith}
use Rattle.bk_bank.proofs.Settings.{words_step}
use Rattle.bk_bank.proofs.bank.opening.push_accounts.Goals as goal

pub loop-account-preserved : goal.loop-account-preserved
loop-account-preserved c = record {
  items = rw (c.push_reserved-in-loop-account.ensures.items, c.push_reserved.ensures.items)
      (words_step c.loop-account.words.items c.args.words.now.items c.args.numbers.now c.loop-account.account-index _ c.loop-account-test.true c.loop-account.invariant.items);
  len = omega (arith, c.push_reserved.ensures.len, c.push_reserved-in-loop-account.ensures.len, c.loop-account.invariant.len);
  room = c.push_reserved-in-loop-account.ensures.capacity ∙ (c.push_reserved.ensures.capacity ∙ c.loop-account.invariant.room);
}
