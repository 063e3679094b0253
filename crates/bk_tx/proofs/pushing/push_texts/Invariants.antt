use Rattle.bk_tx.proofs.Puts.{IsPutSoFar}
use Rattle.bk_tx.proofs.pushing.push_texts.Given as goal

abbrev pub invariant-loop : goal.invariant-loop
invariant-loop l = IsPutSoFar l.initial.txs.items l.txs.items l.count l.counter l.initial.fields l.fields
