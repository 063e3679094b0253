use Rattle.std.proofs.Common.{◌≡◌, length, map, ◌∙◌, sym, arith}
use Rattle.bk_ledger.proofs.SliceLemmas.{lent_count}
use Rattle.bk_ledger.proofs.NextLemmas.{read_none}
use Rattle.bk_ledger.proofs.ledger.Ledger.run_turn.Goals as goal

pub returns-then-from-payloads-clause-read : goal.returns-then-from-payloads-clause-read
returns-then-from-payloads-clause-read g c =
    let all : c.args.from ≡ length (map (λ p. p.now) c.args.payloads.now) = c.if-from-payloads.true ∙ sym (lent_count c.args.payloads.now) in
    read_none _ c.args.from _ _ (omega (arith, all)) (omega (arith, all)) c.new.ensures.counts c.new.ensures.txs
