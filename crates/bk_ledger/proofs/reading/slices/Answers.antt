-- Both ends begin with the first.
use Rattle.bk_ledger.specs.declared.reading.Handed.{Handed}
use Rattle.bk_ledger.proofs.HandingLemmas.{first_handed}
use Rattle.bk_ledger.proofs.reading.slices.Goals as goal

pub returns-clause-gives : goal.returns-clause-gives
returns-clause-gives c =
    let first : Handed = record { payloads = c.args.payloads; read = c.new-read.result } in
    first_handed first _ c.in_ok-giving.ensures.gives c.new-read.ensures.counts

pub returns-clause-takes : goal.returns-clause-takes
returns-clause-takes c =
    let first : Handed = record { payloads = c.args.payloads; read = c.new-read.result } in
    first_handed first _ c.in_ok-giving.ensures.takes c.new-read.ensures.counts
