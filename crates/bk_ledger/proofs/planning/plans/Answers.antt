-- Both ends begin with the first.
use Rattle.bk_ledger.specs.declared.planning.Planned.{Planned}
use Rattle.bk_ledger.specs.declared.ready.Next.TheVariants as next
use Rattle.bk_ledger.proofs.HandingLemmas.{first_planned}
use Rattle.bk_ledger.proofs.planning.plans.Goals as goal

pub returns-clause-gives : goal.returns-clause-gives
returns-clause-gives c =
    let first : Planned = record { payloads = c.args.payloads; version = c.args.version; ids = c.args.ids; next = next.Read c.new-none.result } in
    first_planned first _ c.in_ok-giving.ensures.gives c.new-none.ensures.counts

pub returns-clause-takes : goal.returns-clause-takes
returns-clause-takes c =
    let first : Planned = record { payloads = c.args.payloads; version = c.args.version; ids = c.args.ids; next = next.Read c.new-none.result } in
    first_planned first _ c.in_ok-giving.ensures.takes c.new-none.ensures.counts
