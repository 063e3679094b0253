use Rattle.bk_ledger.specs.private.Slices.{counts_of, txs_of}
use Rattle.bk_ledger.proofs.NextLemmas.{ready_places, ready_runs}
use Rattle.bk_ledger.proofs.ledger.Ledger.run_next.Goals as goal

pub into_ready-requires-clause-planned : goal.into_ready-requires-clause-planned
into_ready-requires-clause-planned g c = rw (c.version-version.ensures.version, c.ids.ensures, c.state.ensures, c.state-2.ensures) c.requires.planned

pub into_ready-requires-clause-plannable : goal.into_ready-requires-clause-plannable
into_ready-requires-clause-plannable g c = rw (c.version-version.ensures.version, c.ids.ensures, c.state.ensures, c.state-2.ensures) c.requires.plannable

pub run_ready-requires-clause-runs : goal.run_ready-requires-clause-runs
run_ready-requires-clause-runs g c =
    let ready = rw (c.version-version.ensures.version, c.ids.ensures, c.state.ensures, c.state-2.ensures) at c.in_ok-ready.ensures in
    λ _ _. ready_runs c.args.self.state (counts_of c.args.next) (txs_of c.args.next) c.in_ok-ready.ready ready (rw c.state.ensures at c.version-version.ensures.ledger) (rw c.state.ensures at c.version-version.ensures.have_slots) c.requires.room

pub run_ready-requires-clause-places : goal.run_ready-requires-clause-places
run_ready-requires-clause-places g c = λ _ _. ready_places _ _ _ (counts_of c.args.next) (txs_of c.args.next) c.in_ok-ready.ready c.in_ok-ready.ensures c.requires.places
