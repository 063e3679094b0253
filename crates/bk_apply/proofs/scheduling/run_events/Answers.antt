use Rattle.std.proofs.Common.{◌∙◌, subst}
use Rattle.std.proofs.lemmas.Result.{err_from_is_err_and}
use Rattle.bk_base.specs.Genesis.{AreAccounts}
use Rattle.bk_apply.proofs.Schedules.{opens, plan_of_feed, feed_room, runs_on, few_places, few_slots, is_scheduled, unscheduled}
use Rattle.bk_apply.proofs.scheduling.run_events.Goals as goal

pub make-requires-clause-few : goal.make-requires-clause-few
make-requires-clause-few c = few_places c.args.feed.now c.args.txs.items c.requires.good c.requires.txs

pub make-requires-clause-few_slots : goal.make-requires-clause-few_slots
make-requires-clause-few_slots c =
    let opened = opens c.args.feed.now c.version.result c.genesis.result.now c.in_ok-state.state c.version.ensures c.genesis.ensures.rows c.in_ok-state.ensures in
    let prepared = rw c.deref.ensures.value at c.in_ok-prepare.ensures.prepared in
    few_slots c.args.feed.now c.args.txs.items c.in_ok-state.state c.prepare.new.self c.ids.result.now c.requires.good c.requires.txs opened prepared c.ids.ensures

pub run_schedule-requires : goal.run_schedule-requires
run_schedule-requires c =
    let accounts = subst AreAccounts c.genesis.ensures.rows c.genesis.ensures.accounts in
    let opened = opens c.args.feed.now c.version.result c.genesis.result.now c.in_ok-state.state c.version.ensures c.genesis.ensures.rows c.in_ok-state.ensures in
    let prepared = rw c.deref.ensures.value at c.in_ok-prepare.ensures.prepared in
    let room = feed_room c.args.feed.now c.args.txs.items c.in_ok-state.state c.prepare.new.self c.requires.good accounts c.requires.txs opened prepared in
    runs_on c.args.txs.items c.prepare.new.self c.in_ok-plan.plan (c.in_ok-plan.ensures.version ∙ c.version-2.ensures.version) (c.in_ok-plan.ensures.ids ∙ c.ids.ensures) c.in_ok-plan.ensures.txs c.version-2.ensures.ledger c.version-2.ensures.shown room

pub returns-in_err-outcome-clause-stop : goal.returns-in_err-outcome-clause-stop
returns-in_err-outcome-clause-stop c =
    let opened = opens c.args.feed.now c.version.result c.genesis.result.now c.in_ok-state.state c.version.ensures c.genesis.ensures.rows c.in_ok-state.ensures in
    let prepared = rw c.deref.ensures.value at c.in_ok-prepare.ensures.prepared in
    let of = plan_of_feed c.args.feed.now c.args.txs.items c.in_ok-state.state c.prepare.new.self c.in_ok-plan.plan c.requires.txs opened prepared c.len.ensures.plan (c.in_ok-plan.ensures.version ∙ c.version-2.ensures.version) (c.in_ok-plan.ensures.ids ∙ c.ids.ensures) c.in_ok-plan.ensures.txs in
    let p = err_from_is_err_and c.from_residual-in_err-outcome.result c.from_residual-in_err-outcome.ensures.1 in
    rw (p.1, p.2) (unscheduled c.args.feed.now c.args.workers c.args.events.now c.in_ok-plan.plan c.prepare.new.self _ of c.in_err-outcome.ensures.fault)

pub returns-clause-scheduled : goal.returns-clause-scheduled
returns-clause-scheduled c =
    let opened = opens c.args.feed.now c.version.result c.genesis.result.now c.in_ok-state.state c.version.ensures c.genesis.ensures.rows c.in_ok-state.ensures in
    let prepared = rw c.deref.ensures.value at c.in_ok-prepare.ensures.prepared in
    let of = plan_of_feed c.args.feed.now c.args.txs.items c.in_ok-state.state c.prepare.new.self c.in_ok-plan.plan c.requires.txs opened prepared c.len.ensures.plan (c.in_ok-plan.ensures.version ∙ c.version-2.ensures.version) (c.in_ok-plan.ensures.ids ∙ c.ids.ensures) c.in_ok-plan.ensures.txs in
    is_scheduled c.args.feed.now c.args.workers c.args.events.now c.in_ok-plan.plan c.prepare.new.self c.in_ok-outcome.outcome of c.in_ok-outcome.ensures.whole c.in_ok-outcome.ensures.fold
