use Rattle.std.proofs.Common.{length, sym, ap, subst, arith, ◌∙◌}
use Rattle.bk_follow.specs.Follower.{BookValue, receipts_of_executed}
use Rattle.std.proofs.lemmas.Result.{err_from_is_err_and}
use Rattle.bk_follow.specs.private.Books.{IsGoodBook, BookSettleFails}
use Rattle.bk_follow.proofs.Books.{IsSettling, ledger_next, ledger_done, ledger_place, ledger_clear, ledger_first, no_ledger, execution_fails}
use Rattle.bk_follow.proofs.book.Book.settle.Goals as goal

pub execute_rest-requires-clause-within : goal.execute_rest-requires-clause-within
execute_rest-requires-clause-within g c κs within =
    let s : IsSettling c.self.inside.intake c.settle.new.self = record { same = c.in_ok-settle.ensures.committee; kept = c.in_ok-settle.ensures.kept; works = c.in_ok-settle.ensures.open.1; clear = c.in_default.ensures; order = c.in_ok-settle.ensures.order } in
    let good = subst (IsGoodBook c.requires.good.0) (sym c.self.view_is) c.requires.good.1 in
    (ledger_next c.requires.good.0 c.self.inside.intake c.settle.new.self c.self.inside.ledger c.self.inside.opening.items c.in-Some-take.ledger s (sym c.in-Some-take.ensures.value) good).within

pub execute_rest-requires-clause-room : goal.execute_rest-requires-clause-room
execute_rest-requires-clause-room g c κs within =
    let s : IsSettling c.self.inside.intake c.settle.new.self = record { same = c.in_ok-settle.ensures.committee; kept = c.in_ok-settle.ensures.kept; works = c.in_ok-settle.ensures.open.1; clear = c.in_default.ensures; order = c.in_ok-settle.ensures.order } in
    let good = subst (IsGoodBook c.requires.good.0) (sym c.self.view_is) c.requires.good.1 in
    (ledger_next c.requires.good.0 c.self.inside.intake c.settle.new.self c.self.inside.ledger c.self.inside.opening.items c.in-Some-take.ledger s (sym c.in-Some-take.ensures.value) good).room

pub execute_rest-requires-clause-few : goal.execute_rest-requires-clause-few
execute_rest-requires-clause-few g c κs within =
    let s : IsSettling c.self.inside.intake c.settle.new.self = record { same = c.in_ok-settle.ensures.committee; kept = c.in_ok-settle.ensures.kept; works = c.in_ok-settle.ensures.open.1; clear = c.in_default.ensures; order = c.in_ok-settle.ensures.order } in
    let good = subst (IsGoodBook c.requires.good.0) (sym c.self.view_is) c.requires.good.1 in
    let few = (ledger_next c.requires.good.0 c.self.inside.intake c.settle.new.self c.self.inside.ledger c.self.inside.opening.items c.in-Some-take.ledger s (sym c.in-Some-take.ensures.value) good).few in
    omega (arith, few)

pub execute_rest-requires-clause-slots : goal.execute_rest-requires-clause-slots
execute_rest-requires-clause-slots g c κs within =
    let s : IsSettling c.self.inside.intake c.settle.new.self = record { same = c.in_ok-settle.ensures.committee; kept = c.in_ok-settle.ensures.kept; works = c.in_ok-settle.ensures.open.1; clear = c.in_default.ensures; order = c.in_ok-settle.ensures.order } in
    let good = subst (IsGoodBook c.requires.good.0) (sym c.self.view_is) c.requires.good.1 in
    (ledger_next c.requires.good.0 c.self.inside.intake c.settle.new.self c.self.inside.ledger c.self.inside.opening.items c.in-Some-take.ledger s (sym c.in-Some-take.ensures.value) good).slots

pub returns-in_err-ledger-clause-fault : goal.returns-in_err-ledger-clause-fault
returns-in_err-ledger-clause-fault g c =
    let s : IsSettling c.self.inside.intake c.settle.new.self = record { same = c.in_ok-settle.ensures.committee; kept = c.in_ok-settle.ensures.kept; works = c.in_ok-settle.ensures.open.1; clear = c.in_default.ensures; order = c.in_ok-settle.ensures.order } in
    let p = err_from_is_err_and c.from_residual-in_err-ledger.result c.from_residual-in_err-ledger.ensures.1 in
    let l = c.in_err-ledger.ensures.fault in
    rw (p.1, p.2) (subst (BookSettleFails _ _) (sym l.fault_is) (execution_fails c.args.self.now _ _ _ l.why
    (ap (λ (b : BookValue). length (receipts_of_executed b.executed)) (sym c.self.view_is) ∙ ledger_first c.self.inside.intake c.self.inside.ledger c.self.inside.opening.items c.in-Some-take.ledger (sym c.in-Some-take.ensures.value))
    (λ feed good. ledger_clear feed c.self.inside.intake c.settle.new.self c.self.inside.ledger c.self.inside.opening.items s (subst (IsGoodBook feed) (sym c.self.view_is) good))
    (λ feed place good lt. ledger_place feed c.self.inside.intake c.settle.new.self c.self.inside.ledger c.self.inside.opening.items c.in-Some-take.ledger place s (sym c.in-Some-take.ensures.value) (subst (IsGoodBook feed) (sym c.self.view_is) good) lt)
    l.leaves))

pub returns-clause-settled : goal.returns-clause-settled
returns-clause-settled g c = λ feed good.
    let s : IsSettling c.self.inside.intake c.settle.new.self = record { same = c.in_ok-settle.ensures.committee; kept = c.in_ok-settle.ensures.kept; works = c.in_ok-settle.ensures.open.1; clear = c.in_default.ensures; order = c.in_ok-settle.ensures.order } in
    let e = c.in_ok-ledger.ensures.executed in
    ledger_done feed c.self.inside.intake c.settle.new.self c.self.inside.ledger c.self.inside.opening.items c.in-Some-take.ledger c.in_ok-ledger.ledger s (sym c.in-Some-take.ensures.value) (subst (IsGoodBook feed) (sym c.self.view_is) good)
    (record { version = e.version; counts = e.counts_are; receipts = e.receipts; rows = e.rows; slots = e.slots })

pub unreachable-unreachable : goal.unreachable-unreachable
unreachable-unreachable g c = no_ledger c.requires.good.0 c.self.inside.intake c.self.inside.ledger c.self.inside.opening.items
    (subst (IsGoodBook c.requires.good.0) (sym c.self.view_is) c.requires.good.1) (sym c.take.ensures.value ∙ c.in_default-take.is)

pub unreachable-requires : goal.unreachable-requires
unreachable-requires g c = no_ledger c.requires.good.0 c.self.inside.intake c.self.inside.ledger c.self.inside.opening.items
    (subst (IsGoodBook c.requires.good.0) (sym c.self.view_is) c.requires.good.1) (sym c.take.ensures.value ∙ c.in_default-take.is)
