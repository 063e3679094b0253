use Rattle.std.proofs.Common.{◌≡◌, Option, Some, length, sym, subst, take, ◌∙◌, ap, arith}
use Rattle.bk_answer.specs.Values.{closed_value}
use Rattle.bk_base.specs.declared.version.Version.{Version}
use Rattle.bk_rules.specs.Fold.{HasRoom}
use Rattle.bk_rules.specs.Ledger.{Ledger}
use Rattle.bk_rules.proofs.Room.{room_weaker}
use Rattle.bk_tx.specs.Batches.{transactions_of}
use Rattle.bk_tables.specs.Growing.{AreAfter, HasWalked, Walked}
use Rattle.bk_tables.proofs.PostingTables.{opening_ledger, opening_room}
use Rattle.bk_tables.proofs.PostingsGrow.{is_ready}
use Rattle.bk_tables.proofs.postings.PostingRows.prepare.Goals as goal

pub or_opening-requires-clause-ledger : goal.or_opening-requires-clause-ledger
or_opening-requires-clause-ledger c = opening_ledger (closed_value c.args.closed.now) c.requires.closed

pub or_opening-requires-clause-room : goal.or_opening-requires-clause-room
or_opening-requires-clause-room c =
    let same : c.version-version.result ≡ c.args.closed.now.ledger.now.state.version = c.version-version.ensures.version ∙ ap (λ (l : Ledger). l.version) c.state.ensures in
    subst (λ (v : Version). HasRoom v 0 c.args.closed.now.order.opening.now) (sym same)
    (room_weaker c.args.closed.now.ledger.now.state.version (length (transactions_of c.args.closed.now.order.intake.now.ordered.payloads.list)) 0 c.args.closed.now.order.opening.now (omega arith) (opening_room (closed_value c.args.closed.now) c.requires.closed))

pub returns-clause-ready : goal.returns-clause-ready
returns-clause-ready c =
    let opening = c.args.closed.now.order.opening.now in
    let shown = take c.self.inside.batch c.args.closed.now.order.intake.now.ordered.payloads.list in
    let same : c.version-version.result ≡ c.args.closed.now.ledger.now.state.version = c.version-version.ensures.version ∙ ap (λ (l : Ledger). l.version) c.state.ensures in
    let w : Walked = record { shown = record { page = c.self.inside.sheet.page; batch = c.self.inside.batch; place = c.self.inside.place }; state = c.self.inside.state } in
    let walked : HasWalked (closed_value c.args.closed.now) w = subst (HasWalked (closed_value c.args.closed.now)) (sym c.self.view_is) c.requires.walked in
    let value : c.take.result ≡ c.self.inside.state = c.take.ensures.value in
    let before = subst (λ (x : Version × Option Ledger). AreAfter x.0 opening shown x.1) (λ i. (sym same i, sym value i)) walked in
    let opened = subst (λ (v : Version). AreAfter v opening shown (Some c.in_ok-state.state)) same (c.in_ok-state.ensures shown before) in
    is_ready (closed_value c.args.closed.now) w c.in_ok-state.state c.cover.new.state opened c.in_ok-cover.ensures
