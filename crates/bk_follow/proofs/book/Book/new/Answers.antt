use Rattle.std.proofs.Common.{sym, ap, ◌∙◌, length}
use Rattle.std.proofs.lemmas.List.{length-map}
use Rattle.bk_base.specs.Genesis.{ids_of}
use Rattle.bk_committee.specs.Payload.{CommitteeValue}
use Rattle.bk_answer.specs.Closed.{executed_of}
use Rattle.bk_follow.proofs.Books.{opened_book}
use Rattle.bk_follow.proofs.book.Book.new.Goals as goal

pub returns-clause-book : goal.returns-clause-book
returns-clause-book c = λ feed none same rows.
    let l = c.in_ok-ledger.ensures in
    let n = c.in_ok-new.ensures in
    opened_book feed c.in_ok-new.field-0 (executed_of c.in_ok-ledger.ledger) c.args.opening.items none (n.committee ∙ same) n.nothing n.unordered n.open
    (l.version ∙ c.version-version.ensures ∙ ap (λ (k : CommitteeValue). k.version) (sym n.committee)) l.counts l.receipts (l.rows ∙ c.deref.ensures.value) rows
    (ap length (l.slots ∙ ap ids_of c.deref.ensures.value) ∙ length-map c.args.opening.items (λ r. r.id))
