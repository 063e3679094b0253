use Rattle.std.proofs.Common.{◌≡◌, ℕ, ◌+◌, length, arith, refl, subst}
use Rattle.std.proofs.lemmas.Result.{err_from_is_err_and}
use Rattle.bk_chain.specs.Chain.{HasLinksFault}
use Rattle.bk_chain.proofs.Walking.{crosses_ended, crosses_last, empty_text, last_stops, last_taken, nothing_left, stopped_inside, whole_text}
use Rattle.bk_chain.proofs.reading.links_of.Goals as goal

pub returns-in_err-end-clause-fault : goal.returns-in_err-end-clause-fault
returns-in_err-end-clause-fault c =
    let p = err_from_is_err_and c.from_residual.result c.from_residual.ensures.1 in
    rw (p.1, p.2) (stopped_inside c.args.text.now c.in_err-end.field-0.0 c.requires.few c.in_err-end.ensures.fault)

pub returns-then-count-eq0-clause-fault : goal.returns-then-count-eq0-clause-fault
returns-then-count-eq0-clause-fault c =
    let none : length c.take_ended.new.links.items ≡ 0 = omega (arith, c.len-count.ensures, c.take_ended.new.links.ok.0, c.if-count-eq0.true) in
    empty_text c.args.text.now _ c.take_ended.new.links.items c.in_ok-end.end c.requires.few c.in_ok-end.ensures.lines refl (nothing_left _ c.if-is_empty.ensures) none

pub returns-then-text-gt-MOST_LINKS-clause-fault :
    goal.returns-then-text-gt-MOST_LINKS-clause-fault
returns-then-text-gt-MOST_LINKS-clause-fault c =
    let counted : length c.take_ended.new.links.items ≡ c.len-count.result = omega (arith, c.len-count.ensures, c.take_ended.new.links.ok.0) in
    subst (HasLinksFault c.args.text.now) counted
    (crosses_ended c.args.text.now _ c.take_ended.new.links.items c.in_ok-end.end c.requires.few c.in_ok-end.ensures.lines refl (nothing_left _ c.if-is_empty.ensures) (λ none. c.if-count-eq0.false (omega (arith, counted, none))) c.if-text-gt-MOST_LINKS.true)

pub returns-then-is_empty-clause-links : goal.returns-then-is_empty-clause-links
returns-then-is_empty-clause-links c =
    let counted : length c.take_ended.new.links.items ≡ c.len-count.result = omega (arith, c.len-count.ensures, c.take_ended.new.links.ok.0) in
    whole_text c.args.text.now _ c.take_ended.new.links.items c.in_ok-end.end c.requires.few c.in_ok-end.ensures.lines refl (nothing_left _ c.if-is_empty.ensures) (λ none. c.if-count-eq0.false (omega (arith, counted, none))) c.if-text-gt-MOST_LINKS.false

pub returns-then-text-gt-MOST_LINKS-2-clause-fault :
    goal.returns-then-text-gt-MOST_LINKS-2-clause-fault
returns-then-text-gt-MOST_LINKS-2-clause-fault c =
    let counted : length c.take_ended.new.links.items ≡ c.len-count.result = omega (arith, c.len-count.ensures, c.take_ended.new.links.ok.0) in
    subst (λ (n : ℕ). HasLinksFault c.args.text.now (n + 1)) counted
    (crosses_last c.args.text.now _ c.take_ended.new.links.items c.in_ok-end.end c.requires.few c.in_ok-end.ensures.lines refl c.if-is_empty.ensures c.if-text-gt-MOST_LINKS-2.true)

pub returns-in_err-take_line-clause-fault : goal.returns-in_err-take_line-clause-fault
returns-in_err-take_line-clause-fault c =
    let p = err_from_is_err_and c.from_residual-in_err-take_line.result c.from_residual-in_err-take_line.ensures.1 in
    rw (p.1, p.2) (last_stops c.args.text.now _ c.take_ended.new.links.items c.in_ok-end.end c.requires.few c.in_ok-end.ensures.lines refl c.if-is_empty.ensures c.take_line.new.links.items c.in_err-take_line.field-0.0 c.in_err-take_line.ensures)

pub returns-clause-links : goal.returns-clause-links
returns-clause-links c =
    last_taken c.args.text.now _ c.take_ended.new.links.items c.in_ok-end.end c.requires.few c.in_ok-end.ensures.lines refl c.if-is_empty.ensures c.take_line.new.links.items c.if-text-gt-MOST_LINKS-2.false c.in_ok-take_line.ensures
