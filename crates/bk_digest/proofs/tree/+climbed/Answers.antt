use Rattle.std.proofs.Common.{length, Some, sym, ap, ◌∙◌, arith}
use Rattle.std.proofs.lemmas.Bool.{eqb-true, eqb-false}
use Rattle.bk_digest.proofs.Climbs.{climb_alone, climb_alone_long, climb_without, climb_left_none, climb_right_none, climb_left_some, climb_right_some}
use Rattle.bk_digest.proofs.tree.+climbed.Goals as goal

pub returns-then-is_empty : goal.returns-then-is_empty
returns-then-is_empty t c =
    sym (climb_alone c.args.leaf c.args.i c.args.size c.args.path.now c.if-size-eq1.true c.requires (eqb-true (length c.args.path.now) 0 (sym c.if-is_empty.ensures)))

pub returns-else-is_empty : goal.returns-else-is_empty
returns-else-is_empty t c =
    let some = eqb-false (length c.args.path.now) 0 (sym c.if-is_empty.ensures) in
    sym (climb_alone_long c.args.leaf c.args.i c.args.size c.args.path.now c.if-size-eq1.true (omega arith))

pub returns-in_err-sibling : goal.returns-in_err-sibling
returns-in_err-sibling t c =
    c.from_residual.ensures ∙ sym (climb_without c.args.leaf c.args.i c.args.size c.args.path.now (omega arith) c.in_err-sibling.ensures.cases)

pub returns-in_err-left : goal.returns-in_err-left
returns-in_err-left t c =
    c.from_residual-in_err-left.ensures
    ∙ sym (climb_left_none c.args.leaf c.args.i c.args.size c.split_size-split.result c.args.path.now c.in_ok-sibling.rest.now c.in_ok-sibling.sibling.now
    c.split_size-split.ensures c.in_ok-sibling.ensures.cases.0 c.if-i-split.true (sym c.in_err-left.ensures))

pub returns-in_err-right : goal.returns-in_err-right
returns-in_err-right t c =
    c.from_residual-in_err-right.ensures
    ∙ sym (climb_right_none c.args.leaf c.args.i c.args.size c.split_size-split.result c.args.path.now c.in_ok-sibling.rest.now c.in_ok-sibling.sibling.now
    c.split_size-split.ensures c.in_ok-sibling.ensures.cases.0 c.if-i-split.false (sym c.in_err-right.ensures))

pub returns-in_ok-left : goal.returns-in_ok-left
returns-in_ok-left t c =
    ap Some c.node_hash.ensures
    ∙ sym (climb_left_some c.args.leaf c.args.i c.args.size c.split_size-split.result c.args.path.now c.in_ok-sibling.rest.now c.in_ok-sibling.sibling.now
    c.split_size-split.ensures c.in_ok-sibling.ensures.cases.0 c.if-i-split.true c.in_ok-left.left (sym c.in_ok-left.ensures))

pub returns-in_ok-right : goal.returns-in_ok-right
returns-in_ok-right t c =
    ap Some c.node_hash-else-i-split.ensures
    ∙ sym (climb_right_some c.args.leaf c.args.i c.args.size c.split_size-split.result c.args.path.now c.in_ok-sibling.rest.now c.in_ok-sibling.sibling.now
    c.split_size-split.ensures c.in_ok-sibling.ensures.cases.0 c.if-i-split.false c.in_ok-right.right (sym c.in_ok-right.ensures))
