use Rattle.std.proofs.Common.{◌≡◌, ℕ, length, sym, ap, ◌∙◌, subst, arith}
use Rattle.std.proofs.Common.{List, ◌++◌}
use Rattle.bk_rules.specs.Ledger.{slot_numbers}
use Rattle.bk_conflicts.specs.SceneOf.{in_words}
use Rattle.bk_bank.specs.private.Laying.{Laid}
use Rattle.bk_bank.proofs.Settings.{laid_none, laid_more, laid_all}
use Rattle.bk_bank.proofs.bank.opening.lay.Goals as goal

pub overflow_cast-place : goal.overflow_cast-place
overflow_cast-place c =
    let few = c.requires.plan.few_places in
    let low = c.loop-place-test.true in
    let count = c.len-place-end.ensures.count in omega arith

pub push_reserved-requires : goal.push_reserved-requires
push_reserved-requires c = omega (arith, c.loop-place-test.true, c.len-place-end.ensures.count, c.loop-place.invariant.len, c.loop-place.invariant.room)

pub push_reserved-requires-in-loop-place : goal.push_reserved-requires-in-loop-place
push_reserved-requires-in-loop-place c = omega (arith, c.loop-place-test.true, c.len-place-end.ensures.count, c.loop-place.invariant.len, c.loop-place.invariant.room, c.push_reserved.ensures.len, c.push_reserved.ensures.capacity)

pub loop-place-init : goal.loop-place-init
loop-place-init c =
    let e : c.push_accounts.new.words.items ≡ in_words (slot_numbers c.args.state.now) =
    c.push_accounts.ensures.items ∙ (ap (λ (xs : List ℕ). xs ++ in_words c.numbers-numbers.result.now) c.in_ok-words.ensures.items ∙ ap in_words c.numbers-numbers.ensures) in record {
      laid = subst (λ (xs : List ℕ). Laid c.args.plan.now c.args.state.now xs 0) (sym e) (laid_none c.args.plan.now c.args.state.now c.requires.runs);
      len = omega arith;
      room = omega (arith, c.push_accounts.ensures.len, c.push_accounts.ensures.capacity, c.in_ok-words.ensures.len, c.in_ok-words.ensures.exact, c.len.ensures.count);
    }

pub loop-place-preserved : goal.loop-place-preserved
loop-place-preserved c = record {
  laid = rw (c.push_reserved-in-loop-place.ensures.items, c.push_reserved.ensures.items) (laid_more c.args.plan.now c.args.state.now c.loop-place.words.items c.loop-place.place _ c.loop-place.invariant.laid c.before-in-loop-place.ensures);
  len = omega (arith, c.loop-place.invariant.len, c.push_reserved.ensures.len, c.push_reserved-in-loop-place.ensures.len);
  room = omega (arith, c.loop-place.invariant.room, c.push_reserved.ensures.capacity, c.push_reserved-in-loop-place.ensures.capacity);
}

pub returns : goal.returns
returns c =
    let least = c.loop-place.auto.place-end in
    let most = c.loop-place-test.false in
    let count = c.len-place-end.ensures.count in
    let all : c.loop-place.place ≡ length c.args.plan.now.txs = omega arith in
    rw c.in_ok-push.ensures.items (laid_all c.args.plan.now c.args.state.now c.loop-place.words.items c.requires.runs
    (subst (Laid c.args.plan.now c.args.state.now c.loop-place.words.items) all c.loop-place.invariant.laid))
