use Rattle.std.proofs.Common.{◌≡◌, ◌<◌, length, get_or, refl, ap, ◌∙◌, arith, length-set}
use Rattle.bk_conflicts.specs.Words.{slot_of}
use Rattle.bk_steps.proofs.Placed.{wide_most, room_at, next_at, found_more, rest_more}
use Rattle.bk_steps.proofs.settling.put_local.Goals as goal

pub loop-k-init : goal.loop-k-init
loop-k-init c = record {
  at_is = refl;
  at_low = omega arith;
  long = c.requires.wide;
  found = λ f says j l. absurd (omega arith);
  rest = λ j l. c.requires.none j;
}

pub said-account-requires : goal.said-account-requires
said-account-requires c = let a = c.loop-k-test.true in let b = c.len-k-end.ensures.len in
    room_at c.args.ids.now c.args.declared.now c.loop-k.k c.slot_of-slot.result c.loop-k.at (length c.args.values.now) (omega arith)
    (c.slot_of-slot.ensures) c.loop-k.invariant.at_is c.requires.few

pub overflow_add-at : goal.overflow_add-at
overflow_add-at c = let a = c.loop-k-test.true in let b = c.len-k-end.ensures.few in let w = wide_most c.slot_of-slot.result in let e = c.wide-at.ensures in let l = c.loop-k.invariant.at_low in omega arith

pub loop-k-preserved : goal.loop-k-preserved
loop-k-preserved c = let a = c.loop-k-test.true in let b = c.len-k-end.ensures.len in let few = c.len-k-end.ensures.few in let long = c.loop-k.invariant.long in
    let low : c.loop-k.k < length c.args.declared.now = omega arith in
    let slot : c.slot_of-slot.result ≡ slot_of c.args.ids.now (get_or c.args.declared.now c.loop-k.k _).id = c.slot_of-slot.ensures in record {
      at_is = next_at c.args.ids.now c.args.declared.now c.loop-k.k c.slot_of-slot.result c.loop-k.at c.wide-at.result low slot c.loop-k.invariant.at_is c.wide-at.ensures;
      at_low = let w = wide_most c.slot_of-slot.result in let e = c.wide-at.ensures in let l = c.loop-k.invariant.at_low in omega arith;
      long = ap length c.set.ensures.after ∙ (length-set c.loop-k.local c.loop-k.k c.said-account.result ∙ long);
      found = λ f says. found_more c.args.version c.args.ids.now c.args.declared.now c.args.values.now f says c.loop-k.k low c.slot_of-slot.result c.loop-k.at c.said-account.result c.loop-k.local c.set.new.self
          slot c.loop-k.invariant.at_is c.said-account.ensures (omega arith) c.set.ensures.after (c.loop-k.invariant.found f says);
      rest = rest_more c.loop-k.k c.said-account.result c.loop-k.local c.set.new.self c.set.ensures.after c.loop-k.invariant.rest;
    }
