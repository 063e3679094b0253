use Rattle.std.proofs.Common.{◌≡◌, ◌<◌, length, get_or, refl, ap, ◌∙◌, arith}
use Rattle.bk_conflicts.specs.Words.{slot_of}
use Rattle.bk_steps.specs.Settling.{words_before}
use Rattle.bk_steps.proofs.Placed.{wide_most, room_at, next_at, words_all, put_more, length-put}
use Rattle.bk_steps.proofs.settling.put_accounts.Goals as goal

pub loop-k-init : goal.loop-k-init
loop-k-init c = record {
  at_is = refl;
  at_low = omega arith;
  long = refl;
  so_far = λ accounts are i l. absurd (omega arith);
}

pub put-requires : goal.put-requires
put-requires c = let a = c.loop-k-test.true in let b = c.len-k-end.ensures.len in let long = c.loop-k.invariant.long in let few = c.requires.few in
    room_at c.args.ids.now c.args.declared.now c.loop-k.k c.slot_of-slot.result c.loop-k.at (length c.loop-k.values) (omega arith)
    (c.slot_of-slot.ensures) c.loop-k.invariant.at_is (omega arith)

pub overflow_add-at : goal.overflow_add-at
overflow_add-at c = let a = c.loop-k-test.true in let b = c.len-k-end.ensures.few in let w = wide_most c.slot_of-slot.result in let e = c.wide-at.ensures in let l = c.loop-k.invariant.at_low in omega arith

pub loop-k-preserved : goal.loop-k-preserved
loop-k-preserved c = let a = c.loop-k-test.true in let b = c.len-k-end.ensures.len in let few = c.requires.few in let long = c.loop-k.invariant.long in
    let low : c.loop-k.k < length c.args.declared.now = omega arith in
    let slot : c.slot_of-slot.result ≡ slot_of c.args.ids.now (get_or c.args.declared.now c.loop-k.k _).id = c.slot_of-slot.ensures in record {
      at_is = next_at c.args.ids.now c.args.declared.now c.loop-k.k c.slot_of-slot.result c.loop-k.at c.wide-at.result low slot c.loop-k.invariant.at_is c.wide-at.ensures;
      at_low = let w = wide_most c.slot_of-slot.result in let e = c.wide-at.ensures in let l = c.loop-k.invariant.at_low in omega arith;
      long = ap length c.put.ensures ∙ (length-put c.slot_of-slot.result c.account.result c.loop-k.values c.loop-k.at ∙ long);
      so_far = λ accounts are. put_more c.args.ids.now c.args.declared.now c.loop-k.values c.args.local.now accounts (omega arith) are c.loop-k.k low c.slot_of-slot.result c.loop-k.at c.wide-at.result c.account.result c.put.new.values
          slot c.loop-k.invariant.at_is c.wide-at.ensures c.account.ensures c.put.ensures (c.loop-k.invariant.so_far accounts are);
    }

pub returns : goal.returns
returns c = λ accounts are i l. let stop = c.loop-k-test.false in let end = c.loop-k.auto.k-end in let b = c.len-k-end.ensures.len in
    let at : c.loop-k.at ≡ words_before c.args.ids.now c.args.declared.now (length c.args.declared.now) = c.loop-k.invariant.at_is ∙ ap (words_before c.args.ids.now c.args.declared.now) (let z : c.loop-k.k ≡ length c.args.declared.now = omega arith in z) in
    let all = words_all c.args.ids.now c.args.declared.now in
    c.loop-k.invariant.so_far accounts are i (omega arith)
