use Rattle.std.proofs.Common.{◌≡◌, ◌<◌, ◌-◌, ℕ, suc, List, length, All, sym, ap, subst, arith}
use Rattle.bk_conflicts.specs.private.Accesses.{Places, places_of}
use Rattle.bk_conflicts.specs.private.Rows.{turned, row_at, IsRows}
use Rattle.bk_conflicts.specs.private.Trail.{direct}
use Rattle.bk_conflicts.proofs.Turned.{rows_own}
use Rattle.bk_conflicts.proofs.Whole.{AreMet, are_sound, direct_low, flat_in, is_plan, row_short}
use Rattle.bk_conflicts.proofs.edges.lists_of.Goals as goal

less : (xs : List ℕ) (n : ℕ) → length xs ≡ suc n → n ≡ length xs - 1
less xs n e = omega arith

pub lengths-requires : goal.lengths-requires
lengths-requires c =
    let m = c.in_ok-words.ensures in
    let r = m.earlier in
    let t : Places = places_of c.args.ids.now c.args.txs.now in
    let met : AreMet c.args.version c.args.ids.now c.args.txs.now = record { few_places = c.requires.few; few_slots = c.requires.few_slots; ids_ascend = m.ids; covered = c.requires.covered; declared = m.declared } in
    rw c.deref.ensures.value (record {
      some = let e = r.long in omega arith;
      ascending = λ q l. (flat_in (direct t) (length c.args.txs.now) c.meet.new.kept.earlier.start.items c.meet.new.kept.earlier.items.items q r (let e = r.long in omega arith)).1;
      short = λ q l. row_short c.args.version c.args.ids.now c.args.txs.now c.meet.new.kept.earlier.start.items c.meet.new.kept.earlier.items.items met r q (let e = r.long in omega arith);
    })

pub turned_round-requires : goal.turned_round-requires
turned_round-requires c =
    let m = c.in_ok-words.ensures in
    let r = m.earlier in
    let t : Places = places_of c.args.ids.now c.args.txs.now in
    let met : AreMet c.args.version c.args.ids.now c.args.txs.now = record { few_places = c.requires.few; few_slots = c.requires.few_slots; ids_ascend = m.ids; covered = c.requires.covered; declared = m.declared } in
    let small = c.deref-3.type_inv.0 in
    record {
      some = rw c.deref-2.ensures.value (let e = r.long in omega arith);
      small = rw c.deref-2.ensures.value (let e = r.long in let few = c.requires.few in omega arith);
      low = rw c.deref-3.ensures.value (subst (λ (n : ℕ). All (λ x. x < n) c.meet.new.kept.earlier.items.items) (sym m.many) (direct_low t (length c.args.txs.now) c.meet.new.kept.earlier.items.items (are_sound c.args.version c.args.ids.now c.args.txs.now met).ascend r.all));
      few = small;
      counted = rw c.deref-3.ensures.value m.counted;
      rows = rw (c.deref-2.ensures.value, c.deref-3.ensures.value)
          (subst (λ (n : ℕ). IsRows (row_at c.meet.new.kept.earlier.start.items c.meet.new.kept.earlier.items.items) n c.meet.new.kept.earlier.start.items c.meet.new.kept.earlier.items.items) (less c.meet.new.kept.earlier.start.items (length c.args.txs.now) r.long)
          (rows_own (direct t) (length c.args.txs.now) c.meet.new.kept.earlier.start.items c.meet.new.kept.earlier.items.items r));
    }

pub returns : goal.returns
returns c =
    let m = c.in_ok-words.ensures in
    let r = m.earlier in
    let met : AreMet c.args.version c.args.ids.now c.args.txs.now = record { few_places = c.requires.few; few_slots = c.requires.few_slots; ids_ascend = m.ids; covered = c.requires.covered; declared = m.declared } in
    let w = less c.meet.new.kept.earlier.start.items (length c.args.txs.now) r.long in
    let turned_rows = subst (λ (n : ℕ × ℕ). IsRows (turned (row_at c.meet.new.kept.earlier.start.items c.meet.new.kept.earlier.items.items) n.0) n.1 c.in_ok-after.after.start.items c.in_ok-after.after.items.items) (λ i. (sym w i, m.many i))
    (rw (c.deref-2.ensures.value, c.deref-3.ensures.value) at c.in_ok-after.ensures) in
    record {
      words_lie = m.words;
      rows = rows_own (turned (row_at c.meet.new.kept.earlier.start.items c.meet.new.kept.earlier.items.items) (length c.args.txs.now)) (length c.args.txs.now) c.in_ok-after.after.start.items c.in_ok-after.after.items.items turned_rows;
      long = let a = c.in_ok-before.ensures.long in let b = ap length c.deref.ensures.value in let e = r.long in omega arith;
      plan = is_plan c.args.version c.args.ids.now c.args.txs.now c.meet.new.kept.earlier.start.items c.meet.new.kept.earlier.items.items c.in_ok-after.after.start.items c.in_ok-after.after.items.items c.in_ok-before.before.items met r turned_rows
          (λ q l. (rw c.deref.ensures.value at c.in_ok-before.ensures.each) q (let e = r.long in omega arith));
    }
