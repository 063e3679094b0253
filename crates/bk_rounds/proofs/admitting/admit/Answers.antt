use Rattle.std.proofs.Common.{◌≡◌, ◌<◌, ◌++◌, ◌∷◌, [], ℕ, List, sym, ap, subst, ◌∙◌, Bool, ⊎_elim, length, map, set, Some, arith, true}
use Rattle.std.specs.List.{Contains}
use Rattle.std.proofs.lemmas.Bool.{both_ways}
use Rattle.std.proofs.lemmas.List.{length-set, length-map}
use Rattle.std.proofs.lemmas.Option.{slice_get-get_or}
use Rattle.std.proofs.lemmas.List.Elements.{Contains-push, Contains-push_cases}
use Rattle.bk_cert.proofs.Lists.{none_in_nil}
use Rattle.bk_rounds.specs.declared.slots.Slot.{Slot}
use Rattle.bk_rounds.specs.private.Numbered.{IsInside, IsInsideRows, IsRegistered, IsSettling, IsTable, is_marked, is_ready_in}
use Rattle.bk_rounds.proofs.Marks.{marked_here, sound_marked, one_fewer}
use Rattle.bk_rounds.proofs.Settling.{settling_first}
use Rattle.bk_rounds.proofs.Added.{filled, field_here, inside_after, sound_after, registered_after, registered_mark, covered_after, exact_waiting, answer_from}
use Rattle.bk_rounds.proofs.admitting.admit.Goals as goal

pub replace-requires : goal.replace-requires
replace-requires c =
    slice_get-get_or (map (λ (x : Slot). x.id) c.args.slots.now) c.args.k [] (omega (arith, c.requires.number.0, length-map c.args.slots.now (λ (x : Slot). x.id)))
    ∙ ap Some c.requires.id

pub is_ready-requires-clause-parents : goal.is_ready-requires-clause-parents
is_ready-requires-clause-parents c = subst IsInside (sym (c.as_slice.ensures ∙ c.replace.ensures)) (inside_after c.args.slots.now c.args.marks.now c.args.k c.args.slot c.requires.number.0 c.requires.table.inside c.requires.parents)

pub push_reserved-requires : goal.push_reserved-requires
push_reserved-requires c =
    let f = filled c.args.weights.now c.args.slots.now c.args.marks.now c.args.pending.now c.args.k c.args.slot c.requires.table c.requires.number.1 in
    let low : c.args.k < length c.args.marks.now = omega (arith, c.requires.number.0, c.requires.table.same) in
    let fewer = one_fewer c.args.marks.now c.args.k low f.free in
    omega (arith, fewer, c.requires.out, ap length c.requires.out, c.requires.room)

pub settle-requires-clause-room : goal.settle-requires-clause-room
settle-requires-clause-room c =
    let f = filled c.args.weights.now c.args.slots.now c.args.marks.now c.args.pending.now c.args.k c.args.slot c.requires.table c.requires.number.1 in
    let low : c.args.k < length c.args.marks.now = omega (arith, c.requires.number.0, c.requires.table.same) in
    let fewer = one_fewer c.args.marks.now c.args.k low f.free in
    omega (arith, fewer, c.requires.out, ap length c.requires.out, c.requires.room, c.push_reserved.ensures.len, c.push_reserved.ensures.capacity)

pub settle-requires-clause-settling : goal.settle-requires-clause-settling
settle-requires-clause-settling c =
    let marks : List Bool = c.args.marks.now in
    let k : ℕ = c.args.k in
    let after : List Slot = set c.args.slots.now k c.args.slot in
    let f = filled c.args.weights.now c.args.slots.now marks c.args.pending.now k c.args.slot c.requires.table c.requires.number.1 in
    let low : k < length marks = omega (arith, c.requires.number.0, c.requires.table.same) in
    let wide : length after ≡ length c.args.slots.now = length-set c.args.slots.now k c.args.slot in
    let reg : IsRegistered after marks c.args.pending.now =
    registered_after c.args.weights.now c.args.slots.now after marks c.args.pending.now c.args.pending.now k c.requires.table f (λ m i h. h)
    (λ p t free. c.requires.waits p
    (subst (λ (xs : List ℕ). Contains xs p) (field_here (λ (x : Slot). x.parents.items) c.args.slots.now k c.args.slot [] c.requires.number.0) t) free) in
    subst (λ (ss : List Slot). IsSettling c.args.weights.now ss (set marks k true) c.args.pending.now c.push_reserved.new.self.items 0) (sym (c.as_slice-then-is_ready.ensures ∙ c.replace.ensures))
    (settling_first c.args.weights.now after (set marks k true) c.args.pending.now c.push_reserved.new.self.items
    (inside_after c.args.slots.now marks k c.args.slot c.requires.number.0 c.requires.table.inside c.requires.parents)
    (omega (arith, wide, length-set marks k true, c.requires.table.same))
    (sound_marked c.args.weights.now after marks k (sound_after c.args.weights.now c.args.slots.now after marks c.args.pending.now k c.requires.table f)
    (ap (λ ss. is_ready_in c.args.weights.now ss marks k) (sym (c.as_slice.ensures ∙ c.replace.ensures)) ∙ (sym c.is_ready.ensures ∙ c.if-is_ready.true)))
    (subst (λ n. IsInsideRows n c.args.pending.now) (sym wide) c.requires.table.rows)
    (λ i t. ⊎_elim
    (λ old. absurd (none_in_nil i (subst (λ (xs : List ℕ). Contains xs i) c.requires.out old)))
    (λ e. subst (λ (n : ℕ). (n < length after) × (is_marked (set marks k true) n ≡ true)) e (omega (arith, wide, c.requires.number.0), marked_here marks k low))
    (Contains-push_cases c.args.out.now.items k i (subst (λ (xs : List ℕ). Contains xs i) c.push_reserved.ensures.items t)))
    (registered_mark after marks c.args.pending.now k low reg)
    (λ i ready free. (
      k,
      subst (λ (xs : List ℕ). Contains xs k) (sym c.push_reserved.ensures.items) (Contains-push c.args.out.now.items k),
      covered_after c.args.weights.now c.args.slots.now after marks c.args.pending.now c.args.pending.now k c.requires.table f low reg i ready free,
    )))

pub returns-then-is_ready-clause-table : goal.returns-then-is_ready-clause-table
returns-then-is_ready-clause-table c = subst (λ (ss : List Slot). IsTable c.args.weights.now ss c.settle.new.marks c.settle.new.pending) c.as_slice-then-is_ready.ensures c.settle.ensures.table

pub returns-else-is_ready-clause-table : goal.returns-else-is_ready-clause-table
returns-else-is_ready-clause-table c =
    let after : List Slot = set c.args.slots.now c.args.k c.args.slot in
    let f = filled c.args.weights.now c.args.slots.now c.args.marks.now c.args.pending.now c.args.k c.args.slot c.requires.table c.requires.number.1 in
    let low : c.args.k < length c.args.marks.now = omega (arith, c.requires.number.0, c.requires.table.same) in
    let reg : IsRegistered after c.args.marks.now c.args.pending.now =
    registered_after c.args.weights.now c.args.slots.now after c.args.marks.now c.args.pending.now c.args.pending.now c.args.k c.requires.table f (λ m i h. h)
    (λ p t free. c.requires.waits p
    (subst (λ (xs : List ℕ). Contains xs p) (field_here (λ (x : Slot). x.parents.items) c.args.slots.now c.args.k c.args.slot [] c.requires.number.0) t) free) in
    let table : IsTable c.args.weights.now after c.args.marks.now c.args.pending.now = record {
      same = simp length-set c.requires.table.same;
      inside = inside_after c.args.slots.now c.args.marks.now c.args.k c.args.slot c.requires.number.0 c.requires.table.inside c.requires.parents;
      rows = subst (λ n. IsInsideRows n c.args.pending.now) (sym (length-set c.args.slots.now c.args.k c.args.slot)) c.requires.table.rows;
      exact = exact_waiting c.args.weights.now c.args.slots.now after c.args.marks.now c.args.pending.now c.args.k c.requires.table f
          (ap (λ ss. is_ready_in c.args.weights.now ss c.args.marks.now c.args.k) (sym (c.as_slice.ensures ∙ c.replace.ensures)) ∙ (sym c.is_ready.ensures ∙ c.if-is_ready.false));
      registered = reg;
    } in
    subst (λ (ss : List Slot). IsTable c.args.weights.now ss c.args.marks.now c.args.pending.now) (sym c.replace.ensures) table

pub returns-then-is_ready-clause-out : goal.returns-then-is_ready-clause-out
returns-then-is_ready-clause-out c =
    let after : List Slot = set c.args.slots.now c.args.k c.args.slot in
    let f = filled c.args.weights.now c.args.slots.now c.args.marks.now c.args.pending.now c.args.k c.args.slot c.requires.table c.requires.number.1 in
    let low : c.args.k < length c.args.marks.now = omega (arith, c.requires.number.0, c.requires.table.same) in
    (answer_from c.args.marks.now c.settle.new.marks c.args.k c.push_reserved.new.self.items c.settle.new.out.items low f.free
    (c.push_reserved.ensures.items ∙ ap (λ xs. xs ++ c.args.k ∷ []) c.requires.out) c.settle.ensures.more)

pub returns-else-is_ready-clause-out : goal.returns-else-is_ready-clause-out
returns-else-is_ready-clause-out c = rw c.requires.out
    (λ i. ((λ h. absurd (omega (arith, h.1))), (λ g. absurd (both_ways _ g.1 g.0))))

pub returns-then-is_ready-clause-steps : goal.returns-then-is_ready-clause-steps
returns-then-is_ready-clause-steps c =
    let f = filled c.args.weights.now c.args.slots.now c.args.marks.now c.args.pending.now c.args.k c.args.slot c.requires.table c.requires.number.1 in
    let low : c.args.k < length c.args.marks.now = omega (arith, c.requires.number.0, c.requires.table.same) in
    let fewer = one_fewer c.args.marks.now c.args.k low f.free in
    let none = ap length c.requires.out in
    omega (arith, fewer, none, c.settle.ensures.steps, c.push_reserved.ensures.len)
