use Rattle.std.proofs.Common.{◌≡◌, ◌+◌, ◌<◌, ◌++◌, ◌∷◌, [], ◌∙◌, ◌↔◌, ℕ, List, sym, ap, subst, arith, length, map, get_or, take}
use Rattle.std.specs.List.{Contains}
use Rattle.std.proofs.lemmas.List.{take_more, take_all, get_or-map, length-set}
use Rattle.std.proofs.lemmas.List.Elements.{Contains-get_or}
use Rattle.bk_cert.specs.declared.place.CertRef.{CertRef}
use Rattle.bk_rounds.specs.declared.slots.Slot.{Slot}
use Rattle.bk_rounds.specs.Members.{Has}
use Rattle.bk_rounds.specs.private.Numbered.{author_of, parents_of, round_of}
use Rattle.bk_rounds.specs.private.Tied.{IsAuthorIn, IsTold, place_at}
use Rattle.bk_cert.proofs.Refs.{same_place}
use Rattle.bk_rounds.proofs.Named.{map_push}
use Rattle.bk_rounds.proofs.Told.{told_more, told_none}
use Rattle.bk_rounds.proofs.Marks.{each_inside, parents_at}
use Rattle.bk_rounds.proofs.admitting.tell.Goals as goal

pub loop-k-init : goal.loop-k-init
loop-k-init c = record {
  same = c.requires.can.same;
  room = c.requires.room;
  len = let e = ap length c.requires.answer in omega (arith, e);
  answer = c.requires.answer;
  told = told_none c.args.slots.now c.args.sets.now c.args.top;
}

pub authors_of-requires-clause-inside : goal.authors_of-requires-clause-inside
authors_of-requires-clause-inside c =
    let k : ℕ = get_or c.args.out.now c.loop-k.k-index 0 in
    let low : k < length c.args.slots.now = c.requires.can.inside c.loop-k.k-index 0 c.loop-k-test.true in
    each_inside c.args.slots.now k c.index-slots-k.result c.deref.result.now c.requires.can.parents low (sym c.index-slots-k.is) c.deref.ensures.value

pub authors_of-requires-clause-few : goal.authors_of-requires-clause-few
authors_of-requires-clause-few c = λ p t.
    let k : ℕ = get_or c.args.out.now c.loop-k.k-index 0 in
    let low : k < length c.args.slots.now = c.requires.can.inside c.loop-k.k-index 0 c.loop-k-test.true in
    c.requires.can.authors k p (Contains-get_or c.args.out.now c.loop-k.k-index 0 c.loop-k-test.true)
    (subst (λ (ps : List ℕ). Contains ps p) (c.deref.ensures.value ∙ sym (parents_at c.args.slots.now k c.index-slots-k.result low (sym c.index-slots-k.is))) t)

pub push_reserved-requires : goal.push_reserved-requires
push_reserved-requires c = omega (arith, c.loop-k.invariant.len, c.loop-k.invariant.room, c.loop-k-test.true)

pub loop-k-preserved : goal.loop-k-preserved
loop-k-preserved c =
    let slots = c.args.slots.now in
    let k : ℕ = get_or c.args.out.now c.loop-k.k-index 0 in
    let low : k < length slots = c.requires.can.inside c.loop-k.k-index 0 c.loop-k-test.true in
    let more : take (c.loop-k.k-index + 1) c.args.out.now ≡ take c.loop-k.k-index c.args.out.now ++ k ∷ [] = take_more c.args.out.now c.loop-k.k-index 0 c.loop-k-test.true in
    let row : c.deref.result.now ≡ parents_of slots k = c.deref.ensures.value ∙ sym (parents_at slots k c.index-slots-k.result low (sym c.index-slots-k.is)) in
    let round : round_of slots k ≡ c.index-slots-k.result.round = get_or-map (λ (s : Slot). s.round) slots k c.index-slots-k.result 0 low ∙ ap (λ (s : Slot). s.round) (sym c.index-slots-k.is) in
    let author : author_of slots k ≡ c.index-slots-k.result.author = get_or-map (λ (s : Slot). s.author) slots k c.index-slots-k.result 0 low ∙ ap (λ (s : Slot). s.author) (sym c.index-slots-k.is) in
    let here : CertRef = record { round = c.index-slots-k.result.round; author = c.index-slots-k.result.author } in
    let place : here ≡ place_at slots k = same_place here (place_at slots k) (sym round) (sym author) in
    rw more (record {
      same = simp length-set c.loop-k.invariant.same;
      room = omega (arith, c.push_reserved.ensures.capacity, c.loop-k.invariant.room);
      len = omega (arith, c.push_reserved.ensures.len, c.loop-k.invariant.len);
      answer = c.push_reserved.ensures.items ∙ ((λ i. c.loop-k.invariant.answer i ++ place i ∷ []) ∙ sym (map_push (place_at slots) (take c.loop-k.k-index c.args.out.now) k));
      told = told_more slots c.args.sets.now c.loop-k.sets (take c.loop-k.k-index c.args.out.now) c.args.top c.loop-k.highest k c.authors_of.result c.max-highest.result c.loop-k.invariant.told
          (omega (arith, low, c.loop-k.invariant.same))
          (subst (λ (ps : List ℕ). (x : ℕ) → Has c.authors_of.result x ↔ IsAuthorIn slots ps x) row c.authors_of.ensures)
          (omega (arith, c.max-highest.ensures)) (omega (arith, round, c.max-highest.ensures)) (λ m lo each. omega (arith, round, c.max-highest.ensures, lo, each));
    })

pub returns-clause-answer : goal.returns-clause-answer
returns-clause-answer c = c.loop-k.invariant.answer ∙ ap (map (place_at c.args.slots.now)) (take_all c.loop-k.k-index c.args.out.now (omega arith))

pub returns-clause-told : goal.returns-clause-told
returns-clause-told c = subst (λ (done : List ℕ). IsTold c.args.slots.now c.args.sets.now c.loop-k.sets done c.args.top c.loop-k.highest) (take_all c.loop-k.k-index c.args.out.now (omega arith)) c.loop-k.invariant.told
