use Rattle.std.proofs.Common.{◌≡◌, ◌<◌, ◌↔◌, ℕ, List, subst, arith, length, get_or, take}
use Rattle.std.proofs.lemmas.List.{take_more, take_all, get_or-map}
use Rattle.std.proofs.lemmas.List.Elements.{Contains-get_or}
use Rattle.bk_rounds.specs.declared.slots.Slot.{Slot}
use Rattle.bk_rounds.specs.Members.{Has}
use Rattle.bk_rounds.specs.private.Tied.{IsAuthorIn}
use Rattle.bk_rounds.proofs.Told.{authors_more}
use Rattle.bk_rounds.proofs.admitting.authors_of.Goals as goal

pub with-set-requires : goal.with-set-requires
with-set-requires c =
    let p : ℕ = get_or c.args.numbers.now c.loop-p.p-index 0 in
    let low : p < length c.args.slots.now = c.requires.inside c.loop-p.p-index 0 c.loop-p-test.true in
    let at = get_or-map (λ (s : Slot). s.author) c.args.slots.now p c.index-slots-p.result 0 low in
    let few = c.requires.few p (Contains-get_or c.args.numbers.now c.loop-p.p-index 0 c.loop-p-test.true) in
    omega (arith, few, at)

pub loop-p-preserved : goal.loop-p-preserved
loop-p-preserved c =
    let p : ℕ = get_or c.args.numbers.now c.loop-p.p-index 0 in
    let low : p < length c.args.slots.now = c.requires.inside c.loop-p.p-index 0 c.loop-p-test.true in
    let at = get_or-map (λ (s : Slot). s.author) c.args.slots.now p c.index-slots-p.result 0 low in
    rw (take_more c.args.numbers.now c.loop-p.p-index 0 c.loop-p-test.true)
    (authors_more c.args.slots.now (take c.loop-p.p-index c.args.numbers.now) p _ c.loop-p.set c.with-set.result c.loop-p.invariant at c.with-set.ensures)

pub returns : goal.returns
returns c =
    let all : take c.loop-p.p-index c.args.numbers.now ≡ c.args.numbers.now = take_all c.loop-p.p-index c.args.numbers.now (omega arith) in
    subst (λ (ps : List ℕ). (x : ℕ) → Has c.loop-p.set x ↔ IsAuthorIn c.args.slots.now ps x) all c.loop-p.invariant
