use Rattle.std.proofs.Common.{◌≡◌, ◌<◌, ◌⊎◌, ◌↔◌, ◌∙◌, ℕ, List, refl, subst, arith, length, get_or, take}
use Rattle.std.proofs.lemmas.List.{take_more, take_all, length-set}
use Rattle.std.proofs.lemmas.List.Elements.{Contains-get_or}
use Rattle.bk_cert.specs.declared.place.CertRef.{CertRef}
use Rattle.bk_rounds.specs.Members.{Has}
use Rattle.bk_rounds.proofs.Found.{read_any}
use Rattle.bk_flatten.specs.private.Part.{marks_of}
use Rattle.bk_flatten.proofs.Parts.{IsMarked, marked_none, marked_more}
use Rattle.bk_flatten.proofs.part.mark.Goals as goal

pub loop-c-init : goal.loop-c-init
loop-c-init c = record { same = refl; marked = marked_none c.args.marks.now }

pub bounds-marks-round : goal.bounds-marks-round
bounds-marks-round c =
    let none : CertRef = record { round = 0; author = 0 } in
    let it : CertRef = get_or c.args.part.now c.loop-c.c-index none in
    let there = Contains-get_or c.args.part.now c.loop-c.c-index none c.loop-c-test.true in
    let low = c.requires.rounds it there in
    omega (arith, low, c.loop-c.invariant.same)

pub bounds-marks-round-in-loop-c : goal.bounds-marks-round-in-loop-c
bounds-marks-round-in-loop-c c =
    let none : CertRef = record { round = 0; author = 0 } in
    let it : CertRef = get_or c.args.part.now c.loop-c.c-index none in
    let there = Contains-get_or c.args.part.now c.loop-c.c-index none c.loop-c-test.true in
    let low = c.requires.rounds it there in
    omega (arith, low, c.loop-c.invariant.same)

pub with-requires : goal.with-requires
with-requires c =
    let none : CertRef = record { round = 0; author = 0 } in
    let it : CertRef = get_or c.args.part.now c.loop-c.c-index none in
    let there = Contains-get_or c.args.part.now c.loop-c.c-index none c.loop-c-test.true in
    c.requires.authors it there

pub loop-c-preserved : goal.loop-c-preserved
loop-c-preserved c =
    let none : CertRef = record { round = 0; author = 0 } in
    let it : CertRef = get_or c.args.part.now c.loop-c.c-index none in
    let there = Contains-get_or c.args.part.now c.loop-c.c-index none c.loop-c-test.true in
    let low : it.round < length c.loop-c.marks = (let l = c.requires.rounds it there in omega (arith, l, c.loop-c.invariant.same)) in
    let is : c.index-marks-round.result ≡ marks_of c.loop-c.marks it.round = c.index-marks-round.is ∙ read_any c.loop-c.marks it.round 0 c.index-marks-round.result low in
    rw (take_more c.args.part.now c.loop-c.c-index none c.loop-c-test.true) (record {
      same = simp length-set c.loop-c.invariant.same;
      marked = marked_more c.args.marks.now c.loop-c.marks (take c.loop-c.c-index c.args.part.now) it c.with.result c.loop-c.invariant.marked low
          (subst (λ (v : ℕ). (y : ℕ) → Has c.with.result y ↔ (Has v y ⊎ (y ≡ it.author))) is c.with.ensures);
    })

pub returns : goal.returns
returns c = subst (λ (cs : List CertRef). IsMarked c.args.marks.now c.loop-c.marks cs) (take_all c.loop-c.c-index c.args.part.now (omega arith)) c.loop-c.invariant.marked
