use Rattle.std.proofs.Common.{◌≡◌, ◌<◌, ◌≤◌, ℕ, sym, ap, ◌∙◌, arith, length, get_or, sum_by}
use Rattle.std.proofs.lemmas.Bool.{le-leb}
use Rattle.std.proofs.lemmas.List.{get_or-map}
use Rattle.std.proofs.lemmas.List.Sums.{sum_by_more_le}
use Rattle.bk_committee.specs.Sizes.{weight, quorum}
use Rattle.bk_rounds.specs.declared.slots.Slot.{Slot}
use Rattle.bk_rounds.specs.private.Numbered.{author_of}
use Rattle.bk_rounds.proofs.slots.is_heavy.Goals as goal

pub returns-then-sum-quorum : goal.returns-then-sum-quorum
returns-then-sum-quorum c =
    let p : ℕ = get_or c.args.parents.now c.loop-p.p-index 0 in
    let low : p < length c.args.slots.now = c.requires.inside c.loop-p.p-index 0 c.loop-p-test.true in
    let at : author_of c.args.slots.now p ≡ (get_or c.args.slots.now p c.index-slots-p.result).author =
    get_or-map (λ (s : Slot). s.author) c.args.slots.now p c.index-slots-p.result 0 low in
    let one : weight c.args.weights.now (author_of c.args.slots.now p) ≡ c.weight-sum.result = ap (weight c.args.weights.now) at ∙ sym c.weight-sum.ensures.is in
    let more = sum_by_more_le (λ q. weight c.args.weights.now (author_of c.args.slots.now q)) c.args.parents.now c.loop-p.p-index 0 c.loop-p-test.true in
    let q : c.quorum-quorum.result ≡ quorum c.args.weights.now = c.quorum-quorum.ensures.is in
    let enough : quorum c.args.weights.now ≤ sum_by (λ q. weight c.args.weights.now (author_of c.args.slots.now q)) c.args.parents.now =
    omega (arith, more, one, q, c.loop-p.invariant.is, c.if-sum-quorum.true) in
    sym (le-leb _ _ enough)
