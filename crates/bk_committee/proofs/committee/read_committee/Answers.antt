use Rattle.std.proofs.Common.{◌≡◌, ℕ, ◌≤◌, ◌<◌, ◌^◌, List, ◌∷◌, None, length, sum, ap, ◌∙◌, arith}
use Rattle.std.specs.Simd.{first_chunks}
use Rattle.bk_base.specs.Numbers.{IsBytes}
use Rattle.bk_base.specs.declared.version.Version.{Version}
use Rattle.bk_committee.specs.Payload.{IsCommittee, committee_with, committee_of, weights_of, bad_of}
use Rattle.bk_committee.proofs.Grammar.{good_committee, total_some, total_few}
use Rattle.bk_committee.proofs.committee.read_committee.Goals as goal

whole : (v : Version) (n : ℕ) (bytes : List ℕ) (keys : List (List ℕ)) (weights : List ℕ) → IsBytes bytes → bad_of v (n ∷ bytes) ≡ None
    → keys ≡ first_chunks 32 n bytes → weights ≡ weights_of v n bytes → IsCommittee (committee_with v keys weights)
whole v n bytes keys weights fits good k w = rw (k, w) (good_committee v n bytes fits good)

few : (v : Version) (n : ℕ) (bytes : List ℕ) (weights now : List ℕ) → IsBytes bytes → bad_of v (n ∷ bytes) ≡ None → weights ≡ weights_of v n bytes → now ≡ weights → length now ≤ 128
few v n bytes weights now fits good w is =
    let committee : IsCommittee (committee_of v (n ∷ bytes)) = good_committee v n bytes fits good in
    let same : length now ≡ length (weights_of v n bytes) = ap length (is ∙ w) in
    omega (arith, committee.weighted, committee.few)

total : (v : Version) (keys : List (List ℕ)) (weights now : List ℕ) (n : ℕ) → IsCommittee (committee_with v keys weights) → n ≡ sum now → now ≡ weights
    → (n ≡ sum weights) × (1 ≤ n) × (n < 2 ^ 39)
total v keys weights now n good added is =
    let same : n ≡ sum weights = added ∙ ap sum is in
    let some : 1 ≤ sum weights = total_some (committee_with v keys weights) good in
    let few : sum weights < 2 ^ 39 = total_few (committee_with v keys weights) good in
    (same, omega arith, omega arith)

pub sum_of-total-requires : goal.sum_of-total-requires
sum_of-total-requires c = record {
  few = few c.args.version c.args.count c.args.bytes.now c.in_ok-weights.weights.items c.deref.result.now (λ i. omega (arith, c.type_inv.bytes i)) c.requires.good c.in_ok-weights.ensures c.deref.ensures.value;
}

pub invariant_of-result : goal.invariant_of-result
invariant_of-result c =
    let good = whole c.args.version c.args.count c.args.bytes.now c.in_ok-members.members.items c.in_ok-weights.weights.items (λ i. omega (arith, c.type_inv.bytes i)) c.requires.good c.in_ok-members.ensures c.in_ok-weights.ensures in
    let sums = total c.args.version c.in_ok-members.members.items c.in_ok-weights.weights.items c.deref.result.now c.sum_of-total.result good c.sum_of-total.ensures.sum c.deref.ensures.value in
    (good, sums.0, sums.1, sums.2)
