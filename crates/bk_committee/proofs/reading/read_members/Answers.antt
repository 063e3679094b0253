use Rattle.std.proofs.Common.{◌≡◌, ℕ, ◌*◌, ◌/◌, ◌≤◌, List, length, take, ap, ◌∙◌, arith}
use Rattle.std.specs.Simd.{first_chunks}
use Rattle.std.proofs.lemmas.List.{take_all, length-take-le}
use Rattle.bk_committee.proofs.Chunks.{pieces-take}
use Rattle.bk_committee.proofs.reading.read_members.Goals as goal

-- the pieces of a front that is made of them
all_pieces : (n : ℕ) (bytes : List ℕ) (members keys : List (List ℕ)) (i : ℕ) → 32 * n ≤ length bytes → members ≡ take i keys → length keys ≤ i
    → keys ≡ first_chunks 32 (length (take (32 * n) bytes) / 32) (take (32 * n) bytes) → members ≡ first_chunks 32 n bytes
all_pieces n bytes members keys i fits so_far past front =
    let long : length (take (32 * n) bytes) ≡ 32 * n = length-take-le (32 * n) bytes fits in
    let count : length (take (32 * n) bytes) / 32 ≡ n = omega arith in
    so_far ∙ take_all i keys past ∙ front ∙ ap (λ (k : ℕ). first_chunks 32 k (take (32 * n) bytes)) count ∙ pieces-take 32 n bytes fits

pub returns : goal.returns
returns c = all_pieces c.args.count c.args.bytes.now c.loop-key.members.items c.as_chunks.result.0.now c.loop-key.key-index c.requires.whole c.loop-key.invariant c.loop-key-test.false c.as_chunks.ensures.front
