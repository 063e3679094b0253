use Rattle.std.proofs.Common.{ℕ, ◌+◌, [], List, ◌≡◌, ◌∙◌, arith, slice_index_or}
use Rattle.sha2.specs.Sha256.{compress}
use Rattle.bk_lanes.specs.private.Lanes.{eight_of}
use Rattle.bk_lanes.proofs.Vectors.{compress_eight}
use Rattle.bk_lanes.proofs.each.compress_from.Goals as goal

-- a block into a hash value that came through the lanes
one_lane : (r w w0 s t b u : List ℕ) → r ≡ w → w ≡ compress w0 b → w0 ≡ eight_of s → s ≡ t → b ≡ u → r ≡ compress t u
one_lane r w w0 s t b u er ew e0 es eb = er ∙ ew ∙ rw (e0, es, eb) (compress_eight t u)

pub returns-clause-these : goal.returns-clause-these
returns-clause-these c = λ i lt le.
    one_lane _ _ _ _ (slice_index_or c.args.states.now (c.args.from + i) []) _ (slice_index_or c.args.blocks.now (c.args.from + i) [])
    (c.put.invariant.1 i (omega arith)) (c.compress.ensures i lt) (c.words_from-words.ensures i lt) (c.eight_states.ensures i lt le)
    (c.eight_blocks.ensures i lt (omega arith))
