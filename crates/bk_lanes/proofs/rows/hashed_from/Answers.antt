use Rattle.std.proofs.Common.{◌≡◌, ◌∙◌, ◌<◌, ℕ, suc, ◌+◌, List, [], ◌∷◌, length, slice_index_or, ap, arith, rules, sym}
use Rattle.bk_lanes.specs.private.Lanes.{block_count, bytes_of}
use Rattle.bk_lanes.proofs.Progress.{digest_at_end, hash_more, hash_none}
use Rattle.bk_lanes.proofs.rows.hashed_from.Goals as goal

-- the blocks of a row after its first byte
counted : (n size : ℕ) (m row : List ℕ) (first : ℕ) → n ≡ block_count (length m) → m ≡ first ∷ row → length row ≡ size → n ≡ block_count (size + 1)
counted n size m row first en em long =
    let same : length m ≡ size + 1 = ap length em ∙ ap suc long ∙ omega arith in
    rw (← same) en

-- the last block, which there is
last_count : (n size k : ℕ) (row : List ℕ) (first : ℕ) → k ≡ n → n ≡ block_count (size + 1) → (0 < k → length row ≡ size)
    → k ≡ block_count (length (first ∷ row))
last_count n size k row first ek en long =
    let some : 0 < k = omega arith in
    let same : length (first ∷ row) ≡ size + 1 = ap suc (long some) ∙ omega arith in
    rw same (ek ∙ en)

pub through-init : goal.through-init
through-init g c = (λ i lt le. c.started-state.ensures i lt ∙ sym (hash_none (c.args.first ∷ slice_index_or c.args.rows.now (c.args.from + i) [])), λ some. absurd (omega arith))

pub row_blocks-requires : goal.row_blocks-requires
row_blocks-requires g c =
    let all : c.block_count-at-end.result ≡ block_count (g.row.N + 1) =
    counted _ g.row.N (bytes_of c.row_at.result) (slice_index_or c.args.rows.now c.args.from []) c.args.first c.block_count-at-end.ensures c.row_at.ensures.bytes c.row_at.ensures.sized in
    (search rules, (c.requires, rw all at c.through-test.true))

pub through-preserved : goal.through-preserved
through-preserved g c = (
  λ i lt le. hash_more (c.args.first ∷ slice_index_or c.args.rows.now (c.args.from + i) []) _ _ _ c.through.at (c.through.invariant.0 i lt le) (c.row_blocks.ensures.blocks i lt le) (c.compress.ensures i lt),
  λ some. c.row_blocks.ensures.sized,
)

pub returns : goal.returns
returns g c = λ i lt le.
    let row = slice_index_or c.args.rows.now (c.args.from + i) [] in
    let all : c.block_count-at-end.result ≡ block_count (g.row.N + 1) =
    counted _ g.row.N (bytes_of c.row_at.result) (slice_index_or c.args.rows.now c.args.from []) c.args.first c.block_count-at-end.ensures c.row_at.ensures.bytes c.row_at.ensures.sized in
    digest_at_end (c.args.first ∷ row) _ c.through.at (c.through.invariant.0 i lt le)
    (last_count _ g.row.N c.through.at row c.args.first (omega arith) all (λ some. c.through.invariant.1 some i lt le))
