use Rattle.std.proofs.Common.{◌≡◌, ◌<◌, ◌∙◌, length, slice_index, inl, inr, arith}
use Rattle.std.proofs.lemmas.List.{get_or-set_other, get_or-set_same, length-set}
use Rattle.std.proofs.lemmas.Bool.{cases_lt}
use Rattle.sha2.proofs.Schedule256.{IsWindow_first}
use Rattle.bk_lanes.specs.private.Lanes.{block_of, column}
use Rattle.bk_lanes.proofs.Columns.{column_length, column_set}
use Rattle.bk_lanes.proofs.wide.load_all.Goals as goal

pub load-preserved : goal.load-preserved
load-preserved c =
    let x = c.load-in-load.result in (
      length-set c.load.w c.load.t x ∙ c.load.invariant.0,
      λ i lt k below.
          let long = column_length i c.load.w in
          rw (column_set i c.load.t c.load.w x) (elim (cases_lt k c.load.t) [
            | inl a ↦ get_or-set_other (column i c.load.w) c.load.t k (slice_index x i) 0 (omega arith) ∙ c.load.invariant.1 i lt k a
            | inr b ↦
                let e : c.load.t ≡ k = omega arith in
                let room : c.load.t < length (column i c.load.w) = omega (arith, long, c.load.invariant.0, c.load-test.true) in
                rw (← e) (get_or-set_same (column i c.load.w) c.load.t (slice_index x i) 0 room ∙ c.load-in-load.ensures.1 i lt)
          ]),
    )

pub returns : goal.returns
returns c = λ i lt.
    IsWindow_first (block_of i c.args.blocks.now) (column i c.load.w) (column_length i c.load.w ∙ c.load.invariant.0)
    (λ k below. c.load.invariant.1 i lt k (omega arith))
