use Rattle.std.proofs.Common.{◌≡◌, ◌-◌, ◌/◌, ◌++◌, List, ℕ, ap, sym, length, take, ◌∙◌}
use Rattle.bk_lanes.specs.private.Lanes.{bytes_of}
use Rattle.bk_lanes.proofs.Blocks.{beyond, ended_by, last_long, last_short, length_block, length_field}
use Rattle.bk_lanes.proofs.padding.last_block.Goals as goal
use Rattle.bk_lanes.proofs.padding.last_block.Goals.{then-at-len, else-at-len}

pub returns-then-at-block_count : goal.returns-then-at-block_count
returns-then-at-block_count c =
    let m = bytes_of c.args.message.now in
    let b = c.if-at-len.block in
    let counted = c.if-at-block_count.true ∙ c.block_count.ensures in
    let whole = ap (λ (l : ℕ). l / 64) c.message_len-len.ensures.value in
    c.put_length.ensures
    ∙ ap (λ (l : ℕ). take 56 b ++ length_field (l)) c.message_len-len.ensures.value
    ∙ elim c.if-at-len.branch [
      | then-at-len w ↦
          last_short m b c.args.at (w.if-at-len.true ∙ whole) counted
          (w.block-is ∙ w.ended-block.ensures ∙ ap (λ (r : List ℕ). r ++ ended_by (63 - length r)) w.rest_at.ensures)
      | else-at-len w ↦ length_block m b c.args.at (λ e. w.if-at-len.false (e ∙ sym whole)) c.requires.low c.requires.high w.block-is
    ]

pub returns-else-at-block_count : goal.returns-else-at-block_count
returns-else-at-block_count c =
    let m = bytes_of c.args.message.now in
    let b = c.if-at-len.block in
    let whole = ap (λ (l : ℕ). l / 64) c.message_len-len.ensures.value in
    elim c.if-at-len.branch [
      | then-at-len w ↦
          last_long m b c.args.at (w.if-at-len.true ∙ whole) (λ e. c.if-at-block_count.false (e ∙ sym c.block_count.ensures))
          (w.block-is ∙ w.ended-block.ensures ∙ ap (λ (r : List ℕ). r ++ ended_by (63 - length r)) w.rest_at.ensures)
      | else-at-len w ↦
          let more = c.if-at-block_count.false in
          let ne = λ (e : c.args.at ≡ length m / 64). w.if-at-len.false (e ∙ sym whole) in
          absurd (beyond (length m) c.args.at _ ne c.requires.low c.requires.high c.block_count.ensures more)
    ]
