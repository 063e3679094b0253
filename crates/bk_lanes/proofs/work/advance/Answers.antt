use Rattle.std.proofs.Common.{◌≡◌, ◌-◌, ℕ, List, slice_index, ap, refl, ◌∙◌, arith, inl, inr}
use Rattle.std.proofs.lemmas.Bool.{cases_lt}
use Rattle.bk_lanes.specs.private.Lanes.{words_of}
use Rattle.bk_lanes.proofs.Progress.{moved, took}
use Rattle.bk_lanes.proofs.work.advance.Goals as goal

pub count-init : goal.count-init
count-init c = (
  c.requires.room,
  λ i lt. absurd (omega arith),
  λ i le lt. (
    λ busy.
        let w = c.requires.working i lt busy in
        (w.0, w.1, took _ _ _ _ _ _ w.2 (c.next_blocks-blocks.ensures i lt busy) (c.compress.ensures i lt)),
    refl,
  ),
  λ n done. done,
)

pub count-preserved : goal.count-preserved
count-preserved c =
    let e = c.count_block.ensures in
    let inv = c.count.invariant in
    let ms = c.args.messages.now in (
      omega arith,
      λ i lt. elim (cases_lt i c.count.lane) [
        | inl below ↦
            let left = e.others i (omega arith) in
            let was = inv.1 i below in
            (moved ms _ _ _ _ _ _ 0 left (ap (λ (xs : List ℕ). slice_index xs i) e.index) (ap (words_of i) e.state) was.0, left ∙ was.1)
        | inr above ↦
            let same : i ≡ c.count.lane = omega arith in
            let was = inv.2 c.count.lane (omega arith) (omega arith) in
            rw same (e.working, e.left ∙ ap (λ (n : ℕ). n - 1) was.1)
      ],
      λ i le lt.
          let left = e.others i (omega arith) in
          let was = inv.2 i (omega arith) lt in
          (moved ms _ _ _ _ _ _ 1 left (ap (λ (xs : List ℕ). slice_index xs i) e.index) (ap (words_of i) e.state) was.0, left ∙ was.1),
      λ n done. e.done n (inv.3 n done),
    )
