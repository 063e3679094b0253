use Rattle.std.proofs.Common.{◌<◌, length, ◌++◌, ◌∷◌, [], List, ℕ, get_or, ap, subst, ◌∙◌, arith}
use Rattle.std.proofs.lemmas.List.{take_all, get_or_default}
use Rattle.bk_evidence.specs.Batches.{Batch, batch_with}
use Rattle.bk_diagnosis.specs.private.Colliding.{IsOtherBatch, ListsSome}
use Rattle.bk_diagnosis.proofs.Noting.{next_yes, next_no, fails}
use Rattle.bk_diagnosis.proofs.colliding.add_batches.Goals as goal
use Rattle.bk_diagnosis.proofs.colliding.add_batches.Goals.{then-is_other_batch+in_ok-push, else-is_other_batch}

abbrev none : Batch
none = batch_with [] []

abbrev at : List Batch → ℕ → Batch
at batches i = get_or batches i none

pub loop-index-preserved : goal.loop-index-preserved
loop-index-preserved c =
    let low : c.loop-index.index < length c.args.stored.now = omega (arith, c.loop-index-test.true, c.len-index-end.ensures) in
    elim c.if-is_other_batch.branch [
      | then-is_other_batch+in_ok-push w ↦ rw w.ids-is
          (next_yes (λ (b : Batch). b.digest) (IsOtherBatch c.args.stored.now) c.args.stored.now c.loop-index.index (at c.args.stored.now c.loop-index.index)
          c.args.ids.now.items c.loop-index.ids.items w.push.new.self.items low (get_or_default c.args.stored.now c.loop-index.index none _ low) c.loop-index.invariant
          ((c.is_other_batch.ensures none).0 w.if-is_other_batch.true)
          (w.in_ok-push.ensures.items ∙ ap (λ (q : List ℕ). c.loop-index.ids.items ++ q ∷ []) (w.digest.ensures none)))
      | else-is_other_batch w ↦ rw w.ids-is
          (next_no (λ (b : Batch). b.digest) (IsOtherBatch c.args.stored.now) c.args.stored.now c.loop-index.index (at c.args.stored.now c.loop-index.index)
          c.args.ids.now.items c.loop-index.ids.items low (get_or_default c.args.stored.now c.loop-index.index none _ low) c.loop-index.invariant
          (fails c.is_other_batch.result (c.is_other_batch.ensures none) w.if-is_other_batch.false))
    ]

pub returns : goal.returns
returns c = subst (λ (xs : List Batch). ListsSome (λ (b : Batch). b.digest) (IsOtherBatch c.args.stored.now) xs c.args.ids.now.items c.loop-index.ids.items)
    (take_all c.loop-index.index c.args.stored.now (omega (arith, c.loop-index-test.false, c.len-index-end.ensures))) c.loop-index.invariant
