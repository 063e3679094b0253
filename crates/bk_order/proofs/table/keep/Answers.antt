use Rattle.std.proofs.Common.{ℕ, ◌+◌, ◌^◌, ◌<◌, List, [], ◌∷◌, None, Option, ap, refl, subst, sym, arith}
use Rattle.bk_base.specs.Feed.{Frame, frame_of}
use Rattle.bk_certcheck.specs.Frames.{IsFound}
use Rattle.bk_certcheck.specs.declared.verdict.Verdict.TheVariants as verdict
use Rattle.bk_order.specs.declared.table.Table.{Table}
use Rattle.bk_order.specs.Frames.{rejects_by}
use Rattle.bk_order.specs.private.Joined.{KeepsFrames}
use Rattle.bk_order.proofs.Tables.{tick, cert_keeps, batch_keeps, other_keeps}
use Rattle.bk_order.proofs.table.keep.Goals.{in-Good+in_ok-keep_good-in-Good, in-Broken+in_ok-keep_broken-in-Broken, in-Batch+in_ok-new-in-Batch, in-Other}
use Rattle.bk_order.proofs.table.keep.Goals as goal

pub keep_good-requires-clause-judged : goal.keep_good-requires-clause-judged
keep_good-requires-clause-judged c =
    (c.args.frame.1.items, (subst (IsFound c.args.committee.now (frame_of c.args.frame.0 c.args.frame.1.items)) c.in-Good.is c.requires.found).1)

pub overflow_add-table : goal.overflow_add-table
overflow_add-table c =
    let low : c.match-found.table.next + 1 < 2 ^ 64 = elim c.match-found.branch [
      | in-Good+in_ok-keep_good-in-Good w ↦ subst (λ (t : Table). t.next + 1 < 2 ^ 64) (sym w.table-is) (let next = w.in_ok-keep_good-in-Good.ensures.next in let room = c.requires.room in omega arith)
      | in-Broken+in_ok-keep_broken-in-Broken w ↦ subst (λ (t : Table). t.next + 1 < 2 ^ 64) (sym w.table-is)
          (let keeps = w.in_ok-keep_broken-in-Broken.ensures c.args.committee.now c.requires.joined in let next = keeps.next in let room = c.requires.room in omega arith)
      | in-Batch+in_ok-new-in-Batch w ↦ subst (λ (t : Table). t.next + 1 < 2 ^ 64) (sym w.table-is) c.requires.room
      | in-Other w ↦ subst (λ (t : Table). t.next + 1 < 2 ^ 64) (sym w.table-is) c.requires.room
    ] in
    omega arith

pub returns : goal.returns
returns c =
    let k = c.args.committee.now in
    let old : Table = c.args.table.now in
    let f : Frame = frame_of c.args.frame.0 c.args.frame.1.items in
    elim c.match-found.branch [
      | in-Good+in_ok-keep_good-in-Good w ↦ subst (λ (t : Table). KeepsFrames k (f ∷ []) old (tick t)) (sym w.table-is)
          (let is = subst (IsFound k f) w.in-Good.is c.requires.found in
          cert_keeps k old w.keep_good.new.table f (verdict.Good w.in-Good.good) None is.0 is.1 refl c.requires.joined c.requires.room w.in_ok-keep_good-in-Good.ensures)
      | in-Broken+in_ok-keep_broken-in-Broken w ↦ subst (λ (t : Table). KeepsFrames k (f ∷ []) old (tick t)) (sym w.table-is)
          (let is = subst (IsFound k f) w.in-Broken.is c.requires.found in
          cert_keeps k old w.keep_broken.new.table f (verdict.Broken w.in-Broken.rule) w.in-Broken.id is.0 is.1 (ap (λ (i : Option (List ℕ)). rejects_by old.next i (verdict.Broken w.in-Broken.rule)) is.2) c.requires.joined c.requires.room
          (w.in_ok-keep_broken-in-Broken.ensures k c.requires.joined))
      | in-Batch+in_ok-new-in-Batch w ↦ subst (λ (t : Table). KeepsFrames k (f ∷ []) old (tick t)) (sym w.table-is)
          (batch_keeps k old w.keep_batch.new.batches w.with-table.result w.in_ok-new-in-Batch.new f w.in-Batch.digest (subst (IsFound k f) w.in-Batch.is c.requires.found) c.requires.joined
          w.in_ok-new-in-Batch.ensures.same w.in_ok-new-in-Batch.ensures.begins
          c.requires.room w.in_ok-new-in-Batch.ensures.new w.with-table.ensures)
      | in-Other w ↦ subst (λ (t : Table). KeepsFrames k (f ∷ []) old (tick t)) (sym w.table-is) (other_keeps k old f (subst (IsFound k f) w.in-Other.is c.requires.found) c.requires.joined c.requires.room)
    ]
