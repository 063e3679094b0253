use Rattle.std.proofs.Common.{ℕ, List, sym, subst, length, get_or}
use Rattle.std.specs.List.{Contains}
use Rattle.std.proofs.lemmas.Bool.{both_ways}
use Rattle.bk_rounds.specs.private.Numbered.{row_of}
use Rattle.bk_rounds.proofs.Added.{row_keeps, row_has, rows_inside, done_more}
use Rattle.bk_rounds.proofs.waking.register.Goals as goal
use Rattle.bk_rounds.proofs.waking.register.Goals.{then-not-marks-p+in_ok-push, else-not-marks-p}

pub returns-in_err-push-clause-keeps : goal.returns-in_err-push-clause-keeps
returns-in_err-push-clause-keeps c = record {
  rows = λ m i h. c.loop-p.invariant.keeps.rows m i (subst (λ (xs : List ℕ). Contains xs i) (c.in_err-push.ensures.err m) h);
  kept = λ m i h. subst (λ (xs : List ℕ). Contains xs i) (sym (c.in_err-push.ensures.err m)) (c.loop-p.invariant.keeps.kept m i h);
}

pub loop-p-preserved : goal.loop-p-preserved
loop-p-preserved c =
    let p : ℕ = get_or c.args.parents.now c.loop-p.p-index 0 in
    elim c.if-not-marks-p.branch [
      | then-not-marks-p+in_ok-push w ↦
          let entered = w.in_ok-push.ensures.ok in
          rw w.pending-is (record {
            keeps = record {
              rows = rows_inside c.loop-p.pending w.push.new.self p c.args.k entered (length c.args.marks.now) c.requires.number c.loop-p.invariant.keeps.rows;
              kept = λ m i h. row_keeps c.loop-p.pending w.push.new.self p c.args.k entered m i (c.loop-p.invariant.keeps.kept m i h);
            };
            done = done_more c.args.parents.now c.args.marks.now (λ q. Contains (row_of w.push.new.self q) c.args.k) c.loop-p.p-index c.loop-p-test.true
                (λ j d lt within free. row_keeps c.loop-p.pending w.push.new.self p c.args.k entered _ c.args.k (c.loop-p.invariant.done j d lt within free))
                (λ free. row_has c.loop-p.pending w.push.new.self p c.args.k entered);
          })
      | else-not-marks-p w ↦ rw w.pending-is (record {
        keeps = c.loop-p.invariant.keeps;
        done = done_more c.args.parents.now c.args.marks.now (λ q. Contains (row_of c.loop-p.pending q) c.args.k) c.loop-p.p-index c.loop-p-test.true c.loop-p.invariant.done
            (λ free. absurd (both_ways _ free w.if-not-marks-p.false));
      })
    ]
