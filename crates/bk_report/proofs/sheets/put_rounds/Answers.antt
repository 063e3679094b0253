use Rattle.std.proofs.Common.{◌≡◌, ◌≤◌, ◌+◌, ◌*◌, arith, subst, sym, ℕ, length}
use Rattle.std.proofs.lemmas.Grind.{div_ceil_times}
use Rattle.bk_report.specs.RunLines.{rows_lines}
use Rattle.bk_report.proofs.Pieces.{length-rows_lines, round_at, round_put}
use Rattle.bk_report.proofs.Putting.{lines_put, puts_nothing}
use Rattle.bk_report.proofs.sheets.put_rounds.Goals as goal

pub loop-round-init : goal.loop-round-init
loop-round-init g c = record { put = puts_nothing _ c.requires.ready; made = c.requires.made }

pub loop-round-preserved : goal.loop-round-preserved
loop-round-preserved g c =
    let lines = rows_lines c.args.receipts.now c.args.rows.now in
    let n : c.loop-round.round * 65536 + 65536 ≡ (c.loop-round.round + 1) * 65536 = omega arith in record {
      put = round_put _ lines (c.loop-round.round * 65536) ((c.loop-round.round + 1) * 65536) c.loop-round.invariant.put c.put_round.ensures.put (omega arith) n;
      made = rw c.swap.ensures.x_after (round_at lines (c.loop-round.round * 65536 + 65536) ((c.loop-round.round + 1) * 65536) _ n c.put_round.ensures.makes);
    }

pub returns : goal.returns
returns g c =
    let enough : length c.args.receipts.now + length c.args.rows.now ≤ c.div_ceil-round-end.result * 65536 = subst (λ (k : ℕ). length c.args.receipts.now + length c.args.rows.now ≤ k * 65536) (sym c.div_ceil-round-end.ensures) (div_ceil_times (length c.args.receipts.now + length c.args.rows.now) 65536 (omega arith)).0 in
    lines_put _ (rows_lines c.args.receipts.now c.args.rows.now) (c.loop-round.round * 65536) (omega (arith, enough, c.loop-round-test.false, length-rows_lines c.args.receipts.now c.args.rows.now)) c.loop-round.invariant.put (omega arith)
