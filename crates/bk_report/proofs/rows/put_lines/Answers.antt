use Rattle.std.proofs.Common.{◌≡◌, ◌≤◌, ◌+◌, ◌-◌, List, ℕ, ◌++◌, length, take, drop, length-drop, take_all, append_assoc, ap, subst, sym, ◌∙◌, arith}
use Rattle.std.proofs.Math.Nat.{min-le_right}
use Rattle.bk_report.specs.Lines.{text_of}
use Rattle.bk_report.specs.RunLines.{rows_lines}
use Rattle.bk_report.proofs.Pieces.{two_pieces}
use Rattle.bk_report.proofs.rows.put_lines.Goals as goal

pub loop-done-preserved : goal.loop-done-preserved
loop-done-preserved c =
    let lines = rows_lines c.args.receipts.now c.args.rows.now in
    let few : c.min-some.result ≤ c.args.count - c.loop-done.done = subst (λ (k : ℕ). k ≤ c.args.count - c.loop-done.done) (sym c.min-some.ensures) (min-le_right 64 (c.args.count - c.loop-done.done)) in
    let whole : take (6144 - c.write_lines-at.result) (drop c.write_lines-at.result c.write_lines-at.new.text) ≡ drop c.write_lines-at.result c.write_lines-at.new.text = take_all (6144 - c.write_lines-at.result) (drop c.write_lines-at.result c.write_lines-at.new.text) (omega (arith, length-drop c.write_lines-at.result c.write_lines-at.new.text, c.write_lines-at.ensures.length, c.min-some.array_long)) in
    record {
      text = c.put_text.ensures.items ∙ ap (λ (t : List ℕ). c.loop-done.text.items ++ t) whole ∙ (λ i. c.loop-done.invariant.text i ++ c.write_lines-at.ensures.text i)
          ∙ append_assoc c.args.text.now.items (text_of (take c.loop-done.done (drop c.args.start lines))) (text_of (take c.min-some.result (drop (c.args.start + c.loop-done.done) lines)))
          ∙ ap (λ (t : List ℕ). c.args.text.now.items ++ t) (two_pieces lines c.args.start c.loop-done.done c.min-some.result);
      room = omega (arith, c.put_text.ensures.room, c.loop-done.invariant.room);
      size = omega (arith, c.put_text.ensures.len, ap length whole, c.write_lines-at.ensures.size, length-drop c.write_lines-at.result c.write_lines-at.new.text, c.loop-done.invariant.size);
      within = omega (arith, few, c.loop-done-test.true);
    }
