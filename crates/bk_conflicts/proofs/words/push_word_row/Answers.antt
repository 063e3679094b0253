use Rattle.std.proofs.Common.{length, ap, arith}
use Rattle.bk_conflicts.proofs.First.{rows_more}
use Rattle.bk_conflicts.specs.private.Words.{words_of_slots}
use Rattle.bk_conflicts.proofs.words.push_word_row.Goals as goal

pub returns : goal.returns
returns c = λ f n r e. rw (c.in_ok-push.ensures.items, c.in_ok-push_words.ensures)
    (rows_more f n c.args.rows.now.start.items c.args.rows.now.items.items (words_of_slots c.args.xs.now) c.len-end.result r e
    (let a = c.len-end.ensures in let b = ap length c.in_ok-push_words.ensures in omega arith))
