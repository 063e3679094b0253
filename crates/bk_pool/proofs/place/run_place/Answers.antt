use Rattle.std.proofs.Common.{length, sym, ap, ◌∙◌, arith}
use Rattle.bk_pool.proofs.WordsOfPlace.{place_inside, says_at, low_read, next_at, status_here, moved_here}
use Rattle.bk_pool.proofs.place.run_place.Goals as goal

pub words_of-count-requires : goal.words_of-count-requires
words_of-count-requires g c = let l = place_inside c.args.plan.now c.args.bank.now c.requires.plan.same c.args.hold.place c.requires.own.1 in let e = c.place-place.ensures in omega arith

pub settle_words-receipt-requires-clause-low : goal.settle_words-receipt-requires-clause-low
settle_words-receipt-requires-clause-low g c = let s = c.args.bank.now.setting in let plan = c.args.plan.now in
    low_read s plan c.requires.plan.same c.len.ensures.plan c.requires.plan.runs c.place-place.result c.read_all.new.values
    (says_at s plan c.requires.plan.same c.args.hold.place c.place-place.result c.read_all.new.values c.place-place.ensures (length c.words_of-count.result.now) (ap length c.words_of-count.ensures.list) c.read_all.ensures.values)

pub write_all-requires-clause-values : goal.write_all-requires-clause-values
write_all-requires-clause-values g c = let s = c.args.bank.now.setting in let plan = c.args.plan.now in
    next_at s plan c.requires.plan.same c.len.ensures.plan c.requires.plan.runs c.read_all.new.hold.place c.place-place.result (c.place-place.ensures ∙ sym c.read_all.ensures.own.1)
    c.settle_words-receipt.result c.settle_words-receipt.new.values
    (c.settle_words-receipt.ensures _ (says_at s plan c.requires.plan.same c.args.hold.place c.place-place.result c.read_all.new.values c.place-place.ensures (length c.words_of-count.result.now) (ap length c.words_of-count.ensures.list) c.read_all.ensures.values))

pub finish-leaving-requires-clause-status : goal.finish-leaving-requires-clause-status
finish-leaving-requires-clause-status g c = let s = c.args.bank.now.setting in let plan = c.args.plan.now in
    c.number.ensures.number
    ∙ status_here s plan c.requires.plan.same c.write_all.new.hold.place c.place-place.result (c.place-place.ensures ∙ (sym c.read_all.ensures.own.1 ∙ sym c.write_all.ensures.own.1))
    c.settle_words-receipt.result c.settle_words-receipt.new.values
    (c.settle_words-receipt.ensures _ (says_at s plan c.requires.plan.same c.args.hold.place c.place-place.result c.read_all.new.values c.place-place.ensures (length c.words_of-count.result.now) (ap length c.words_of-count.ensures.list) c.read_all.ensures.values))

pub finish-leaving-requires-clause-moved : goal.finish-leaving-requires-clause-moved
finish-leaving-requires-clause-moved g c = let s = c.args.bank.now.setting in let plan = c.args.plan.now in
    moved_here s plan c.requires.plan.same c.write_all.new.hold.place c.place-place.result (c.place-place.ensures ∙ (sym c.read_all.ensures.own.1 ∙ sym c.write_all.ensures.own.1))
    c.settle_words-receipt.result c.settle_words-receipt.new.values
    (c.settle_words-receipt.ensures _ (says_at s plan c.requires.plan.same c.args.hold.place c.place-place.result c.read_all.new.values c.place-place.ensures (length c.words_of-count.result.now) (ap length c.words_of-count.ensures.list) c.read_all.ensures.values))
