use Rattle.std.proofs.Common.{refl, arith}
use Rattle.bk_steps.proofs.Placed.{slot_by_word, word_inside}
use Rattle.bk_steps.proofs.settling.slot_of.Goals as goal

pub bounds-words-at : goal.bounds-words-at
bounds-words-at c = word_inside c.args.ids.now c.args.declared.now c.args.words.now c.args.k c.args.at c.requires.index c.requires.words (let a = c.if-words-len.true in let b = c.len.ensures.len in omega arith) c.requires.at

pub offset_bounds-words-at : goal.offset_bounds-words-at
offset_bounds-words-at c = let inside = bounds-words-at c in let few = c.len.ensures.few in let a = c.if-words-len.true in omega arith

pub returns-then-words-len : goal.returns-then-words-len
returns-then-words-len c = slot_by_word c.args.ids.now c.args.declared.now c.args.words.now c.args.k c.args.at _ c.requires.index c.requires.words (let a = c.if-words-len.true in let b = c.len.ensures.len in omega arith) c.requires.at refl
