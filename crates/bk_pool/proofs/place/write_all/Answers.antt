use Rattle.std.proofs.Common.{◌≡◌, length, ap, ◌∙◌, subst, arith}
use Rattle.bk_steps.specs.Course.{Has}
use Rattle.bk_bank.specs.Setting.{words_at}
use Rattle.bk_bank.specs.Plays.{writes_of}
use Rattle.bk_pool.proofs.WordsOfPlace.{place_inside, written_word}
use Rattle.bk_pool.proofs.place.write_all.Goals as goal

pub words_of-words-requires : goal.words_of-words-requires
words_of-words-requires c = let l = place_inside c.args.plan.now c.args.bank.now c.requires.plan c.args.hold.now.place c.requires.own.1 in let e = c.place.ensures in omega arith

pub returns-clause-wrote : goal.returns-clause-wrote
returns-clause-wrote c = λ x w. let t = written_word c.args.bank.now.setting c.args.hold.now.place x w in let l = t.1 in let stop = c.loop-i-test.false in
    let long : length c.words_of-words.result.now ≡ length (words_at c.args.bank.now.setting.plan c.args.hold.now.place) = ap length c.words_of-words.ensures.list ∙ (λ j. length (words_at (c.requires.plan j) (c.place.ensures j))) in
    subst (Has (writes_of c.loop-i.hold.view.stage)) t.3 (c.loop-i.invariant.wrote t.0 (omega arith) t.2)
