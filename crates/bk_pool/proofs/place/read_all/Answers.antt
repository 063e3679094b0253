use Rattle.std.proofs.Common.{subst, arith}
use Rattle.bk_steps.specs.Course.{HasRead}
use Rattle.bk_bank.specs.Plays.{reads_of}
use Rattle.bk_pool.proofs.WordsOfPlace.{declared_word}
use Rattle.bk_pool.proofs.place.read_all.Goals as goal

pub returns-clause-read : goal.returns-clause-read
returns-clause-read c = λ x d. let h = declared_word c.args.bank.now.setting c.args.hold.now.place x d in let l = h.1 in let n = c.requires.count in let stop = c.loop-i-test.false in
    subst (HasRead (reads_of c.loop-i.hold.view.stage)) h.2 (c.loop-i.invariant.read h.0 (omega arith))
