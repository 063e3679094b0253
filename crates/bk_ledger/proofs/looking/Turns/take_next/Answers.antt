-- One thread's slices are more by one, those of the others as before.
use Rattle.std.proofs.Common.{refl}
use Rattle.bk_ledger.proofs.HandingLemmas.{first_takes, second_takes, third_takes}
use Rattle.bk_ledger.proofs.looking.Turns.take_next.Goals as goal

pub returns-then-turn-eq0 : goal.returns-then-turn-eq0
returns-then-turn-eq0 g c = λ payloads slots all. first_takes payloads slots c.args.self.now _ _ all refl refl c.take_next.ensures

pub returns-then-turn-eq1 : goal.returns-then-turn-eq1
returns-then-turn-eq1 g c = λ payloads slots all. second_takes payloads slots c.args.self.now _ _ all refl refl c.take_next-then-turn-eq1.ensures

pub returns : goal.returns
returns g c = λ payloads slots all. third_takes payloads slots c.args.self.now _ _ all refl refl c.take_next-2.ensures
