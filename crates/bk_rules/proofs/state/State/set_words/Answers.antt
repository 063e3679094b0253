use Rattle.std.proofs.Common.{◌≡◌, ◌^◌, ◌<◌, length, sym, ap, subst, take_at, ◌∙◌, arith}
use Rattle.bk_base.specs.Genesis.{total_of}
use Rattle.bk_rules.specs.Ledger.{Ledger, ledger_of, rows_shown, in_pairs}
use Rattle.bk_rules.proofs.Words.{length-pairs, slots_set, shows_set}
use Rattle.bk_rules.proofs.state.State.set_words.Goals as goal

pub set_all-requires : goal.set_all-requires
set_all-requires c =
    let slots = ap (λ (l : Ledger). length l.slots) c.self.view_is in
    let same = c.self.invariant.same in
    let len = ap length c.deref_mut.ensures.value in
    omega (arith, c.requires.length)

pub invariant_of-self : goal.invariant_of-self
invariant_of-self c =
    let len : length c.set_all.new.numbers ≡ c.self.inside.numbers.len = omega arith in
    let slots = ap (λ (l : Ledger). length l.slots) c.self.view_is in
    rw (take_at c.set_all.new.numbers _ c.self.inside.numbers.len len) (slots_set c.self.inside.version c.self.inside.ids c.set_all.new.numbers c.self.invariant.ascending (in_pairs c.args.words.now) (length-pairs (length c.self.inside.ids) c.args.words.now (omega (arith, c.requires.length))) c.set_all.ensures (subst (λ (l : Ledger). total_of (rows_shown l.version l.slots (in_pairs c.args.words.now)) < 2 ^ 63) (sym c.self.view_is) c.requires.within))

pub returns : goal.returns
returns c =
    let len : length c.set_all.new.numbers ≡ c.self.inside.numbers.len = omega arith in
    rw (take_at c.set_all.new.numbers _ c.self.inside.numbers.len len) (shows_set c.self.inside.version c.self.inside.ids c.set_all.new.numbers (in_pairs c.args.words.now) c.set_all.ensures ∙ ap (λ (l : Ledger). ledger_of l.version l.slots (rows_shown l.version l.slots (in_pairs c.args.words.now))) c.self.view_is)
