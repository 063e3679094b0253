use Rattle.std.proofs.Common.{◌++◌, ◌||◌, ℕ, Bool, List, eqb, sym, ap, ◌∙◌}
use Rattle.std.proofs.lemmas.List.Filters.{dedup_is}
use Rattle.std.proofs.lemmas.List.Sorted.{list_any-IsPermutation}
use Rattle.bk_rules.specs.Ledger.{has_slot}
use Rattle.bk_rules.proofs.Widening.{wide_ascends, wide_has}
use Rattle.bk_rules.proofs.widen.wider.Goals as goal

pub returns-clause-ascending : goal.returns-clause-ascending
returns-clause-ascending c = wide_ascends c.sort.new.self.items c.dedup.new.self.items c.in_ok-sort.ensures.sorted (dedup_is eqb _ _ c.dedup.ensures.filtered)

pub returns-clause-slots : goal.returns-clause-slots
returns-clause-slots c = λ i.
    wide_has c.args.ids.now c.sort_unstable.new.self.items c.extend_from_slice.new.self.items c.sort.new.self.items c.dedup.new.self.items i _
    (c.in_ok-extend_from_slice.ensures.items ∙ ap (λ (xs : List ℕ). c.sort_unstable.new.self.items ++ xs) c.as_slice.ensures.all)
    c.sort.ensures.permutation
    (dedup_is eqb _ _ c.dedup.ensures.filtered)
    (ap (λ (b : Bool). has_slot c.args.ids.now i || b) (sym (list_any-IsPermutation (λ (j : ℕ). eqb j i) c.args.more.items c.sort_unstable.new.self.items c.sort_unstable.ensures.permutation)))
