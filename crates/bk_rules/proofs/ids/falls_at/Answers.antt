use Rattle.std.proofs.Common.{◌≡◌, ℕ, ◌+◌, ◌-◌, ◌<◌, length, get_or, subst, arith}
use Rattle.std.proofs.lemmas.Bool.Decides.{nat_tests}
use Rattle.bk_rules.proofs.Finding.{falls_nowhere}
use Rattle.bk_rules.proofs.ids.falls_at.Goals as goal
use Rattle.bk_rules.proofs.ids.falls_at.Goals.{else-index-ids-via-then-index-ids+else-ids-index-2, else-index-ids-via-else-index-ids}

pub returns-then-index-eq0 : goal.returns-then-index-eq0
returns-then-index-eq0 c _ =
    let within = c.if-ids-index.false in
    let first = c.if-index-eq0.true in
    falls_nowhere c.args.ids.now c.requires c.args.id c.args.index (grind (arith, nat_tests)) above (λ b is. absurd (grind (arith, nat_tests)))
  where
    above : c.args.index < length c.args.ids.now → c.args.id < get_or c.args.ids.now c.args.index 0
    above low = elim c.else-index-ids.branch [
      | else-index-ids-via-then-index-ids+else-ids-index-2 w ↦ (let more = w.if-ids-index-2.false in grind (arith, nat_tests))
      | else-index-ids-via-else-index-ids w ↦ (let past = w.if-index-ids.false in absurd (grind (arith, nat_tests)))
    ]

pub returns-else-index-eq0 : goal.returns-else-index-eq0
returns-else-index-eq0 c less =
    let within = c.if-ids-index.false in
    falls_nowhere c.args.ids.now c.requires c.args.id c.args.index (grind (arith, nat_tests)) above below
  where
    above : c.args.index < length c.args.ids.now → c.args.id < get_or c.args.ids.now c.args.index 0
    above low = elim c.else-index-ids.branch [
      | else-index-ids-via-then-index-ids+else-ids-index-2 w ↦ (let more = w.if-ids-index-2.false in grind (arith, nat_tests))
      | else-index-ids-via-else-index-ids w ↦ (let past = w.if-index-ids.false in absurd (grind (arith, nat_tests)))
    ]

    below : (b : ℕ) → b + 1 ≡ c.args.index → get_or c.args.ids.now b 0 < c.args.id
    below b is =
        let same : c.args.index - 1 ≡ b = omega (arith, is) in
        let last : get_or c.args.ids.now (c.args.index - 1) 0 < c.args.id = grind (arith, nat_tests) in
        subst (λ (k : ℕ). get_or c.args.ids.now k 0 < c.args.id) same last
