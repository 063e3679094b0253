use Rattle.std.proofs.Common.{◌^◌, ◌<◌, ◌≡◌, ℕ, List, length, ◌∙◌, ap, sym, subst, take_at, arith}
use Rattle.std.proofs.lemmas.List.{length-map}
use Rattle.bk_rules.specs.declared.account.Account.{Account}
use Rattle.bk_rules.specs.declared.receipt.Receipt.{Receipt}
use Rattle.bk_base.specs.Genesis.{total_of}
use Rattle.bk_rules.specs.Ledger.{ledger_of, rows_shown}
use Rattle.bk_pool.specs.private.Receipts.{AreAdded, AreNumbers}
use Rattle.bk_pool.proofs.Ended.{statuses_shown, last_words, numbers_long}
use Rattle.bk_pool.proofs.Folds.{within, is_fold}
use Rattle.bk_pool.proofs.Left.{ran_onto}
use Rattle.bk_pool.proofs.outcome.outcome_onto.Goals as goal

pub push_receipts-requires-clause-statuses : goal.push_receipts-requires-clause-statuses
push_receipts-requires-clause-statuses c = statuses_shown c.args.plan.now c.args.state c.args.words.now c.requires.closed c.in_default.ensures

pub write_numbers-requires : goal.write_numbers-requires
write_numbers-requires c =
    let long : length c.deref_mut.result.now ≡ length c.args.plan.now.ids =
    ap length (c.deref_mut.ensures.value ∙ c.into_numbers-ids.ensures.numbers) ∙ length-map c.args.state.slots _ ∙ ap length c.requires.runs.same_slots in
    omega (arith, long, c.requires.closed.words)

pub of_numbers-requires-clause-length : goal.of_numbers-requires-clause-length
of_numbers-requires-clause-length c =
    let slots : length c.into_numbers-ids.result.0 ≡ length c.args.plan.now.ids = ap length (c.into_numbers-ids.ensures.ids ∙ c.requires.runs.same_slots) in
    let had : length c.deref_mut.result.now ≡ length c.args.plan.now.ids =
    ap length (c.deref_mut.ensures.value ∙ c.into_numbers-ids.ensures.numbers) ∙ length-map c.args.state.slots _ ∙ ap length c.requires.runs.same_slots in
    let long : length c.write_numbers.new.numbers ≡ length c.args.plan.now.ids =
    numbers_long c.args.words.now c.write_numbers.new.numbers (length c.args.plan.now.ids) (subst (AreNumbers c.args.words.now c.write_numbers.new.numbers) c.requires.closed.words c.write_numbers.ensures) in
    let same : length c.write_numbers.new.numbers ≡ c.into_numbers-ids.result.1.len = omega (arith, long, had, c.deref_mut.ensures.len) in
    rw (take_at c.write_numbers.new.numbers _ c.into_numbers-ids.result.1.len same) (long ∙ sym slots)

pub of_numbers-requires-clause-within : goal.of_numbers-requires-clause-within
of_numbers-requires-clause-within c =
    let n = c.write_numbers.ensures in
    let had : length c.deref_mut.result.now ≡ length c.args.plan.now.ids =
    ap length (c.deref_mut.ensures.value ∙ c.into_numbers-ids.ensures.numbers) ∙ length-map c.args.state.slots _ ∙ ap length c.requires.runs.same_slots in
    let long : length c.write_numbers.new.numbers ≡ length c.args.plan.now.ids =
    numbers_long c.args.words.now c.write_numbers.new.numbers (length c.args.plan.now.ids) (subst (AreNumbers c.args.words.now c.write_numbers.new.numbers) c.requires.closed.words n) in
    let same : length c.write_numbers.new.numbers ≡ c.into_numbers-ids.result.1.len = omega (arith, long, had, c.deref_mut.ensures.len) in
    rw (take_at c.write_numbers.new.numbers _ c.into_numbers-ids.result.1.len same, c.version-version.ensures.version, c.into_numbers-ids.ensures.ids)
    (subst (λ (numbers : List Account). total_of (rows_shown c.args.state.version c.args.state.slots numbers) < 2 ^ 63) (sym n.numbers_are)
    (within c.args.plan.now c.args.state c.len-2.ensures.plan c.requires.runs n.words (n.long ∙ c.requires.closed.words)
    (last_words c.args.plan.now c.args.state c.args.words.now c.requires.closed c.in_default.ensures n.words n.long n.same)))

pub returns-clause-fold : goal.returns-clause-fold
returns-clause-fold c =
    let n = c.write_numbers.ensures in
    let had : length c.deref_mut.result.now ≡ length c.args.plan.now.ids =
    ap length (c.deref_mut.ensures.value ∙ c.into_numbers-ids.ensures.numbers) ∙ length-map c.args.state.slots _ ∙ ap length c.requires.runs.same_slots in
    let long : length c.write_numbers.new.numbers ≡ length c.args.plan.now.ids =
    numbers_long c.args.words.now c.write_numbers.new.numbers (length c.args.plan.now.ids) (subst (AreNumbers c.args.words.now c.write_numbers.new.numbers) c.requires.closed.words n) in
    let same : length c.write_numbers.new.numbers ≡ c.into_numbers-ids.result.1.len = omega (arith, long, had, c.deref_mut.ensures.len) in
    is_fold c.args.plan.now c.args.state c.len-2.ensures.plan c.requires.runs c.args.words.now c.requires.closed c.in_default.ensures n.words (n.long ∙ c.requires.closed.words)
    (last_words c.args.plan.now c.args.state c.args.words.now c.requires.closed c.in_default.ensures n.words n.long n.same)
    c.args.receipts.now.items c.push_receipts.new.receipts.items
    (subst (λ (y : List Receipt × ℕ). AreAdded c.args.words.now y.0 c.push_receipts.new.receipts.items y.1) (λ j. (c.reserve.ensures.items j, c.len-3.ensures.count j)) c.push_receipts.ensures)
    c.of_numbers.result
    ((rw (take_at c.write_numbers.new.numbers _ c.into_numbers-ids.result.1.len same) at c.of_numbers.ensures)
    ∙ (λ j. ledger_of (c.version-version.ensures.version j) (c.into_numbers-ids.ensures.ids j) (rows_shown (c.version-version.ensures.version j) (c.into_numbers-ids.ensures.ids j) (n.numbers_are j))))

pub returns-clause-ran : goal.returns-clause-ran
returns-clause-ran c = ran_onto c.args.plan.now c.args.state c.len-2.ensures.plan c.requires.runs c.args.words.now c.requires.closed c.in_default.ensures
    c.args.receipts.now.items c.push_receipts.new.receipts.items c.of_numbers.result (returns-clause-fold c)
