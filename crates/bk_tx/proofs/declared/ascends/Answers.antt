use Rattle.std.proofs.Common.{◌≡◌, ℕ, ltb, List, subst, rules, arith}
use Rattle.std.proofs.lemmas.List.{map-id}
use Rattle.std.proofs.lemmas.List.Sorted.{answers_always}
use Rattle.bk_base.specs.Numbers.{is_ascending}
use Rattle.bk_tx.proofs.Ascending.{ascending_answer}
use Rattle.bk_tx.proofs.declared.ascends.Goals as goal

pub returns-clause-test : goal.returns-clause-test
returns-clause-test c =
    let tested = c.is_sorted_by.ensures.cases (λ x y. ltb x y) (answers_always _ _ _ (λ f a r g h. search rules)) in
    subst (λ (ids : List ℕ). c.is_sorted_by.result ≡ is_ascending ids) (map-id c.args.ids.now) (ascending_answer (λ (x : ℕ). x) c.args.ids.now c.is_sorted_by.result tested)

pub returns-clause-fit : goal.returns-clause-fit
returns-clause-fit c = λ k. omega (arith, c.type_inv.ids k)
