use Rattle.std.proofs.Common.{◌≡◌, ℕ, ltb, List, subst, rules}
use Rattle.std.proofs.lemmas.List.{map-id}
use Rattle.std.proofs.lemmas.List.Sorted.{answers_always}
use Rattle.bk_base.specs.Numbers.{is_ascending}
use Rattle.bk_tx.proofs.Ascending.{ascending_answer}
use Rattle.bk_ledger_trials.proofs.touching.ascends.Goals as goal

pub returns : goal.returns
returns c =
    let tested = c.is_sorted_by.ensures.cases (λ x y. ltb x y) (answers_always _ _ _ (λ f a r g h. search rules)) in
    subst (λ (list : List ℕ). c.is_sorted_by.result ≡ is_ascending list) (map-id c.args.list.now) (ascending_answer (λ (x : ℕ). x) c.args.list.now c.is_sorted_by.result tested)
