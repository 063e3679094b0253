use Rattle.std.proofs.Common.{◌≡◌, ltb, List, subst, rules}
use Rattle.std.proofs.lemmas.List.Sorted.{answers_always}
use Rattle.bk_base.specs.Numbers.{is_ascending}
use Rattle.bk_tx.specs.declared.payments.Payment.{Payment}
use Rattle.bk_tx.specs.Access.{receivers_in}
use Rattle.bk_tx.proofs.Ascending.{ascending_answer}
use Rattle.bk_tx.proofs.payments.Payments.is_ascending.Goals as goal

pub returns : goal.returns
returns c =
    let tested = c.is_sorted_by.ensures.cases (λ x y. ltb x.to y.to) (answers_always _ _ _ (λ f a r g h. search rules)) in
    subst (λ (ps : List Payment). c.is_sorted_by.result ≡ is_ascending (receivers_in ps)) c.as_slice.ensures.all (ascending_answer (λ (p : Payment). p.to) c.as_slice.result.now c.is_sorted_by.result tested)
