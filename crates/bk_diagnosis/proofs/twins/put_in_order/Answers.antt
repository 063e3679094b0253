use Rattle.std.proofs.lemmas.List.Filters.{dedup_is}
use Rattle.std.proofs.lemmas.List.Kept.{IsStrictlySortedBy-dedup, Contains-dedup, Contains-from_dedup}
use Rattle.std.proofs.lemmas.List.Sorted.{Contains-permutation, IsPermutation-sym}
use Rattle.bk_diagnosis.proofs.NamedOrder.{named_total, named_ties, named_equivalence, named_same}
use Rattle.bk_diagnosis.proofs.twins.put_in_order.Goals as goal

pub returns : goal.returns
returns c =
    let is = dedup_is _ _ _ c.dedup.ensures.filtered in
    let moved = c.sort_unstable.ensures.permutation in
    rw is (record {
      ascending = IsStrictlySortedBy-dedup named_total named_ties _ c.sort_unstable.ensures.sorted;
      exact = λ id. (
        (λ t. Contains-permutation _ _ id (IsPermutation-sym _ _ moved) (Contains-from_dedup _ _ id t)),
        (λ t. Contains-dedup named_equivalence named_same _ id (Contains-permutation _ _ id moved t)),
      );
    })
