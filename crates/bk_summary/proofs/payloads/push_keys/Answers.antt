use Rattle.std.proofs.Common.{◌≡◌, ℕ, suc, ◌+◌, List, ◌∷◌, ◌++◌, drop, Some, sym, ap, ◌∙◌, append-nil, append_assoc, drop_of_length-le, arith}
use Rattle.std.specs.Prelude.{slice_get}
use Rattle.std.specs.List.{concat}
use Rattle.bk_ledger.proofs.SliceLemmas.{drop_next}
use Rattle.bk_summary.proofs.payloads.push_keys.Goals as goal

-- one key more
key_next : (out new whole : List ℕ) (keys : List (List ℕ)) (i : ℕ) (key : List ℕ) → new ≡ out ++ key → slice_get keys i ≡ Some key → out ++ concat (drop i keys) ≡ whole
    → new ++ concat (drop (i + 1) keys) ≡ whole
key_next out new whole keys i key e found h =
    let next : suc i ≡ i + 1 = omega arith in
    ap (λ (xs : List ℕ). xs ++ concat (drop (i + 1) keys)) e
    ∙ (append_assoc out key (concat (drop (i + 1) keys))
    ∙ (ap (λ (t : List (List ℕ)). out ++ concat t) (ap (λ (n : ℕ). key ∷ drop n keys) (sym next) ∙ sym (drop_next keys i key found)) ∙ h))

pub loop-member-preserved : goal.loop-member-preserved
loop-member-preserved c = record {
  both = key_next c.loop-member.out.items c.extend_from_slice.new.self.items _ c.args.committee.now.keys c.loop-member.member c.key.result.now c.in_ok-extend_from_slice.ensures.items c.key.ensures c.loop-member.invariant.both;
  within = omega (arith, c.loop-member-test.true, c.n-member-end.ensures.members);
}

pub returns : goal.returns
returns c =
    let none = drop_of_length-le c.args.committee.now.keys (omega (arith, c.loop-member-test.false, c.n-member-end.ensures.members)) in
    sym (append-nil c.loop-member.out.items)
    ∙ (ap (λ (t : List (List ℕ)). c.loop-member.out.items ++ concat t) (sym none) ∙ c.loop-member.invariant.both)
