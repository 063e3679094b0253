use Rattle.std.proofs.Common.{◌≡◌, ℕ, suc, ◌+◌, Bor, List, [], ◌∷◌, ◌++◌, map, drop, Some, sym, ap, ◌∙◌, append-nil, append_assoc, drop_of_length-le, arith}
use Rattle.std.specs.Prelude.{slice_get}
use Rattle.std.proofs.lemmas.List.{map-append}
use Rattle.bk_ledger.proofs.SliceLemmas.{drop_next}
use Rattle.bk_follow.proofs.book.payloads_from.Goals as goal

-- one payload more
lent_next : (xs ys : List (Bor (List ℕ))) (list whole : List (List ℕ)) (i : ℕ) (p : Bor (List ℕ)) → ys ≡ xs ++ p ∷ [] → slice_get list i ≡ Some p.now → map (λ (q : Bor (List ℕ)). q.now) xs ++ drop i list ≡ whole
    → map (λ (q : Bor (List ℕ)). q.now) ys ++ drop (i + 1) list ≡ whole
lent_next xs ys list whole i p e found h =
    let next : suc i ≡ i + 1 = omega arith in
    ap (λ (zs : List (Bor (List ℕ))). map (λ (q : Bor (List ℕ)). q.now) zs ++ drop (i + 1) list) e
    ∙ ap (λ (t : List (List ℕ)). t ++ drop (i + 1) list) (map-append (λ (q : Bor (List ℕ)). q.now) xs (p ∷ []))
    ∙ append_assoc (map (λ (q : Bor (List ℕ)). q.now) xs) (p.now ∷ []) (drop (i + 1) list)
    ∙ ap (λ (t : List (List ℕ)). map (λ (q : Bor (List ℕ)). q.now) xs ++ t) (ap (λ (n : ℕ). p.now ∷ drop n list) (sym next) ∙ sym (drop_next list i p.now found))
    ∙ h

pub loop-index-init : goal.loop-index-init
loop-index-init c = record {
  both = ap (λ (xs : List (Bor (List ℕ))). map (λ (q : Bor (List ℕ)). q.now) xs ++ drop c.args.from c.args.intake.now.ordered.payloads.list) c.in_ok-payloads.ensures.items;
  within = c.requires.within;
}

pub loop-index-preserved : goal.loop-index-preserved
loop-index-preserved c = record {
  both = lent_next c.loop-index.payloads.items c.push.new.self.items _ _ c.loop-index.index c.payload.result c.in_ok-push.ensures.items c.payload.ensures c.loop-index.invariant.both;
  within = omega (arith, c.loop-index-test.true, c.batches-index-end.ensures);
}

pub returns : goal.returns
returns c =
    let none = drop_of_length-le c.args.intake.now.ordered.payloads.list (omega (arith, c.loop-index-test.false, c.batches-index-end.ensures)) in
    sym (append-nil (map (λ (q : Bor (List ℕ)). q.now) c.loop-index.payloads.items))
    ∙ ap (λ (t : List (List ℕ)). map (λ (q : Bor (List ℕ)). q.now) c.loop-index.payloads.items ++ t) (sym none)
    ∙ c.loop-index.invariant.both
