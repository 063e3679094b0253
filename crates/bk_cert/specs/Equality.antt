-- When two headers are the same, as `==` tests it.
use Rattle.std.specs.Prelude.{ℕ, Bool, ◌==◌, ◌&&◌, List}
use Rattle.std.specs.Cmp.{IsEquivalence, and_equiv, nat_eq_equiv, on_equiv}
use Rattle.std.specs.Cmp.Lexicographic.{lists_equiv, pointwise}
use Rattle.std.specs.Str.{bytes_eq}
use Rattle.bk_cert.specs.Values.{HeaderValue}

-- the lists hold the same digests in the same order
abbrev pub digests_eq : List (List ℕ) → List (List ℕ) → Bool
digests_eq xs ys = pointwise bytes_eq xs ys

-- the headers have the same parts
abbrev pub header_eq : HeaderValue → HeaderValue → Bool
header_eq a b = a.author == b.author && a.round == b.round && digests_eq a.batches b.batches && digests_eq a.parents b.parents

-- it is an equivalence, since it is one of each part
pub header_equivalence : IsEquivalence header_eq
header_equivalence =
    let numbers : IsEquivalence (λ (a b : HeaderValue). a.author == b.author && a.round == b.round) = and_equiv (on_equiv (λ (v : HeaderValue). v.author) nat_eq_equiv) (on_equiv (λ (v : HeaderValue). v.round) nat_eq_equiv) in
    and_equiv (and_equiv numbers (on_equiv (λ (v : HeaderValue). v.batches) (lists_equiv (lists_equiv nat_eq_equiv)))) (on_equiv (λ (v : HeaderValue). v.parents) (lists_equiv (lists_equiv nat_eq_equiv)))
