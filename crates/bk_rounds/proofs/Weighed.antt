-- What members weigh together.
use Rattle.std.proofs.Common.{◌≡◌, ◌≢◌, ℕ, ◌+◌, ◌≤◌, ◌↔◌, List, [], ◌∷◌, refl, sym, ap, ◌∙◌, subst, eqb, ⊎_elim, arith}
use Rattle.std.specs.List.{Contains, IsDistinct, list_any}
use Rattle.std.specs.Cmp.{nat_eq_equiv}
use Rattle.std.proofs.lemmas.Bool.{cases_eq, eqb-true, false_from_ne_true, both_ways}
use Rattle.std.proofs.lemmas.Map.Views.{Contains-from_any, list_any-from_Contains}
use Rattle.std.proofs.lemmas.List.Sums.{sum_by-cons}
use Rattle.bk_committee.specs.Sizes.{Sizes, weight, weight_of, total}
use Rattle.bk_rounds.specs.Members.{Has, IsWeightOf}
use Rattle.bk_rounds.proofs.Counting.{apart_from_none, none_from_apart, weigh-le}
use Rattle.bk_cert.proofs.Lists.{contains_cases, contains_first, contains_later, none_in_nil}

-- what the sum over a set has counted: those that are no longer left
pub record IsCounted (z : Sizes) (set left : ℕ) (sum : ℕ) : Type 0 where
  pub who : List ℕ
  pub apart : IsDistinct eqb who
  pub inside : (x : ℕ) → Has left x → Has set x
  pub lists : (x : ℕ) → Contains who x ↔ (Has set x × (Has left x → ⊥))
  pub is : sum ≡ weight_of z who

pub counted_none : (z : Sizes) (set : ℕ) → IsCounted z set set 0
unfolding IsDistinct
counted_none z set = record {
  who = [];
  apart = tt;
  inside = λ x h. h;
  lists = λ x. ((λ h. absurd (none_in_nil x h)), (λ h. absurd (h.1 h.0)));
  is = refl;
}

counted_apart : (z : Sizes) (set left x : ℕ) (sum : ℕ) (h : IsCounted z set left sum) → Has left x → IsDistinct eqb (x ∷ h.who)
unfolding IsDistinct
counted_apart z set left x sum h here =
    (apart_from_none x h.who (false_from_ne_true _ (λ e. ((h.lists x).0 (Contains-from_any eqb-true x h.who e)).1 here)), h.apart)

-- one more stays within the weight of all
pub counted_fits : (z : Sizes) (set left x : ℕ) (sum : ℕ) → IsCounted z set left sum → Has left x → sum + weight z x ≤ total z
counted_fits z set left x sum h here =
    omega (arith, weigh-le (x ∷ h.who) z.weights (counted_apart z set left x sum h here), sum_by-cons (weight z) x h.who, h.is)

pub counted_more : (z : Sizes) (set left x rest : ℕ) (sum : ℕ) → IsCounted z set left sum → Has left x → ((y : ℕ) → Has rest y ↔ (Has left y × (y ≢ x)))
    → IsCounted z set rest (sum + weight z x)
counted_more z set left x rest sum h here out = record {
  who = x ∷ h.who;
  apart = counted_apart z set left x sum h here;
  inside = λ y t. h.inside y ((out y).0 t).0;
  lists = λ y. (
    (λ t. ⊎_elim
        (λ e. (subst (Has set) e (h.inside x here), λ k. ((out y).0 k).1 (sym e)))
        (λ old. let p = (h.lists y).0 old in (p.0, λ k. p.1 ((out y).0 k).0))
        (contains_cases x h.who y t)),
    (λ t. ⊎_elim
        (λ e. subst (Contains (x ∷ h.who)) (sym e) (contains_first x h.who))
        (λ n. contains_later x h.who y ((h.lists y).1 (t.0, λ k. t.1 ((out y).1 (k, n)))))
        (cases_eq y x)),
  );
  is = omega (arith, sum_by-cons (weight z) x h.who, h.is);
}

pub counted_all : (z : Sizes) (set left : ℕ) (sum : ℕ) → IsCounted z set left sum → ((x : ℕ) → Has left x → ⊥) → IsWeightOf z set sum
counted_all z set left sum h none = record {
  who = h.who;
  apart = h.apart;
  lists = λ x. ((λ t. ((h.lists x).0 t).0), (λ t. (h.lists x).1 (t, none x)));
  is = h.is;
}

-- what is taken out of a list weighs on its own
without_it : (z : Sizes) (x : ℕ) (ys : List ℕ) → Contains ys x → (rest : List ℕ) × (weight_of z ys ≡ weight z x + weight_of z rest)
    × ((y : ℕ) → Contains ys y → y ≢ x → Contains rest y)
without_it z x [] h = absurd (none_in_nil x h)
without_it z x (y ∷ ys) h = ⊎_elim
    (λ e. (
      ys,
      sum_by-cons (weight z) y ys ∙ ap (λ (v : ℕ). weight z v + weight_of z ys) e,
      λ u t n. ⊎_elim (λ f. absurd (n (sym f ∙ e))) (λ later. later) (contains_cases y ys u t),
    ))
    (λ later.
    let rec = without_it z x ys later in (
      y ∷ rec.0,
      omega (arith, sum_by-cons (weight z) y ys, sum_by-cons (weight z) y rec.0, rec.1),
      λ u t n. ⊎_elim (λ f. subst (Contains (y ∷ rec.0)) f (contains_first y rec.0)) (λ l. contains_later y rec.0 u (rec.2 u l n)) (contains_cases y ys u t),
    ))
    (contains_cases y ys x h)

-- those who are in a list, none twice, weigh at most what it weighs
pub inside-le : (z : Sizes) (xs ys : List ℕ) → IsDistinct eqb xs → ((x : ℕ) → Contains xs x → Contains ys x) → weight_of z xs ≤ weight_of z ys
unfolding IsDistinct
inside-le z [] ys apart inside = omega arith
inside-le z (x ∷ xs) ys apart inside =
    let out = without_it z x ys (inside x (contains_first x xs)) in
    let rest = inside-le z xs out.0 apart.1 (λ y t. out.2 y (inside y (contains_later x xs y t)) (λ e. twice y t e)) in
    omega (arith, sum_by-cons (weight z) x xs, out.1, rest)
  where
    twice : (y : ℕ) → Contains xs y → y ≡ x → ⊥
    twice y t e = both_ways (list_any (eqb x) xs) (none_from_apart x xs apart.0)
        (list_any-from_Contains nat_eq_equiv x xs (subst (Contains xs) e t))
