-- Lists by round and author.
use Rattle.std.proofs.Common.{◌≡◌, List, [], ◌∷◌, refl, sym, ◌∙◌, subst, ⊎_elim, arith}
use Rattle.std.specs.List.{Contains}
use Rattle.bk_cert.proofs.Lists.{none_in_nil, contains_cases, contains_first, contains_later}
use Rattle.bk_cert.specs.Place.{IsBefore, IsListed, Lists}
use Rattle.bk_cert.specs.declared.place.CertRef.{CertRef}

pub one_way : (a b : CertRef) → IsBefore a b → IsBefore b a → ⊥
one_way a b h k = ⊎_elim (λ p. ⊎_elim (λ q. omega arith) (λ q. omega arith) k) (λ p. ⊎_elim (λ q. omega arith) (λ q. omega arith) k) h

-- lists in order with the same members are one
pub one_list : (xs ys : List CertRef) → IsListed xs → IsListed ys → ((c : CertRef) → Contains xs c → Contains ys c) → ((c : CertRef) → Contains ys c → Contains xs c) → xs ≡ ys
one_list [] [] h k there back = refl
one_list [] (y ∷ ys) h k there back = absurd (none_in_nil y (back y (contains_first y ys)))
one_list (x ∷ xs) [] h k there back = absurd (none_in_nil x (there x (contains_first x xs)))
one_list (x ∷ xs) (y ∷ ys) h k there back =
    let same : x ≡ y = ⊎_elim (λ e. sym e)
    (λ in_ys. ⊎_elim (λ e. e) (λ in_xs. absurd (one_way x y (h.0 y in_xs) (k.0 x in_ys))) (contains_cases x xs y (back y (contains_first y ys))))
    (contains_cases y ys x (there x (contains_first x xs))) in
    let rest : xs ≡ ys = one_list xs ys h.1 k.1
    (λ c in_xs. ⊎_elim (λ e. absurd (irreflexive x c (same ∙ e) (h.0 c in_xs))) (λ in_ys. in_ys) (contains_cases y ys c (there c (contains_later x xs c in_xs))))
    (λ c in_ys. ⊎_elim (λ e. absurd (irreflexive y c (sym same ∙ e) (k.0 c in_ys))) (λ in_xs. in_xs) (contains_cases x xs c (back c (contains_later y ys c in_ys)))) in
    cc
  where
    irreflexive : (x c : CertRef) → x ≡ c → IsBefore x c → ⊥
    irreflexive x c e h = one_way x c h (subst (λ (z : CertRef). IsBefore z x) e (subst (λ (z : CertRef). IsBefore x z) (sym e) h))

pub one_listing : (xs ys : List CertRef) (P : CertRef → Type 0) → Lists xs P → Lists ys P → xs ≡ ys
one_listing xs ys P h k = one_list xs ys h.listed k.listed (λ c t. k.complete c (h.sound c t)) (λ c t. h.complete c (k.sound c t))

pub same_listing : (xs : List CertRef) (P Q : CertRef → Type 0) → ((c : CertRef) → P c → Q c) → ((c : CertRef) → Q c → P c) → Lists xs P → Lists xs Q
same_listing xs P Q there back h = record {
  listed = h.listed;
  sound = λ c t. there c (h.sound c t);
  complete = λ c q. h.complete c (back c q);
}
