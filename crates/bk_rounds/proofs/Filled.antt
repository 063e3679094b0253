-- No round is admitted before those below it: its number is at most that of the certificates.
use Rattle.std.proofs.Common.{◌≡◌, ℕ, zero, suc, ◌+◌, ◌<◌, ◌≤◌, Bool, cond, leb, List, [], ◌∷◌, length, ap, ◌∙◌, ⊎_elim, arith}
use Rattle.std.specs.List.{Contains}
use Rattle.std.proofs.lemmas.Bool.{cases_lt, cases_eq, le-leb, leb-true, false_from_ne_true}
use Rattle.bk_committee.specs.Sizes.{Sizes, Weigh, weight_of, total, quorum}
use Rattle.bk_cert.specs.Node.{Node}
use Rattle.bk_cert.specs.declared.place.CertRef.{CertRef}
use Rattle.bk_cert.proofs.Lists.{contains_cases, contains_first, none_in_nil}
use Rattle.bk_rounds.specs.Admission.{IsAdmittedIn, IsPresent}
use Rattle.bk_rounds.proofs.Admitted.{IsParent}

-- 1 where n is at most r, else 0
abbrev one_to : ℕ → ℕ → ℕ
one_to r n = cond (leb n r) 1 0

one_yes : (r n : ℕ) → n ≤ r → one_to r n ≡ 1
one_yes r n low = ap (λ (b : Bool). cond b 1 0) (le-leb n r low)

one_no : (r n : ℕ) → r < n → one_to r n ≡ 0
one_no r n high = ap (λ (b : Bool). cond b 1 0) (false_from_ne_true (leb n r) (λ t. let low = leb-true n r t in omega (arith, low, high)))

one_most : (r n : ℕ) → one_to r n ≤ 1
one_most r n = ⊎_elim
    (λ high. let e = one_no r n high in omega (arith, e))
    (λ low. let e = one_yes r n low in omega (arith, e))
    (cases_lt r n)

one_grows : (r n : ℕ) → one_to r n ≤ one_to (suc r) n
one_grows r n = ⊎_elim
    (λ high. let e = one_no r n high in omega (arith, e))
    (λ low. let e = one_yes r n low in let f = one_yes (suc r) n (omega (arith, low)) in omega (arith, e, f))
    (cases_lt r n)

-- how many are of round r or an earlier one
abbrev up_to : ℕ → List Node → ℕ
up_to r [] = 0
up_to r (d ∷ ds) = one_to r d.header.round + up_to r ds

up_to_most : (r : ℕ) (ds : List Node) → up_to r ds ≤ length ds
up_to_most r [] = omega arith
up_to_most r (d ∷ ds) = let a = one_most r d.header.round in let b = up_to_most r ds in omega (arith, a, b)

up_to_grows : (r : ℕ) (ds : List Node) → up_to r ds ≤ up_to (suc r) ds
up_to_grows r [] = omega arith
up_to_grows r (d ∷ ds) = let a = one_grows r d.header.round in let b = up_to_grows r ds in omega (arith, a, b)

-- one of round r + 1 is one more
up_to_more : (r : ℕ) (ds : List Node) (c : Node) → Contains ds c → c.header.round ≡ r + 1 → up_to r ds + 1 ≤ up_to (suc r) ds
up_to_more r [] c t e = absurd (none_in_nil c t)
up_to_more r (d ∷ ds) c t e = ⊎_elim
    (λ is.
    let round : d.header.round ≡ r + 1 = ap (λ (n : Node). n.header.round) is ∙ e in
    let no = one_no r d.header.round (omega (arith, round)) in
    let yes = one_yes (suc r) d.header.round (omega (arith, round)) in
    let rest = up_to_grows r ds in
    omega (arith, no, yes, rest))
    (λ later. let a = one_grows r d.header.round in let b = up_to_more r ds c later e in omega (arith, a, b))
    (contains_cases d ds c t)

-- whoever weighs something is somebody
some_member : (z : Sizes) (P : ℕ → Type 0) (least : ℕ) → 1 ≤ least → Weigh z P least → (x : ℕ) × P x
some_member z P least some w = by_who w.who w.enough w.each
  where
    by_who : (who : List ℕ) → least ≤ weight_of z who → ((x : ℕ) → Contains who x → P x) → (x : ℕ) × P x
    by_who [] enough each = absurd (let e : least ≤ 0 = enough in omega (arith, e, some))
    by_who (x ∷ xs) enough each = (x, each x (contains_first x xs))

admitted_up_to : (z : Sizes) (held : List Node) → 1 ≤ quorum z → (r : ℕ) (c : Node) → IsAdmittedIn z held r c → r ≤ up_to r held
unfolding IsAdmittedIn
admitted_up_to z held some zero c h = absurd h
admitted_up_to z held some (suc r) c h =
    let here = up_to_more r held c h.0 h.1 in
    ⊎_elim
    (λ none. omega (arith, none, here))
    (λ n.
    let low : 0 < r = omega (arith, n) in
    let (x, (d, admitted, author, names)) = some_member z (IsParent z held r c) (quorum z) some (h.3 low) in
    let before = admitted_up_to z held some r d admitted in
    omega (arith, before, here))
    (cases_eq r 0)

pub present_within : (z : Sizes) (held : List Node) (a : CertRef) → 1 ≤ total z → IsPresent z held a → a.round ≤ length held
present_within z held a some (c, at) =
    let low = admitted_up_to z held (omega (arith, some)) c.header.round c at.admitted in
    let most = up_to_most c.header.round held in
    let e : c.header.round ≡ a.round = ap (λ (p : CertRef). p.round) at.place in
    omega (arith, low, most, e)
