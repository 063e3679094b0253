-- The anchors one after another, oldest first.
use Rattle.std.proofs.Common.{◌≡◌, ℕ, zero, suc, ◌<◌, List, [], ◌∷◌, ◌++◌, length, refl, ap, ◌∙◌, subst, arith, get_or, take, reverse}
use Rattle.std.proofs.lemmas.List.{reverse-append}
use Rattle.std.proofs.lemmas.List.Elements.{Contains-get_or}
use Rattle.bk_committee.specs.Sizes.{Sizes}
use Rattle.bk_cert.specs.Node.{Node}
use Rattle.bk_cert.specs.declared.place.CertRef.{CertRef}
use Rattle.bk_rounds.specs.Admission.{IsPresent}
use Rattle.bk_commit.specs.Ordering.{IsWayBack, IsCommittedBack, IsCommitted}
use Rattle.bk_commit.proofs.Settled.{back_present, in_reverse}

pub reverse_push : (xs : List CertRef) (a : CertRef) → reverse (xs ++ a ∷ []) ≡ a ∷ reverse xs
reverse_push xs a = reverse-append xs (a ∷ [])

-- the list before an index, what is there, and the rest
split_at : (xs : List CertRef) (i : ℕ) (d : CertRef) → i < length xs → (rest : List CertRef) × (xs ≡ (take i xs ++ get_or xs i d ∷ []) ++ rest)
split_at [] i d low = absurd (omega (arith, low))
split_at (x ∷ xs) zero d low = (xs, refl)
split_at (x ∷ xs) (suc i) d low = let later = split_at xs i d (omega (arith, low)) in (later.0, ap (λ ys. x ∷ ys) later.1)

way_suffix : (z : Sizes) (held : List Node) (x : CertRef) (front : List CertRef) (a : CertRef) (rest : List CertRef) → IsWayBack z held x (front ++ a ∷ rest) → IsWayBack z held a rest
way_suffix z held x [] a rest way = way.1
way_suffix z held x (y ∷ ys) a rest way = way_suffix z held y ys a rest way.1

back_suffix : (z : Sizes) (held : List Node) (front : List CertRef) (a : CertRef) (rest : List CertRef) → IsCommittedBack z held (front ++ a ∷ rest) → IsWayBack z held a rest
back_suffix z held [] a rest settled = settled.1
back_suffix z held (y ∷ ys) a rest settled = way_suffix z held y ys a rest settled.1

-- what comes before a committed anchor is its way back
pub anchor_way : (z : Sizes) (held : List Node) (anchors : List CertRef) (i : ℕ) (d : CertRef) → IsCommitted z held anchors → i < length anchors → IsWayBack z held (get_or anchors i d) (reverse (take i anchors))
anchor_way z held anchors i d settled low =
    let cut = split_at anchors i d low in
    let all : reverse anchors ≡ reverse cut.0 ++ get_or anchors i d ∷ reverse (take i anchors) =
    ap reverse cut.1 ∙ (reverse-append (take i anchors ++ get_or anchors i d ∷ []) cut.0 ∙ ap (λ ys. reverse cut.0 ++ ys) (reverse_push (take i anchors) (get_or anchors i d))) in
    back_suffix z held (reverse cut.0) (get_or anchors i d) (reverse (take i anchors)) (subst (IsCommittedBack z held) all settled)

pub anchor_present : (z : Sizes) (held : List Node) (anchors : List CertRef) (i : ℕ) (d : CertRef) → IsCommitted z held anchors → i < length anchors → IsPresent z held (get_or anchors i d)
anchor_present z held anchors i d settled low = back_present z held (reverse anchors) settled (get_or anchors i d) (in_reverse anchors (get_or anchors i d) (Contains-get_or anchors i d low))
