-- Committed anchors of growing and of equal sets.
use Rattle.std.proofs.Common.{◌≡◌, List, [], ◌∷◌, ◌++◌, length, sym, ap, ◌∙◌, subst, ⊎_elim, arith, reverse, length-append}
use Rattle.std.specs.List.{Contains}
use Rattle.std.proofs.lemmas.List.{append-nil, reverse-append, reverse-reverse}
use Rattle.std.proofs.lemmas.List.Elements.{Contains-append_left, Contains-append_right}
use Rattle.bk_committee.specs.Sizes.{Sizes}
use Rattle.bk_cert.specs.Node.{Node}
use Rattle.bk_cert.specs.Clear.{IsClear}
use Rattle.bk_cert.specs.declared.place.CertRef.{CertRef}
use Rattle.bk_rounds.specs.Admission.{IsPresent}
use Rattle.bk_cert.proofs.Lists.{none_in_nil, contains_cases, contains_first}
use Rattle.bk_commit.specs.Ordering.{IsWayBack, IsCommittedBack}
use Rattle.bk_commit.specs.Growth.{IsPartOf, IsPrefix}
use Rattle.bk_commit.proofs.Grown.{committed_more}

pub anchors_begin : (z : Sizes) (a b : List Node) → IsClear b → IsPartOf a b → (xs ys : List CertRef)
    → IsCommittedBack z a (reverse xs) → IsCommittedBack z b (reverse ys) → IsPrefix xs ys
anchors_begin z a b clear part xs ys h k =
    let longer = committed_more z a b clear part (reverse xs) (reverse ys) h k in
    (reverse longer.0, sym (reverse-reverse ys) ∙ (ap reverse longer.1 ∙ (reverse-append longer.0 (reverse xs) ∙ ap (λ zs. zs ++ reverse longer.0) (reverse-reverse xs))))

-- two lists of which each begins the other are one
pub begin_each_other : {X : Type 0} (xs ys : List X) → IsPrefix xs ys → IsPrefix ys xs → xs ≡ ys
begin_each_other {X} xs ys (more, e) (rest, f) = ended more e (ap length e) (ap length f)
  where
    ended : (us : List X) → ys ≡ xs ++ us → length ys ≡ length (xs ++ us) → length xs ≡ length (ys ++ rest) → xs ≡ ys
    ended [] g p q = sym (g ∙ append-nil xs)
    ended (u ∷ us) g p q = absurd (omega (arith, length-append xs (u ∷ us), length-append ys rest))

way_back_present : (z : Sizes) (held : List Node) (x : CertRef) (ps : List CertRef) → IsWayBack z held x ps → (a : CertRef) → Contains ps a → IsPresent z held a
way_back_present z held x [] way a t = absurd (none_in_nil a t)
way_back_present z held x (p ∷ ps) way a t = ⊎_elim
    (λ e. subst (IsPresent z held) e way.0.earlier.anchor.present)
    (λ later. way_back_present z held p ps way.1 a later)
    (contains_cases p ps a t)

pub back_present : (z : Sizes) (held : List Node) (xs : List CertRef) → IsCommittedBack z held xs → (a : CertRef) → Contains xs a → IsPresent z held a
back_present z held [] settled a t = absurd (none_in_nil a t)
back_present z held (x ∷ ps) settled a t = ⊎_elim
    (λ e. subst (IsPresent z held) e settled.0.voted.anchor.present)
    (λ later. way_back_present z held x ps settled.1 a later)
    (contains_cases x ps a t)

pub in_reverse : {X : Type 0} (xs : List X) (x : X) → Contains xs x → Contains (reverse xs) x
in_reverse [] x t = absurd (none_in_nil x t)
in_reverse (y ∷ ys) x t = subst (λ zs. Contains zs x) (sym (reverse-append (y ∷ []) ys)) (⊎_elim
    (λ e. Contains-append_right (reverse ys) (y ∷ []) x (subst (Contains (y ∷ [])) e (contains_first y [])))
    (λ later. Contains-append_left (reverse ys) (y ∷ []) x (in_reverse ys x later))
    (contains_cases y ys x t))
