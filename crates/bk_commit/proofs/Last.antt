-- The last anchor.
use Rattle.std.proofs.Common.{◌≡◌, ◌&&◌, eqb, ℕ, zero, suc, ◌<◌, ◌≤◌, false, List, [], ◌∷◌, ◌++◌, reverse, sym, ap, ◌∙◌, subst}
use Rattle.std.proofs.lemmas.Bool.{both_ways, and_from, eq-eqb}
use Rattle.std.proofs.lemmas.List.{reverse-append, reverse-reverse}
use Rattle.bk_committee.specs.Sizes.{Sizes, members}
use Rattle.bk_cert.specs.Node.{Node}
use Rattle.bk_cert.specs.declared.place.CertRef.{CertRef}
use Rattle.bk_rounds.specs.Admission.{IsPresent, AreFit, last_round}
use Rattle.bk_rounds.proofs.Admitted.{admitted_held}
use Rattle.bk_commit.proofs.Grown.{walk_present}
use Rattle.bk_rounds.specs.Votes.{IsLast}
use Rattle.bk_commit.specs.Ordering.{InHistory, IsWayBack, IsCommitted, IsCommittedBack}

-- whoever is present is a member's certificate, of no round above the last
pub present_member : (z : Sizes) (held : List Node) (a : CertRef) → AreFit z held → IsPresent z held a → a.author < members z
present_member z held a good (c, at) = subst (λ (x : ℕ). x < members z) (ap (λ (p : CertRef). p.author) at.place) (good c (admitted_held z held c.header.round c at.admitted)).member

pub present_round : (z : Sizes) (held : List Node) (a : CertRef) → AreFit z held → IsPresent z held a → a.round ≤ last_round
present_round z held a good (c, at) = subst (λ (x : ℕ). x ≤ last_round) (ap (λ (p : CertRef). p.round) at.place) (good c (admitted_held z held c.header.round c at.admitted)).to_last

pub committed_from : (z : Sizes) (held : List Node) (last : CertRef) (back : List CertRef) → IsLast z held last → IsWayBack z held last back → IsCommitted z held (reverse back ++ last ∷ [])
committed_from z held last back is way =
    subst (IsCommittedBack z held) (sym (reverse-append (reverse back) (last ∷ []) ∙ ap (λ xs. last ∷ xs) (reverse-reverse back))) (is, way)

-- who reaches another is there, and so is the other
pub history_ends : (z : Sizes) (held : List Node) (a b : CertRef) → InHistory z held a b → (a ≡ b → ⊥) → IsPresent z held a × IsPresent z held b
history_ends z held a b (zero, w) n = absurd (n w)
history_ends z held a b (suc k, w) n = ((w.1.child, w.1.child_at), walk_present z held k w.0 b (w.1.parent, w.1.parent_at) w.2)

pub not_same : (a b : CertRef) → eqb a.round b.round && eqb a.author b.author ≡ false → a ≡ b → ⊥
not_same a b f e = both_ways _ f (and_from _ _ (eq-eqb _ _ (ap (λ (p : CertRef). p.round) e)) (eq-eqb _ _ (ap (λ (p : CertRef). p.author) e)))
