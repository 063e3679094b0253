-- What a worker read that has read all words of its place.
use Rattle.std.proofs.Common.{◌≡◌, ⊎_elim, ℕ, suc, eqb, eq-eqb, ne_eqb, List, [], ◌∷◌, true, sym, ap, ◌∙◌}
use Rattle.std.proofs.lemmas.Bool.{cases_eq, cond-true, cond-false}
use Rattle.bk_conflicts.specs.Scene.{Scene, IsSound, SeeSame, status_at, moved_at}
use Rattle.bk_steps.specs.Course.{HasRead, found}
use Rattle.bk_steps.specs.Moves.{HasReadAll}
use Rattle.bk_steps.specs.Kept.{AreOfFold}

-- what was read in a word is the fold's
pub found_fold : (s : Scene) (p : ℕ) (rs : List (ℕ × ℕ)) (x : ℕ) → AreOfFold s p rs → HasRead rs x
    → found rs x ≡ s.fold p x
unfolding found
found_fold s p [] x fold h = absurd h
found_fold s p (r ∷ rs) x fold h = ⊎_elim
    (λ e. cond-true (eqb r.0 x) r.1 (found rs x) (eq-eqb r.0 x e) ∙ (fold.0 ∙ ap (s.fold p) e))
    (λ n. cond-false (eqb r.0 x) r.1 (found rs x) (ne_eqb r.0 x n)
    ∙ found_fold s p rs x fold.1 (⊎_elim (λ e. absurd (n e)) (λ t. t) h))
    (cases_eq r.0 x)

-- all that the place reads is the fold's
pub sees_fold : (s : Scene) (p : ℕ) (rs : List (ℕ × ℕ)) → AreOfFold s p rs → HasReadAll s p rs
    → SeeSame s p (found rs) (s.fold p)
sees_fold s p rs fold all x e = found_fold s p rs x fold (all x e)

pub effect_fold : (s : Scene) → IsSound s → (p : ℕ) (rs : List (ℕ × ℕ)) (x : ℕ) → AreOfFold s p rs
    → HasReadAll s p rs → s.writes p x ≡ true → s.effect p (found rs) x ≡ s.fold (suc p) x
effect_fold s k p rs x fold all wr =
    k.is_folded.local p (found rs) (s.fold p) (sees_fold s p rs fold all) x wr
    ∙ sym (k.is_folded.changed p x wr)

pub status_fold : (s : Scene) → IsSound s → (p : ℕ) (rs : List (ℕ × ℕ)) → AreOfFold s p rs
    → HasReadAll s p rs → s.status p (found rs) ≡ status_at s p
status_fold s k p rs fold all =
    k.is_folded.statuses p (found rs) (s.fold p) (sees_fold s p rs fold all)

pub moved_fold : (s : Scene) → IsSound s → (p : ℕ) (rs : List (ℕ × ℕ)) → AreOfFold s p rs
    → HasReadAll s p rs → s.moved p (found rs) ≡ moved_at s p
moved_fold s k p rs fold all =
    k.is_folded.moves p (found rs) (s.fold p) (sees_fold s p rs fold all)
