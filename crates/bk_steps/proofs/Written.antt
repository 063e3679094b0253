-- Which places have written a word, and what a holder finds there.
use Rattle.std.proofs.Common.{◌≡◌, ◌≢◌, ⊎_elim, ℕ, ◌<◌, List, true, sym, refl, ap, ◌∙◌, subst, arith}
use Rattle.std.proofs.lemmas.Bool.{cases_eq}
use Rattle.bk_conflicts.specs.Scene.{Scene, IsSound}
use Rattle.bk_steps.specs.Course.{Course, Phase, waiting, held, done, Hand, free, busy, Has, IsDone, IsSettled}
use Rattle.bk_steps.specs.Kept.{Wrote, IsWrittenIn, IsWritten, IsBoundary, IsKept}
use Rattle.bk_steps.proofs.Scenes.{reader_clash, writer_clash}

pub written_from : (h h' : ℕ → Hand) (x : ℕ) (f : Phase)
    → ((w : ℕ) → f ≡ held w → Wrote (h w) x → Wrote (h' w) x)
    → IsWrittenIn h x f → IsWrittenIn h' x f
written_from h h' x waiting go a = a
written_from h h' x (held w) go a = go w refl a
written_from h h' x (done st mv) go a = tt

pub written_done : (h : ℕ → Hand) (x : ℕ) (f : Phase) → IsDone f → IsWrittenIn h x f
written_done h x waiting a = absurd a
written_done h x (held w) a = absurd a
written_done h x (done st mv) a = tt

pub written_settled : (h : ℕ → Hand) (x : ℕ) (f : Phase) → IsWrittenIn h x f → IsSettled f
written_settled h x waiting a = a
written_settled h x (held w) a = tt
written_settled h x (done st mv) a = tt

-- where the same writers have written the word, boundaries are the same
pub boundary_from : (s : Scene) (d d' : Course) (p x : ℕ)
    → ((q : ℕ) → s.writes q x ≡ true → IsWritten d' q x → IsWritten d q x)
    → ((q : ℕ) → s.writes q x ≡ true → IsWritten d q x → IsWritten d' q x)
    → IsBoundary s d' p x → IsBoundary s d p x
boundary_from s d d' p x back forth b = record {
  below = λ q l e. back q e (b.below q l e);
  above = λ q l e a. b.above q l e (forth q e a);
}

-- a worker holds one place
pub one_place : (s : Scene) (d : Course) (w p q : ℕ) (rs : List (ℕ × ℕ)) (ws : List ℕ) → IsKept s d
    → d.hand w ≡ busy p rs ws → d.phase q ≡ held w → q ≡ p
one_place s d w p q rs ws k mine e =
    let h = k.holder w q e in
    let same : busy q h.0 h.1 ≡ busy p rs ws = sym h.2 ∙ mine in cc

-- and a free one none
pub no_place : (s : Scene) (d : Course) (w p : ℕ) → IsKept s d → d.hand w ≡ free
    → d.phase p ≡ held w → ⊥
no_place s d w p k idle e =
    let h = k.holder w p e in
    let same : busy p h.0 h.1 ≡ free = sym h.2 ∙ idle in cc

-- what a holder finds in a word of its place that it has not written is the fold's
pub read_fold : (s : Scene) → IsSound s → (d : Course) (w p x : ℕ) (rs : List (ℕ × ℕ)) (ws : List ℕ)
    → IsKept s d → d.hand w ≡ busy p rs ws → s.declares p x ≡ true → ¬ Has ws x
    → d.value x ≡ s.fold p x
read_fold s z d w p x rs ws k mine decl fresh =
    let at = (k.holds w p rs ws mine).0 in
    k.values p x record {
      below = λ q l e. written_done d.hand x (d.phase q)
          (k.earlier p q l (writer_clash s z p q x l decl e) (subst IsSettled (sym at) tt));
      above = λ q l e a. ⊎_elim
          (λ (is : q ≡ p). fresh (subst (λ (h : Hand). Wrote h x) mine
          (subst (IsWrittenIn d.hand x) (ap d.phase is ∙ at) a)))
          (λ (other : q ≢ p). let later : p < q = omega arith in
          subst IsDone at (k.earlier q p later (reader_clash s z p q x later decl e)
          (written_settled d.hand x (d.phase q) a)))
          (cases_eq q p);
    }
