-- An allowed finish keeps what holds of a course.
use Rattle.std.proofs.Common.{◌≡◌, ◌≢◌, ⊎_elim, ℕ, List, true, sym, ap, ◌∙◌, subst}
use Rattle.std.proofs.lemmas.Bool.{cases_eq}
use Rattle.bk_conflicts.specs.Scene.{Scene, status_at, moved_at}
use Rattle.bk_steps.specs.Course.{Course, held, done, Hand, free, busy, IsDone, IsSettled}
use Rattle.bk_steps.specs.Moves.{after_finish, HasWrittenAll}
use Rattle.bk_steps.specs.Kept.{Wrote, IsWrittenIn, IsWritten, IsKept}
use Rattle.bk_steps.proofs.Tables.{put_here, put_else, put_at}
use Rattle.bk_steps.proofs.Written.{written_from, boundary_from, one_place}

module _ (s : Scene) (d : Course) (w p st mv : ℕ) (rs : List (ℕ × ℕ)) (ws : List ℕ) (k : IsKept s d) (mine : d.hand w ≡ busy p rs ws) where
  abbrev Now : Course
  Now = after_finish d w p st mv

  other_hand : (u q : ℕ) → q ≢ p → d.phase q ≡ held u → u ≢ w
  other_hand u q other e is = other (one_place s d w p q rs ws k mine (e ∙ ap held is))

  stays_done : (q : ℕ) → IsDone (d.phase q) → IsDone (Now.phase q)
  stays_done q a = ⊎_elim
      (λ (is : q ≡ p). subst IsDone (sym (ap Now.phase is ∙ put_here d.phase p (done st mv))) tt)
      (λ (other : q ≢ p). subst IsDone (sym (put_else d.phase p (done st mv) q other)) a)
      (cases_eq q p)

  -- a word that the place may write was written when it left
  written_before : HasWrittenAll s p ws → (r x : ℕ) → s.writes r x ≡ true → IsWritten Now r x → IsWritten d r x
  written_before all r x wr a = ⊎_elim
      (λ (is : r ≡ p). subst (IsWrittenIn d.hand x) (sym (ap d.phase is ∙ (k.holds w p rs ws mine).0))
      (subst (λ (h : Hand). Wrote h x) (sym mine) (all x (subst (λ (y : ℕ). s.writes y x ≡ true) is wr))))
      (λ (other : r ≢ p). written_from Now.hand d.hand x (d.phase r)
      (λ u e h. subst (λ (y : Hand). Wrote y x) (put_else d.hand w free u (other_hand u r other e)) h)
      (subst (IsWrittenIn Now.hand x) (put_else d.phase p (done st mv) r other) a))
      (cases_eq r p)

  written_after : (r x : ℕ) → IsWritten d r x → IsWritten Now r x
  written_after r x a = ⊎_elim
      (λ (is : r ≡ p). subst (IsWrittenIn Now.hand x) (sym (ap Now.phase is ∙ put_here d.phase p (done st mv))) tt)
      (λ (other : r ≢ p). subst (IsWrittenIn Now.hand x) (sym (put_else d.phase p (done st mv) r other))
      (written_from d.hand Now.hand x (d.phase r)
      (λ u e h. subst (λ (y : Hand). Wrote y x) (sym (put_else d.hand w free u (other_hand u r other e))) h) a))
      (cases_eq r p)

pub keeps_finish : (s : Scene) (d : Course) (w p st mv : ℕ) (rs : List (ℕ × ℕ)) (ws : List ℕ)
    → IsKept s d → d.hand w ≡ busy p rs ws → HasWrittenAll s p ws
    → st ≡ status_at s p → mv ≡ moved_at s p → IsKept s (after_finish d w p st mv)
keeps_finish s d w p st mv rs ws k mine all is_st is_mv =
    let now : Course = after_finish d w p st mv in
    let at = (k.holds w p rs ws mine).0 in record {
      receipts = λ q st' mv' e. ⊎_elim
          (λ t. let a : st ≡ st' = cc in let b : mv ≡ mv' = cc in
          (sym a ∙ (is_st ∙ ap (status_at s) (sym t.0)), sym b ∙ (is_mv ∙ ap (moved_at s) (sym t.0))))
          (λ t. k.receipts q st' mv' t.1)
          (put_at d.phase p (done st mv) q (done st' mv') e);
      holds = λ u q rs' ws' e. ⊎_elim
          (λ t. let no : free ≡ busy q rs' ws' = t.1 in absurd (cc))
          (λ t. let h = k.holds u q rs' ws' t.1 in
          (put_else d.phase p (done st mv) q (λ is. let same : held u ≡ held w = sym h.0 ∙ (ap d.phase is ∙ at) in t.0 (cc)) ∙ h.0, h.1))
          (put_at d.hand w free u (busy q rs' ws') e);
      holder = λ u q e. ⊎_elim
          (λ t. let no : done st mv ≡ held u = t.1 in absurd (cc))
          (λ t. let h = k.holder u q t.1 in
          (h.0, h.1, put_else d.hand w free u (other_hand s d w p st mv rs ws k mine u q t.0 t.1) ∙ h.2))
          (put_at d.phase p (done st mv) q (held u) e);
      earlier = λ q r l c settled. stays_done s d w p st mv rs ws k mine r (⊎_elim
          (λ (is : q ≡ p). k.earlier q r l c (subst IsSettled (sym (ap d.phase is ∙ at)) tt))
          (λ (other : q ≢ p). k.earlier q r l c (subst IsSettled (put_else d.phase p (done st mv) q other) settled))
          (cases_eq q p));
      values = λ q x b. k.values q x (boundary_from s d now q x
          (λ r. written_before s d w p st mv rs ws k mine all r x)
          (λ r _. written_after s d w p st mv rs ws k mine r x) b);
      reads = λ u q rs' ws' e. ⊎_elim
          (λ t. let no : free ≡ busy q rs' ws' = t.1 in absurd (cc))
          (λ t. k.reads u q rs' ws' t.1)
          (put_at d.hand w free u (busy q rs' ws') e);
    }
