-- An allowed claim keeps what holds of a course.
use Rattle.std.proofs.Common.{◌≡◌, ◌≢◌, ⊎_elim, ℕ, ◌<◌, [], true, sym, ap, ◌∙◌, subst, arith}
use Rattle.std.proofs.lemmas.Bool.{cases_eq}
use Rattle.bk_conflicts.specs.Scene.{Scene, IsSound}
use Rattle.bk_steps.specs.Course.{Course, waiting, held, done, Hand, free, busy, IsDone, IsSettled, opened}
use Rattle.bk_steps.specs.Moves.{after_claim, EarlierAreDone}
use Rattle.bk_steps.specs.Kept.{Wrote, IsWrittenIn, IsWritten, AreOfFold, IsKept}
use Rattle.bk_steps.proofs.Tables.{put_here, put_else, put_at}
use Rattle.bk_steps.proofs.Scenes.{fold_from}
use Rattle.bk_steps.proofs.Written.{written_from, boundary_from, no_place}

pub keeps_opening : (s : Scene) → IsSound s → IsKept s (opened s)
keeps_opening s z = record {
  receipts = λ p st mv e. absurd (cc);
  holds = λ w p rs ws e. absurd (cc);
  holder = λ w p e. absurd (cc);
  earlier = λ p q l c h. absurd h;
  values = λ p x b. sym (fold_from s z 0 p x (omega arith) (λ q l m e. b.below q m e));
  reads = λ w p rs ws e. absurd (cc);
}

-- the same places have written a word before and after a claim
module _ (s : Scene) (d : Course) (w p : ℕ) (k : IsKept s d) (idle : d.hand w ≡ free) (waits : d.phase p ≡ waiting) where
  abbrev Was : Hand
  Was = busy p [] []

  abbrev Now : Course
  Now = after_claim d w p

  other_hand : (u q : ℕ) → d.phase q ≡ held u → u ≢ w
  other_hand u q e is = no_place s d w q k idle (e ∙ ap held is)

  written_before : (r x : ℕ) → IsWritten Now r x → IsWritten d r x
  written_before r x a = ⊎_elim
      (λ (is : r ≡ p). absurd (subst (λ (h : Hand). Wrote h x) (put_here d.hand w Was)
      (subst (IsWrittenIn Now.hand x) (ap Now.phase is ∙ put_here d.phase p (held w)) a)))
      (λ (other : r ≢ p). written_from Now.hand d.hand x (d.phase r)
      (λ u e h. subst (λ (y : Hand). Wrote y x) (put_else d.hand w Was u (other_hand u r e)) h)
      (subst (IsWrittenIn Now.hand x) (put_else d.phase p (held w) r other) a))
      (cases_eq r p)

  written_after : (r x : ℕ) → IsWritten d r x → IsWritten Now r x
  written_after r x a = ⊎_elim
      (λ (is : r ≡ p). absurd (subst (IsWrittenIn d.hand x) (ap d.phase is ∙ waits) a))
      (λ (other : r ≢ p). subst (IsWrittenIn Now.hand x) (sym (put_else d.phase p (held w) r other))
      (written_from d.hand Now.hand x (d.phase r)
      (λ u e h. subst (λ (y : Hand). Wrote y x) (sym (put_else d.hand w Was u (other_hand u r e))) h) a))
      (cases_eq r p)

pub keeps_claim : (s : Scene) → IsSound s → (d : Course) (w p : ℕ) → IsKept s d → d.hand w ≡ free
    → d.phase p ≡ waiting → p < s.places → EarlierAreDone s d p → IsKept s (after_claim d w p)
keeps_claim s z d w p k idle waits inside before =
    let new : Hand = busy p [] [] in
    let now : Course = after_claim d w p in record {
      receipts = λ q st mv e. ⊎_elim
          (λ t. let no : held w ≡ done st mv = t.1 in absurd (cc))
          (λ t. k.receipts q st mv t.1)
          (put_at d.phase p (held w) q (done st mv) e);
      holds = λ u q rs ws e. ⊎_elim
          (λ t. let same : p ≡ q = cc in
          subst (λ (y : ℕ × ℕ). (now.phase y.0 ≡ held y.1) × (y.0 < s.places))
          (λ i. (same i, sym t.0 i)) (put_here d.phase p (held w), inside))
          (λ t. let h = k.holds u q rs ws t.1 in
          (put_else d.phase p (held w) q (λ is. let no : held u ≡ waiting = sym h.0 ∙ (ap d.phase is ∙ waits) in cc) ∙ h.0, h.1))
          (put_at d.hand w new u (busy q rs ws) e);
      holder = λ u q e. ⊎_elim
          (λ t. let same : w ≡ u = cc in (
            [],
            [],
            subst (λ (y : ℕ × ℕ). now.hand y.0 ≡ busy y.1 [] [])
                (λ i. (same i, sym t.0 i)) (put_here d.hand w new),
          ))
          (λ t. let h = k.holder u q t.1 in
          (h.0, h.1, put_else d.hand w new u (other_hand s d w p k idle waits u q t.1) ∙ h.2))
          (put_at d.phase p (held w) q (held u) e);
      earlier = λ q r l c settled.
          let ended : IsDone (d.phase r) = ⊎_elim
          (λ (is : q ≡ p). before r (subst (λ (y : ℕ). r < y) is l) (subst (λ (y : ℕ). s.clash r y ≡ true) is c))
          (λ (other : q ≢ p). k.earlier q r l c (subst IsSettled (put_else d.phase p (held w) q other) settled))
          (cases_eq q p) in
          subst IsDone (sym (put_else d.phase p (held w) r (λ is. subst IsDone (ap d.phase is ∙ waits) ended))) ended;
      values = λ q x b. k.values q x (boundary_from s d now q x
          (λ r _. written_before s d w p k idle waits r x) (λ r _. written_after s d w p k idle waits r x) b);
      reads = λ u q rs ws e. ⊎_elim
          (λ t. let none : [] ≡ rs = cc in subst (AreOfFold s q) none tt)
          (λ t. k.reads u q rs ws t.1)
          (put_at d.hand w new u (busy q rs ws) e);
    }
