-- An allowed read and an allowed write keep what holds of a course.
use Rattle.std.proofs.Common.{◌≡◌, ◌≢◌, inl, inr, ⊎_elim, ℕ, suc, ◌<◌, ◌≤◌, List, [], ◌∷◌, true, sym, refl, ap, ◌∙◌, subst}
use Rattle.std.proofs.lemmas.Bool.{cases_eq, cases_lt}
use Rattle.bk_conflicts.specs.Scene.{Scene, IsSound}
use Rattle.bk_steps.specs.Course.{Course, held, Hand, busy, put, IsDone}
use Rattle.bk_steps.specs.Moves.{after_read, after_write}
use Rattle.bk_steps.specs.Kept.{Wrote, IsWrittenIn, IsWritten, AreOfFold, IsBoundary, IsKept}
use Rattle.bk_steps.proofs.Tables.{put_here, put_else, put_at}
use Rattle.bk_steps.proofs.Scenes.{reader_clash, fold_from}
use Rattle.bk_steps.proofs.Written.{written_from, written_settled, boundary_from, one_place, read_fold}

-- a hand that wrote the same writes the same words with it put in the place of the old one
hand_wrote : (hand : ℕ → Hand) (w u y : ℕ) (new : Hand) → (Wrote new y → Wrote (hand w) y)
    → Wrote (put hand w new u) y → Wrote (hand u) y
hand_wrote hand w u y new go a = ⊎_elim
    (λ (is : u ≡ w). subst (λ (v : ℕ). Wrote (hand v) y) (sym is)
    (go (subst (λ (h : Hand). Wrote h y) (ap (put hand w new) is ∙ put_here hand w new) a)))
    (λ (other : u ≢ w). subst (λ (h : Hand). Wrote h y) (put_else hand w new u other) a)
    (cases_eq u w)

hand_writes : (hand : ℕ → Hand) (w u y : ℕ) (new : Hand) → (Wrote (hand w) y → Wrote new y)
    → Wrote (hand u) y → Wrote (put hand w new u) y
hand_writes hand w u y new go a = ⊎_elim
    (λ (is : u ≡ w). subst (λ (h : Hand). Wrote h y) (sym (ap (put hand w new) is ∙ put_here hand w new))
    (go (subst (λ (v : ℕ). Wrote (hand v) y) is a)))
    (λ (other : u ≢ w). subst (λ (h : Hand). Wrote h y) (sym (put_else hand w new u other)) a)
    (cases_eq u w)

pub keeps_read : (s : Scene) → IsSound s → (d : Course) (w p x : ℕ) (rs : List (ℕ × ℕ)) → IsKept s d
    → d.hand w ≡ busy p rs [] → s.declares p x ≡ true → IsKept s (after_read d w p rs x)
keeps_read s z d w p x rs k mine decl =
    let new : Hand = busy p ((x, d.value x) ∷ rs) [] in
    let now : Course = after_read d w p rs x in
    let at = k.holds w p rs [] mine in record {
      receipts = k.receipts;
      holds = λ u q rs' ws' e. ⊎_elim
          (λ t. let same : p ≡ q = cc in subst (λ (y : ℕ × ℕ). (d.phase y.0 ≡ held y.1) × (y.0 < s.places)) (λ i. (same i, sym t.0 i)) at)
          (λ t. k.holds u q rs' ws' t.1)
          (put_at d.hand w new u (busy q rs' ws') e);
      holder = λ u q e. ⊎_elim
          (λ (is : u ≡ w). let same = one_place s d w p q rs [] k mine (e ∙ ap held is) in (
            (x, d.value x) ∷ rs,
            [],
            ap now.hand is ∙ (put_here d.hand w new
                ∙ ap (λ (y : ℕ). busy y ((x, d.value x) ∷ rs) []) (sym same)),
          ))
          (λ (other : u ≢ w). let h = k.holder u q e in (h.0, h.1, put_else d.hand w new u other ∙ h.2))
          (cases_eq u w);
      earlier = k.earlier;
      values = λ q y b. k.values q y (boundary_from s d now q y
          (λ r _ a. written_from now.hand d.hand y (d.phase r) (λ u _. hand_wrote d.hand w u y new (λ h. absurd h)) a)
          (λ r _ a. written_from d.hand now.hand y (d.phase r)
          (λ u _. hand_writes d.hand w u y new (λ h. subst (λ (g : Hand). Wrote g y) mine h)) a) b);
      reads = λ u q rs' ws' e. ⊎_elim
          (λ t. let same : p ≡ q = cc in let is : (x, d.value x) ∷ rs ≡ rs' = cc in
          subst (λ (y : ℕ × List (ℕ × ℕ)). AreOfFold s y.0 y.1) (λ i. (same i, is i))
          (read_fold s z d w p x rs [] k mine decl (λ h. h), k.reads w p rs [] mine))
          (λ t. k.reads u q rs' ws' t.1)
          (put_at d.hand w new u (busy q rs' ws') e);
    }

-- after p has written the word, the places below the boundary are p and some after it, which did not write it
written_word : (s : Scene) → IsSound s → (d : Course) (w p x v q : ℕ) (rs : List (ℕ × ℕ)) (ws : List ℕ)
    → IsKept s d → d.hand w ≡ busy p rs ws → s.writes p x ≡ true
    → IsBoundary s (after_write d w p rs ws x v) q x → s.fold (suc p) x ≡ s.fold q x
written_word s z d w p x v q rs ws k mine wr b =
    let at = k.holds w p rs ws mine in
    let now : Course = after_write d w p rs ws x v in
    let written : IsWritten now p x = subst (IsWrittenIn now.hand x) (sym at.0)
    (subst (λ (h : Hand). Wrote h x) (sym (put_here d.hand w (busy p rs (x ∷ ws)))) (inl refl)) in
    let past : p < q = ⊎_elim (λ (l : p < q). l) (λ (n : q ≤ p). absurd (b.above p n wr written)) (cases_lt p q) in
    sym (fold_from s z (suc p) q x past (λ r l m e.
    subst IsDone at.0 (k.earlier r p l (reader_clash s z p r x l (z.are_words.written_declared p x wr) e)
    (written_settled now.hand x (d.phase r) (b.below r m e)))))

pub keeps_write : (s : Scene) → IsSound s → (d : Course) (w p x v : ℕ) (rs : List (ℕ × ℕ)) (ws : List ℕ)
    → IsKept s d → d.hand w ≡ busy p rs ws → s.writes p x ≡ true → v ≡ s.fold (suc p) x
    → IsKept s (after_write d w p rs ws x v)
keeps_write s z d w p x v rs ws k mine wr value =
    let new : Hand = busy p rs (x ∷ ws) in
    let now : Course = after_write d w p rs ws x v in
    let at = k.holds w p rs ws mine in record {
      receipts = k.receipts;
      holds = λ u q rs' ws' e. ⊎_elim
          (λ t. let same : p ≡ q = cc in subst (λ (y : ℕ × ℕ). (d.phase y.0 ≡ held y.1) × (y.0 < s.places)) (λ i. (same i, sym t.0 i)) at)
          (λ t. k.holds u q rs' ws' t.1)
          (put_at d.hand w new u (busy q rs' ws') e);
      holder = λ u q e. ⊎_elim
          (λ (is : u ≡ w). let same = one_place s d w p q rs ws k mine (e ∙ ap held is) in
          (rs, x ∷ ws, ap now.hand is ∙ (put_here d.hand w new ∙ ap (λ (y : ℕ). busy y rs (x ∷ ws)) (sym same))))
          (λ (other : u ≢ w). let h = k.holder u q e in (h.0, h.1, put_else d.hand w new u other ∙ h.2))
          (cases_eq u w);
      earlier = k.earlier;
      values = λ q y b. ⊎_elim
          (λ (is : y ≡ x). ap now.value is ∙ (put_here d.value x v ∙ (value
          ∙ (written_word s z d w p x v q rs ws k mine wr (subst (IsBoundary s now q) is b) ∙ ap (s.fold q) (sym is)))))
          (λ (off : y ≢ x). put_else d.value x v y off ∙ k.values q y (boundary_from s d now q y
          (λ r _ a. written_from now.hand d.hand y (d.phase r) (λ u _. hand_wrote d.hand w u y new
          (λ h. subst (λ (g : Hand). Wrote g y) (sym mine) (⊎_elim (λ (e : x ≡ y). absurd (off (sym e))) (λ t. t) h))) a)
          (λ r _ a. written_from d.hand now.hand y (d.phase r) (λ u _. hand_writes d.hand w u y new
          (λ h. inr (subst (λ (g : Hand). Wrote g y) mine h))) a) b))
          (cases_eq y x);
      reads = λ u q rs' ws' e. ⊎_elim
          (λ t. let same : p ≡ q = cc in let is : rs ≡ rs' = cc in
          subst (λ (y : ℕ × List (ℕ × ℕ)). AreOfFold s y.0 y.1) (λ i. (same i, is i)) (k.reads w p rs ws mine))
          (λ t. k.reads u q rs' ws' t.1)
          (put_at d.hand w new u (busy q rs' ws') e);
    }
