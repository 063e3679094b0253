-- A function with another value at one number.
use Rattle.std.proofs.Common.{◌≡◌, ◌≢◌, ◌⊎◌, inl, inr, ⊎_elim, ℕ, eqb, eq-eqb, ne_eqb, sym, refl, ap, ◌∙◌}
use Rattle.std.proofs.lemmas.Bool.{cases_eq, cond-true, cond-false}
use Rattle.bk_steps.specs.Course.{put}

module _ {A : Type 0} where
  pub put_here : (f : ℕ → A) (i : ℕ) (a : A) → put f i a i ≡ a
  unfolding put
  put_here f i a = cond-true (eqb i i) a (f i) (eq-eqb i i refl)

  pub put_else : (f : ℕ → A) (i : ℕ) (a : A) (j : ℕ) → j ≢ i → put f i a j ≡ f j
  unfolding put
  put_else f i a j other = cond-false (eqb j i) a (f j) (ne_eqb j i other)

  -- a value that is found there is the new one, or an old one elsewhere
  pub put_at : (f : ℕ → A) (i : ℕ) (a : A) (j : ℕ) (b : A) → put f i a j ≡ b
      → ((j ≡ i) × (a ≡ b)) ⊎ ((j ≢ i) × (f j ≡ b))
  put_at f i a j b e = ⊎_elim
      (λ is. inl (is, sym (put_here f i a) ∙ (ap (put f i a) (sym is) ∙ e)))
      (λ other. inr (other, sym (put_else f i a j other) ∙ e))
      (cases_eq j i)
