-- Bundles of a sound scene are a sound scene.
use Rattle.std.proofs.Common.{◌≡◌, ◌≢◌, ◌⊎◌, inl, inr, ⊎_elim, ℕ, zero, suc, ◌+◌, ◌-◌, ◌*◌, ◌^◌, ◌<◌, ◌≤◌, ◌||◌, List, Bool, true, false, cond, ltb, refl, sym, ap, ◌∙◌, subst, arith}
use native.Mathlib.Nat.{mul-suc}
use Rattle.std.proofs.lemmas.Bool.{both_ways, cases_Bool, cases_lt, or_cases, or_left, or_right, lt-ltb, le-ltb, cond-true, cond-false}
use Rattle.bk_conflicts.specs.Scene.{Scene, SeeSame, AreWords, AreEdges, IsFolded, IsSound}
use Rattle.bk_bundles.specs.Bundled.{any_of, bundles, owns, is_past, receipt_by, locally, leaves, word_after, bundled}
use Rattle.bk_bundles.proofs.Local.{any_some, any_from, apart, bundle_inside, bundles_few, kept_along, locally_same, locally_fold}
use Rattle.bk_bundles.proofs.Receipts.{owns_parts, past_true, past_kept, receipt_same}

-- ---- words

-- what two bundles have in common is a word of places of theirs
shared : (s : Scene) → AreWords s → (w a b x : ℕ) → a ≢ b
    → (any_of (λ p. s.declares p x) (w * a) w || owns s.words s.places (w * a) w x) ≡ true
    → (any_of (λ p. s.writes p x) (w * b) w || owns s.words s.places (w * b) w x) ≡ true
    → (i : ℕ) × (j : ℕ) × (i < w) × (j < w) × (s.declares (w * a + i) x ≡ true) × (s.writes (w * b + j) x ≡ true)
shared s h w a b x n d wr = ⊎_elim
    (λ e. let r = any_some (λ p. s.declares p x) (w * a) w e in let low = h.words_inside (w * a + r.0) x r.2 in ⊎_elim
    (λ g. let t = any_some (λ p. s.writes p x) (w * b) w g in (r.0, t.0, r.1, t.1, r.2, t.2))
    (λ g. let o = owns_parts s.words s.places (w * b) w x g in let l = o.0 in absurd (omega arith))
    (or_cases (any_of (λ p. s.writes p x) (w * b) w) (owns s.words s.places (w * b) w x) wr))
    (λ e. let o = owns_parts s.words s.places (w * a) w x e in let l = o.0 in let m = o.1 in ⊎_elim
    (λ g. let t = any_some (λ p. s.writes p x) (w * b) w g in
    let low = h.words_inside (w * b + t.0) x (h.written_declared (w * b + t.0) x t.2) in absurd (omega arith))
    (λ g. let u = owns_parts s.words s.places (w * b) w x g in let k = u.0 in let z = u.1 in
    absurd (apart w a b (x - (s.words + w * a)) (x - (s.words + w * b)) n (omega arith) (omega arith) (omega arith)))
    (or_cases (any_of (λ p. s.writes p x) (w * b) w) (owns s.words s.places (w * b) w x) wr))
    (or_cases (any_of (λ p. s.declares p x) (w * a) w) (owns s.words s.places (w * a) w x) d)

pub are_words : (s : Scene) (w : ℕ) (before : ℕ → ℕ) (next : ℕ → List ℕ) → AreWords s → 0 < w → AreWords (bundled s w before next)
are_words s w before next h some = record {
  places_inside = λ b x d. ⊎_elim
      (λ e. let r = any_some (λ p. s.declares p x) (w * b) w e in let l = h.places_inside (w * b + r.0) x r.2 in
      bundle_inside s.places w b some (omega arith))
      (λ e. let o = owns_parts s.words s.places (w * b) w x e in let l = o.0 in let m = o.2 in bundle_inside s.places w b some (omega arith))
      (or_cases (any_of (λ p. s.declares p x) (w * b) w) (owns s.words s.places (w * b) w x) d);
  words_inside = λ b x d. ⊎_elim
      (λ e. let r = any_some (λ p. s.declares p x) (w * b) w e in let l = h.words_inside (w * b + r.0) x r.2 in omega arith)
      (λ e. (owns_parts s.words s.places (w * b) w x e).2)
      (or_cases (any_of (λ p. s.declares p x) (w * b) w) (owns s.words s.places (w * b) w x) d);
  written_declared = λ b x e. ⊎_elim
      (λ g. let r = any_some (λ p. s.writes p x) (w * b) w g in
      or_left (any_of (λ p. s.declares p x) (w * b) w) (owns s.words s.places (w * b) w x)
      (any_from (λ p. s.declares p x) (w * b) w r.0 r.1 (h.written_declared (w * b + r.0) x r.2)))
      (λ g. or_right (any_of (λ p. s.declares p x) (w * b) w) (owns s.words s.places (w * b) w x) g)
      (or_cases (any_of (λ p. s.writes p x) (w * b) w) (owns s.words s.places (w * b) w x) e);
  clashes = λ a b x n d wr. let t = shared s h w a b x n d wr in
      any_from (λ p. any_of (λ q. s.clash p q) (w * b) w) (w * a) w t.0 t.2
      (any_from (λ q. s.clash (w * a + t.0) q) (w * b) w t.1 t.3
      (h.clashes (w * a + t.0) (w * b + t.1) x (λ e. apart w a b t.0 t.1 n t.2 t.3 e) t.4 t.5));
  clashes_back = λ a b x n d wr. let t = shared s h w a b x n d wr in
      any_from (λ p. any_of (λ q. s.clash p q) (w * a) w) (w * b) w t.1 t.3
      (any_from (λ q. s.clash (w * b + t.1) q) (w * a) w t.0 t.2
      (h.clashes_back (w * a + t.0) (w * b + t.1) x (λ e. apart w a b t.0 t.1 n t.2 t.3 e) t.4 t.5));
}

-- ---- the fold

-- a word of an account
pub at_account : (s : Scene) (lo x : ℕ) → x < s.words → word_after s lo x ≡ s.fold lo x
at_account s lo x l = cond-true (ltb x s.words) (s.fold lo x)
    (cond (is_past s.words s.places lo x) (receipt_by s (x - s.words) (s.fold (x - s.words))) 0) (lt-ltb x s.words l)

-- a word of a receipt
pub at_receipt : (s : Scene) (lo x : ℕ) → s.words ≤ x → word_after s lo x ≡ cond (is_past s.words s.places lo x) (receipt_by s (x - s.words) (s.fold (x - s.words))) 0
at_receipt s lo x l = cond-false (ltb x s.words) (s.fold lo x)
    (cond (is_past s.words s.places lo x) (receipt_by s (x - s.words) (s.fold (x - s.words))) 0) (le-ltb x s.words l)

leaves_account : (s : Scene) (lo w : ℕ) (f : ℕ → ℕ) (x : ℕ) → x < s.words → leaves s lo w f x ≡ locally s lo f w x
leaves_account s lo w f x l = cond-true (ltb x s.words) (locally s lo f w x)
    (receipt_by s (lo + (x - (s.words + lo))) (locally s lo f (x - (s.words + lo)))) (lt-ltb x s.words l)

leaves_receipt : (s : Scene) (lo w : ℕ) (f : ℕ → ℕ) (x : ℕ) → s.words ≤ x
    → leaves s lo w f x ≡ receipt_by s (lo + (x - (s.words + lo))) (locally s lo f (x - (s.words + lo)))
leaves_receipt s lo w f x l = cond-false (ltb x s.words) (locally s lo f w x)
    (receipt_by s (lo + (x - (s.words + lo))) (locally s lo f (x - (s.words + lo)))) (le-ltb x s.words l)

-- what no place of a bundle writes it keeps
kept : (s : Scene) → IsFolded s → (lo w x : ℕ)
    → ((any_of (λ p. s.writes p x) lo w || owns s.words s.places lo w x) ≡ true → ⊥)
    → word_after s (lo + w) x ≡ word_after s lo x
kept s h lo w x quiet = ⊎_elim
    (λ low. at_account s (lo + w) x low
    ∙ (kept_along s h lo w x (λ i l e. quiet (or_left (any_of (λ p. s.writes p x) lo w) (owns s.words s.places lo w x)
    (any_from (λ p. s.writes p x) lo w i l e)))
    ∙ sym (at_account s lo x low)))
    (λ high. at_receipt s (lo + w) x high
    ∙ (ap (λ (t : Bool). cond t (receipt_by s (x - s.words) (s.fold (x - s.words))) 0)
    (past_kept s.words s.places lo w x (λ e. quiet (or_right (any_of (λ p. s.writes p x) lo w) (owns s.words s.places lo w x) e)))
    ∙ sym (at_receipt s lo x high)))
    (cases_lt x s.words)

-- what one writes is what the bundle leaves
changed : (s : Scene) → AreWords s → IsFolded s → (lo w x : ℕ)
    → (any_of (λ p. s.writes p x) lo w || owns s.words s.places lo w x) ≡ true
    → word_after s (lo + w) x ≡ leaves s lo w (word_after s lo) x
changed s h k lo w x wr = ⊎_elim
    (λ e. let r = any_some (λ p. s.writes p x) lo w e in
    let low = h.words_inside (lo + r.0) x (h.written_declared (lo + r.0) x r.2) in
    at_account s (lo + w) x low
    ∙ (sym (over w (omega arith) x low) ∙ sym (leaves_account s lo w (word_after s lo) x low)))
    (λ e. let o = owns_parts s.words s.places lo w x e in let l = o.0 in let m = o.1 in let z = o.2 in
    at_receipt s (lo + w) x (omega arith)
    ∙ (cond-true (is_past s.words s.places (lo + w) x) (receipt_by s (x - s.words) (s.fold (x - s.words))) 0
    (past_true s.words s.places (lo + w) x (omega arith) z)
    ∙ (ap (λ (p : ℕ). receipt_by s p (s.fold p)) (let q : x - s.words ≡ lo + (x - (s.words + lo)) = omega arith in q)
    ∙ (sym (receipt_same s k (lo + (x - (s.words + lo))) (locally s lo (word_after s lo) (x - (s.words + lo))) (s.fold (lo + (x - (s.words + lo))))
    (λ y d. over (x - (s.words + lo)) (omega arith) y (h.words_inside (lo + (x - (s.words + lo))) y d)))
    ∙ sym (leaves_receipt s lo w (word_after s lo) x (omega arith))))))
    (or_cases (any_of (λ p. s.writes p x) lo w) (owns s.words s.places lo w x) wr)
  where
    over : (n : ℕ) → n ≤ w → (y : ℕ) → y < s.words → locally s lo (word_after s lo) n y ≡ s.fold (lo + n) y
    over = locally_fold s k lo w (λ y. y < s.words) (λ i y _ d. h.words_inside (lo + i) y d) (word_after s lo) (at_account s lo)

-- and it sees its own words alone
local : (s : Scene) → AreWords s → IsFolded s → (lo w : ℕ) (f g : ℕ → ℕ)
    → ((x : ℕ) → (any_of (λ p. s.declares p x) lo w || owns s.words s.places lo w x) ≡ true → f x ≡ g x)
    → (x : ℕ) → (any_of (λ p. s.writes p x) lo w || owns s.words s.places lo w x) ≡ true
    → leaves s lo w f x ≡ leaves s lo w g x
local s h k lo w f g see x wr = ⊎_elim
    (λ e. let r = any_some (λ p. s.writes p x) lo w e in
    let d = h.written_declared (lo + r.0) x r.2 in
    let low = h.words_inside (lo + r.0) x d in
    leaves_account s lo w f x low
    ∙ (over w (omega arith) x (covers r.0 x r.1 d) ∙ sym (leaves_account s lo w g x low)))
    (λ e. let o = owns_parts s.words s.places lo w x e in let l = o.0 in let m = o.1 in
    leaves_receipt s lo w f x (omega arith)
    ∙ (receipt_same s k (lo + (x - (s.words + lo))) (locally s lo f (x - (s.words + lo))) (locally s lo g (x - (s.words + lo)))
    (λ y d. over (x - (s.words + lo)) (omega arith) y (covers (x - (s.words + lo)) y (omega arith) d))
    ∙ sym (leaves_receipt s lo w g x (omega arith))))
    (or_cases (any_of (λ p. s.writes p x) lo w) (owns s.words s.places lo w x) wr)
  where
    covers : (i y : ℕ) → i < w → s.declares (lo + i) y ≡ true → any_of (λ p. s.declares p y) lo w ≡ true
    covers i y l d = any_from (λ p. s.declares p y) lo w i l d

    over : (n : ℕ) → n ≤ w → (y : ℕ) → any_of (λ p. s.declares p y) lo w ≡ true → locally s lo f n y ≡ locally s lo g n y
    over = locally_same s k lo w (λ y. any_of (λ p. s.declares p y) lo w ≡ true) (λ i y l d. any_from (λ p. s.declares p y) lo w i l d) f g
        (λ y e. see y (or_left (any_of (λ p. s.declares p y) lo w) (owns s.words s.places lo w y) e))

pub is_folded : (s : Scene) (w : ℕ) (before : ℕ → ℕ) (next : ℕ → List ℕ) → AreWords s → IsFolded s → IsFolded (bundled s w before next)
is_folded s w before next h k = record {
  kept = λ b x quiet. ap (λ (m : ℕ). word_after s m x) (mul-suc w b) ∙ kept s k (w * b) w x quiet;
  changed = λ b x e. ap (λ (m : ℕ). word_after s m x) (mul-suc w b) ∙ changed s h k (w * b) w x e;
  local = λ b f g see x e. local s h k (w * b) w f g see x e;
  statuses = λ b f g see. refl;
  moves = λ b f g see. refl;
  seven = λ b f. omega arith;
}

pub is_sound : (s : Scene) (w : ℕ) (before : ℕ → ℕ) (next : ℕ → List ℕ) → IsSound s → 0 < w
    → AreEdges (bundled s w before next) → s.words + s.places < 2 ^ 32 → IsSound (bundled s w before next)
is_sound s w before next h some edges room = record {
  are_words = are_words s w before next h.are_words some;
  are_edges = edges;
  is_folded = is_folded s w before next h.are_words h.is_folded;
  few_places = let a = bundles_few s.places w some in let b = h.few_places in omega arith;
  few_words = room;
}
