-- The words of receipts.
use Rattle.std.proofs.Common.{◌≡◌, ◌≢◌, ◌⊎◌, inl, inr, ⊎_elim, ℕ, zero, suc, ◌+◌, ◌-◌, ◌*◌, ◌<◌, ◌≤◌, ◌==◌, ◌&&◌, ◌||◌, Bool, true, false, cond, eqb, ltb, leb, refl, sym, ap, ◌∙◌, subst, arith}
use Rattle.std.proofs.lemmas.Bool.{both_ways, cases_Bool, cases_lt, and_parts, and_from, and_left, and_right, lt-ltb, le-ltb, le-leb, ltb-true, leb-true, eqb-true, eqb-false, cond-true, cond-false}
use Rattle.bk_conflicts.specs.Scene.{Scene, SeeSame, IsFolded}
use Rattle.bk_bundles.specs.Bundled.{owns, is_past, receipt_number, status_from, moved_from, top, receipt_by, locally}
use Rattle.bk_bundles.proofs.Local.{locally_same, locally_fold}

pub owns_parts : (words places lo w x : ℕ) → owns words places lo w x ≡ true → (words + lo ≤ x) × (x < words + lo + w) × (x < words + places)
owns_parts words places lo w x e =
    let a = and_parts (leb (words + lo) x) (ltb x (words + lo + w) && ltb x (words + places)) e in
    let b = and_parts (ltb x (words + lo + w)) (ltb x (words + places)) a.1 in
    (leb-true (words + lo) x a.0, ltb-true x (words + lo + w) b.0, ltb-true x (words + places) b.1)

pub owns_from : (words places lo w x : ℕ) → words + lo ≤ x → x < words + lo + w → x < words + places → owns words places lo w x ≡ true
owns_from words places lo w x a b c =
    and_from (leb (words + lo) x) (ltb x (words + lo + w) && ltb x (words + places)) (le-leb (words + lo) x a)
    (and_from (ltb x (words + lo + w)) (ltb x (words + places)) (lt-ltb x (words + lo + w) b) (lt-ltb x (words + places) c))

pub past_true : (words places lo x : ℕ) → x < words + lo → x < words + places → is_past words places lo x ≡ true
past_true words places lo x a b = and_from (ltb x (words + lo)) (ltb x (words + places)) (lt-ltb x (words + lo) a) (lt-ltb x (words + places) b)

past_early : (words places lo x : ℕ) → words + lo ≤ x → is_past words places lo x ≡ false
past_early words places lo x a = and_left (ltb x (words + lo)) (ltb x (words + places)) (le-ltb x (words + lo) a)

past_beyond : (words places lo x : ℕ) → words + places ≤ x → is_past words places lo x ≡ false
past_beyond words places lo x a = and_right (ltb x (words + lo)) (ltb x (words + places)) (le-ltb x (words + places) a)

-- a bundle makes its own receipts past, and no other
pub past_kept : (words places lo w x : ℕ) → (owns words places lo w x ≡ true → ⊥) → is_past words places (lo + w) x ≡ is_past words places lo x
past_kept words places lo w x other = ⊎_elim
    (λ inside. ⊎_elim
    (λ early. past_true words places (lo + w) x (omega arith) inside ∙ sym (past_true words places lo x early inside))
    (λ late. ⊎_elim
    (λ own. absurd (other (owns_from words places lo w x late own inside)))
    (λ later. past_early words places (lo + w) x (omega arith) ∙ sym (past_early words places lo x late))
    (cases_lt x (words + lo + w)))
    (cases_lt x (words + lo)))
    (λ beyond. past_beyond words places (lo + w) x beyond ∙ sym (past_beyond words places lo x beyond))
    (cases_lt x (words + places))

-- ---- numbers

pub status_back : (t st mv : ℕ) → mv < t → status_from t (receipt_number t st mv) ≡ st
status_back t st mv l = ⊎_elim
    (λ e. ap (status_from t) (cond-true (eqb st 0) mv (t + st) e)
    ∙ (cond-true (ltb mv t) 0 (mv - t) (lt-ltb mv t l) ∙ sym (eqb-true st 0 e)))
    (λ e. ap (status_from t) (cond-false (eqb st 0) mv (t + st) e)
    ∙ (cond-false (ltb (t + st) t) 0 (t + st - t) (le-ltb (t + st) t (omega arith)) ∙ (let z : t + st - t ≡ st = omega arith in z)))
    (cases_Bool (eqb st 0))

pub moved_back : (t st mv : ℕ) → mv < t → (st ≢ 0 → mv ≡ 0) → moved_from t (receipt_number t st mv) ≡ mv
moved_back t st mv l none = ⊎_elim
    (λ e. ap (moved_from t) (cond-true (eqb st 0) mv (t + st) e) ∙ cond-true (ltb mv t) mv 0 (lt-ltb mv t l))
    (λ e. ap (moved_from t) (cond-false (eqb st 0) mv (t + st) e)
    ∙ (cond-false (ltb (t + st) t) (t + st) 0 (le-ltb (t + st) t (omega arith)) ∙ sym (none (eqb-false st 0 e))))
    (cases_Bool (eqb st 0))

-- ---- the receipt of a place over local values

pub receipt_same : (s : Scene) → IsFolded s → (p : ℕ) (f g : ℕ → ℕ) → SeeSame s p f g → receipt_by s p f ≡ receipt_by s p g
receipt_same s h p f g see = λ i. receipt_number top (h.statuses p f g see i) (h.moves p f g see i)
