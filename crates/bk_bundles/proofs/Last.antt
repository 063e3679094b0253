-- What the last bundle leaves.
use Rattle.std.proofs.Common.{◌≡◌, ⊎_elim, ℕ, suc, ◌+◌, ◌-◌, ◌*◌, ◌<◌, ◌≤◌, List, Bool, true, cond, ltb, refl, sym, ap, ◌∙◌, subst, arith}
use Rattle.std.proofs.lemmas.Bool.{lt-ltb, le-ltb, cond-true, cond-false}
use Rattle.bk_conflicts.specs.Scene.{Scene, IsSound, status_at, moved_at}
use Rattle.bk_bundles.specs.Bundled.{bundles, is_past, receipt_by, word_after, top, status_from, moved_from, bundled, ReceiptsFit, LastWords}
use Rattle.bk_bundles.proofs.Local.{bundles_cover, kept_along}
use Rattle.bk_bundles.proofs.Receipts.{past_true, status_back, moved_back}
use Rattle.bk_bundles.proofs.Sound.{at_account, at_receipt}

-- past the last place nothing changes
fold_past : (s : Scene) → IsSound s → (lo x : ℕ) → s.places ≤ lo → s.fold lo x ≡ s.fold s.places x
fold_past s h lo x l = ap (λ (k : ℕ). s.fold k x) (let e : lo ≡ s.places + (lo - s.places) = omega arith in e)
    ∙ kept_along s h.is_folded s.places (lo - s.places) x (λ i m e.
    let d = h.are_words.places_inside (s.places + i) x (h.are_words.written_declared (s.places + i) x e) in omega arith)

receipt_past : (s : Scene) (lo p : ℕ) → s.places ≤ lo → p < s.places → word_after s lo (s.words + p) ≡ receipt_by s p (s.fold p)
receipt_past s lo p l m = at_receipt s lo (s.words + p) (omega arith)
    ∙ (cond-true (is_past s.words s.places lo (s.words + p)) (receipt_by s (s.words + p - s.words) (s.fold (s.words + p - s.words))) 0
    (past_true s.words s.places lo (s.words + p) (omega arith) (omega arith))
    ∙ ap (λ (q : ℕ). receipt_by s q (s.fold q)) (let e : s.words + p - s.words ≡ p = omega arith in e))

last_words : (s : Scene) → IsSound s → ReceiptsFit s → (lo : ℕ) → s.places ≤ lo → LastWords s (word_after s lo)
last_words s h fit lo l = record {
  accounts = λ x low. at_account s lo x low ∙ fold_past s h lo x l;
  statuses = λ p m. ap (status_from top) (receipt_past s lo p l m) ∙ status_back top (status_at s p) (moved_at s p) (fit p).0;
  moves = λ p m. ap (moved_from top) (receipt_past s lo p l m) ∙ moved_back top (status_at s p) (moved_at s p) (fit p).0 (fit p).1;
}

pub last_fold : (s : Scene) (w : ℕ) (before : ℕ → ℕ) (next : ℕ → List ℕ) → IsSound s → 0 < w → ReceiptsFit s
    → LastWords s ((bundled s w before next).fold (bundled s w before next).places)
last_fold s w before next h some fit = last_words s h fit (w * bundles s.places w) (bundles_cover s.places w some)
