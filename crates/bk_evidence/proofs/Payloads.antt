-- Batches that are the same or not.
use Rattle.std.proofs.Common.{◌≡◌, ◌≢◌, ◌⊎◌, Bool, true, false, refl, sym, ap, inl, inr}
use Rattle.std.specs.Prelude.{Decides}
use Rattle.std.specs.Str.{bytes_eq}
use Rattle.std.proofs.lemmas.Bool.{true≢false}
use Rattle.std.proofs.lemmas.Slice.Eq.{bytes_eq-Decides}
use Rattle.bk_evidence.specs.Batches.{Batch, batch_with}

-- a test decides
pub decided_same : {X : Type 0} (a b : X) (r : Bool) → Decides r (a ≡ b) → (a ≡ b) ⊎ (a ≢ b)
decided_same a b true h = inl (h.0 refl)
decided_same a b false h = inr (λ e. true≢false (sym (h.1 e)))

pub same_parts : (b e : Batch) → b.digest ≡ e.digest → b.payload ≡ e.payload → b ≡ e
same_parts b e p q = λ i. batch_with (p i) (q i)

-- under one digest batches are the same, or their payloads differ
pub same_batch : (b e : Batch) → b.digest ≡ e.digest → (b ≡ e) ⊎ (b ≢ e)
same_batch b e d = by (decided_same b.payload e.payload (bytes_eq b.payload e.payload) (bytes_eq-Decides b.payload e.payload))
  where
    by : (b.payload ≡ e.payload) ⊎ (b.payload ≢ e.payload) → (b ≡ e) ⊎ (b ≢ e)
    by (inl p) = inl (same_parts b e d p)
    by (inr apart) = inr (λ same. apart (ap (λ (x : Batch). x.payload) same))
