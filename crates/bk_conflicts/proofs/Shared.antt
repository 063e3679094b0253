-- Where each declared account has a slot, each shared account counts.
use Rattle.std.proofs.Common.{◌≡◌, ℕ, ◌&&◌, List, get_or, Bool, true, false, Option, None, Some, refl, sym, ap, ◌∙◌}
use Rattle.std.proofs.lemmas.Bool.{and_parts, both_ways, false_from_ne_true}
use Rattle.bk_base.specs.declared.version.Version.TheVariants.{Two}
use Rattle.bk_tx.specs.Transaction.{Transaction}
use Rattle.bk_tx.specs.Access.{declares}
use Rattle.bk_rules.specs.Ledger.{has_slot, are_covered}
use Rattle.bk_conflicts.specs.Conflicts.{declared_by, declared_at, share, clash}
use Rattle.bk_conflicts.proofs.Ran.{declared_have}
use Rattle.bk_conflicts.proofs.Shown.{covered_at}

-- who declares an account of covered transactions declares one with a slot
declared_slot : (slots : List ℕ) (txs : List (Option Transaction)) (id p : ℕ) → are_covered Two slots txs ≡ true → (o : Option Transaction) → get_or txs p None ≡ o → declares (declared_by o) id ≡ true → has_slot slots id ≡ true
declared_slot slots txs id p covered None here d = absurd (both_ways _ refl d)
declared_slot slots txs id p covered (Some t) here d = declared_have slots id t.declared (covered_at Two slots txs p covered t here) d

pub shared_counts : (slots : List ℕ) (txs : List (Option Transaction)) (id p q : ℕ) → are_covered Two slots txs ≡ true → clash slots txs id p q ≡ share txs id p q
unfolding clash
shared_counts slots txs id p q covered = at (has_slot slots id) refl
  where
    not_shared : has_slot slots id ≡ false → share txs id p q ≡ false
    not_shared e = false_from_ne_true (share txs id p q) (λ s. both_ways _ e (declared_slot slots txs id p covered (get_or txs p None) refl
        (and_parts (declares (declared_at txs p) id) (declares (declared_at txs q) id) (and_parts (declares (declared_at txs p) id && declares (declared_at txs q) id) _ s).0).0))

    at : (b : Bool) → has_slot slots id ≡ b → (has_slot slots id && share txs id p q) ≡ share txs id p q
    at true e = ap (λ (c : Bool). c && share txs id p q) e
    at false e = ap (λ (c : Bool). c && share txs id p q) e ∙ sym (not_shared e)
