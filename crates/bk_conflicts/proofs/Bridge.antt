-- Places share a slot exactly where they share the account of that slot.
use Rattle.std.proofs.Common.{◌≡◌, ⊎_elim, ℕ, zero, suc, ◌<◌, ◌==◌, ◌&&◌, ◌||◌, List, [], ◌∷◌, ◌++◌, length, get_or, All, Bool, true, false, Option, None, Some, is_some, refl, sym, ap, ◌∙◌, arith, eq-eqb, ne_eqb}
use mathlib.Core.Logic.{dite}
use native.Mathlib.Decide.{ℕ_discrete}
use Rattle.std.proofs.lemmas.Bool.{and_parts, or_cases, both_ways}
use Rattle.bk_tx.specs.declared.declared.Declared.{Declared}
use Rattle.bk_tx.specs.Transaction.{Transaction}
use Rattle.bk_tx.specs.Access.{declares}
use Rattle.bk_rules.specs.Ledger.{has_slot}
use Rattle.bk_rules.proofs.Finding.{Rises, stands_at}
use Rattle.bk_rules.proofs.Places.{position_is}
use Rattle.bk_conflicts.specs.Conflicts.{declared_at, clash, Edge}
use Rattle.bk_conflicts.specs.Words.{slot_of}
use Rattle.bk_conflicts.specs.declared.words.Access.{Access}
use Rattle.bk_conflicts.specs.private.Accesses.{access_in, accesses_of, places_of, uses_in, writes_in, uses, writes, clash_at}
use Rattle.bk_conflicts.proofs.Accessed.{StandsAt, slot_there, places_low}
use Rattle.bk_conflicts.proofs.Cover.{nearest_as}
use Rattle.bk_conflicts.proofs.Sources.{clash_parts}
use Rattle.bk_tx.specs.Access as access

-- a slot is that of an id exactly where that id is there
slot_is : (slots : List ℕ) → Rises slots → (id s u : ℕ) → s < length slots → StandsAt slots id u → (u == s) ≡ (id == get_or slots s 0)
slot_is slots up id s u l h = dite (ℕ_discrete u s)
    (λ e. eq-eqb u s e ∙ sym (eq-eqb id (get_or slots s 0) (sym (h.id_is) ∙ ap (λ (k : ℕ). get_or slots k 0) e)))
    (λ n. ne_eqb u s n ∙ sym (ne_eqb id (get_or slots s 0) (λ e. n (one_slot e))))
  where
    one_slot : id ≡ get_or slots s 0 → u ≡ s
    one_slot e =
        let a = stands_at slots up id u h.inside h.id_is in
        let b = stands_at slots up id s l (sym e) in
        let both : Some u ≡ Some s = a ∙ sym b in cc

-- an id without a slot is that of no slot
slot_is_not : (slots : List ℕ) → Rises slots → (id s : ℕ) → s < length slots → slot_of slots id ≡ None → (id == get_or slots s 0) ≡ false
slot_is_not slots up id s l e = ne_eqb id (get_or slots s 0) (λ same. let b = stands_at slots up id s l (sym same) in let both : Some s ≡ None = b ∙ e in absurd cc)

pub uses_same : (slots : List ℕ) → Rises slots → (s : ℕ) → s < length slots → (ds : List Declared) → uses_in (accesses_of slots ds) s ≡ declares ds (get_or slots s 0)
uses_same slots up s l [] = refl
uses_same slots up s l (d ∷ ds) = at (slot_of slots d.id) refl (uses_same slots up s l ds)
  where
    at : (o : Option ℕ) → slot_of slots d.id ≡ o → uses_in (accesses_of slots ds) s ≡ declares ds (get_or slots s 0) → uses_in (access_in d.writable o ++ accesses_of slots ds) s ≡ ((d.id == get_or slots s 0) || declares ds (get_or slots s 0))
    at None e h = h ∙ ap (λ (b : Bool). b || declares ds (get_or slots s 0)) (sym (slot_is_not slots up d.id s l e))
    at (Some u) e h = λ i. slot_is slots up d.id s u l (slot_there slots d.id u e) i || h i

and_turned : (a b : Bool) → (a && b) ≡ (b && a)
and_turned true true = refl
and_turned true false = refl
and_turned false true = refl
and_turned false false = refl

and_false : (a b : Bool) → b ≡ false → (a && b) ≡ false
and_false true b e = e
and_false false b e = refl

pub writes_same : (slots : List ℕ) → Rises slots → (s : ℕ) → s < length slots → (ds : List Declared) → writes_in (accesses_of slots ds) s ≡ access.writes ds (get_or slots s 0)
writes_same slots up s l [] = refl
writes_same slots up s l (d ∷ ds) = at (slot_of slots d.id) refl (writes_same slots up s l ds)
  where
    at : (o : Option ℕ) → slot_of slots d.id ≡ o → writes_in (accesses_of slots ds) s ≡ access.writes ds (get_or slots s 0) → writes_in (access_in d.writable o ++ accesses_of slots ds) s ≡ ((d.writable && d.id == get_or slots s 0) || access.writes ds (get_or slots s 0))
    at None e h = h ∙ ap (λ (b : Bool). b || access.writes ds (get_or slots s 0)) (sym (and_false d.writable (d.id == get_or slots s 0) (slot_is_not slots up d.id s l e)))
    at (Some u) e h = λ i. (and_turned (u == s) d.writable ∙ ap (λ (b : Bool). d.writable && b) (slot_is slots up d.id s u l (slot_there slots d.id u e))) i || h i

-- there is a slot at the index, and the id there has one
pub slot_here : (slots : List ℕ) (s : ℕ) → s < length slots → has_slot slots (get_or slots s 0) ≡ true
slot_here [] s l = absurd (omega arith)
slot_here (i ∷ slots) zero l = ap (λ (b : Bool). b || has_slot slots i) (eq-eqb i i refl)
slot_here (i ∷ slots) (suc s) l = ap (λ (b : Bool). (i == get_or slots s 0) || b) (slot_here slots s (omega arith)) ∙ or_true (i == get_or slots s 0)
  where
    or_true : (b : Bool) → (b || true) ≡ true
    or_true true = refl
    or_true false = refl

slot_found : (slots : List ℕ) (id : ℕ) → has_slot slots id ≡ true → (s : ℕ) × StandsAt slots id s
slot_found slots id h = at (slot_of slots id) refl (position_is (λ (i : ℕ). i == id) slots ∙ h)
  where
    at : (o : Option ℕ) → slot_of slots id ≡ o → is_some (slot_of slots id) ≡ true → (s : ℕ) × StandsAt slots id s
    at None e some = absurd (both_ways _ (ap is_some e) some)
    at (Some s) e some = (s, slot_there slots id s e)

clash_same : (slots : List ℕ) (txs : List (Option Transaction)) → Rises slots → (s : ℕ) → s < length slots → (p q : ℕ) → clash_at (places_of slots txs) s p q ≡ clash slots txs (get_or slots s 0) p q
unfolding clash clash_at uses writes places_of
clash_same slots txs up s l p q =
    (λ i. (uses_same slots up s l (declared_at txs p) i && uses_same slots up s l (declared_at txs q) i) && (writes_same slots up s l (declared_at txs p) i || writes_same slots up s l (declared_at txs q) i))
    ∙ ap (λ (b : Bool). b && ((declares (declared_at txs p) (get_or slots s 0) && declares (declared_at txs q) (get_or slots s 0)) && (access.writes (declared_at txs p) (get_or slots s 0) || access.writes (declared_at txs q) (get_or slots s 0)))) (sym (slot_here slots s l))

-- who uses a slot has one
any_low : (n s : ℕ) (xs : List Access) → All (λ (x : Access). x.slot < n) xs → uses_in xs s ≡ true → s < n
any_low n s [] low e = absurd (both_ways _ refl e)
any_low n s (x ∷ xs) low e = ⊎_elim (λ h. let m : x.slot < n = low 0 x (omega arith) in let is = eqb_is x.slot s h in omega arith) (λ h. any_low n s xs (λ i d l. low (suc i) d (omega arith)) h) (or_cases (x.slot == s) (uses_in xs s) e)
  where
    eqb_is : (a b : ℕ) → (a == b) ≡ true → a ≡ b
    eqb_is a b h = dite (ℕ_discrete a b) (λ is. is) (λ n. absurd (both_ways _ (ne_eqb a b n) h))

uses_low : (slots : List ℕ) (txs : List (Option Transaction)) (s q : ℕ) → uses (places_of slots txs) s q ≡ true → s < length slots
unfolding uses
uses_low slots txs s q u = any_low (length slots) s (places_of slots txs q) (places_low slots txs q) u

pub edge_by_id : (slots : List ℕ) (txs : List (Option Transaction)) → Rises slots → (p q : ℕ) → Edge (clash_at (places_of slots txs)) p q → Edge (clash slots txs) p q
edge_by_id slots txs up p q (s, near) =
    let l = uses_low slots txs s p (clash_parts (places_of slots txs) s p q near.here).0 in
    (get_or slots s 0, nearest_as (clash_at (places_of slots txs) s) (clash slots txs (get_or slots s 0)) p q (clash_same slots txs up s l) near)

clash_has_slot : (slots : List ℕ) (txs : List (Option Transaction)) (id p q : ℕ) → clash slots txs id p q ≡ true → has_slot slots id ≡ true
unfolding clash
clash_has_slot slots txs id p q e = (and_parts (has_slot slots id) _ e).0

pub edge_by_slot : (slots : List ℕ) (txs : List (Option Transaction)) → Rises slots → (p q : ℕ) → Edge (clash slots txs) p q → Edge (clash_at (places_of slots txs)) p q
edge_by_slot slots txs up p q (id, near) =
    let (s, here) = slot_found slots id (clash_has_slot slots txs id p q near.here) in (
      s,
      nearest_as (clash slots txs id) (clash_at (places_of slots txs) s) p q
          (λ m n. ap (λ (k : ℕ). clash slots txs k m n) (sym here.id_is) ∙ sym (clash_same slots txs up s here.inside m n)) near,
    )
