-- The words and the edges of a scene.
use Rattle.std.proofs.Common.{◌≡◌, ◌⊎◌, inl, inr, ⊎_elim, ℕ, zero, suc, ◌+◌, ◌<◌, ◌≤◌, ◌==◌, ◌&&◌, List, [], ◌∷◌, length, get_or, Bool, true, Option, eqb, refl, sym, ap, ◌∙◌, subst, arith}
use mathlib.Core.Logic.{dite}
use native.Mathlib.Decide.{dec_le}
use Rattle.std.specs.List.{list_any}
use Rattle.std.proofs.lemmas.Bool.{and_parts, and_from, or_cases, or_left, or_right, both_ways, cases_Bool}
use Rattle.bk_tx.specs.declared.declared.Declared.{Declared}
use Rattle.bk_tx.specs.Transaction.{Transaction}
use Rattle.bk_tx.specs.Access.{declares, writes}
use Rattle.bk_rules.specs.Ledger.{Ledger, has_slot}
use Rattle.bk_rules.proofs.Locality.{declares_written}
use Rattle.bk_conflicts.specs.Conflicts.{declared_at, clash, Edge, Waits, directly, through}
use Rattle.bk_conflicts.specs.Plan.{PlanValue, IsPlan, sum_below, after_of}
use Rattle.bk_conflicts.specs.Scene.{Scene, times, owed_below, owed, IsEdge, Chain, edge, via, AreWords, AreEdges}
use Rattle.bk_conflicts.specs.SceneOf.{reads_word, writes_word, scene_of}
use Rattle.bk_conflicts.specs.Words.{words_at}
use Rattle.bk_conflicts.specs.declared.words.WordRef.{WordRef}
use Rattle.bk_conflicts.specs.private.Trail.{has}
use Rattle.bk_conflicts.proofs.Accessed.{declared_beyond}
use Rattle.bk_conflicts.proofs.Bridge.{slot_here}
use Rattle.bk_conflicts.proofs.Cover.{cover}
use Rattle.bk_conflicts.proofs.Direct.{times_none, times_some}
use Rattle.bk_conflicts.proofs.WordsOf.{one_slot, word_found}

-- ---- words

-- who declares an account is a place
declares_inside : (txs : List (Option Transaction)) (p id : ℕ) → declares (declared_at txs p) id ≡ true → p < length txs
declares_inside txs p id d = dite (dec_le (suc p) (length txs)) (λ l. l) (λ n. absurd (both_ways _ refl (subst (λ (ds : List Declared). declares ds id ≡ true) (declared_beyond txs p (omega arith)) d)))

written_read : (ws : List WordRef) (x : ℕ) → list_any (λ (w : WordRef). w.writable && w.word == x) ws ≡ true → list_any (λ (w : WordRef). w.word == x) ws ≡ true
written_read [] x e = e
written_read (w ∷ ws) x e = ⊎_elim (λ h. or_left (w.word == x) (list_any (λ (w : WordRef). w.word == x) ws) (and_parts w.writable (w.word == x) h).1)
    (λ h. or_right (w.word == x) (list_any (λ (w : WordRef). w.word == x) ws) (written_read ws x h)) (or_cases (w.writable && w.word == x) (list_any (λ (w : WordRef). w.writable && w.word == x) ws) e)

-- an id of a slot that passes a test
among_slots : (f : ℕ → Bool) (slots : List ℕ) (a : ℕ) → a < length slots → f (get_or slots a 0) ≡ true → list_any f slots ≡ true
among_slots f [] a l e = absurd (omega arith)
among_slots f (i ∷ slots) zero l e = or_left (f i) (list_any f slots) e
among_slots f (i ∷ slots) (suc a) l e = or_right (f i) (list_any f slots) (among_slots f slots a (omega arith) e)

clash_from : (slots : List ℕ) (txs : List (Option Transaction)) (id p q : ℕ) → has_slot slots id ≡ true → declares (declared_at txs p) id ≡ true → declares (declared_at txs q) id ≡ true
    → (writes (declared_at txs p) id ≡ true) ⊎ (writes (declared_at txs q) id ≡ true) → clash slots txs id p q ≡ true
unfolding clash
clash_from slots txs id p q s d e w = and_from (has_slot slots id) _ s
    (and_from (declares (declared_at txs p) id && declares (declared_at txs q) id) _ (and_from (declares (declared_at txs p) id) (declares (declared_at txs q) id) d e)
    (⊎_elim (λ h. or_left (writes (declared_at txs p) id) (writes (declared_at txs q) id) h) (λ h. or_right (writes (declared_at txs p) id) (writes (declared_at txs q) id) h) w))

-- who reads a word and who writes it share its account
shared : (slots : List ℕ) (txs : List (Option Transaction)) (p q x : ℕ) → reads_word slots txs p x ≡ true → writes_word slots txs q x ≡ true
    → (a : ℕ) × (a < length slots) × (declares (declared_at txs p) (get_or slots a 0) ≡ true) × (writes (declared_at txs q) (get_or slots a 0) ≡ true)
shared slots txs p q x r w =
    let f = word_found (λ b. true) slots x (declared_at txs p) r in
    let g = word_found (λ b. b) slots x (declared_at txs q) w in
    let same : g.0 ≡ f.0 = one_slot x g.0 f.0 g.2.one_of f.2.one_of in (
      f.0,
      f.2.stands.inside,
      subst (λ (k : ℕ). declares (declared_at txs p) k ≡ true) (sym f.2.stands.id_is) f.3,
      subst (λ (k : ℕ). writes (declared_at txs q) k ≡ true) (sym g.2.stands.id_is ∙ ap (λ (k : ℕ). get_or slots k 0) same) g.3,
    )

pub are_words : (plan : PlanValue) (ledger : Ledger) → AreWords (scene_of plan ledger)
are_words plan ledger = record {
  places_inside = λ p x r. let f = word_found (λ b. true) plan.ids x (declared_at plan.txs p) r in declares_inside plan.txs p f.1 f.3;
  words_inside = λ p x r. let f = word_found (λ b. true) plan.ids x (declared_at plan.txs p) r in let l = f.2.stands.inside in ⊎_elim (λ e. omega arith) (λ e. omega arith) f.2.one_of;
  written_declared = λ p x w. written_read (words_at plan.ids plan.txs p) x w;
  clashes = λ p q x n r w. let s = shared plan.ids plan.txs p q x r w in
      among_slots (λ (id : ℕ). clash plan.ids plan.txs id p q) plan.ids s.0 s.1
      (clash_from plan.ids plan.txs (get_or plan.ids s.0 0) p q (slot_here plan.ids s.0 s.1) s.2 (declares_written (declared_at plan.txs q) (get_or plan.ids s.0 0) s.3) (inr s.3));
  clashes_back = λ p q x n r w. let s = shared plan.ids plan.txs p q x r w in
      among_slots (λ (id : ℕ). clash plan.ids plan.txs id q p) plan.ids s.0 s.1
      (clash_from plan.ids plan.txs (get_or plan.ids s.0 0) q p (slot_here plan.ids s.0 s.1) (declares_written (declared_at plan.txs q) (get_or plan.ids s.0 0) s.3) s.2 (inl s.3));
}

-- ---- edges

owed_sum : (s : Scene) (q n : ℕ) → owed_below s (λ _. 0) q n ≡ sum_below (λ p. times q (s.next p)) n
unfolding owed_below sum_below
owed_sum s q zero = refl
owed_sum s q (suc n) = let a = owed_sum s q n in let k : ℕ = times q (s.next n) in let e : k + owed_below s (λ _. 0) q n ≡ sum_below (λ p. times q (s.next p)) n + k = omega arith in e

declares_both : (slots : List ℕ) (txs : List (Option Transaction)) (id p q : ℕ) → clash slots txs id p q ≡ true → (declares (declared_at txs p) id ≡ true) × (declares (declared_at txs q) id ≡ true)
unfolding clash
declares_both slots txs id p q e = and_parts (declares (declared_at txs p) id) (declares (declared_at txs q) id) (and_parts (declares (declared_at txs p) id && declares (declared_at txs q) id) _ (and_parts (has_slot slots id) _ e).1).0

edge_inside : (slots : List ℕ) (txs : List (Option Transaction)) (p q : ℕ) → Edge (clash slots txs) p q → (p < length txs) × (q < length txs)
edge_inside slots txs p q e = let d = declares_both slots txs e.0 p q e.1.here in (declares_inside txs p e.0 d.0, declares_inside txs q e.0 d.1)

has_is : (q : ℕ) (xs : List ℕ) → has q xs ≡ list_any (λ (x : ℕ). eqb x q) xs
unfolding has
has_is q xs = refl

listed_times : (q : ℕ) (xs : List ℕ) → list_any (λ (x : ℕ). eqb x q) xs ≡ true → 0 < times q xs
listed_times q xs e = times_some q xs (has_is q xs ∙ e)

times_listed : (q : ℕ) (xs : List ℕ) → 0 < times q xs → list_any (λ (x : ℕ). eqb x q) xs ≡ true
times_listed q xs l = ⊎_elim (λ e. sym (has_is q xs) ∙ e) (λ e. let z = times_none q xs e in absurd (omega arith)) (cases_Bool (has q xs))

edge_of : (plan : PlanValue) (ledger : Ledger) → IsPlan plan → (p q : ℕ) → Edge (clash plan.ids plan.txs) p q → IsEdge (scene_of plan ledger) p q
edge_of plan ledger h p q e = let l = edge_inside plan.ids plan.txs p q e in (l.0, listed_times q (after_of plan p) ((h.edges p q l.0).1 e))

edge_from : (plan : PlanValue) (ledger : Ledger) → IsPlan plan → (p q : ℕ) → IsEdge (scene_of plan ledger) p q → Edge (clash plan.ids plan.txs) p q
edge_from plan ledger h p q e = (h.edges p q e.0).0 (times_listed q (after_of plan p) e.1)

chain_of : (plan : PlanValue) (ledger : Ledger) → IsPlan plan → (p q : ℕ) → Waits (clash plan.ids plan.txs) p q → Chain (scene_of plan ledger) p q
chain_of plan ledger h p q (directly _ _ e) = edge p q (edge_of plan ledger h p q e)
chain_of plan ledger h p q (through _ r _ w e) = via p r q (chain_of plan ledger h p r w) (edge_of plan ledger h r q e)

-- nothing is owed to a number that is no place
sum_none : (f : ℕ → ℕ) (n : ℕ) → ((p : ℕ) → p < n → f p ≡ 0) → sum_below f n ≡ 0
unfolding sum_below
sum_none f zero h = refl
sum_none f (suc n) h = let a = sum_none f n (λ p l. h p (omega arith)) in let b = h n (omega arith) in omega arith

owed_past : (plan : PlanValue) (ledger : Ledger) → IsPlan plan → (q : ℕ) → length plan.txs ≤ q → owed (scene_of plan ledger) (λ _. 0) q ≡ 0
owed_past plan ledger h q l = owed_sum (scene_of plan ledger) q (length plan.txs)
    ∙ sum_none (λ p. times q (after_of plan p)) (length plan.txs) (λ p low. at (times q (after_of plan p)) refl low)
  where
    at : {p : ℕ} (k : ℕ) → times q (after_of plan p) ≡ k → p < length plan.txs → k ≡ 0
    at zero e low = refl
    at {p = p} (suc k) e low = absurd (let i = edge_inside plan.ids plan.txs p q (edge_from plan ledger h p q (low, omega arith)) in let m = i.1 in omega arith)

some_id : (f : ℕ → Bool) (slots : List ℕ) → list_any f slots ≡ true → (id : ℕ) × (f id ≡ true)
some_id f [] e = absurd (both_ways _ refl e)
some_id f (i ∷ slots) e = ⊎_elim (λ h. (i, h)) (λ h. some_id f slots h) (or_cases (f i) (list_any f slots) e)

pub are_edges : (plan : PlanValue) (ledger : Ledger) → IsPlan plan → AreEdges (scene_of plan ledger)
are_edges plan ledger h = record {
  counts = λ q l. h.counts q l ∙ sym (owed_sum (scene_of plan ledger) q (length plan.txs));
  few = λ q. dite (dec_le (suc q) (length plan.txs))
      (λ l. let a = h.counts q l ∙ sym (owed_sum (scene_of plan ledger) q (length plan.txs)) in let b = h.least q l in let d = h.few_places in omega arith)
      (λ n. let a = owed_past plan ledger h q (omega arith) in omega arith);
  inside = λ p q e. (edge_inside plan.ids plan.txs p q (edge_from plan ledger h p q e)).1;
  cover = λ p q l m c. chain_of plan ledger h p q (cover (clash plan.ids plan.txs) p q l (some_id (λ (id : ℕ). clash plan.ids plan.txs id p q) plan.ids c));
}
