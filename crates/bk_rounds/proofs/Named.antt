-- One more id gets a number.
use Rattle.std.proofs.Common.{◌≡◌, ℕ, zero, suc, ◌+◌, ◌<◌, ◌≤◌, Bool, true, false, cond, not, List, [], ◌∷◌, ◌++◌, length, map, Some, None, refl, sym, ap, ◌∙◌, subst, ⊎_elim, arith, get_or, set}
use Rattle.std.specs.List.{Contains, All, AllByRecursion, position}
use Rattle.std.proofs.lemmas.List.Elements.{recursion_from_All}
use Rattle.std.specs.Bool.{Decides}
use Rattle.std.proofs.lemmas.Slice.Eq.{bytes_eq-Decides}
use Rattle.std.proofs.lemmas.Bool.{cases_lt, cases_Bool}
use Rattle.std.proofs.lemmas.List.{length-append}
use Rattle.std.proofs.lemmas.List.Sums.{sum_by-append}
use Rattle.bk_index.proofs.Found.{first_pushed}
use Rattle.bk_rounds.specs.declared.slots.Slot.{Slot}
use Rattle.bk_rounds.specs.declared.waking.Pending.{Pending}
use Rattle.bk_rounds.specs.declared.names.Names.{Names}
use Rattle.bk_rounds.specs.private.Numbered.{id_of, round_of, author_of, cert_of, parents_of, row_of, is_marked, count_unmarked, IsInsideRows}
use Rattle.bk_rounds.specs.private.Names.{set_of, has_id, known_in, AreNames, Grows, AreSame}

has_id-Decides : (q : List ℕ) (s : Slot) → Decides (has_id q s) (q ≡ s.id)
has_id-Decides q s = (
  (λ t. sym ((bytes_eq-Decides s.id q).0 t)),
  (λ e. (bytes_eq-Decides s.id q).1 (sym e)),
)

-- a field that has the default in what is pushed is everywhere as it was
pub push_field : {X Y : Type 0} (f : X → Y) (xs : List X) (s : X) (e : Y) → f s ≡ e → (i : ℕ) → get_or (map f (xs ++ s ∷ [])) i e ≡ get_or (map f xs) i e
push_field f [] s e h zero = h
push_field f [] s e h (suc i) = refl
push_field f (x ∷ xs) s e h zero = refl
push_field f (x ∷ xs) s e h (suc i) = push_field f xs s e h i

pub push_before : {X : Type 0} (xs : List X) (s e : X) (i : ℕ) → i < length xs → get_or (xs ++ s ∷ []) i e ≡ get_or xs i e
push_before [] s e i low = absurd (omega arith)
push_before (x ∷ xs) s e zero low = refl
push_before (x ∷ xs) s e (suc i) low = push_before xs s e i (omega arith)

pub push_at : {X : Type 0} (xs : List X) (s e : X) → get_or (xs ++ s ∷ []) (length xs) e ≡ s
push_at [] s e = refl
push_at (x ∷ xs) s e = push_at xs s e

pub push_default : {X : Type 0} (xs : List X) (e : X) (i : ℕ) → get_or (xs ++ e ∷ []) i e ≡ get_or xs i e
push_default [] e zero = refl
push_default [] e (suc i) = refl
push_default (x ∷ xs) e zero = refl
push_default (x ∷ xs) e (suc i) = push_default xs e i

pub map_push : {X Y : Type 0} (f : X → Y) (xs : List X) (s : X) → map f (xs ++ s ∷ []) ≡ map f xs ++ f s ∷ []
map_push f [] s = refl
map_push f (x ∷ xs) s = ap (λ ys. f x ∷ ys) (map_push f xs s)

pub length_map : {X Y : Type 0} (f : X → Y) (xs : List X) → length (map f xs) ≡ length xs
length_map f [] = refl
length_map f (x ∷ xs) = ap suc (length_map f xs)

pub grows_on : (a b c : Names) → Grows a b → Grows b c → Grows a c
grows_on a b c h k = record {
  names = k.names;
  longer = omega (arith, h.longer, k.longer);
  id = λ i low. k.id i (let l = h.longer in omega arith) ∙ h.id i low;
  round = λ i. k.round i ∙ h.round i;
  author = λ i. k.author i ∙ h.author i;
  cert = λ i. k.cert i ∙ h.cert i;
  parents = λ i. k.parents i ∙ h.parents i;
  marked = λ i. k.marked i ∙ h.marked i;
  set = λ i low. k.set i (let l = h.longer in omega arith) ∙ h.set i low;
  kept = λ m i t. k.kept m i (h.kept m i t);
}

-- an id was given the next number
pub record Pushes (a b : Names) (id : List ℕ) (slot : Slot) (set : ℕ) : Type 0 where
  pub id_is : slot.id ≡ id
  pub round_is : slot.round ≡ 0
  pub author_is : slot.author ≡ 0
  pub cert_is : slot.cert ≡ 0
  pub none : slot.parents.items ≡ []
  pub slots : b.slots ≡ a.slots ++ slot ∷ []
  pub marks : b.marks.items ≡ a.marks.items ++ false ∷ []
  pub pending : b.pending ≡ a.pending
  pub sets : b.sets.items ≡ a.sets.items ++ set ∷ []
  pub unmarked : b.unmarked ≡ a.unmarked + 1

row_same : (a b : Names) (id : List ℕ) (slot : Slot) (set : ℕ) → Pushes a b id slot set → (m : ℕ) → row_of b.pending m ≡ row_of a.pending m
row_same a b id slot set p m = ap (λ (xs : Pending). row_of xs m) p.pending

id_before : (a b : Names) (id : List ℕ) (slot : Slot) (set : ℕ) → Pushes a b id slot set → (i : ℕ) → i < length a.slots
    → id_of b.slots i ≡ id_of a.slots i
id_before a b id slot set p i low =
    let few : i < length (map (λ (x : Slot). x.id) a.slots) = subst (λ (k : ℕ). i < k) (sym (length_map (λ (x : Slot). x.id) a.slots)) low in
    ap (λ xs. id_of xs i) p.slots ∙ (ap (λ ys. get_or ys i []) (map_push (λ (x : Slot). x.id) a.slots slot)
    ∙ push_before (map (λ (x : Slot). x.id) a.slots) slot.id [] i few)

pub id_at : (a b : Names) (id : List ℕ) (slot : Slot) (set : ℕ) → Pushes a b id slot set → id_of b.slots (length a.slots) ≡ id
id_at a b id slot set p =
    ap (λ xs. id_of xs (length a.slots)) p.slots ∙ (ap (λ ys. get_or ys (length a.slots) []) (map_push (λ (x : Slot). x.id) a.slots slot)
    ∙ (ap (λ k. get_or (map (λ (x : Slot). x.id) a.slots ++ slot.id ∷ []) k []) (sym (length_map (λ (x : Slot). x.id) a.slots))
    ∙ (push_at (map (λ (x : Slot). x.id) a.slots) slot.id [] ∙ p.id_is)))

names_pushed : (a b : Names) (id : List ℕ) (slot : Slot) (set : ℕ) → AreNames a → known_in a id ≡ None → Pushes a b id slot set → AreNames b
names_pushed a b id slot set n new p = record {
  marks = let e = ap length p.marks in let f = ap length p.slots in
      omega (arith, e, f, n.marks, length-append a.marks.items (false ∷ []), length-append a.slots (slot ∷ []));
  sets = let e = ap length p.sets in let f = ap length p.slots in
      omega (arith, e, f, n.sets, length-append a.sets.items (set ∷ []), length-append a.slots (slot ∷ []));
  rows = λ m i h.
      let low = n.rows m i (subst (λ (xs : List ℕ). Contains xs i) (row_same a b id slot set p m) h) in
      let f = ap length p.slots in omega (arith, low, f, length-append a.slots (slot ∷ []));
  waiting = p.unmarked ∙ (ap (λ k. k + 1) n.waiting ∙ (sym (sum_by-append (λ (v : Bool). cond (not v) 1 0) a.marks.items (false ∷ [])) ∙ ap count_unmarked (sym p.marks)));
  numbering = record {
    sound = λ q k e. ⊎_elim
        (λ t.
        let is : length a.slots ≡ k = some_same _ _ (sym (updates q ∙ ap (λ v. cond v (Some (length a.slots)) (known_in a q)) t) ∙ e) in
        let f = ap length p.slots in (
          omega (arith, is, f, length-append a.slots (slot ∷ [])),
          ap (id_of b.slots) (sym is) ∙ (id_at a b id slot set p ∙ sym (same q t)),
        ))
        (λ g.
        let h = n.numbering.sound q k (sym (updates q ∙ ap (λ v. cond v (Some (length a.slots)) (known_in a q)) g) ∙ e) in
        let f = ap length p.slots in
        (omega (arith, h.0, f, length-append a.slots (slot ∷ [])), id_before a b id slot set p k h.0 ∙ h.1))
        (cases_Bool (has_id q slot));
    complete = λ k low. ⊎_elim
        (λ lt. ap (known_in b) (id_before a b id slot set p k lt)
        ∙ (updates (id_of a.slots k)
        ∙ (ap (λ v. cond v (Some (length a.slots)) (known_in a (id_of a.slots k))) (apart k lt) ∙ n.numbering.complete k lt)))
        (λ ge.
        let f = ap length p.slots in
        let is : length a.slots ≡ k = omega (arith, low, ge, f, length-append a.slots (slot ∷ [])) in
        ap (λ j. known_in b (id_of b.slots j)) (sym is)
        ∙ (ap (known_in b) (id_at a b id slot set p)
        ∙ (updates id ∙ (ap (λ v. cond v (Some (length a.slots)) (known_in a id)) ((has_id-Decides id slot).1 (sym p.id_is)) ∙ ap Some is))))
        (cases_lt k (length a.slots));
  };
}
  where
    some_same : (i j : ℕ) → Some i ≡ Some j → i ≡ j
    some_same i j e = cc

    never : (k : ℕ) → None ≡ Some k → ⊥
    never k e = cc

    same : (q : List ℕ) → has_id q slot ≡ true → q ≡ id
    same q t = (has_id-Decides q slot).0 t ∙ p.id_is

    updates : (q : List ℕ) → known_in b q ≡ cond (has_id q slot) (Some (length a.slots)) (known_in a q)
    updates q = ap (position (has_id q)) p.slots ∙ first_pushed (λ (x : Slot). x.id) a.slots slot (ap (λ i. position (has_id i) a.slots) p.id_is ∙ new) q

    apart : (k : ℕ) → k < length a.slots → has_id (id_of a.slots k) slot ≡ false
    apart k lt = ⊎_elim
        (λ t. absurd (never k (sym new ∙ (ap (known_in a) (sym (same (id_of a.slots k) t)) ∙ n.numbering.complete k lt))))
        (λ f. f)
        (cases_Bool (has_id (id_of a.slots k) slot))

-- numbers keep their ids
pub grows_pushed : (a b : Names) (id : List ℕ) (slot : Slot) (set : ℕ) → AreNames a → known_in a id ≡ None → Pushes a b id slot set → Grows a b
grows_pushed a b id slot set n new p = record {
  names = names_pushed a b id slot set n new p;
  longer = let e = ap length p.slots in omega (arith, e, length-append a.slots (slot ∷ []));
  id = id_before a b id slot set p;
  round = λ i. ap (λ xs. round_of xs i) p.slots ∙ push_field (λ (x : Slot). x.round) a.slots slot 0 p.round_is i;
  author = λ i. ap (λ xs. author_of xs i) p.slots ∙ push_field (λ (x : Slot). x.author) a.slots slot 0 p.author_is i;
  cert = λ i. ap (λ xs. cert_of xs i) p.slots ∙ push_field (λ (x : Slot). x.cert) a.slots slot 0 p.cert_is i;
  parents = λ i. ap (λ xs. parents_of xs i) p.slots ∙ push_field (λ (x : Slot). x.parents.items) a.slots slot [] p.none i;
  marked = λ i. ap (λ xs. is_marked xs i) p.marks ∙ push_default a.marks.items false i;
  set = λ i low. ap (λ xs. set_of xs i) p.sets ∙ push_before a.sets.items set 0 i (subst (λ (k : ℕ). i < k) (sym n.sets) low);
  kept = λ m i h. subst (λ (xs : List ℕ). Contains xs i) (sym (row_same a b id slot set p m)) h;
}

pub ids_kept : (a b : Names) (ps : List ℕ) → Grows a b → All (λ p. p < length a.slots) ps → map (id_of b.slots) ps ≡ map (id_of a.slots) ps
ids_kept a b ps g low = same ps (recursion_from_All _ ps low)
  where
    same : (qs : List ℕ) → AllByRecursion (λ p. p < length a.slots) qs → map (id_of b.slots) qs ≡ map (id_of a.slots) qs
    same [] h = refl
    same (q ∷ qs) h = let first = g.id q h.0 in let rest = same qs h.1 in λ i. first i ∷ rest i

pub inside_more : (n m : ℕ) (ps : List ℕ) → n ≤ m → All (λ p. p < n) ps → All (λ p. p < m) ps
inside_more n m ps more h = λ k d low. let l = h k d low in omega (arith, l, more)

pub inside_push : (n : ℕ) (ps : List ℕ) (k : ℕ) → All (λ p. p < n) ps → k < n → All (λ p. p < n) (ps ++ k ∷ [])
inside_push n ps k h low = λ i d within. ⊎_elim
    (λ lt. subst (λ (x : ℕ). x < n) (sym (push_before ps k d i lt)) (h i d lt))
    (λ ge.
    let e : length ps ≡ i = omega (arith, within, ge, length-append ps (k ∷ [])) in
    subst (λ (x : ℕ). x < n) (sym (ap (λ j. get_or (ps ++ k ∷ []) j d) (sym e) ∙ push_at ps k d)) low)
    (cases_lt i (length ps))

pub id_pushed : (xs ys : List Slot) (s : Slot) (n : ℕ) → ys ≡ xs ++ s ∷ [] → n ≡ length xs → id_of ys n ≡ s.id
id_pushed xs ys s n e is =
    ap (λ zs. id_of zs n) e ∙ (ap (λ us. get_or us n []) (map_push (λ (x : Slot). x.id) xs s)
    ∙ (ap (λ k. get_or (map (λ (x : Slot). x.id) xs ++ s.id ∷ []) k []) (is ∙ sym (length_map (λ (x : Slot). x.id) xs))
    ∙ push_at (map (λ (x : Slot). x.id) xs) s.id []))

-- rows have gained
names_rows : (a b : Names) → AreNames a → b.slots ≡ a.slots → b.marks.items ≡ a.marks.items → b.sets.items ≡ a.sets.items → b.unmarked ≡ a.unmarked
    → IsInsideRows (length a.slots) b.pending → AreNames b
names_rows a b n slots marks sets unmarked rows = record {
  marks = ap length marks ∙ (n.marks ∙ sym (ap length slots));
  sets = ap length sets ∙ (n.sets ∙ sym (ap length slots));
  rows = subst (λ (k : ℕ). IsInsideRows k b.pending) (sym (ap length slots)) rows;
  waiting = unmarked ∙ (n.waiting ∙ ap count_unmarked (sym marks));
  numbering = record {
    sound = λ q k e. let h = n.numbering.sound q k (sym (known q) ∙ e) in
        (subst (λ (v : List Slot). k < length v) (sym slots) h.0, ap (λ v. id_of v k) slots ∙ h.1);
    complete = λ k low. let h = n.numbering.complete k (subst (λ (v : List Slot). k < length v) slots low) in
        known (id_of b.slots k) ∙ (ap (λ v. known_in a (id_of v k)) slots ∙ h);
  };
}
  where
    known : (q : List ℕ) → known_in b q ≡ known_in a q
    known q = ap (position (has_id q)) slots

pub grows_rows : (a b : Names) → AreNames a → b.slots ≡ a.slots → b.marks.items ≡ a.marks.items → b.sets.items ≡ a.sets.items → b.unmarked ≡ a.unmarked
    → IsInsideRows (length a.slots) b.pending → ((m i : ℕ) → Contains (row_of a.pending m) i → Contains (row_of b.pending m) i) → Grows a b
grows_rows a b n slots marks sets unmarked rows kept = record {
  names = names_rows a b n slots marks sets unmarked rows;
  longer = let e = ap length slots in omega arith;
  id = λ i low. ap (λ v. id_of v i) slots;
  round = λ i. ap (λ v. round_of v i) slots;
  author = λ i. ap (λ v. author_of v i) slots;
  cert = λ i. ap (λ v. cert_of v i) slots;
  parents = λ i. ap (λ v. parents_of v i) slots;
  marked = λ i. ap (λ v. is_marked v i) marks;
  set = λ i low. ap (λ v. set_of v i) sets;
  kept = kept;
}

pub grows_same : (a b : Names) → AreNames a → AreSame a b → Grows a b
grows_same a b n s = grows_rows a b n s.slots s.marks s.sets s.unmarked
    (subst (IsInsideRows (length a.slots)) (sym s.pending) n.rows)
    (λ m i h. subst (λ (xs : Pending). Contains (row_of xs m) i) (sym s.pending) h)
