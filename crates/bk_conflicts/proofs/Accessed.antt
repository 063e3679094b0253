-- The slots that declared accounts have, and their words.
use Rattle.std.proofs.Common.{◌≡◌, ℕ, zero, suc, ◌+◌, ◌*◌, ◌<◌, ◌≤◌, List, [], ◌∷◌, ◌++◌, length, take, get_or, flat_map, All, AllPairs, Option, None, Some, eqb, refl, sym, ap, ◌∙◌, subst, arith, append-nil, append_assoc}
use mathlib.Core.Logic.{dite}
use native.Mathlib.Decide.{ℕ_discrete, dec_le}
use Rattle.std.proofs.lemmas.Bool.{eqb-true}
use Rattle.std.proofs.lemmas.List.{take_more, get_or_default}
use Rattle.std.proofs.lemmas.List.Elements.{All-cons}
use Rattle.std.proofs.lemmas.List.Kept.{AllPairs-cons}
use Rattle.std.proofs.lemmas.List.Quantifiers.{position-Some}
use Rattle.std.proofs.lemmas.Grind.{flat_map-append}
use Rattle.bk_tx.specs.declared.declared.Declared.{Declared}
use Rattle.bk_tx.specs.Access.{no_declared, declared_ids}
use Rattle.bk_rules.proofs.Finding.{Rises, rises_by_index, rises_tail, rises_head}
use Rattle.bk_tx.specs.Transaction.{Transaction}
use Rattle.bk_conflicts.specs.Conflicts.{declared_at, declared_by}
use Rattle.bk_conflicts.specs.Plan.{AreDeclared}
use Rattle.bk_conflicts.specs.Words.{slot_of, words_in, words_of, words_at}
use Rattle.bk_conflicts.specs.declared.words.Access.{Access}
use Rattle.bk_conflicts.specs.declared.words.WordRef.{WordRef}
use Rattle.bk_conflicts.specs.private.Accesses.{access_in, accesses_of, places_of, IsAscending}
use Rattle.bk_conflicts.specs.private.Words.{words_of_slots}

-- ---- the slot of an id

pub record StandsAt (slots : List ℕ) (id s : ℕ) : Type 0 where
  pub inside : s < length slots
  pub id_is : get_or slots s 0 ≡ id

pub slot_there : (slots : List ℕ) (id s : ℕ) → slot_of slots id ≡ Some s → StandsAt slots id s
slot_there slots id s e = let w = position-Some (λ (i : ℕ). eqb i id) slots s 0 e in record { inside = w.0; id_is = eqb-true (get_or slots s 0) id w.1 }

-- slots are in the order of their ids
pub slots_order : (slots : List ℕ) → Rises slots → (id jd s u : ℕ) → StandsAt slots id s → StandsAt slots jd u → id < jd → s < u
slots_order slots up id jd s u a b l = dite (dec_le (suc s) u) (λ m. m)
    (λ n. let ai = a.id_is in let bi = b.id_is in dite (ℕ_discrete u s)
    (λ same. let e = ap (λ (k : ℕ). get_or slots k 0) same in absurd (omega arith))
    (λ other. let h = rises_by_index slots up u s (omega arith) a.inside in absurd (omega arith)))

-- ---- one account more

pub accesses_more : (slots : List ℕ) (ds : List Declared) (k : ℕ) → k < length ds
    → accesses_of slots (take (k + 1) ds) ≡ accesses_of slots (take k ds) ++ access_in (get_or ds k no_declared).writable (slot_of slots (get_or ds k no_declared).id)
accesses_more slots ds k l = let f : Declared → List Access = λ d. access_in d.writable (slot_of slots d.id) in
    ap (flat_map f) (take_more ds k no_declared l) ∙ (flat_map-append f (take k ds) (get_or ds k no_declared ∷ []) ∙ ap (λ (ys : List Access). flat_map f (take k ds) ++ ys) (append-nil (f (get_or ds k no_declared))))

pub access_next : (slots : List ℕ) (ds : List Declared) (k : ℕ) (d : Declared) (o : Option ℕ) (old xs new : List Access) → k < length ds → d ≡ get_or ds k no_declared
    → o ≡ slot_of slots d.id → xs ≡ old ++ accesses_of slots (take k ds) → new ≡ xs ++ access_in d.writable o → new ≡ old ++ accesses_of slots (take (k + 1) ds)
access_next slots ds k d o old xs new l here found so_far is = is
    ∙ (ap (λ (ys : List Access). ys ++ access_in d.writable o) so_far
    ∙ (append_assoc old (accesses_of slots (take k ds)) (access_in d.writable o)
    ∙ ap (λ (ys : List Access). old ++ ys) (ap (λ (p : Option ℕ). accesses_of slots (take k ds) ++ access_in d.writable p) found
    ∙ (ap (λ (e : Declared). accesses_of slots (take k ds) ++ access_in e.writable (slot_of slots e.id)) here
    ∙ sym (accesses_more slots ds k l)))))

-- ---- they are slots, in ascending order

pub accesses_low : (slots : List ℕ) (ds : List Declared) → All (λ (x : Access). x.slot < length slots) (accesses_of slots ds)
accesses_low slots [] = λ i d l. absurd (omega arith)
accesses_low slots (d ∷ ds) = at (slot_of slots d.id) refl (accesses_low slots ds)
  where
    at : (o : Option ℕ) → slot_of slots d.id ≡ o → All (λ (x : Access). x.slot < length slots) (accesses_of slots ds) → All (λ (x : Access). x.slot < length slots) (access_in d.writable o ++ accesses_of slots ds)
    at None e h = h
    at (Some s) e h = All-cons (λ (x : Access). x.slot < length slots) (record { slot = s; writable = d.writable }) (accesses_of slots ds) (slot_there slots d.id s e).inside h

-- the ids of these accounts are greater
abbrev pub AreAbove : ℕ → List Declared → Type 0
AreAbove id ds = (k : ℕ) → k < length ds → id < (get_or ds k no_declared).id

accesses_above : (slots : List ℕ) → Rises slots → (id s : ℕ) → StandsAt slots id s → (ds : List Declared) → AreAbove id ds → All (λ (x : Access). s < x.slot) (accesses_of slots ds)
accesses_above slots up id s here [] above = λ i d l. absurd (omega arith)
accesses_above slots up id s here (d ∷ ds) above = at (slot_of slots d.id) refl (accesses_above slots up id s here ds (λ k l. above (suc k) (omega arith)))
  where
    at : (o : Option ℕ) → slot_of slots d.id ≡ o → All (λ (x : Access). s < x.slot) (accesses_of slots ds) → All (λ (x : Access). s < x.slot) (access_in d.writable o ++ accesses_of slots ds)
    at None e h = h
    at (Some u) e h = All-cons (λ (x : Access). s < x.slot) (record { slot = u; writable = d.writable }) (accesses_of slots ds) (slots_order slots up id d.id s u here (slot_there slots d.id u e) (above 0 (omega arith))) h

abbrev pub Rise : List Declared → Type 0
Rise ds = Rises (declared_ids ds)

ids_at : (ds : List Declared) (k : ℕ) → k < length ds → get_or (declared_ids ds) k 0 ≡ (get_or ds k no_declared).id
ids_at [] k l = absurd (omega arith)
ids_at (d ∷ ds) zero l = refl
ids_at (d ∷ ds) (suc k) l = ids_at ds k (omega arith)

ids_long : (ds : List Declared) → length (declared_ids ds) ≡ length ds
ids_long [] = refl
ids_long (d ∷ ds) = ap suc (ids_long ds)

rise_head : (d : Declared) (ds : List Declared) → Rise (d ∷ ds) → AreAbove d.id ds
rise_head d ds up k l = let h = rises_head d.id (declared_ids ds) up k (let n = ids_long ds in omega arith) in let e = ids_at ds k l in omega arith

rise_tail : (d : Declared) (ds : List Declared) → Rise (d ∷ ds) → Rise ds
rise_tail d ds up = rises_tail d.id (declared_ids ds) up

pub accesses_ascend : (slots : List ℕ) → Rises slots → (ds : List Declared) → Rise ds → IsAscending (accesses_of slots ds)
accesses_ascend slots up [] rise = λ i j d l m. absurd (omega arith)
accesses_ascend slots up (d ∷ ds) rise = at (slot_of slots d.id) refl (accesses_ascend slots up ds (rise_tail d ds rise))
  where
    at : (o : Option ℕ) → slot_of slots d.id ≡ o → IsAscending (accesses_of slots ds) → IsAscending (access_in d.writable o ++ accesses_of slots ds)
    at None e h = h
    at (Some s) e h = AllPairs-cons (λ (x y : Access). x.slot < y.slot) (record { slot = s; writable = d.writable }) (accesses_of slots ds)
        (accesses_above slots up d.id s (slot_there slots d.id s e) ds (rise_head d ds rise)) h

pub accesses_few : (slots : List ℕ) (ds : List Declared) → length (accesses_of slots ds) ≤ length ds
accesses_few slots [] = omega arith
accesses_few slots (d ∷ ds) = at (slot_of slots d.id) (accesses_few slots ds)
  where
    at : (o : Option ℕ) → length (accesses_of slots ds) ≤ length ds → length (access_in d.writable o ++ accesses_of slots ds) ≤ suc (length ds)
    at None h = omega arith
    at (Some s) h = omega arith

-- ---- words

pub words_more : (xs : List Access) (j : ℕ) (d : Access) → j < length xs → words_of_slots (take (j + 1) xs) ≡ words_of_slots (take j xs) ++ words_in (get_or xs j d).writable (Some (get_or xs j d).slot)
words_more xs j d l = let f : Access → List WordRef = λ x. words_in x.writable (Some x.slot) in
    ap (flat_map f) (take_more xs j d l) ∙ flat_map-append f (take j xs) (get_or xs j d ∷ [])

pub words_as_slots : (slots : List ℕ) (ds : List Declared) → words_of_slots (accesses_of slots ds) ≡ flat_map (words_of slots) ds
words_as_slots slots [] = refl
words_as_slots slots (d ∷ ds) = at (slot_of slots d.id) (words_as_slots slots ds)
  where
    at : (o : Option ℕ) → words_of_slots (accesses_of slots ds) ≡ flat_map (words_of slots) ds → words_of_slots (access_in d.writable o ++ accesses_of slots ds) ≡ words_in d.writable o ++ flat_map (words_of slots) ds
    at None h = h
    at (Some s) h = ap (λ (ws : List WordRef). words_in d.writable (Some s) ++ ws) h

pub words_long : (xs : List Access) → length (words_of_slots xs) ≡ 2 * length xs
words_long [] = refl
words_long (x ∷ xs) = let h = words_long xs in let e : suc (suc (length (words_of_slots xs))) ≡ 2 * suc (length xs) = omega arith in e

words_above : (s : ℕ) (xs : List Access) → All (λ (x : Access). s < x.slot) xs → All (λ (w : WordRef). 2 * s + 1 < w.word) (words_of_slots xs)
words_above s [] h = λ i d l. absurd (omega arith)
words_above s (x ∷ xs) h = let m : s < x.slot = h 0 x (omega arith) in
    All-cons (λ (w : WordRef). 2 * s + 1 < w.word) (record { word = 2 * x.slot; writable = x.writable }) (record { word = 2 * x.slot + 1; writable = x.writable } ∷ words_of_slots xs) (omega arith)
    (All-cons (λ (w : WordRef). 2 * s + 1 < w.word) (record { word = 2 * x.slot + 1; writable = x.writable }) (words_of_slots xs) (omega arith) (words_above s xs (λ i d l. h (suc i) d (omega arith))))

pub words_ascend : (xs : List Access) → IsAscending xs → AllPairs (λ (x y : WordRef). x.word < y.word) (words_of_slots xs)
words_ascend [] h = λ i j d l m. absurd (omega arith)
words_ascend (x ∷ xs) h =
    let above = words_above x.slot xs (λ i d l. h 0 (suc i) d (omega arith) (omega arith)) in
    let rest = words_ascend xs (λ i j d l m. h (suc i) (suc j) d (omega arith) (omega arith)) in
    AllPairs-cons (λ (x y : WordRef). x.word < y.word) (record { word = 2 * x.slot; writable = x.writable }) (record { word = 2 * x.slot + 1; writable = x.writable } ∷ words_of_slots xs)
    (All-cons (λ (w : WordRef). 2 * x.slot < w.word) (record { word = 2 * x.slot + 1; writable = x.writable }) (words_of_slots xs) (omega arith) (λ i d l. let a = above i d l in omega arith))
    (AllPairs-cons (λ (x y : WordRef). x.word < y.word) (record { word = 2 * x.slot + 1; writable = x.writable }) (words_of_slots xs) above rest)

-- ---- the same of a place

pub places_low : (slots : List ℕ) (txs : List (Option Transaction)) (q : ℕ) → All (λ (x : Access). x.slot < length slots) (places_of slots txs q)
unfolding places_of
places_low slots txs q = accesses_low slots (declared_at txs q)

pub places_ascend : (slots : List ℕ) (txs : List (Option Transaction)) (q : ℕ) → Rises slots → AreDeclared (declared_at txs q) → IsAscending (places_of slots txs q)
unfolding places_of
places_ascend slots txs q up h = accesses_ascend slots up (declared_at txs q) h.ascending

pub places_words : (slots : List ℕ) (txs : List (Option Transaction)) (q : ℕ) → words_of_slots (places_of slots txs q) ≡ words_at slots txs q
unfolding places_of
places_words slots txs q = words_as_slots slots (declared_at txs q)

-- past the end nothing is declared
pub declared_beyond : (txs : List (Option Transaction)) (q : ℕ) → length txs ≤ q → declared_at txs q ≡ []
declared_beyond [] q l = refl
declared_beyond (t ∷ txs) zero l = absurd (omega arith)
declared_beyond (t ∷ txs) (suc q) l = declared_beyond txs q (omega arith)

-- those of the first n are sound, and beyond there are none
pub all_declared : (txs : List (Option Transaction)) (n : ℕ) → length txs ≤ n → ((k : ℕ) → k < n → AreDeclared (declared_at txs k)) → (q : ℕ) → AreDeclared (declared_at txs q)
all_declared txs n l h q = dite (dec_le (suc q) n) (λ m. h q m) (λ m. subst AreDeclared (sym (declared_beyond txs q (omega arith))) (record { few = omega arith; ascending = refl }))

-- what a place accesses, by its transaction
pub place_by : (slots : List ℕ) (txs : List (Option Transaction)) (q : ℕ) (found t : Option Transaction) → q < length txs → found ≡ get_or txs q found → found ≡ t → accesses_of slots (declared_by t) ≡ places_of slots txs q
unfolding places_of
place_by slots txs q found t l at is = ap (λ (u : Option Transaction). accesses_of slots (declared_by u)) (sym is ∙ (at ∙ get_or_default txs q found None l))
