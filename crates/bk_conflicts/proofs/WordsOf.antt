-- Which words are those of a declared account.
use Rattle.std.proofs.Common.{◌≡◌, ◌⊎◌, inl, inr, ⊎_elim, ℕ, ◌+◌, ◌*◌, ◌==◌, ◌&&◌, ◌||◌, List, [], ◌∷◌, ◌++◌, flat_map, Bool, true, Option, None, Some, refl, sym, ◌∙◌, subst, arith, eq-eqb}
use Rattle.std.specs.List.{list_any}
use Rattle.std.proofs.lemmas.Bool.{and_parts, and_from, or_cases, or_left, or_right, both_ways, eqb-true}
use Rattle.bk_tx.specs.declared.declared.Declared.{Declared}
use Rattle.bk_rules.proofs.Finding.{Rises, stands_at}
use Rattle.bk_conflicts.specs.Words.{slot_of, words_in, words_of}
use Rattle.bk_conflicts.specs.declared.words.WordRef.{WordRef}
use Rattle.bk_conflicts.proofs.Accessed.{StandsAt, slot_there}

-- x is a word of slot a, which is that of this id
pub record IsWordOf (slots : List ℕ) (x a id : ℕ) : Type 0 where
  pub stands : StandsAt slots id a
  pub one_of : (x ≡ 2 * a) ⊎ (x ≡ 2 * a + 1)

pub one_slot : (x a b : ℕ) → (x ≡ 2 * a) ⊎ (x ≡ 2 * a + 1) → (x ≡ 2 * b) ⊎ (x ≡ 2 * b + 1) → a ≡ b
one_slot x a b e f = ⊎_elim (λ h. ⊎_elim (λ k. omega arith) (λ k. absurd (omega arith)) f) (λ h. ⊎_elim (λ k. absurd (omega arith)) (λ k. omega arith) f) e

-- declared with a mode that passes the test
abbrev pub declared_as : (Bool → Bool) → List Declared → ℕ → Bool
declared_as g ds id = list_any (λ (d : Declared). g d.writable && d.id == id) ds

-- among these words with a mode that passes the test
abbrev pub among_as : (Bool → Bool) → List WordRef → ℕ → Bool
among_as g ws x = list_any (λ (w : WordRef). g w.writable && w.word == x) ws

abbrev pub Found : (Bool → Bool) → List ℕ → ℕ → List Declared → Type 0
Found g slots x ds = (a : ℕ) × (id : ℕ) × IsWordOf slots x a id × (declared_as g ds id ≡ true)

pub word_found : (g : Bool → Bool) (slots : List ℕ) (x : ℕ) (ds : List Declared) → among_as g (flat_map (words_of slots) ds) x ≡ true → Found g slots x ds
word_found g slots x [] e = absurd (both_ways _ refl e)
word_found g slots x (d ∷ ds) e = at (slot_of slots d.id) refl e (word_found g slots x ds)
  where
    later : Found g slots x ds → Found g slots x (d ∷ ds)
    later w = (w.0, w.1, w.2, or_right (g d.writable && d.id == w.1) (declared_as g ds w.1) w.3)

    here : g d.writable ≡ true → declared_as g (d ∷ ds) d.id ≡ true
    here h = or_left (g d.writable && d.id == d.id) (declared_as g ds d.id) (and_from (g d.writable) (d.id == d.id) h (eq-eqb d.id d.id refl))

    at : (o : Option ℕ) → slot_of slots d.id ≡ o → among_as g (words_in d.writable o ++ flat_map (words_of slots) ds) x ≡ true → (among_as g (flat_map (words_of slots) ds) x ≡ true → Found g slots x ds) → Found g slots x (d ∷ ds)
    at None s e ih = later (ih e)
    at (Some a) s e ih = ⊎_elim
        (λ h. let both = and_parts (g d.writable) (2 * a == x) h in (a, d.id, record { stands = slot_there slots d.id a s; one_of = inl (sym (eqb-true (2 * a) x both.1)) }, here both.0))
        (λ h. ⊎_elim
        (λ k. let both = and_parts (g d.writable) (2 * a + 1 == x) k in (a, d.id, record { stands = slot_there slots d.id a s; one_of = inr (sym (eqb-true (2 * a + 1) x both.1)) }, here both.0))
        (λ k. later (ih k))
        (or_cases (g d.writable && 2 * a + 1 == x) (among_as g (flat_map (words_of slots) ds) x) h))
        (or_cases (g d.writable && 2 * a == x) ((g d.writable && 2 * a + 1 == x) || among_as g (flat_map (words_of slots) ds) x) e)

pub word_there : (g : Bool → Bool) (slots : List ℕ) → Rises slots → (x a id : ℕ) → IsWordOf slots x a id → (ds : List Declared) → declared_as g ds id ≡ true → among_as g (flat_map (words_of slots) ds) x ≡ true
word_there g slots up x a id w [] e = absurd (both_ways _ refl e)
word_there g slots up x a id w (d ∷ ds) e = ⊎_elim
    (λ h. let both = and_parts (g d.writable) (d.id == id) h in
    subst (λ (o : Option ℕ). among_as g (words_in d.writable o ++ flat_map (words_of slots) ds) x ≡ true)
    (stands_at slots up d.id a w.stands.inside (w.stands.id_is ∙ sym (eqb-true d.id id both.1))) (here both.0 w.one_of))
    (λ h. later (slot_of slots d.id) (word_there g slots up x a id w ds h))
    (or_cases (g d.writable && d.id == id) (declared_as g ds id) e)
  where
    here : g d.writable ≡ true → (x ≡ 2 * a) ⊎ (x ≡ 2 * a + 1) → among_as g (words_in d.writable (Some a) ++ flat_map (words_of slots) ds) x ≡ true
    here h (inl m) = or_left (g d.writable && 2 * a == x) ((g d.writable && 2 * a + 1 == x) || among_as g (flat_map (words_of slots) ds) x) (and_from (g d.writable) (2 * a == x) h (eq-eqb (2 * a) x (sym m)))
    here h (inr m) = or_right (g d.writable && 2 * a == x) ((g d.writable && 2 * a + 1 == x) || among_as g (flat_map (words_of slots) ds) x)
        (or_left (g d.writable && 2 * a + 1 == x) (among_as g (flat_map (words_of slots) ds) x) (and_from (g d.writable) (2 * a + 1 == x) h (eq-eqb (2 * a + 1) x (sym m))))

    later : (o : Option ℕ) → among_as g (flat_map (words_of slots) ds) x ≡ true → among_as g (words_in d.writable o ++ flat_map (words_of slots) ds) x ≡ true
    later None h = h
    later (Some b) h = or_right (g d.writable && 2 * b == x) ((g d.writable && 2 * b + 1 == x) || among_as g (flat_map (words_of slots) ds) x)
        (or_right (g d.writable && 2 * b + 1 == x) (among_as g (flat_map (words_of slots) ds) x) h)
