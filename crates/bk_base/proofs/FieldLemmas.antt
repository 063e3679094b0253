-- A field that is read is the field that was written, and what was written is read again.
use Rattle.std.proofs.Common.{◌≡◌, ℕ, zero, suc, ◌+◌, ◌^◌, ◌<◌, ◌≤◌, Bool, true, false, cond, ltb, List, [], ◌∷◌, ◌++◌, length, take, drop, Option, Some, None, refl, sym, ap, subst, ◌∙◌, append_assoc, arith, inl, inr}
use Rattle.std.specs.List.{flat_map, AllByRecursion}
use Rattle.std.specs.Int.{Width, w8, w16, w32, w64, byte_len, from_be_bytes, to_be_bytes}
use Rattle.std.proofs.lemmas.Bool.{cases_lt, ltb-false, le-ltb}
use Rattle.std.proofs.lemmas.List.{take_at, drop_at, take-append-drop, length-append, length-take, get_or-drop, get_or-take, get_or_past}
use Rattle.std.proofs.lemmas.List.Concat.{flat_map-cons}
use Rattle.std.proofs.lemmas.Nat.{be_bytes_2, be_bytes_4, be_bytes_8, from_be_bytes-to_be_bytes_2, from_be_bytes-to_be_bytes_4, from_be_bytes-to_be_bytes_8}
use Rattle.bk_base.specs.Numbers.{IsBytes, ◌>>=◌, number_at, bytes_at, list_at}

-- ---- bytes

pub IsBytes-drop : (n : ℕ) (bytes : List ℕ) → IsBytes bytes → IsBytes (drop n bytes)
IsBytes-drop n bytes h i = rw get_or-drop (h (n + i))

pub IsBytes-take : (n : ℕ) (bytes : List ℕ) → IsBytes bytes → IsBytes (take n bytes)
IsBytes-take n bytes h i =
    elim (cases_lt i n) [
      | inl lt ↦ rw (get_or-take n bytes i 0 lt) (h i)
      | inr le ↦ rw (get_or_past (take n bytes) i 0 (omega (arith, length-take n bytes))) (omega arith)
    ]

-- ---- steps of reading

-- the value of a step that found something
pub bind_some : {A B : Type 0} (o : Option A) (f : A → Option B) (y : B) → (o >>= f) ≡ Some y → (x : A) × (o ≡ Some x) × (f x ≡ Some y)
bind_some (Some x) f y e = (x, refl, e)
bind_some None f y e = absurd cc

-- a test for too few bytes that did not stop the reading
pub enough : {A : Type 0} (b : Bool) (x y : A) → cond b None (Some x) ≡ Some y → (b ≡ false) × (x ≡ y)
enough true x y e = absurd cc
enough false x y e = (refl, cc)

-- a test that was passed
pub guard_some : {A : Type 0} (b : Bool) (x y : A) → cond b (Some x) None ≡ Some y → (b ≡ true) × (x ≡ y)
guard_some true x y e = (refl, cc)
guard_some false x y e = absurd cc

-- a choice that found something
pub if_some : {A : Type 0} (b : Bool) (o : Option A) (y : A) → cond b o None ≡ Some y → (b ≡ true) × (o ≡ Some y)
if_some true o y e = (refl, e)
if_some false o y e = absurd cc

abbrev found : {A : Type 0} → A → Option A
found x = Some x

pub some_is : {A : Type 0} (x y : A) → found x ≡ found y → x ≡ y
some_is x y e = cc

-- what a reader took from the front
pub record Takes (bytes text rest : List ℕ) : Type 0 where
  pub parts : bytes ≡ text ++ rest
  pub rest_fits : IsBytes rest

pub Takes-then : (a x b y c : List ℕ) → Takes a x b → Takes b y c → Takes a (x ++ y) c
Takes-then a x b y c p q = record { parts = p.parts ∙ ap (λ (t : List ℕ). x ++ t) q.parts ∙ sym (append_assoc x y c); rest_fits = q.rest_fits }

-- ---- numbers of more bytes

pub record IsWide (w : Width) (limit : ℕ) : Type 0 where
  pub len : (n : ℕ) → length (to_be_bytes w n) ≡ byte_len w
  pub back : (bytes : List ℕ) → length bytes ≡ byte_len w → IsBytes bytes → to_be_bytes w (from_be_bytes w bytes) ≡ bytes
  pub again : (n : ℕ) → n < limit → from_be_bytes w (to_be_bytes w n) ≡ n
  pub below : (bytes : List ℕ) → IsBytes bytes → from_be_bytes w bytes < limit

pub wide16 : IsWide w16 (2 ^ 16)
wide16 = record {
  len = λ n. refl;
  back = λ bytes len fits. be_bytes_2 bytes _ len fits refl;
  again = λ n lt. from_be_bytes-to_be_bytes_2 n lt;
  below = λ bytes fits. omega (arith, fits 0, fits 1);
}

pub wide32 : IsWide w32 (2 ^ 32)
wide32 = record {
  len = λ n. refl;
  back = λ bytes len fits. be_bytes_4 bytes _ len fits refl;
  again = λ n lt. from_be_bytes-to_be_bytes_4 n lt;
  below = λ bytes fits. omega (arith, fits 0, fits 1, fits 2, fits 3);
}

pub wide64 : IsWide w64 (2 ^ 64)
wide64 = record {
  len = λ n. refl;
  back = λ bytes len fits. be_bytes_8 bytes _ len fits refl;
  again = λ n lt. from_be_bytes-to_be_bytes_8 n lt;
  below = λ bytes fits. omega (arith, fits 0, fits 1, fits 2, fits 3, fits 4, fits 5, fits 6, fits 7);
}

-- where a number was read, the bytes after it are the rest
pub number_rest : (w : Width) (bytes : List ℕ) (n : ℕ) (rest : List ℕ) → number_at w bytes ≡ Some (n, rest) → (byte_len w ≤ length bytes) × (from_be_bytes w (take (byte_len w) bytes) ≡ n) × (drop (byte_len w) bytes ≡ rest)
number_rest w bytes n rest e =
    let g = enough (ltb (length bytes) (byte_len w)) (from_be_bytes w (take (byte_len w) bytes), drop (byte_len w) bytes) (n, rest) e in
    (ltb-false _ _ g.0, ap (λ (p : ℕ × List ℕ). p.0) g.1, ap (λ (p : ℕ × List ℕ). p.1) g.1)

pub number_takes : (w : Width) (limit : ℕ) (wide : IsWide w limit) (bytes : List ℕ) (n : ℕ) (rest : List ℕ) → IsBytes bytes → number_at w bytes ≡ Some (n, rest) → Takes bytes (to_be_bytes w n) rest × (n < limit)
number_takes w limit wide bytes n rest fits e =
    let (long, n-is, rest-is) = number_rest w bytes n rest e in
    let front : to_be_bytes w n ≡ take (byte_len w) bytes = rw (← n-is) (wide.back (take (byte_len w) bytes) (omega (arith, length-take (byte_len w) bytes)) (IsBytes-take (byte_len w) bytes fits)) in
    (record { parts = rw (front, ← rest-is) (sym (take-append-drop (byte_len w) bytes)); rest_fits = rw (← rest-is) (IsBytes-drop (byte_len w) bytes fits) }, rw (← n-is) (wide.below (take (byte_len w) bytes) (IsBytes-take (byte_len w) bytes fits)))

pub number_again : (w : Width) (limit : ℕ) (wide : IsWide w limit) (n : ℕ) (rest : List ℕ) → n < limit → number_at w (to_be_bytes w n ++ rest) ≡ Some (n, rest)
number_again w limit wide n rest lt =
    let len = wide.len n in
    let long : ltb (length (to_be_bytes w n ++ rest)) (byte_len w) ≡ false = le-ltb _ _ (omega (arith, length-append (to_be_bytes w n) rest)) in
    rw (long, take_at (to_be_bytes w n) rest (byte_len w) len, drop_at (to_be_bytes w n) rest (byte_len w) len, wide.again n lt) refl

-- ---- one byte

byte_is : (n : ℕ) → from_be_bytes w8 (n ∷ []) ≡ n
byte_is n = omega arith

pub byte_takes : (bytes : List ℕ) (n : ℕ) (rest : List ℕ) → IsBytes bytes → number_at w8 bytes ≡ Some (n, rest) → Takes bytes (n ∷ []) rest × (n < 256)
byte_takes [] n rest fits e = absurd (omega (arith, (number_rest w8 [] n rest e).0))
byte_takes (b ∷ bytes) n rest fits e =
    let (long, n-is, rest-is) = number_rest w8 (b ∷ bytes) n rest e in
    let same : b ≡ n = sym (byte_is b) ∙ n-is in
    subst (λ (x : ℕ). Takes (b ∷ bytes) (x ∷ []) rest × (x < 256)) same (subst (λ (r : List ℕ). Takes (b ∷ bytes) (b ∷ []) r × (b < 256)) rest-is (record { parts = refl; rest_fits = λ i. fits (suc i) }, fits 0))

pub byte_again : (n : ℕ) (rest : List ℕ) → number_at w8 (n ∷ rest) ≡ Some (n, rest)
byte_again n rest =
    let long : ltb (length (n ∷ rest)) 1 ≡ false = le-ltb _ _ (omega arith) in
    rw long (ap (λ (k : ℕ). Some (k, rest)) (byte_is n))

-- ---- runs of bytes

pub bytes_rest : (n : ℕ) (bytes text rest : List ℕ) → bytes_at n bytes ≡ Some (text, rest) → (n ≤ length bytes) × (take n bytes ≡ text) × (drop n bytes ≡ rest)
bytes_rest n bytes text rest e =
    let g = enough (ltb (length bytes) n) (take n bytes, drop n bytes) (text, rest) e in
    (ltb-false _ _ g.0, ap (λ (p : List ℕ × List ℕ). p.0) g.1, ap (λ (p : List ℕ × List ℕ). p.1) g.1)

pub bytes_take : (n : ℕ) (bytes text rest : List ℕ) → IsBytes bytes → bytes_at n bytes ≡ Some (text, rest) → Takes bytes text rest × (length text ≡ n)
bytes_take n bytes text rest fits e =
    let (long, text-is, rest-is) = bytes_rest n bytes text rest e in
    (record { parts = rw (← text-is, ← rest-is) (sym (take-append-drop n bytes)); rest_fits = rw (← rest-is) (IsBytes-drop n bytes fits) }, rw (← text-is) (omega (arith, length-take n bytes)))

pub bytes_again : (text rest : List ℕ) → bytes_at (length text) (text ++ rest) ≡ Some (text, rest)
bytes_again text rest =
    let long : ltb (length (text ++ rest)) (length text) ≡ false = le-ltb _ _ (omega (arith, length-append text rest)) in
    rw (long, take_at text rest (length text) refl, drop_at text rest (length text) refl) refl

-- ---- lists

-- n items are read where n are asked for
pub length-list_at : {A : Type 0} (item : List ℕ → Option (A × List ℕ)) (n : ℕ) (bytes : List ℕ) (x : List A × List ℕ) → list_at item n bytes ≡ Some x → length x.0 ≡ n
unfolding list_at
length-list_at {A = A} item zero bytes x e = ap (λ (y : List A × List ℕ). length y.0) (sym (some_is ([], bytes) x e))
length-list_at {A = A} item (suc n) bytes x e =
    let a = bind_some (item bytes) (λ first. list_at item n first.1 >>= λ others. Some (first.0 ∷ others.0, others.1)) x e in
    let b = bind_some (list_at item n a.0.1) (λ others. Some (a.0.0 ∷ others.0, others.1)) x a.2 in
    ap (λ (y : List A × List ℕ). length y.0) (sym (some_is (a.0.0 ∷ b.0.0, b.0.1) x b.2)) ∙ ap suc (length-list_at item n a.0.1 b.0 b.1)

-- where each item is read of its own text, the items are read of theirs
pub list_takes : {A : Type 0} (item : List ℕ → Option (A × List ℕ)) (text : A → List ℕ) (P : A → Type 0)
    → ((bytes : List ℕ) (x : A × List ℕ) → IsBytes bytes → item bytes ≡ Some x → Takes bytes (text x.0) x.1 × P x.0)
    → (n : ℕ) (bytes : List ℕ) (x : List A × List ℕ) → IsBytes bytes → list_at item n bytes ≡ Some x
    → Takes bytes (flat_map text x.0) x.1 × (length x.0 ≡ n) × AllByRecursion P x.0
unfolding list_at
list_takes {A = A} item text P takes zero bytes x fits e =
    subst (λ (y : List A × List ℕ). Takes bytes (flat_map text y.0) y.1 × (length y.0 ≡ 0) × AllByRecursion P y.0) (some_is ([], bytes) x e) (record { parts = refl; rest_fits = fits }, refl, tt)
list_takes {A = A} item text P takes (suc n) bytes x fits e =
    let a = bind_some (item bytes) (λ first. list_at item n first.1 >>= λ others. Some (first.0 ∷ others.0, others.1)) x e in
    let b = bind_some (list_at item n a.0.1) (λ others. Some (a.0.0 ∷ others.0, others.1)) x a.2 in
    let first = takes bytes a.0 fits a.1 in
    let second = list_takes item text P takes n a.0.1 b.0 first.0.rest_fits b.1 in
    let both = Takes-then bytes (text a.0.0) a.0.1 (flat_map text b.0.0) b.0.1 first.0 second.0 in
    let made : List A × List ℕ = (a.0.0 ∷ b.0.0, b.0.1) in
    subst (λ (y : List A × List ℕ). Takes bytes (flat_map text y.0) y.1 × (length y.0 ≡ suc n) × AllByRecursion P y.0) (some_is made x b.2) (rw flat_map-cons both, ap suc second.1, (first.1, second.2))

-- where each item's text is read as the item, a list's text is read as the list
pub list_again : {A : Type 0} (item : List ℕ → Option (A × List ℕ)) (text : A → List ℕ) (P : A → Type 0)
    → ((a : A) (rest : List ℕ) → P a → item (text a ++ rest) ≡ Some (a, rest))
    → (xs : List A) (rest : List ℕ) → AllByRecursion P xs → list_at item (length xs) (flat_map text xs ++ rest) ≡ Some (xs, rest)
unfolding list_at
list_again item text P again [] rest all = refl
list_again item text P again (x ∷ xs) rest all =
    let regrouped : flat_map text (x ∷ xs) ++ rest ≡ text x ++ (flat_map text xs ++ rest) = ap (λ (t : List ℕ). t ++ rest) (flat_map-cons text x xs) ∙ append_assoc (text x) (flat_map text xs) rest in
    ap (list_at item (suc (length xs))) regrouped ∙ rw (again x (flat_map text xs ++ rest) all.0, list_again item text P again xs rest all.1) refl
