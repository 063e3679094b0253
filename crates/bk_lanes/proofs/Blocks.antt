-- The blocks of a padded text, from the pieces that the code puts together.
use Rattle.std.proofs.Common.{◌≡◌, ◌≢◌, ℕ, ◌+◌, ◌-◌, ◌*◌, ◌/◌, ◌%◌, ◌^◌, ◌<◌, ◌≤◌, List, [], ◌∷◌, ◌++◌, length, take, drop, replicate, slice_set, refl, sym, ap, ◌∙◌, arith, add-one, length-append, length-drop}
use Rattle.std.proofs.lemmas.List.{append-nil, append_assoc, drop-append-le, drop-replicate, drop_all, drop_at, length-replicate, length-take-le, replicate-append-replicate, take-append-drop, take-append-le, take_at}
use Rattle.std.specs.Int.{w64, to_be_bytes}
use Rattle.sha2.specs.Sha256.{padded_message, padding}
use Rattle.bk_lanes.specs.private.Lanes.{block_count, padded_block}
use borrow.Rule.Slice.PartMut.{put_mid}

-- the bit 1 and n zeros
abbrev pub ended_by : ℕ → List ℕ
ended_by n = 0x80 ∷ replicate n 0

-- the last 8 bytes of a padded message, where n bytes are hashed
abbrev pub length_field : ℕ → List ℕ
length_field n = to_be_bytes w64 (n * 8 % 2 ^ 64)

length-ended_by : (n : ℕ) → length (ended_by n) ≡ n + 1
length-ended_by n =
    let l : length {A = ℕ} (replicate n 0) ≡ n = length-replicate n 0 in
    omega arith

ended_by-split : (n a b : ℕ) → n ≡ a + b → ended_by n ≡ ended_by a ++ replicate b 0
ended_by-split n a b e = rw e (ap (λ (l : List ℕ). 0x80 ∷ l) (sym (replicate-append-replicate a b 0)))

-- a write just past ys
set_after : (ys zs : List ℕ) (v n : ℕ) → slice_set (ys ++ v ∷ zs) (length ys) n ≡ ys ++ n ∷ zs
set_after [] zs v n = refl
set_after (y ∷ ys) zs v n = ap (λ (l : List ℕ). y ∷ l) (set_after ys zs v n)

zeros : (n : ℕ) → n < 64 → drop {A = ℕ} n (replicate 64 0) ≡ 0 ∷ replicate (63 - n) 0
zeros n lt =
    let e : 64 - n ≡ 63 - n + 1 = omega arith in
    drop-replicate n 64 0 ∙ rw (e, add-one) refl

-- the end of a text, the bit 1, and zeros
pub ended_is : (rest ys zs : List ℕ) → ys ≡ rest → length rest < 64 → zs ≡ drop (length rest) (replicate 64 0)
    → slice_set (ys ++ zs) (length rest) 0x80 ≡ rest ++ ended_by (63 - length rest)
ended_is rest ys zs same lt e = rw (same, e, zeros (length rest) lt) (set_after rest (replicate (63 - length rest) 0) 0 0x80)

-- the length in the last 8 of 64 bytes
pub put_length_is : (b ys t : List ℕ) → ys ≡ t → length b ≡ 64 → put_mid 56 8 b ys ≡ take 56 b ++ t
put_length_is b ys t e long =
    let none : drop 8 (drop 56 b) ≡ [] = drop_all 8 (drop 56 b) (omega (arith, length-drop 56 b)) in
    rw (none, append-nil, e) refl

-- block k of a text that is cut at the block's ends
cut : (p a b c : List ℕ) (k : ℕ) → p ≡ a ++ (b ++ c) → length a ≡ k * 64 → length b ≡ 64 → b ≡ take 64 (drop (k * 64) p)
cut p a b c k e la lb = rw e (rw (drop_at a (b ++ c) (k * 64) la) (sym (take_at b c 64 lb)))

padded_with : (m : List ℕ) (z : ℕ) → z ≡ (119 - length m % 64) % 64 → padded_message m ≡ m ++ (ended_by z ++ length_field (length m))
padded_with m z e =
    let same : (119 - length m % 64) % 64 ≡ z = omega arith in
    rw same refl

regroup_last : (a r e l : List ℕ) → (a ++ r) ++ (e ++ l) ≡ a ++ (((r ++ e) ++ l) ++ [])
regroup_last a r e l = simp (append_assoc, append-nil)

regroup_two : (a r e z l : List ℕ) → (a ++ r) ++ ((e ++ z) ++ l) ≡ a ++ ((r ++ e) ++ (z ++ l))
regroup_two a r e z l = simp append_assoc

regroup_over : (m e z l : List ℕ) → m ++ ((e ++ z) ++ l) ≡ (m ++ e) ++ ((z ++ l) ++ [])
regroup_over m e z l = simp (append_assoc, append-nil)

-- a block within the text
pub whole_block : (m ys : List ℕ) (k : ℕ) → k < length m / 64 → ys ≡ take 64 (drop (64 * k) m) → ys ≡ padded_block m k
whole_block m ys k lt e =
    let same : 64 * k ≡ k * 64 = omega arith in
    let room : 64 ≤ length (drop (k * 64) m) = omega (arith, length-drop (k * 64) m) in
    rw same at e
    ∙ sym (rw (drop-append-le (k * 64) m (padding (length m)) (omega arith)) (take-append-le 64 (drop (k * 64) m) (padding (length m)) room))

-- the block with the text's end, where the length fits into it too
pub last_short : (m b : List ℕ) (k : ℕ) → k ≡ length m / 64 → k + 1 ≡ block_count (length m)
    → b ≡ drop (64 * k) m ++ ended_by (63 - length (drop (64 * k) m)) → take 56 b ++ length_field (length m) ≡ padded_block m k
last_short m b k ek last eb =
    let rest = drop (64 * k) m in
    let front = take (64 * k) m in
    let lr : length rest ≡ length m - 64 * k = length-drop (64 * k) m in
    let lf : length front ≡ 64 * k = length-take-le (64 * k) m (omega arith) in
    let z = 55 - length rest in
    let split : ended_by (63 - length rest) ≡ ended_by z ++ replicate 8 0 = ended_by-split (63 - length rest) z 8 (omega arith) in
    let le : length (rest ++ ended_by z) ≡ 56 = omega (arith, length-append rest (ended_by z), length-ended_by z) in
    let head : take 56 b ≡ rest ++ ended_by z = rw (eb, split, ← append_assoc) (take_at (rest ++ ended_by z) (replicate 8 0) 56 le) in
    let whole : length ((rest ++ ended_by z) ++ length_field (length m)) ≡ 64 = omega (arith, length-append (rest ++ ended_by z) (length_field (length m)), le) in
    let parts : padded_message m ≡ front ++ (((rest ++ ended_by z) ++ length_field (length m)) ++ []) =
    padded_with m z (omega arith) ∙ ap (λ (x : List ℕ). x ++ (ended_by z ++ length_field (length m))) (sym (take-append-drop (64 * k) m))
    ∙ regroup_last front rest (ended_by z) (length_field (length m)) in
    rw head (cut (padded_message m) front ((rest ++ ended_by z) ++ length_field (length m)) [] k parts (omega arith) whole)

-- the block with the text's end, where the length goes into the next
pub last_long : (m b : List ℕ) (k : ℕ) → k ≡ length m / 64 → k + 1 ≢ block_count (length m)
    → b ≡ drop (64 * k) m ++ ended_by (63 - length (drop (64 * k) m)) → b ≡ padded_block m k
last_long m b k ek more eb =
    let rest = drop (64 * k) m in
    let front = take (64 * k) m in
    let lr : length rest ≡ length m - 64 * k = length-drop (64 * k) m in
    let lf : length front ≡ 64 * k = length-take-le (64 * k) m (omega arith) in
    let z = 63 - length rest in
    let split : ended_by (z + 56) ≡ ended_by z ++ replicate 56 0 = ended_by-split (z + 56) z 56 refl in
    let whole : length (rest ++ ended_by z) ≡ 64 = omega (arith, length-append rest (ended_by z), length-ended_by z) in
    let parts : padded_message m ≡ front ++ ((rest ++ ended_by z) ++ (replicate 56 0 ++ length_field (length m))) =
    padded_with m (z + 56) (omega arith)
    ∙ (λ i. sym (take-append-drop (64 * k) m) i ++ (split i ++ length_field (length m)))
    ∙ regroup_two front rest (ended_by z) (replicate 56 0) (length_field (length m)) in
    eb ∙ cut (padded_message m) front (rest ++ ended_by z) (replicate 56 0 ++ length_field (length m)) k parts (omega arith) whole

-- the block with the length alone
pub length_block : (m b : List ℕ) (k : ℕ) → k ≢ length m / 64 → length m / 64 ≤ k → k < block_count (length m) → b ≡ replicate 64 0
    → take 56 b ++ length_field (length m) ≡ padded_block m k
length_block m b k ne le lt eb =
    let z = 63 - length m % 64 in
    let split : ended_by (z + 56) ≡ ended_by z ++ replicate 56 0 = ended_by-split (z + 56) z 56 refl in
    let front : length (m ++ ended_by z) ≡ k * 64 = omega (arith, length-append m (ended_by z), length-ended_by z) in
    let parts : padded_message m ≡ (m ++ ended_by z) ++ ((replicate 56 0 ++ length_field (length m)) ++ []) =
    padded_with m (z + 56) (omega arith) ∙ ap (λ (x : List ℕ). m ++ (x ++ length_field (length m))) split
    ∙ regroup_over m (ended_by z) (replicate 56 0) (length_field (length m)) in
    rw eb (cut (padded_message m) (m ++ ended_by z) (replicate 56 0 ++ length_field (length m)) [] k parts front refl)

-- a block past the text's end is the last
pub beyond : (n k count : ℕ) → k ≢ n / 64 → n / 64 ≤ k → k < block_count n → count ≡ block_count n → k + 1 ≢ count → ⊥
beyond n k count ne le lt e more =
    let same : k + 1 ≡ count = omega arith in
    more same

-- the first byte of a message, its end, the bit 1 and zeros
pub ended_first : (first : ℕ) (rest ys : List ℕ) (k : ℕ) → ys ≡ rest → length rest < 63 → k ≡ length rest
    → slice_set (put_mid 1 k (first ∷ replicate 63 0) ys) (length rest + 1) 0x80 ≡ first ∷ (rest ++ ended_by (62 - length rest))
ended_first first rest ys k same lt ek =
    let e : 63 - length rest ≡ 62 - length rest + 1 = omega arith in
    let left : drop {A = ℕ} (length rest) (replicate 63 0) ≡ 0 ∷ replicate (62 - length rest) 0 = drop-replicate (length rest) 63 0 ∙ rw (e, add-one) refl in
    rw (same, ek, left, add-one) (ap (λ (l : List ℕ). first ∷ l) (set_after rest (replicate (62 - length rest) 0) 0 0x80))

-- the first byte of a message and others fill a block
pub front_first : (first : ℕ) (b ys t : List ℕ) → ys ≡ t → length b ≡ 64 → put_mid 1 63 (slice_set b 0 first) ys ≡ first ∷ t
front_first first [] ys t e long = absurd (omega arith)
front_first first (x ∷ b) ys t e long =
    let none : drop 63 b ≡ [] = drop_all 63 b (omega arith) in
    rw (none, append-nil, e) refl
