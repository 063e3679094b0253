-- Bytes that are written one item after another.
use Rattle.std.proofs.Common.{◌≡◌, ℕ, zero, suc, ◌+◌, ◌*◌, ◌/◌, ◌-◌, ◌<◌, ◌≤◌, List, [], ◌∷◌, ◌++◌, length, get_or, take, drop, map, refl, sym, ap, ◌∙◌, arith, append_assoc, length-drop, length-append, set, ◌^◌}
use Rattle.std.specs.List.{flat_map, concat, range_with_len}
use Rattle.std.proofs.lemmas.List.{at_drop_more, at_drop_all, append-nil, take_more_set, drop_more}
use Rattle.bk_base.specs.declared.genesis.Row.{Row}
use Rattle.bk_tx.specs.declared.payments.Payment.{Payment}
use Rattle.std.specs.Int.{w32, w64, to_be_bytes}
use Rattle.bk_base.specs.Genesis.{genesis_text, row_text}
use Rattle.bk_base.specs.declared.version.Version.{Version}
use Rattle.bk_base.specs.declared.version.Version.TheVariants as version
use Rattle.bk_committee.specs.Payload.{weights_bytes}
use Rattle.bk_script.specs.Sealing.{member_key, member_keys, members_text}
use Rattle.bk_script.specs.Transactions.{payments_in}

-- an item more is written
pub item_more : {X : Type 0} (f : X → List ℕ) (xs : List X) (i : ℕ) (d : X) (out next all : List ℕ) → i < length xs → next ≡ out ++ f (get_or xs i d)
    → out ++ flat_map f (drop i xs) ≡ all → next ++ flat_map f (drop (i + 1) xs) ≡ all
item_more f xs i d out next all l e inv =
    ap (λ o. o ++ flat_map f (drop (i + 1) xs)) e ∙ append_assoc out (f (get_or xs i d)) (flat_map f (drop (i + 1) xs))
    ∙ ap (λ r. out ++ r) (sym (at_drop_more (flat_map f) xs i d l)) ∙ inv

-- all items are written
pub items_all : {X : Type 0} (f : X → List ℕ) (xs : List X) (i : ℕ) (out all : List ℕ) → length xs ≤ i → out ++ flat_map f (drop i xs) ≡ all → out ≡ all
items_all f xs i out all l inv = sym (append-nil out) ∙ ap (λ r. out ++ r) (sym (at_drop_all (flat_map f) xs i l)) ∙ inv

-- ---- payments, two numbers each

pub payment_more : (ns : List ℕ) (read : List Payment) (i : ℕ) (p : Payment) → 2 * i + 1 < length ns → i < length read
    → p ≡ record { to = get_or ns (2 * i) 0; amount = get_or ns (2 * i + 1) 0 }
    → take i read ++ payments_in (drop (2 * i) ns) ≡ payments_in ns → take (i + 1) (set read i p) ++ payments_in (drop (2 * (i + 1)) ns) ≡ payments_in ns
payment_more ns read i p l r e inv =
    let first = drop_more ns (2 * i) 0 (omega (arith, l)) in
    let second = drop_more ns (2 * i + 1) 0 l in
    let place : 2 * i + 1 + 1 ≡ 2 * (i + 1) = omega arith in
    let both : payments_in (drop (2 * i) ns) ≡ p ∷ payments_in (drop (2 * (i + 1)) ns) =
    ap payments_in (first ∙ ap (λ t. get_or ns (2 * i) 0 ∷ t) second)
    ∙ ap (λ q. q ∷ payments_in (drop (2 * i + 1 + 1) ns)) (sym e) ∙ ap (λ k. p ∷ payments_in (drop k ns)) place in
    ap (λ f. f ++ payments_in (drop (2 * (i + 1)) ns)) (take_more_set read i p r) ∙ append_assoc (take i read) (p ∷ []) (payments_in (drop (2 * (i + 1)) ns))
    ∙ ap (λ t. take i read ++ t) (sym both) ∙ inv

one_left : (ns : List ℕ) → length ns ≤ 1 → payments_in ns ≡ []
one_left [] l = refl
one_left (n ∷ []) l = refl
one_left (n ∷ m ∷ more) l = absurd (omega (arith, l))

pub payments_all : (ns : List ℕ) (read : List Payment) (i : ℕ) → length ns / 2 ≤ i → take i read ++ payments_in (drop (2 * i) ns) ≡ payments_in ns → take i read ≡ payments_in ns
payments_all ns read i l inv = sym (append-nil (take i read)) ∙ ap (λ t. take i read ++ t) (sym (one_left (drop (2 * i) ns) (omega (arith, l, length-drop (2 * i) ns)))) ∙ inv

-- ---- an account, three numbers

pub row_written : (r : Row) (out x y z a b c : List ℕ) → a ≡ to_be_bytes w64 r.id → b ≡ to_be_bytes w64 r.balance → c ≡ to_be_bytes w64 r.seq → x ≡ out ++ a → y ≡ x ++ b → z ≡ y ++ c → z ≡ out ++ row_text r
row_written r out x y z a b c id balance seq first second third =
    third ∙ ap (λ t. t ++ c) (second ∙ ap (λ t. t ++ b) first) ∙ append_assoc (out ++ a) b c ∙ append_assoc out a (b ++ c)
    ∙ (λ i. out ++ (id i ++ (balance i ++ seq i)))

-- ---- keys

pub key_more : (out next all : List ℕ) (n i : ℕ) → i < n → next ≡ out ++ member_key i
    → out ++ concat (map member_key (range_with_len i (n - i))) ≡ all → next ++ concat (map member_key (range_with_len (i + 1) (n - (i + 1)))) ≡ all
key_more out next all n i l e inv =
    let more = concat (map member_key (range_with_len (i + 1) (n - (i + 1)))) in
    let left : n - i ≡ suc (n - (i + 1)) = omega (arith, l) in
    ap (λ o. o ++ more) e ∙ append_assoc out (member_key i) more
    ∙ ap (λ k. out ++ concat (map member_key (range_with_len i k))) (sym left) ∙ inv

pub keys_all : (out all : List ℕ) (n i : ℕ) → n ≤ i → out ++ concat (map member_key (range_with_len i (n - i))) ≡ all → out ≡ all
keys_all out all n i l inv =
    let none : n - i ≡ 0 = omega (arith, l) in
    sym (append-nil out) ∙ ap (λ k. out ++ concat (map member_key (range_with_len i k))) (sym none) ∙ inv

range_length : (a n : ℕ) → length (map member_key (range_with_len a n)) ≡ n
range_length a zero = refl
range_length a (suc n) = ap suc (range_length (a + 1) n)

pub members_one : (n : ℕ) (p q : List ℕ) → p ≡ n ∷ [] → q ≡ p ++ concat (member_keys n) → q ≡ length (member_keys n) ∷ (concat (member_keys n) ++ [])
members_one n p q e f =
    f ∙ ap (λ x. x ++ concat (member_keys n)) e ∙ ap (λ x. x ∷ concat (member_keys n)) (sym (range_length 0 n))
    ∙ ap (λ x. length (member_keys n) ∷ x) (sym (append-nil (concat (member_keys n))))

pub members_two : (n : ℕ) (p q r ws : List ℕ) → p ≡ n ∷ [] → q ≡ p ++ concat (member_keys n) → r ≡ q ++ ws → r ≡ length (member_keys n) ∷ (concat (member_keys n) ++ ws)
members_two n p q r ws e f h =
    h ∙ ap (λ x. x ++ ws) (f ∙ ap (λ x. x ++ concat (member_keys n)) e ∙ ap (λ x. x ∷ concat (member_keys n)) (sym (range_length 0 n)))

-- ---- sizes

four : (n : ℕ) → length (to_be_bytes w32 n) ≡ 4
four n = refl

eight : (n : ℕ) → length (to_be_bytes w64 n) ≡ 8
eight n = refl

key_length : (n : ℕ) → length (member_key n) ≡ 32
key_length n = refl

keys_length : (a n : ℕ) → length (concat (map member_key (range_with_len a n))) ≡ 32 * n
keys_length a zero = refl
keys_length a (suc n) = omega (arith, key_length a, length-append (member_key a) (concat (map member_key (range_with_len (a + 1) n))), keys_length (a + 1) n)

numbers_length : (ws : List ℕ) → length (flat_map (to_be_bytes w32) ws) ≡ 4 * length ws
numbers_length [] = refl
numbers_length (w ∷ ws) = omega (arith, length-append (to_be_bytes w32 w) (flat_map (to_be_bytes w32) ws), four w, numbers_length ws)

weights_short : (v : Version) (ws : List ℕ) → length (weights_bytes v ws) ≤ 4 * length ws
weights_short version.One ws = omega arith
weights_short version.Two ws = omega (arith, numbers_length ws)

pub members_short : (v : Version) (ws : List ℕ) (text : List ℕ) → length ws ≤ 128 → text ≡ members_text v ws → length text < 2 ^ 32
members_short v ws text few is =
    omega (arith, ap length is, length-append (concat (member_keys (length ws))) (weights_bytes v ws), keys_length 0 (length ws), weights_short v ws, few)

row_length : (r : Row) → length (row_text r) ≡ 24
row_length r =
    omega (arith, length-append (to_be_bytes w64 r.id ++ to_be_bytes w64 r.balance) (to_be_bytes w64 r.seq), length-append (to_be_bytes w64 r.id) (to_be_bytes w64 r.balance), eight r.id, eight r.balance, eight r.seq)

rows_length : (rows : List Row) → length (flat_map row_text rows) ≡ 24 * length rows
rows_length [] = refl
rows_length (r ∷ rows) = omega (arith, length-append (row_text r) (flat_map row_text rows), row_length r, rows_length rows)

pub rows_short : (rows : List Row) (text : List ℕ) → length rows < 2 ^ 24 → text ≡ genesis_text rows → length text < 2 ^ 32
rows_short rows text few is =
    omega (arith, ap length is, length-append (to_be_bytes w32 (length rows)) (flat_map row_text rows), four (length rows), rows_length rows, few)
