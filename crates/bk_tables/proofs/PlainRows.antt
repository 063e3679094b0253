-- Rows of which no field needs quotes are read back.
use Rattle.std.proofs.Common.{◌≡◌, ℕ, zero, suc, ◌+◌, ◌/◌, ◌%◌, ◌≤◌, Bool, true, false, cond, eqb, ltb, ◌||◌, List, [], ◌∷◌, ◌++◌, length, Some, refl, sym, ap, ◌∙◌, append_assoc, arith, length-append}
use Rattle.std.specs.Prelude.{decimal, slice_index}
use Rattle.std.specs.Fmt.{digit_glyph, digits, digits_onto}
use Rattle.std.specs.List.{AllByRecursion, list_any}
use Rattle.std.proofs.lemmas.Bool.{ne_eqb}
use Rattle.std.proofs.lemmas.List.Concat.{flat_map-cons}
use Rattle.csv.specs.Machine.{next_record}
use Rattle.csv.specs.Quoting.{needs_byte}
use Rattle.csv.specs.Reading.{default_config, records, records_from, strip_bom}
use Rattle.csv.specs.Writing.{default_writer, fields_text, is_blank}
use Rattle.csv.specs.Writing as writing
use Rattle.csv.specs.declared.parser.State.TheVariants as st
use Rattle.csv.proofs.RoundTrip.{read-write-many}
use Rattle.hex.specs.Hex.{encode_lower, encode_with, lower_digits}
use Rattle.bk_tables.specs.Csv.{row_text, table_text}

-- ---- bytes that need no quotes

abbrev pub IsPlain : List ℕ → Type 0
IsPlain field = list_any (needs_byte default_writer) field ≡ false

-- digits and letters do not
high_plain : (b : ℕ) → 48 ≤ b → needs_byte default_writer b ≡ false
high_plain b high =
    let a = ne_eqb b 44 (λ e. omega (arith, e, high)) in
    let q = ne_eqb b 34 (λ e. omega (arith, e, high)) in
    let r = ne_eqb b 13 (λ e. omega (arith, e, high)) in
    let n = ne_eqb b 10 (λ e. omega (arith, e, high)) in
    rw (a, q, r, n) refl

AreHigh : List ℕ → Type 0
AreHigh bytes = AllByRecursion (λ (b : ℕ). 48 ≤ b) bytes

digits_high : (k n : ℕ) (acc : List ℕ) → AreHigh acc → AreHigh (digits_onto k 10 false n acc)
unfolding AreHigh
digits_high zero n acc h = h
digits_high (suc k) n acc h = by_test (eqb (n / 10) 0) (digits_high k (n / 10) (digit_glyph false (n % 10) ∷ acc) (glyph_high (n % 10), h))
  where
    glyph_high : (d : ℕ) → 48 ≤ digit_glyph false d
    glyph_high d = by_low (ltb d 10)
      where
        by_low : (b : Bool) → 48 ≤ cond b (48 + d) (87 + d)
        by_low true = omega arith
        by_low false = omega arith

    by_test : (b : Bool) → AreHigh (digits_onto k 10 false (n / 10) (digit_glyph false (n % 10) ∷ acc))
        → AreHigh (cond b (digit_glyph false (n % 10) ∷ acc) (digits_onto k 10 false (n / 10) (digit_glyph false (n % 10) ∷ acc)))
    by_test true rest = (glyph_high (n % 10), h)
    by_test false rest = rest

decimal_high : (n : ℕ) → AreHigh (decimal n)
unfolding digits AreHigh
decimal_high n = digits_high 64 n [] tt

all_plain : (bytes : List ℕ) → AreHigh bytes → IsPlain bytes
unfolding AreHigh
all_plain [] h = refl
all_plain (b ∷ bytes) h = ap (λ (x : Bool). x || list_any (needs_byte default_writer) bytes) (high_plain b h.0) ∙ all_plain bytes h.1

pub decimal_plain : (n : ℕ) → IsPlain (decimal n)
decimal_plain n = all_plain (decimal n) (decimal_high n)

pub left_false : (a b : Bool) → (a || b) ≡ false → a ≡ false
left_false true b e = e
left_false false b e = refl

pub right_false : (a b : Bool) → (a || b) ≡ false → b ≡ false
right_false true b e = absurd cc
right_false false b e = e

digit_plain : (i : ℕ) (ds : List ℕ) → IsPlain ds → needs_byte default_writer (slice_index ds i) ≡ false
digit_plain i [] h = refl
digit_plain zero (d ∷ ds) h = left_false (needs_byte default_writer d) (list_any (needs_byte default_writer) ds) h
digit_plain (suc i) (d ∷ ds) h = digit_plain i ds (right_false (needs_byte default_writer d) (list_any (needs_byte default_writer) ds) h)

pub hex_plain : (bytes : List ℕ) → IsPlain (encode_lower bytes)
unfolding encode_with
hex_plain [] = refl
hex_plain (b ∷ bytes) = λ i. digit_plain (b / 16) lower_digits refl i || (digit_plain (b % 16) lower_digits refl i || hex_plain bytes i)

-- ---- rows

-- a row of two fields at least, of which none needs quotes
abbrev pub IsPlainRow : List (List ℕ) → Type 0
IsPlainRow row = (2 ≤ length row) × AllByRecursion IsPlain row

field_same : (field : List ℕ) → IsPlain field → writing.field_text default_writer field ≡ field
field_same field h = rw h refl

rest_same : (field : List ℕ) (more : List (List ℕ)) → AllByRecursion IsPlain (field ∷ more)
    → writing.field_text default_writer field ++ (fields_text default_writer more ++ 10 ∷ []) ≡ row_text (field ∷ more)
unfolding fields_text
rest_same field [] h = ap (λ (t : List ℕ). t ++ 10 ∷ []) (field_same field h.0)
rest_same field (next ∷ more) h =
    (λ i. field_same field h.0 i ++ 44 ∷ append_assoc (writing.field_text default_writer next) (fields_text default_writer more) (10 ∷ []) i)
    ∙ ap (λ (t : List ℕ). field ++ 44 ∷ t) (rest_same next more h.1)

-- the row as the writer of the kit would write it
row_same : (first second : List ℕ) (more : List (List ℕ)) → AllByRecursion IsPlain (first ∷ second ∷ more)
    → writing.row_text default_writer (first ∷ second ∷ more) ≡ row_text (first ∷ second ∷ more)
unfolding is_blank
row_same first second more h =
    append_assoc (writing.field_text default_writer first) (fields_text default_writer (second ∷ more)) (10 ∷ []) ∙ rest_same first (second ∷ more) h

row_read : (row : List (List ℕ)) (tail : List ℕ) → IsPlainRow row → next_record default_config st.StartRecord [] [] (row_text row ++ tail) ≡ Some (row, st.StartRecord, tail)
row_read [] tail h = absurd (let two = h.0 in omega (arith, two))
row_read (first ∷ []) tail h = absurd (let two = h.0 in omega (arith, two))
row_read (first ∷ second ∷ more) tail h =
    ap (λ (t : List ℕ). next_record default_config st.StartRecord [] [] (t ++ tail)) (sym (row_same first second more h.1)) ∙ read-write-many first second more tail

rows_read : (rows : List (List (List ℕ))) (n : ℕ) → AllByRecursion IsPlainRow rows → length rows ≤ n → records_from default_config n st.StartRecord (table_text rows) ≡ rows
unfolding records_from next_record
rows_read [] zero all few = refl
rows_read [] (suc n) all few = refl
rows_read (row ∷ rows) zero all few = absurd (omega (arith, few))
rows_read (row ∷ rows) (suc n) all few =
    rw (flat_map-cons row_text row rows, row_read row (table_text rows) all.0) (ap (λ (rs : List (List (List ℕ))). row ∷ rs) (rows_read rows n all.1 (omega (arith, few))))

row_some : (row : List (List ℕ)) → 1 ≤ length (row_text row)
row_some [] = omega arith
row_some (field ∷ []) = let n = length-append field (10 ∷ []) in omega (arith, n)
row_some (field ∷ next ∷ more) = let n = length-append field (44 ∷ row_text (next ∷ more)) in omega (arith, n)

few_rows : (rows : List (List (List ℕ))) → length rows ≤ length (table_text rows)
few_rows [] = omega arith
few_rows (row ∷ rows) =
    let all = ap length (flat_map-cons row_text row rows) in
    let two = length-append (row_text row) (table_text rows) in
    let some = row_some row in
    let rest = few_rows rows in
    omega (arith, all, two, some, rest)

-- a text of plain rows is read back
pub read_back : (rows : List (List (List ℕ))) → AllByRecursion IsPlainRow rows → records default_config (table_text rows) ≡ rows
read_back rows all = let few = few_rows rows in rows_read rows (length (table_text rows) + 1) all (omega (arith, few))

-- ---- a text that begins as no byte order mark does

pub no_mark : (a b d : ℕ) (rest : List ℕ) → eqb a 239 ≡ false → strip_bom (a ∷ b ∷ d ∷ rest) ≡ a ∷ b ∷ d ∷ rest
unfolding strip_bom
no_mark a b d rest e = rw e refl
