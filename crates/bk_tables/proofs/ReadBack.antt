-- Each table is read back as its header and its rows.
use Rattle.std.proofs.Common.{◌≡◌, ℕ, false, ◌+◌, ◌≤◌, List, [], ◌∷◌, ◌++◌, length, map, Option, Some, None, refl, sym, ap, ◌∙◌, arith}
use Rattle.std.specs.Prelude.{filter}
use Rattle.std.specs.List.{AllByRecursion, list_any}
use Rattle.std.proofs.lemmas.List.Concat.{flat_map-cons}
use Rattle.csv.specs.Quoting.{needs_byte}
use Rattle.csv.specs.Reading.{default_config, records, strip_bom}
use Rattle.csv.specs.Writing.{default_writer}
use Rattle.bk_rules.specs.Numbers.{number_of}
use Rattle.bk_rules.specs.declared.account.Account.{Account}
use Rattle.bk_views.specs.Statement.{role_word}
use Rattle.bk_views.specs.declared.entry.Role.{Role}
use Rattle.bk_views.specs.declared.entry.Role.TheVariants as role
use Rattle.bk_tables.specs.Batches.{batch_fields, batches_fields, batches_header, count_field}
use Rattle.bk_tables.specs.Csv.{number_or_nothing, row_text, table_text}
use Rattle.bk_tables.specs.Payments.{kind_word, payment_fields, payments_header, picks_payment}
use Rattle.bk_tables.specs.Postings.{picks_posting, posting_fields, postings_header}
use Rattle.bk_tables.specs.TextLaws.{BatchesReadBack, PaymentsReadBack, PostingsReadBack, ReadsBack}
use Rattle.bk_tables.specs.declared.batches.BatchRow.{BatchRow}
use Rattle.bk_tables.specs.declared.payment.Asked.{Asked}
use Rattle.bk_tables.specs.declared.payment.Kind.{Kind}
use Rattle.bk_tables.specs.declared.payment.Kind.TheVariants as kind
use Rattle.bk_tables.specs.declared.payment.PaymentRow.{PaymentRow}
use Rattle.bk_tables.specs.declared.posting.Posting.{Posting}
use Rattle.bk_tables.proofs.PlainRows.{IsPlain, IsPlainRow, decimal_plain, hex_plain, left_false, no_mark, read_back, right_false}

-- a row of this many fields, of which none needs quotes
abbrev IsRowOf : ℕ → List (List ℕ) → Type 0
IsRowOf n row = (length row ≡ n) × AllByRecursion IsPlain row

plain_row : (n : ℕ) (row : List (List ℕ)) → 2 ≤ n → IsRowOf n row → IsPlainRow row
plain_row n row some h = let size = h.0 in (omega (arith, size, some), h.1)

plain_rows : (n : ℕ) (rows : List (List (List ℕ))) → 2 ≤ n → AllByRecursion (IsRowOf n) rows → AllByRecursion IsPlainRow rows
plain_rows n [] some all = tt
plain_rows n (row ∷ rows) some all = (plain_row n row some all.0, plain_rows n rows some all.1)

same_sizes : (n : ℕ) (header : List (List ℕ)) (rows : List (List (List ℕ))) → length header ≡ n → AllByRecursion (IsRowOf n) rows → AllByRecursion (λ (row : List (List ℕ)). length row ≡ length header) rows
same_sizes n header [] e all = tt
same_sizes n header (row ∷ rows) e all = (all.0.0 ∙ sym e, same_sizes n header rows e all.1)

reads : (n : ℕ) (header : List (List ℕ)) (rows : List (List (List ℕ))) → 2 ≤ n → IsRowOf n header → AllByRecursion (IsRowOf n) rows
    → strip_bom (row_text header ++ table_text rows) ≡ row_text header ++ table_text rows → ReadsBack (row_text header ++ table_text rows) header rows
reads n header rows some first all bare = (
  ap (records default_config) (bare ∙ sym (flat_map-cons row_text header rows)) ∙ read_back (header ∷ rows) (plain_row n header some first, plain_rows n rows some all),
  same_sizes n header rows first.0 all,
)

all_map : {X : Type 0} (f : X → List (List ℕ)) (n : ℕ) → ((x : X) → IsRowOf n (f x)) → (xs : List X) → AllByRecursion (IsRowOf n) (map f xs)
all_map f n each [] = tt
all_map f n each (x ∷ xs) = (each x, all_map f n each xs)

-- what is computed of a row that is known
all_plain : (row : List (List ℕ)) → list_any (λ (field : List ℕ). list_any (needs_byte default_writer) field) row ≡ false → AllByRecursion IsPlain row
all_plain [] e = tt
all_plain (field ∷ row) e = (left_false (list_any (needs_byte default_writer) field) (list_any (λ (f : List ℕ). list_any (needs_byte default_writer) f) row) e, all_plain row (right_false (list_any (needs_byte default_writer) field) (list_any (λ (f : List ℕ). list_any (needs_byte default_writer) f) row) e))

optional_plain : (o : Option ℕ) → IsPlain (number_or_nothing o)
optional_plain None = refl
optional_plain (Some n) = decimal_plain n

-- ---- batches

count_plain : (o : Option ℕ) → IsPlain (count_field o)
count_plain None = refl
count_plain (Some n) = decimal_plain n

batch_row : (index : ℕ) (row : BatchRow) → IsRowOf 6 (batch_fields index row)
batch_row index row = (refl, (decimal_plain index, (hex_plain row.digest, (decimal_plain row.cert.round, (decimal_plain row.cert.author, (decimal_plain row.anchor, (count_plain row.count, tt)))))))

batch_rows : (index : ℕ) (rows : List BatchRow) → AllByRecursion (IsRowOf 6) (batches_fields index rows)
batch_rows index [] = tt
batch_rows index (row ∷ rows) = (batch_row index row, batch_rows (index + 1) rows)

pub batches_read : BatchesReadBack
batches_read rows = reads 6 batches_header (batches_fields 0 rows) (omega arith) (refl, all_plain batches_header refl) (batch_rows 0 rows) (no_mark 98 97 116 _ refl)

-- ---- payments

kind_plain : (k : Kind) → IsPlain (kind_word k)
kind_plain kind.Pay = refl
kind_plain kind.PayIf = refl
kind_plain kind.Sweep = refl
kind_plain kind.Split = refl

payment_row : (row : PaymentRow) → IsRowOf 13 (payment_fields row)
payment_row row = by_asked row.asked
  where
    by_asked : (o : Option Asked) → IsRowOf 13 (payment_fields (record row { asked = o }))
    by_asked None = (refl, (decimal_plain row.place, (decimal_plain row.batch, (decimal_plain row.item, (refl, (refl, (refl, (refl, (refl, (refl, (refl, (refl, (decimal_plain (number_of row.status), (decimal_plain row.paid, tt))))))))))))))
    by_asked (Some a) = (
      refl,
      (decimal_plain row.place, (decimal_plain row.batch, (decimal_plain row.item, (kind_plain a.kind, (decimal_plain a.from, (decimal_plain a.seq, (decimal_plain a.to, (optional_plain a.amount, (optional_plain a.guard, (optional_plain a.min, (optional_plain a.keep, (decimal_plain (number_of row.status), (decimal_plain row.paid, tt))))))))))))),
    )

pub payments_read : PaymentsReadBack
payments_read ids rows = reads 13 payments_header (map payment_fields (filter (picks_payment ids) rows)) (omega arith)
    (refl, all_plain payments_header refl)
    (all_map payment_fields 13 payment_row (filter (picks_payment ids) rows)) (no_mark 112 108 97 _ refl)

-- ---- postings

role_plain : (r : Role) → IsPlain (role_word r)
role_plain role.Out = refl
role_plain role.In = refl
role_plain role.Guard = refl

posting_row : (row : Posting) → IsRowOf 7 (posting_fields row)
posting_row row = by_after row.entry.after
  where
    by_after : (o : Option Account) → IsRowOf 7 (posting_fields (record row { entry = record row.entry { after = o } }))
    by_after None = (refl, (decimal_plain row.entry.place, (decimal_plain (number_of row.entry.status), (decimal_plain row.account, (role_plain row.entry.role, (decimal_plain row.entry.amount, (refl, (refl, tt))))))))
    by_after (Some a) = (refl, (decimal_plain row.entry.place, (decimal_plain (number_of row.entry.status), (decimal_plain row.account, (role_plain row.entry.role, (decimal_plain row.entry.amount, (decimal_plain a.balance, (decimal_plain a.seq, tt))))))))

pub postings_read : PostingsReadBack
postings_read ids rows = reads 7 postings_header (map posting_fields (filter (picks_posting ids) rows)) (omega arith)
    (refl, all_plain postings_header refl)
    (all_map posting_fields 7 posting_row (filter (picks_posting ids) rows)) (no_mark 112 108 97 _ refl)
