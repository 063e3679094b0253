-- What a digest of accounts binds.
use Rattle.std.proofs.Common.{◌≡◌, ◌⊎◌, ℕ, ◌^◌, ◌<◌, inl, inr, List, [], ◌∷◌, ◌++◌, refl, sym, ap, ◌∙◌, subst}
use Rattle.std.specs.Prelude.{All, Contains, Some}
use Rattle.std.specs.Int.{w64, to_be_bytes, from_be_bytes}
use Rattle.std.proofs.lemmas.List.Elements.{All-nil, All-cons, All-head, All-tail, All-contains}
use Rattle.hex.specs.Hex.{IsBytes}
use Rattle.bk_digest.specs.Digest.{tagged_of}
use Rattle.bk_digest.specs.Tree.{climb}
use Rattle.bk_base.specs.declared.genesis.Row.{Row}
use Rattle.bk_base.specs.Genesis.{row_text}
use Rattle.bk_base.proofs.FieldLemmas.{wide64}
use Rattle.bk_cert.proofs.Lists.{from_map}
use Rattle.bk_report.specs.Leaves.{leaves_of, state_of}
use Rattle.bk_report.specs.Proofs.{IsRow}
use Rattle.bk_laws.specs.Binding.{HashCollision}
use Rattle.bk_laws.specs.Hashed.{hashed_for_state, hashed_on_climb}
use Rattle.bk_laws.proofs.BindingHashes.{bytes_append, bytes_of_number, split_same, split_back}
use Rattle.bk_laws.proofs.BindingRoots.{good_paths, roots_bind}

-- ---- the leaf of an account

row_bytes : (r : Row) → IsBytes (row_text r)
row_bytes r = bytes_append (to_be_bytes w64 r.id ++ to_be_bytes w64 r.balance) (to_be_bytes w64 r.seq)
    (bytes_append (to_be_bytes w64 r.id) (to_be_bytes w64 r.balance) (bytes_of_number 8 r.id) (bytes_of_number 8 r.balance))
    (bytes_of_number 8 r.seq)

number_same : (m n : ℕ) → m < 2 ^ 64 → n < 2 ^ 64 → to_be_bytes w64 m ≡ to_be_bytes w64 n → m ≡ n
number_same m n low high e = sym (wide64.again m low) ∙ ap (from_be_bytes w64) e ∙ wide64.again n high

row_same : (r s : Row) → IsRow r → IsRow s → row_text r ≡ row_text s → r ≡ s
row_same r s fit other e =
    let last = split_back (to_be_bytes w64 r.id ++ to_be_bytes w64 r.balance) (to_be_bytes w64 s.id ++ to_be_bytes w64 s.balance) (to_be_bytes w64 r.seq) (to_be_bytes w64 s.seq) (wide64.len r.seq ∙ sym (wide64.len s.seq)) e in
    let first = split_same (to_be_bytes w64 r.id) (to_be_bytes w64 s.id) (to_be_bytes w64 r.balance) (to_be_bytes w64 s.balance) (wide64.len r.id ∙ sym (wide64.len s.id)) last.0 in
    let id = number_same r.id s.id fit.id other.id first.0 in
    let balance = number_same r.balance s.balance fit.balance other.balance first.1 in
    let seq = number_same r.seq s.seq fit.seq other.seq last.1 in
    λ i. record { id = id i; balance = balance i; seq = seq i }

leaves_bytes : (rows : List Row) → All IsBytes (leaves_of rows)
leaves_bytes [] = All-nil IsBytes
leaves_bytes (r ∷ rows) = All-cons IsBytes (row_text r) (leaves_of rows) (row_bytes r) (leaves_bytes rows)

first_same : (x y : List ℕ) (xs ys : List (List ℕ)) → x ∷ xs ≡ y ∷ ys → (x ≡ y) × (xs ≡ ys)
first_same x y xs ys e = (cc e, cc e)

rows_same : (xs ys : List Row) → All IsRow xs → All IsRow ys → leaves_of xs ≡ leaves_of ys → xs ≡ ys
rows_same [] [] fit other e = refl
rows_same [] (y ∷ ys) fit other e = absurd (cc e)
rows_same (x ∷ xs) [] fit other e = absurd (cc e)
rows_same (x ∷ xs) (y ∷ ys) fit other e =
    let parts = first_same (row_text x) (row_text y) (leaves_of xs) (leaves_of ys) e in
    let row = row_same x y (All-head IsRow x xs fit) (All-head IsRow y ys other) parts.0 in
    let rest = rows_same xs ys (All-tail IsRow x xs fit) (All-tail IsRow y ys other) parts.1 in
    λ i. row i ∷ rest i

-- ---- lists of accounts

pub accounts_bind : (rows others : List Row) → All IsRow rows → All IsRow others → state_of rows ≡ state_of others → (rows ≡ others) ⊎ HashCollision (hashed_for_state rows ++ hashed_for_state others)
accounts_bind rows others fit other e = elim (roots_bind (leaves_of rows) (leaves_of others) (leaves_bytes rows) (leaves_bytes others) e) [
  | inl same ↦ inl (rows_same rows others fit other same)
  | inr c ↦ inr c
]

-- ---- one account

pub account_found : (rows : List Row) (a : Row) (index size : ℕ) (path : List (List ℕ)) → All IsRow rows → IsRow a → All IsBytes path
    → climb (tagged_of 0x00 (row_text a)) index size path ≡ Some (state_of rows)
    → Contains rows a ⊎ HashCollision (hashed_for_state rows ++ hashed_on_climb (row_text a) index size path)
account_found rows a index size path fit is each e = elim (good_paths (leaves_of rows) (row_text a) index size path (leaves_bytes rows) (row_bytes a) each e) [
  | inl has ↦
      let found = from_map row_text rows (row_text a) has in
      let same : found.0 ≡ a = row_same found.0 a (All-contains IsRow rows found.0 fit found.1) is found.2 in
      inl (subst (Contains rows) same found.1)
  | inr c ↦ inr c
]
