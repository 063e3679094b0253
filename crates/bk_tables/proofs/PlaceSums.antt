-- In each place of all rows what goes out is what comes in.
use Rattle.std.proofs.Common.{◌≡◌, ℕ, ◌+◌, eqb, Bool, true, false, cond, List, [], ◌∷◌, ◌++◌, map, get_or, Option, Some, None, refl, sym, ap, ◌∙◌}
use Rattle.std.specs.Prelude.{IfSome, filter}
use Rattle.std.specs.List.{AllByRecursion, sum_by}
use Rattle.std.proofs.lemmas.List.Elements.{filter-append}
use Rattle.std.proofs.lemmas.List.Sums.{sum_by-append}
use Rattle.bk_tx.specs.Spelling.{IsTransaction}
use Rattle.bk_tx.specs.Transaction.{Transaction}
use Rattle.bk_views.specs.Statement.{Course}
use Rattle.bk_tables.specs.Laws.{OutIsAllIn}
use Rattle.bk_tables.specs.Postings.{Part, parts_of, posting_of, postings_at, postings_from}
use Rattle.bk_tables.specs.declared.posting.Posting.{Posting}
use Rattle.bk_tables.proofs.PartSums.{in_row, one_place, out_row}
use Rattle.bk_tables.proofs.WholeStatements.{AreFrom, all_from, from_here, from_next}

module _ (c : Course) (k : ℕ) where
  abbrev is_of : Posting → Bool
  is_of q = eqb q.entry.place k

  abbrev at_place : (Posting → ℕ) → List Posting → ℕ
  at_place f rows = sum_by f (filter is_of rows)

  at_two : (f : Posting → ℕ) (xs ys : List Posting) → at_place f (xs ++ ys) ≡ at_place f xs + at_place f ys
  at_two f xs ys = ap (sum_by f) (filter-append is_of xs ys) ∙ sum_by-append f (filter is_of xs) (filter is_of ys)

  -- all rows of a transaction are of its place
  rows_here : (place : ℕ) (t : Transaction) (parts : List Part) → filter is_of (map (posting_of c place t) parts) ≡ cond (eqb place k) (map (posting_of c place t) parts) []
  rows_here place t [] = by_test (eqb place k)
    where
      by_test : (b : Bool) → [] ≡ cond {A = List Posting} b [] []
      by_test true = refl
      by_test false = refl
  rows_here place t (p ∷ parts) = by_test (eqb place k) (rows_here place t parts)
    where
      by_test : (b : Bool) → filter is_of (map (posting_of c place t) parts) ≡ cond b (map (posting_of c place t) parts) []
          → cond b (posting_of c place t p ∷ filter is_of (map (posting_of c place t) parts)) (filter is_of (map (posting_of c place t) parts)) ≡ cond b (posting_of c place t p ∷ map (posting_of c place t) parts) []
      by_test true e = ap (λ (qs : List Posting). posting_of c place t p ∷ qs) e
      by_test false e = e

  place_sums : (place : ℕ) (t : Option Transaction) → IfSome t IsTransaction → t ≡ get_or c.txs place None → at_place in_row (postings_at c place t) ≡ at_place out_row (postings_at c place t)
  place_sums place None sound is = refl
  place_sums place (Some t) sound is = ap (sum_by in_row) (rows_here place t (parts_of t)) ∙ by_test (eqb place k) ∙ sym (ap (sum_by out_row) (rows_here place t (parts_of t)))
    where
      by_test : (b : Bool) → sum_by in_row (cond b (map (posting_of c place t) (parts_of t)) []) ≡ sum_by out_row (cond b (map (posting_of c place t) (parts_of t)) [])
      by_test true = one_place c place t (sym is) sound
      by_test false = refl

  from_place : (place : ℕ) (txs : List (Option Transaction)) → AllByRecursion (λ (t : Option Transaction). IfSome t IsTransaction) txs → AreFrom c 0 place txs
      → at_place in_row (postings_from c place txs) ≡ at_place out_row (postings_from c place txs)
  from_place place [] sound from = refl
  from_place place (t ∷ more) sound from =
      at_two in_row (postings_at c place t) (postings_from c (place + 1) more)
      ∙ (λ i. place_sums place t sound.0 (from_here c 0 place t more from) i + from_place (place + 1) more sound.1 (from_next c 0 place t more from) i)
      ∙ sym (at_two out_row (postings_at c place t) (postings_from c (place + 1) more))

pub out_is_in : OutIsAllIn
out_is_in c place sound = from_place c place 0 c.txs sound (all_from c 0)
