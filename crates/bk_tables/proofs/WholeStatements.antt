-- Over all places the rows of one account are the entries of its statement, and what payloads hold are transactions.
use Rattle.std.proofs.Common.{◌≡◌, ℕ, suc, ◌+◌, ◌<◌, eqb, List, [], ◌∷◌, ◌++◌, length, map, get_or, Option, None, sym, ap, ◌∙◌, append_assoc, arith, add-one}
use Rattle.std.specs.Prelude.{IfSome, filter}
use Rattle.std.specs.List.{AllByRecursion}
use Rattle.std.proofs.lemmas.List.{append-nil, map-append}
use Rattle.std.proofs.lemmas.List.Elements.{filter-append}
use Rattle.bk_tx.specs.Spelling.{IsTransaction}
use Rattle.bk_tx.specs.Transaction.{Transaction}
use Rattle.bk_views.specs.Statement.{Course, entries_below, entries_of}
use Rattle.bk_views.specs.declared.entry.Entry.{Entry}
use Rattle.bk_tables.specs.Laws.{PostingsAreEntries}
use Rattle.bk_tables.specs.Postings.{postings_at, postings_from}
use Rattle.bk_tables.specs.declared.posting.Posting.{Posting}
use Rattle.bk_tables.proofs.PartRows.{place_entries}

-- ---- the rows of one account

module _ (c : Course) (id : ℕ) where
  abbrev own : List Posting → List Entry
  own rows = map (λ (q : Posting). q.entry) (filter (λ (q : Posting). eqb q.account id) rows)

  own_two : (xs ys : List Posting) → own (xs ++ ys) ≡ own xs ++ own ys
  own_two xs ys =
      ap (map (λ (q : Posting). q.entry)) (filter-append (λ (q : Posting). eqb q.account id) xs ys)
      ∙ map-append (λ (q : Posting). q.entry) (filter (λ (q : Posting). eqb q.account id) xs) (filter (λ (q : Posting). eqb q.account id) ys)

  -- these transactions are those of the course from a place on
  abbrev pub AreFrom : ℕ → List (Option Transaction) → Type 0
  AreFrom place txs = (k : ℕ) → k < length txs → get_or txs k None ≡ get_or c.txs (place + k) None

  pub from_next : (place : ℕ) (t : Option Transaction) (more : List (Option Transaction)) → AreFrom place (t ∷ more) → AreFrom (place + 1) more
  from_next place t more from k low =
      let n : place + suc k ≡ place + 1 + k = omega arith in
      from (suc k) (omega (arith, low)) ∙ ap (λ (i : ℕ). get_or c.txs i None) n

  pub from_here : (place : ℕ) (t : Option Transaction) (more : List (Option Transaction)) → AreFrom place (t ∷ more) → t ≡ get_or c.txs place None
  from_here place t more from = let n : place + 0 ≡ place = omega arith in from 0 (omega arith) ∙ ap (λ (i : ℕ). get_or c.txs i None) n

  pub all_from : AreFrom 0 c.txs
  all_from k low = let n : k ≡ 0 + k = omega arith in ap (λ (i : ℕ). get_or c.txs i None) n

  entries_next : (place : ℕ) (t : Option Transaction) → t ≡ get_or c.txs place None → entries_below c id place ++ entries_of c id place t ≡ entries_below c id (place + 1)
  entries_next place t e =
      ap (λ (u : Option Transaction). entries_below c id place ++ entries_of c id place u) e ∙ ap (λ (k : ℕ). entries_below c id k) (sym (add-one place))

  own_from : (place : ℕ) (txs : List (Option Transaction)) → AllByRecursion (λ (t : Option Transaction). IfSome t IsTransaction) txs → AreFrom place txs
      → entries_below c id place ++ own (postings_from c place txs) ≡ entries_below c id (place + length txs)
  own_from place [] sound from = let n : place ≡ place + 0 = omega arith in append-nil (entries_below c id place) ∙ ap (λ (k : ℕ). entries_below c id k) n
  own_from place (t ∷ more) sound from =
      let n : place + 1 + length more ≡ place + length (t ∷ more) = omega arith in
      ap (λ (es : List Entry). entries_below c id place ++ es) (own_two (postings_at c place t) (postings_from c (place + 1) more))
      ∙ ap (λ (es : List Entry). entries_below c id place ++ (es ++ own (postings_from c (place + 1) more))) (place_entries c id place t sound.0)
      ∙ sym (append_assoc (entries_below c id place) (entries_of c id place t) (own (postings_from c (place + 1) more)))
      ∙ ap (λ (es : List Entry). es ++ own (postings_from c (place + 1) more)) (entries_next place t (from_here place t more from))
      ∙ own_from (place + 1) more sound.1 (from_next place t more from)
      ∙ ap (λ (k : ℕ). entries_below c id k) n

pub are_entries : PostingsAreEntries
are_entries c id sound =
    own_from c id 0 c.txs sound (all_from c id)
    ∙ ap (λ (k : ℕ). entries_below c id k) (let n : 0 + length c.txs ≡ length c.txs = omega arith in n)
