-- A walk over places: the rows that are left, and the ledger now.
use Rattle.std.proofs.Common.{◌≡◌, ℕ, suc, ◌+◌, ◌≤◌, true, ◌&&◌, List, [], ◌∷◌, ◌++◌, length, map, Option, Some, None, refl, sym, ap, subst, ◌∙◌, append_assoc, length-append, arith}
use Rattle.std.specs.Prelude.{unwrap_or}
use Rattle.std.specs.List.{list_all}
use Rattle.std.proofs.lemmas.List.Folds.{list_all-append}
use Rattle.bk_base.specs.Numbers.{list_at}
use Rattle.bk_base.specs.declared.genesis.Row.{Row}
use Rattle.bk_base.specs.declared.version.Version.{Version}
use Rattle.bk_report.specs.Pages.{Desk, IsReady, Puts}
use Rattle.bk_rules.specs.Fold.{HasRoom, state_after}
use Rattle.bk_rules.specs.Ledger.{Ledger, after_of, are_covered, is_covered, ledger_of}
use Rattle.bk_rules.specs.Rows.{outcome_of}
use Rattle.bk_rules.proofs.Folding.{state_append}
use Rattle.bk_rules.proofs.RowLemmas.{and_left, and_right}
use Rattle.bk_rules.proofs.Room.{room_kept, room_weaker}
use Rattle.bk_tx.specs.Batches.{transactions_in}
use Rattle.bk_tx.specs.Reading.{text_at, transaction_of}
use Rattle.bk_tx.specs.Transaction.{Transaction}
use Rattle.bk_tables.specs.Postings.{postings_text}
use Rattle.bk_tables.specs.declared.posting.Posting.{Posting}
use Rattle.bk_tables.specs.private.Walking.{rows_of, walk_rows}
use Rattle.bk_tables.proofs.Done.{IsDone, all_done, begun, next_done}
use Rattle.bk_tables.proofs.PostingTexts.{postings_two}
use Rattle.bk_tables.proofs.Walks.{AreTextsOf, IsNextText, next_text_is, no_texts, transactions_are}

-- of a walk these transactions are left, the first at this place: their rows are left to put, they are covered, there is
-- room for them, and they lead to the last ledger
pub record IsWalking (ids : Option (List ℕ)) (txs : List (Option Transaction)) (place : ℕ) (now last : Ledger) (a b : Desk) (most : ℕ) (whole : List ℕ) : Type 0 where
  pub put : IsDone a b most whole (postings_text ids (walk_rows now.version place txs now.rows))
  pub covered : are_covered now.version now.slots txs ≡ true
  pub room : HasRoom now.version (length txs) now.rows
  pub ends : ledger_of now.version now.slots (state_after now.version txs now.rows) ≡ last

pub walk_begun : (ids : Option (List ℕ)) (txs : List (Option Transaction)) (place : ℕ) (now : Ledger) {a : Desk} (most : ℕ) → IsReady a → are_covered now.version now.slots txs ≡ true → HasRoom now.version (length txs) now.rows
    → IsWalking ids txs place now (ledger_of now.version now.slots (state_after now.version txs now.rows)) a a most (postings_text ids (walk_rows now.version place txs now.rows))
walk_begun ids txs place now most ready covered room = record { put = begun most _ _ ready refl; covered = covered; room = room; ends = refl }

-- ---- one transaction more

module _ (ids : Option (List ℕ)) (t : Option Transaction) (more : List (Option Transaction)) (place : ℕ) (now last : Ledger) {a b : Desk} {m : ℕ} {whole : List ℕ}
    (h : IsWalking ids (t ∷ more) place now last a b m whole) where
  pub one_covered : is_covered now.version now.slots t ≡ true
  one_covered = and_left (is_covered now.version now.slots t) (list_all (is_covered now.version now.slots) more) h.covered

  pub one_room : HasRoom now.version 1 now.rows
  one_room = room_weaker now.version (suc (length more)) 1 now.rows (omega arith) h.room

  pub one_put : {c : Desk} {k : ℕ} (most : ℕ) (after : Ledger) → after ≡ after_of now t → Puts b c k (postings_text ids (rows_of place now.version now.rows t)) → m + k ≤ most → IsWalking ids more (place + 1) after last a c most whole
  one_put {c} {k} most after e put few = subst (λ (l : Ledger). IsWalking ids more (place + 1) l last a c most whole) (sym e) (record {
    put = next_done most (postings_text ids (rows_of place now.version now.rows t)) _
        (postings_two ids (rows_of place now.version now.rows t) (walk_rows now.version (place + 1) more (outcome_of now.version t now.rows).after)) h.put put few;
    covered = and_right (is_covered now.version now.slots t) (list_all (is_covered now.version now.slots) more) h.covered;
    room = room_kept now.version (t ∷ []) (length more) now.rows (room_weaker now.version (suc (length more)) (1 + length more) now.rows (omega arith) h.room);
    ends = h.ends;
  })

-- ---- several more

pub walk_append : (v : Version) (place place' : ℕ) (xs ys : List (Option Transaction)) (rows : List Row) → place' ≡ place + length xs
    → walk_rows v place (xs ++ ys) rows ≡ walk_rows v place xs rows ++ walk_rows v place' ys (state_after v xs rows)
walk_append v place place' [] ys rows e = let same : place ≡ place' = omega (arith, e) in ap (λ (n : ℕ). walk_rows v n ys rows) same
walk_append v place place' (x ∷ xs) ys rows e =
    ap (λ (qs : List Posting). rows_of place v rows x ++ qs) (walk_append v (place + 1) place' xs ys (outcome_of v x rows).after (omega (arith, e)))
    ∙ sym (append_assoc (rows_of place v rows x) (walk_rows v (place + 1) xs (outcome_of v x rows).after) (walk_rows v place' ys (state_after v xs (outcome_of v x rows).after)))

module _ (ids : Option (List ℕ)) (txs xs ys : List (Option Transaction)) (split : txs ≡ xs ++ ys) (place place' : ℕ) (next : place' ≡ place + length xs) (now last : Ledger) {a b : Desk} {m : ℕ} {whole : List ℕ}
    (h : IsWalking ids txs place now last a b m whole) where
  both_covered : list_all (is_covered now.version now.slots) xs && list_all (is_covered now.version now.slots) ys ≡ true
  both_covered = sym (list_all-append (is_covered now.version now.slots) xs ys) ∙ ap (are_covered now.version now.slots) (sym split) ∙ h.covered

  both_room : HasRoom now.version (length xs + length ys) now.rows
  both_room = room_weaker now.version (length txs) (length xs + length ys) now.rows (let n = ap length split in let m = length-append xs ys in omega (arith, n, m)) h.room

  pub part_covered : are_covered now.version now.slots xs ≡ true
  part_covered = and_left (list_all (is_covered now.version now.slots) xs) (list_all (is_covered now.version now.slots) ys) both_covered

  pub part_room : HasRoom now.version (length xs) now.rows
  part_room = room_weaker now.version (length xs + length ys) (length xs) now.rows (omega arith) both_room

  part_splits : postings_text ids (walk_rows now.version place txs now.rows)
      ≡ postings_text ids (walk_rows now.version place xs now.rows) ++ postings_text ids (walk_rows now.version place' ys (state_after now.version xs now.rows))
  part_splits =
      ap (λ (ts : List (Option Transaction)). postings_text ids (walk_rows now.version place ts now.rows)) split
      ∙ ap (postings_text ids) (walk_append now.version place place' xs ys now.rows next)
      ∙ postings_two ids (walk_rows now.version place xs now.rows) (walk_rows now.version place' ys (state_after now.version xs now.rows))

  pub part_put : {c : Desk} {k : ℕ} (most : ℕ) (after : Ledger) → after ≡ ledger_of now.version now.slots (state_after now.version xs now.rows) → Puts b c k (postings_text ids (walk_rows now.version place xs now.rows)) → m + k ≤ most
      → IsWalking ids ys place' after last a c most whole
  part_put {c} {k} most after e put few = subst (λ (l : Ledger). IsWalking ids ys place' l last a c most whole) (sym e) (record {
    put = next_done most (postings_text ids (walk_rows now.version place xs now.rows)) _ part_splits h.put put few;
    covered = and_right (list_all (is_covered now.version now.slots) xs) (list_all (is_covered now.version now.slots) ys) both_covered;
    room = room_kept now.version xs (length ys) now.rows both_room;
    ends = ap (ledger_of now.version now.slots) (sym (state_append now.version xs ys now.rows) ∙ ap (λ (ts : List (Option Transaction)). state_after now.version ts now.rows) (sym split)) ∙ h.ends;
  })

-- no transaction is left
pub walk_done : (ids : Option (List ℕ)) (txs : List (Option Transaction)) (place : ℕ) (now last : Ledger) {a b : Desk} {m : ℕ} {whole : List ℕ} (most : ℕ) → txs ≡ [] → IsWalking ids txs place now last a b m whole → m ≤ most → Puts a b most whole
walk_done ids txs place now last most e h few = all_done most (ap (λ (ts : List (Option Transaction)). postings_text ids (walk_rows now.version place ts now.rows)) e) h.put few

pub walk_ends : (ids : Option (List ℕ)) (txs : List (Option Transaction)) (place : ℕ) (now last : Ledger) {a b : Desk} {m : ℕ} {whole : List ℕ} → txs ≡ [] → IsWalking ids txs place now last a b m whole → now ≡ last
walk_ends ids txs place now last e h = ap (λ (ts : List (Option Transaction)). ledger_of now.version now.slots (state_after now.version ts now.rows)) (sym e) ∙ h.ends

-- ---- the texts of a batch

-- of a batch the texts are left that these bytes begin with, of which there are n
pub record InBatch (ids : Option (List ℕ)) (place n : ℕ) (bytes : List ℕ) (now last : Ledger) (a b : Desk) (most : ℕ) (whole : List ℕ) : Type 0 where
  pub left : List (List ℕ)
  pub reads : list_at text_at n bytes ≡ Some (left, [])
  pub walks : IsWalking ids (map transaction_of left) place now last a b most whole

pub batch_begun : (ids : Option (List ℕ)) (place count : ℕ) (rest payload : List ℕ) (now : Ledger) {a : Desk} (most : ℕ) → IsReady a → AreTextsOf count rest payload
    → are_covered now.version now.slots (transactions_in payload) ≡ true → HasRoom now.version (length (transactions_in payload)) now.rows
    → InBatch ids place count rest now (ledger_of now.version now.slots (state_after now.version (transactions_in payload) now.rows)) a a most (postings_text ids (walk_rows now.version place (transactions_in payload) now.rows))
batch_begun ids place count rest payload now {a} most ready t covered room = record {
  left = t.texts;
  reads = t.reads;
  walks = subst (λ (ts : List (Option Transaction)). IsWalking ids ts place now (ledger_of now.version now.slots (state_after now.version (transactions_in payload) now.rows)) a a most (postings_text ids (walk_rows now.version place (transactions_in payload) now.rows)))
      (transactions_are count rest payload t) (walk_begun ids (transactions_in payload) place now most ready covered room);
}

module _ (ids : Option (List ℕ)) (place k n : ℕ) (bytes new text : List ℕ) (now last : Ledger) {a b : Desk} {m : ℕ} {whole : List ℕ}
    (some : k ≡ suc n) (h : InBatch ids place k bytes now last a b m whole) (first : Some (text, new) ≡ text_at bytes) (t : Option Transaction) (reads : t ≡ transaction_of text) where
  next : IsNextText n bytes h.left
  next = next_text_is n bytes h.left (ap (λ (j : ℕ). list_at text_at j bytes) (sym some) ∙ h.reads)

  rest_is : next.rest ≡ new
  rest_is = ap (λ (o : Option (List ℕ × List ℕ)). (unwrap_or o ([], [])).1) (sym next.first ∙ sym first)

  left_is : map transaction_of h.left ≡ t ∷ map transaction_of next.more
  left_is =
      let same : next.text ≡ text = ap (λ (o : Option (List ℕ × List ℕ)). (unwrap_or o ([], [])).0) (sym next.first ∙ sym first) in
      ap (map transaction_of) next.left_is ∙ (λ i. transaction_of (same i) ∷ map transaction_of next.more) ∙ ap (λ (u : Option Transaction). u ∷ map transaction_of next.more) (sym reads)

  walking : IsWalking ids (t ∷ map transaction_of next.more) place now last a b m whole
  walking = subst (λ (ts : List (Option Transaction)). IsWalking ids ts place now last a b m whole) left_is h.walks

  pub text_covered : is_covered now.version now.slots t ≡ true
  text_covered = one_covered ids t (map transaction_of next.more) place now last walking

  pub text_room : HasRoom now.version 1 now.rows
  text_room = one_room ids t (map transaction_of next.more) place now last walking

  pub text_put : {c : Desk} {j : ℕ} (most place' : ℕ) (after : Ledger) → place' ≡ place + 1 → after ≡ after_of now t → Puts b c j (postings_text ids (rows_of place now.version now.rows t)) → m + j ≤ most → InBatch ids place' n new after last a c most whole
  text_put {c} {j} most place' after e f put few = record {
    left = next.more;
    reads = ap (list_at text_at n) (sym rest_is) ∙ next.others;
    walks = subst (λ (i : ℕ). IsWalking ids (map transaction_of next.more) i after last a c most whole) (sym e) (one_put ids t (map transaction_of next.more) place now last walking most after f put few);
  }

none_some : {X : Type 0} (x : X) → None ≡ Some x → ⊥
none_some x e = cc

pub text_missing : (ids : Option (List ℕ)) (place k n : ℕ) (bytes : List ℕ) (now last : Ledger) {a b : Desk} {m : ℕ} {whole : List ℕ}
    → k ≡ suc n → InBatch ids place k bytes now last a b m whole → None ≡ text_at bytes → ⊥
text_missing ids place k n bytes now last some h e =
    let next = next_text_is n bytes h.left (ap (λ (j : ℕ). list_at text_at j bytes) (sym some) ∙ h.reads) in none_some (next.text, next.rest) (e ∙ next.first)

none_left : (n : ℕ) (bytes : List ℕ) (left : List (List ℕ)) → n ≡ 0 → list_at text_at n bytes ≡ Some (left, []) → map transaction_of left ≡ []
none_left n bytes left none reads = ap (map transaction_of) (no_texts bytes left (ap (λ (j : ℕ). list_at text_at j bytes) (sym none) ∙ reads))

pub batch_done : (ids : Option (List ℕ)) (place k : ℕ) (bytes : List ℕ) (now last : Ledger) {a b : Desk} {m : ℕ} {whole : List ℕ} (most : ℕ) → k ≡ 0 → InBatch ids place k bytes now last a b m whole → m ≤ most → Puts a b most whole
batch_done ids place k bytes now last most none h few = walk_done ids (map transaction_of h.left) place now last most (none_left k bytes h.left none h.reads) h.walks few

pub batch_ends : (ids : Option (List ℕ)) (place k : ℕ) (bytes : List ℕ) (now last : Ledger) {a b : Desk} {m : ℕ} {whole : List ℕ} → k ≡ 0 → InBatch ids place k bytes now last a b m whole → now ≡ last
batch_ends ids place k bytes now last none h = walk_ends ids (map transaction_of h.left) place now last (none_left k bytes h.left none h.reads) h.walks

-- the same at a place by another name
pub batch_here : (ids : Option (List ℕ)) (place place' k n : ℕ) (bytes : List ℕ) (now last : Ledger) {a b : Desk} {m : ℕ} {whole : List ℕ}
    → place ≡ place' → k ≡ n → InBatch ids place k bytes now last a b m whole → InBatch ids place' n bytes now last a b m whole
batch_here ids place place' k n bytes now last {a} {b} {m} {whole} e f h = subst (λ (x : ℕ × ℕ). InBatch ids x.0 x.1 bytes now last a b m whole) (λ i. (e i, f i)) h

-- the same transactions by other words
pub walk_same : (ids : Option (List ℕ)) (txs txs' : List (Option Transaction)) (place : ℕ) (now last : Ledger) {a b : Desk} {m : ℕ} {whole : List ℕ} → txs ≡ txs' → IsWalking ids txs place now last a b m whole → IsWalking ids txs' place now last a b m whole
walk_same ids txs txs' place now last {a} {b} {m} {whole} e h = subst (λ (ts : List (Option Transaction)). IsWalking ids ts place now last a b m whole) e h
