-- The rows before each place, as words.
use Rattle.std.proofs.Common.{◌≡◌, ⊎_elim, ℕ, zero, suc, ◌+◌, ◌<◌, ◌≤◌, List, [], ◌∷◌, length, take, get_or, Bool, true, false, cond, eqb, Option, None, Some, is_some, refl, sym, ap, ◌∙◌, subst, arith, take_all, length-take, add-one}
use mathlib.Core.Logic.{dite}
use native.Mathlib.Decide.{dec_le}
use Rattle.std.specs.List.{list_any, list_all}
use Rattle.std.proofs.lemmas.Bool.{and_parts, or_cases, both_ways, eqb-true}
use Rattle.bk_base.specs.declared.genesis.Row.{Row}
use Rattle.bk_base.specs.declared.version.Version.{Version}
use Rattle.bk_base.specs.declared.version.Version.TheVariants.{One, Two}
use Rattle.bk_base.specs.Genesis.{ids_of}
use Rattle.bk_tx.specs.declared.declared.Declared.{Declared}
use Rattle.bk_tx.specs.Transaction.{Transaction}
use Rattle.bk_tx.specs.Access.{declares}
use Rattle.bk_rules.specs.declared.account.Account.{Account}
use Rattle.bk_rules.specs.Rows.{IsLedger, account_of, account_at, outcome_of}
use Rattle.bk_rules.specs.Fold.{state_after, rows_before, seq_end, HasRoom}
use Rattle.bk_rules.specs.Laws.{AgreeOn}
use Rattle.bk_rules.specs.Ledger.{has_slot, is_covered, are_covered, numbers_of, shown_by}
use Rattle.bk_rules.proofs.Folding.{ledger_kept_by_fold, ids_kept_by_fold, rows_of_place, all_at}
use Rattle.bk_rules.proofs.Kept.{rule_of_rows, known_by_ids}
use Rattle.bk_rules.proofs.Places.{position_is}
use Rattle.bk_rules.proofs.Room.{room_kept, room_weaker}
use Rattle.bk_rules.proofs.RowLemmas.{look_first}
use Rattle.bk_rules.proofs.Slots.{shown_of}
use Rattle.bk_conflicts.specs.SceneOf.{word_by, accounts_by, account_from, accounts_after}
use Rattle.bk_conflicts.specs.Words.{slot_of}
use Rattle.bk_conflicts.proofs.Said.{said_is}

-- ---- sequence numbers are in range

low_seq : (v : Version) (n : ℕ) (rows : List Row) → HasRoom v n rows → (id : ℕ) (a : Account) → account_at rows id ≡ Some a → a.seq < seq_end v
low_seq v n [] room id a e = absurd (let z : None ≡ Some a = e in cc)
low_seq v n (r ∷ rows) room id a e = at (eqb r.id id) (sym (look_first r rows id) ∙ e) (low_seq v n rows room.1 id a)
  where
    at : (b : Bool) → cond b (Some (account_of r)) (account_at rows id) ≡ Some a → (account_at rows id ≡ Some a → a.seq < seq_end v) → a.seq < seq_end v
    at true e ih = let same : account_of r ≡ a = cc in let s : r.seq ≡ a.seq = ap (λ (x : Account). x.seq) same in let low = room.0 in omega arith
    at false e ih = ih e

rows_room : (v : Version) (txs : List (Option Transaction)) (p : ℕ) (rows : List Row) → HasRoom v (length txs) rows → HasRoom v 0 (rows_before v txs p rows)
rows_room v txs p rows room = room_kept v (take p txs) 0 rows (room_weaker v (length txs) (length (take p txs) + 0) rows (let e = length-take p txs in omega arith) room)

-- ---- which accounts are there

pub some_slot : (slots : List ℕ) (id : ℕ) (o : Option ℕ) → slot_of slots id ≡ o → has_slot slots id ≡ is_some o
some_slot slots id o e = sym (position_is (λ (i : ℕ). eqb i id) slots) ∙ ap is_some e

pub known_there : (txs : List (Option Transaction)) (p : ℕ) (rows : List Row) (slots : List ℕ) (id : ℕ) (o : Option ℕ) → IsLedger rows → ids_of rows ≡ slots → slot_of slots id ≡ o → is_some (account_at (rows_before One txs p rows) id) ≡ is_some o
known_there txs p rows slots id o l all e = known_by_ids (rows_before One txs p rows) id
    ∙ (ap (λ (ids : List ℕ). list_any (λ (i : ℕ). eqb i id) ids) (ids_kept_by_fold (take p txs) rows l ∙ all)
    ∙ some_slot slots id o e)

-- ---- what the words before a place say

-- of a slot
pub shown_there : (v : Version) (slots : List ℕ) (txs : List (Option Transaction)) (p : ℕ) (rows : List Row) → IsLedger rows → HasRoom v (length txs) rows → (v ≡ One → ids_of rows ≡ slots)
    → (id a : ℕ) → slot_of slots id ≡ Some a → shown_by v (numbers_of (account_at (rows_before v txs p rows) id)) ≡ account_at (rows_before v txs p rows) id
shown_there v slots txs p rows l room all id a e =
    shown_of v (account_at (rows_before v txs p rows) id) (λ x is. low_seq v 0 (rows_before v txs p rows) (rows_room v txs p rows room) id x is)
    (λ one. subst (λ (u : Version). is_some (account_at (rows_before u txs p rows) id) ≡ true) (sym one) (known_there txs p rows slots id (Some a) l (all one) e))

pub said_there : (v : Version) (slots : List ℕ) (txs : List (Option Transaction)) (p : ℕ) (rows : List Row) → IsLedger rows → HasRoom v (length txs) rows → (v ≡ One → ids_of rows ≡ slots)
    → (id a : ℕ) → slot_of slots id ≡ Some a → accounts_by v slots (word_by slots (account_at (rows_before v txs p rows))) id ≡ account_at (rows_before v txs p rows) id
said_there v slots txs p rows l room all id a e = said_is v slots (account_at (rows_before v txs p rows)) id a e ∙ shown_there v slots txs p rows l room all id a e

pub none_known : (o : Option Account) → is_some o ≡ false → None ≡ o
none_known None e = refl
none_known (Some a) e = absurd (both_ways _ e refl)

pub declared_have : (slots : List ℕ) (id : ℕ) (ds : List Declared) → list_all (λ (d : Declared). has_slot slots d.id) ds ≡ true → declares ds id ≡ true → has_slot slots id ≡ true
declared_have slots id [] all e = absurd (both_ways _ refl e)
declared_have slots id (d ∷ ds) all e = let both = and_parts (has_slot slots d.id) (list_all (λ (d : Declared). has_slot slots d.id) ds) all in
    ⊎_elim (λ h. subst (λ (k : ℕ). has_slot slots k ≡ true) (eqb-true d.id id h) both.0) (λ h. declared_have slots id ds both.1 h) (or_cases (eqb d.id id) (declares ds id) e)

-- of an account without a slot, which is not there
said_nowhere : (v : Version) (slots : List ℕ) (txs : List (Option Transaction)) (p : ℕ) (rows : List Row) → IsLedger rows → (v ≡ One → ids_of rows ≡ slots)
    → (t : Transaction) → is_covered v slots (Some t) ≡ true → (id : ℕ) → declares t.declared id ≡ true → slot_of slots id ≡ None → None ≡ account_at (rows_before v txs p rows) id
said_nowhere One slots txs p rows l all t covered id d e = none_known (account_at (rows_before One txs p rows) id) (known_there txs p rows slots id None l (all refl) e)
said_nowhere Two slots txs p rows l all t covered id d e = absurd (both_ways _ (some_slot slots id None e) (declared_have slots id t.declared covered d))

-- past the end there are no transactions
pub nothing_past : (txs : List (Option Transaction)) (p : ℕ) → length txs ≤ p → get_or txs p None ≡ None
nothing_past [] p l = refl
nothing_past (t ∷ txs) zero l = absurd (omega arith)
nothing_past (t ∷ txs) (suc p) l = nothing_past txs p (omega arith)

pub place_inside : (txs : List (Option Transaction)) (p : ℕ) (t : Transaction) → get_or txs p None ≡ Some t → p < length txs
place_inside txs p t e = dite (dec_le (suc p) (length txs)) (λ l. l) (λ n. absurd (let z : None ≡ Some t = sym (nothing_past txs p (omega arith)) ∙ e in cc))

-- of what the transaction of the place declares
pub said_agrees : (v : Version) (slots : List ℕ) (txs : List (Option Transaction)) (p : ℕ) (rows : List Row) → IsLedger rows → HasRoom v (length txs) rows → (v ≡ One → ids_of rows ≡ slots) → are_covered v slots txs ≡ true
    → (t : Transaction) → get_or txs p None ≡ Some t → AgreeOn t (account_at (rows_before v txs p rows)) (accounts_by v slots (word_by slots (account_at (rows_before v txs p rows))))
said_agrees v slots txs p rows l room all covered t here id d = at (slot_of slots id) refl
  where
    at : (o : Option ℕ) → slot_of slots id ≡ o → account_at (rows_before v txs p rows) id ≡ accounts_by v slots (word_by slots (account_at (rows_before v txs p rows))) id
    at None e = sym (said_nowhere v slots txs p rows l all t (ap (is_covered v slots) (sym here) ∙ all_at (is_covered v slots) txs covered p (place_inside txs p t here)) id d e)
        ∙ sym (ap (account_from v (word_by slots (account_at (rows_before v txs p rows)))) e)
    at (Some a) e = sym (said_there v slots txs p rows l room all id a e)

-- ---- one place further

pub rows_next : (v : Version) (txs : List (Option Transaction)) (p : ℕ) (rows : List Row) → IsLedger rows → (id : ℕ) → account_at (rows_before v txs (suc p) rows) id ≡ accounts_after v (get_or txs p None) (account_at (rows_before v txs p rows)) id
rows_next v txs p rows l id = dite (dec_le (suc p) (length txs))
    (λ low. ap (λ (k : ℕ). account_at (rows_before v txs k rows) id) (sym (add-one p)) ∙ (ap (λ (rs : List Row). account_at rs id) (rows_of_place v txs p rows low) ∙ settled (get_or txs p None)))
    (λ high. let past : length txs ≤ p = omega arith in
    ap (λ (xs : List (Option Transaction)). account_at (state_after v xs rows) id) (take_all (suc p) txs (omega arith) ∙ sym (take_all p txs past))
    ∙ ap (λ (o : Option Transaction). accounts_after v o (account_at (rows_before v txs p rows)) id) (sym (nothing_past txs p past)))
  where
    settled : (o : Option Transaction) → account_at (outcome_of v o (rows_before v txs p rows)).after id ≡ accounts_after v o (account_at (rows_before v txs p rows)) id
    settled None = refl
    settled (Some t) = rule_of_rows v t (rows_before v txs p rows) id (ledger_kept_by_fold v (take p txs) rows l)
