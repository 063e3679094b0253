-- Words that are the fold's show the fold's rows.
use Rattle.std.proofs.Common.{◌≡◌, ℕ, zero, suc, ◌*◌, ◌<◌, List, [], ◌∷◌, length, take, get_or, true, false, Option, None, Some, option_map, refl, sym, ap, ◌∙◌, arith}
use Rattle.std.specs.Option.{option_and_then}
use Rattle.std.proofs.lemmas.Bool.{false_from_ne_true, both_ways}
use Rattle.std.proofs.lemmas.List.{ext_get_or}
use Rattle.std.proofs.lemmas.Option.{slice_get_past, slice_get-map, slice_get-get_or}
use Rattle.bk_base.specs.declared.genesis.Row.{Row}
use Rattle.bk_base.specs.declared.version.Version.{Version}
use Rattle.bk_base.specs.declared.version.Version.TheVariants.{One, Two}
use Rattle.bk_base.specs.Genesis.{ids_of}
use Rattle.bk_tx.specs.Transaction.{Transaction}
use Rattle.bk_tx.specs.Access.{writes}
use Rattle.bk_rules.specs.declared.account.Account.{Account}
use Rattle.bk_rules.specs.Rows.{IsLedger, account_at}
use Rattle.bk_rules.specs.Fold.{rows_before}
use Rattle.bk_rules.specs.Ledger.{Ledger, is_covered, are_covered, numbers_of, shown_by, rows_shown, in_pairs}
use Rattle.bk_rules.specs.private.Slots.{shown_at}
use Rattle.bk_rules.proofs.Finding.{Rises, index_some, index_none}
use Rattle.bk_rules.proofs.Folding.{ledger_kept_by_fold, all_at}
use Rattle.bk_rules.proofs.Locality.{declares_written}
use Rattle.bk_rules.proofs.Slots.{account_at-shown, ascend-shown}
use Rattle.bk_rules.proofs.Storing.{rows_same}
use Rattle.bk_conflicts.specs.Conflicts.{declared_by}
use Rattle.bk_conflicts.specs.Plan.{PlanValue, IsPlan}
use Rattle.bk_conflicts.specs.SceneOf.{in_words, scene_of, CanRunOn}
use Rattle.bk_conflicts.specs.Words.{slot_of}
use Rattle.bk_conflicts.proofs.Accessed.{slot_there}
use Rattle.bk_conflicts.proofs.Folded.{stays}
use Rattle.bk_conflicts.proofs.Opening.{numbers_by, numbers_long, shows_all, all_there}
use Rattle.bk_conflicts.proofs.Ran.{none_known, known_there, declared_have, some_slot, shown_there, rows_next, place_inside}

-- ---- words two by two

pairs_again : (xs : List Account) → in_pairs (in_words xs) ≡ xs
pairs_again [] = refl
pairs_again (a ∷ xs) = ap (λ (more : List Account). a ∷ more) (pairs_again xs)

words_long : (xs : List Account) → length (in_words xs) ≡ 2 * length xs
words_long [] = refl
words_long (a ∷ xs) = let h = words_long xs in let e : suc (suc (length (in_words xs))) ≡ 2 * suc (length xs) = omega arith in e

-- ---- what numbers show of an id

shown_none : (v : Version) (ids : List ℕ) (numbers : List Account) → Rises ids → length numbers ≡ length ids → (id : ℕ) → slot_of ids id ≡ None → account_at (rows_shown v ids numbers) id ≡ None
shown_none v ids numbers up same id e = account_at-shown v ids numbers up same id
    ∙ (ap (shown_at v numbers) (sym (index_none ids id (sym e)))
    ∙ ap (option_and_then (shown_by v)) (slice_get_past numbers (length ids) (omega arith)))

shown_some : (v : Version) (ids : List ℕ) (f : ℕ → Option Account) → Rises ids → (id a : ℕ) → slot_of ids id ≡ Some a → account_at (rows_shown v ids (numbers_by ids f)) id ≡ shown_by v (numbers_of (f id))
shown_some v ids f up id a e = let here = slot_there ids id a e in
    account_at-shown v ids (numbers_by ids f) up (numbers_long ids f) id
    ∙ (ap (shown_at v (numbers_by ids f)) (sym (index_some ids id a (sym e)))
    ∙ (ap (option_and_then (shown_by v)) (slice_get-map (λ (i : ℕ). numbers_of (f i)) ids a ∙ ap (option_map (λ (i : ℕ). numbers_of (f i))) (slice_get-get_or ids a 0 here.inside))
    ∙ ap (λ (k : ℕ). shown_by v (numbers_of (f k))) here.id_is))

-- ---- an account without a slot never comes to be

pub covered_at : (v : Version) (slots : List ℕ) (txs : List (Option Transaction)) (p : ℕ) → are_covered v slots txs ≡ true → (t : Transaction) → get_or txs p None ≡ Some t → is_covered v slots (Some t) ≡ true
covered_at v slots txs p covered t here = ap (is_covered v slots) (sym here) ∙ all_at (is_covered v slots) txs covered p (place_inside txs p t here)

unwritten : (slots : List ℕ) (txs : List (Option Transaction)) (p id : ℕ) → are_covered Two slots txs ≡ true → slot_of slots id ≡ None → (o : Option Transaction) → get_or txs p None ≡ o → writes (declared_by o) id ≡ false
unwritten slots txs p id covered e None here = refl
unwritten slots txs p id covered e (Some t) here = false_from_ne_true (writes t.declared id)
    (λ w. both_ways _ (some_slot slots id None e) (declared_have slots id t.declared (covered_at Two slots txs p covered t here) (declares_written t.declared id w)))

never_there : (slots : List ℕ) (txs : List (Option Transaction)) (rows : List Row) → IsLedger rows → are_covered Two slots txs ≡ true → (id : ℕ) → slot_of slots id ≡ None → account_at rows id ≡ None → (p : ℕ) → account_at (rows_before Two txs p rows) id ≡ None
never_there slots txs rows l covered id e start zero = start
never_there slots txs rows l covered id e start (suc p) = rows_next Two txs p rows l id
    ∙ (stays Two (get_or txs p None) (account_at (rows_before Two txs p rows)) id (unwritten slots txs p id covered e (get_or txs p None) refl)
    ∙ never_there slots txs rows l covered id e start p)

absent_at : (v : Version) (slots : List ℕ) (txs : List (Option Transaction)) (p : ℕ) (rows : List Row) → IsLedger rows → are_covered v slots txs ≡ true → (v ≡ One → ids_of rows ≡ slots) → (id : ℕ) → slot_of slots id ≡ None → account_at rows id ≡ None → account_at (rows_before v txs p rows) id ≡ None
absent_at One slots txs p rows l covered all id e start = sym (none_known (account_at (rows_before One txs p rows) id) (known_there txs p rows slots id None l (all refl) e))
absent_at Two slots txs p rows l covered all id e start = never_there slots txs rows l covered id e start p

-- ---- the rows before a place

pub numbers_show : (plan : PlanValue) (ledger : Ledger) (p : ℕ) → IsPlan plan → CanRunOn plan ledger
    → rows_shown plan.version plan.ids (numbers_by plan.ids (account_at (rows_before plan.version plan.txs p ledger.rows))) ≡ rows_before plan.version plan.txs p ledger.rows
numbers_show plan ledger p h r = rows_same (rows_shown plan.version plan.ids (numbers_by plan.ids (account_at (rows_before plan.version plan.txs p ledger.rows)))) (rows_before plan.version plan.txs p ledger.rows)
    (ascend-shown plan.version plan.ids (numbers_by plan.ids (account_at (rows_before plan.version plan.txs p ledger.rows))) h.ids_ascend)
    (ledger_kept_by_fold plan.version (take p plan.txs) ledger.rows r.is_ledger).ascending
    (λ id. at id (slot_of plan.ids id) refl)
  where
    at : (id : ℕ) (o : Option ℕ) → slot_of plan.ids id ≡ o → account_at (rows_shown plan.version plan.ids (numbers_by plan.ids (account_at (rows_before plan.version plan.txs p ledger.rows)))) id ≡ account_at (rows_before plan.version plan.txs p ledger.rows) id
    at id None e = shown_none plan.version plan.ids (numbers_by plan.ids (account_at (rows_before plan.version plan.txs p ledger.rows))) h.ids_ascend (numbers_long plan.ids (account_at (rows_before plan.version plan.txs p ledger.rows))) id e
        ∙ sym (absent_at plan.version plan.ids plan.txs p ledger.rows r.is_ledger h.covered (all_there plan ledger r) id e
        (ap (λ (rows : List Row). account_at rows id) (sym (shows_all plan ledger r))
        ∙ shown_none plan.version plan.ids (numbers_by plan.ids (account_at ledger.rows)) h.ids_ascend (numbers_long plan.ids (account_at ledger.rows)) id e))
    at id (Some a) e = shown_some plan.version plan.ids (account_at (rows_before plan.version plan.txs p ledger.rows)) h.ids_ascend id a e
        ∙ shown_there plan.version plan.ids plan.txs p ledger.rows r.is_ledger r.has_room (all_there plan ledger r) id a e

pub words_show : (plan : PlanValue) (ledger : Ledger) (p : ℕ) (words : List ℕ) → IsPlan plan → CanRunOn plan ledger → length words ≡ 2 * length plan.ids
    → ((x : ℕ) → x < length words → get_or words x 0 ≡ (scene_of plan ledger).fold p x) → rows_shown plan.version plan.ids (in_pairs words) ≡ rows_before plan.version plan.txs p ledger.rows
words_show plan ledger p words h r long each =
    ap (λ (ws : List ℕ). rows_shown plan.version plan.ids (in_pairs ws)) same
    ∙ (ap (rows_shown plan.version plan.ids) (pairs_again (numbers_by plan.ids (account_at (rows_before plan.version plan.txs p ledger.rows)))) ∙ numbers_show plan ledger p h r)
  where
    same : words ≡ in_words (numbers_by plan.ids (account_at (rows_before plan.version plan.txs p ledger.rows)))
    same = ext_get_or 0 words (in_words (numbers_by plan.ids (account_at (rows_before plan.version plan.txs p ledger.rows))))
        (let a = words_long (numbers_by plan.ids (account_at (rows_before plan.version plan.txs p ledger.rows))) in
        let b = numbers_long plan.ids (account_at (rows_before plan.version plan.txs p ledger.rows)) in omega arith) each
