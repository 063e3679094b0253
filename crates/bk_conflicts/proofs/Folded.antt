-- A place changes what it writes alone, by what it reads alone.
use Rattle.std.proofs.Common.{◌≡◌, ◌⊎◌, inl, inr, ℕ, suc, ◌+◌, ◌*◌, ◌<◌, List, length, get_or, true, false, Option, None, Some, refl, sym, ap, ◌∙◌, subst, arith}
use Rattle.std.proofs.lemmas.Bool.{false_from_ne_true}
use Rattle.bk_base.specs.declared.version.Version.{Version}
use Rattle.bk_base.specs.declared.version.Version.TheVariants.{One}
use Rattle.bk_base.specs.Genesis.{ids_of}
use Rattle.bk_base.specs.declared.genesis.Row.{Row}
use Rattle.bk_tx.specs.Transaction.{Transaction}
use Rattle.bk_tx.specs.Access.{declares, writes}
use Rattle.bk_rules.specs.declared.receipt.Status.{Status}
use Rattle.bk_rules.specs.declared.receipt.Status.TheVariants as outcome
use Rattle.bk_rules.specs.Rule.{Accounts}
use Rattle.bk_rules.specs.Rows.{IsLedger, account_at}
use Rattle.bk_rules.specs.Fold.{rows_before, HasRoom}
use Rattle.bk_rules.specs.Ledger.{Ledger, are_covered}
use Rattle.bk_rules.specs.Numbers.{number_of}
use Rattle.bk_rules.proofs.Finding.{Rises, stands_at}
use Rattle.bk_rules.proofs.Locality.{changes_writable_alone, declares_written}
use Rattle.bk_conflicts.specs.Conflicts.{declared_by, declared_at}
use Rattle.bk_conflicts.specs.Plan.{PlanValue, IsPlan}
use Rattle.bk_conflicts.specs.Scene.{IsFolded}
use Rattle.bk_conflicts.specs.SceneOf.{reads_word, writes_word, word_by, accounts_by, accounts_after, status_on, tx_at, scene_of, CanRunOn}
use Rattle.bk_conflicts.proofs.Accessed.{slot_there}
use Rattle.bk_conflicts.proofs.Opening.{all_there}
use Rattle.bk_conflicts.proofs.Ran.{rows_next, said_there, said_agrees}
use Rattle.bk_conflicts.proofs.Said.{word_same, said_same, DoesSame, does_same}
use Rattle.bk_conflicts.proofs.WordsOf.{one_slot, word_found, word_there}

-- who writes a word of a slot writes its account
written_id : (slots : List ℕ) → Rises slots → (txs : List (Option Transaction)) (p x a : ℕ) → a < length slots → (x ≡ 2 * a) ⊎ (x ≡ 2 * a + 1) → writes_word slots txs p x ≡ true → writes (declared_at txs p) (get_or slots a 0) ≡ true
written_id slots up txs p x a l e w = let f = word_found (λ b. b) slots x (declared_at txs p) w in
    let same : f.0 ≡ a = one_slot x f.0 a f.2.one_of e in
    subst (λ (k : ℕ). writes (declared_at txs p) k ≡ true) (sym f.2.stands.id_is ∙ ap (λ (k : ℕ). get_or slots k 0) same) f.3

-- an account that is not written stays
pub stays : (v : Version) (o : Option Transaction) (A : Accounts) (id : ℕ) → writes (declared_by o) id ≡ false → accounts_after v o A id ≡ A id
stays v None A id e = refl
stays v (Some t) A id e = changes_writable_alone v t A id (A id) e

pub kept : (v : Version) (slots : List ℕ) (txs : List (Option Transaction)) (p : ℕ) (rows : List Row) → Rises slots → IsLedger rows → (x : ℕ) → (writes_word slots txs p x ≡ true → ⊥)
    → word_by slots (account_at (rows_before v txs (suc p) rows)) x ≡ word_by slots (account_at (rows_before v txs p rows)) x
kept v slots txs p rows up ledger x n = word_same slots (account_at (rows_before v txs (suc p) rows)) (account_at (rows_before v txs p rows)) x (λ a l e. rows_next v txs p rows ledger (get_or slots a 0)
    ∙ stays v (get_or txs p None) (account_at (rows_before v txs p rows)) (get_or slots a 0)
    (false_from_ne_true (writes (declared_at txs p) (get_or slots a 0)) (λ w. n (word_there (λ b. b) slots up x a (get_or slots a 0) (record { stands = record { inside = l; id_is = refl }; one_of = e }) (declared_at txs p) w))))

pub changed : (v : Version) (slots : List ℕ) (txs : List (Option Transaction)) (p : ℕ) (rows : List Row) → Rises slots → IsLedger rows → HasRoom v (length txs) rows → (v ≡ One → ids_of rows ≡ slots) → are_covered v slots txs ≡ true → (x : ℕ)
    → word_by slots (account_at (rows_before v txs (suc p) rows)) x ≡ word_by slots (accounts_after v (get_or txs p None) (accounts_by v slots (word_by slots (account_at (rows_before v txs p rows))))) x
changed v slots txs p rows up ledger room all covered x = word_same slots (account_at (rows_before v txs (suc p) rows)) (accounts_after v (get_or txs p None) (accounts_by v slots (word_by slots (account_at (rows_before v txs p rows))))) x (λ a l e. rows_next v txs p rows ledger (get_or slots a 0)
    ∙ (does_same v (get_or txs p None) (account_at (rows_before v txs p rows)) (accounts_by v slots (word_by slots (account_at (rows_before v txs p rows))))
    (λ t here. said_agrees v slots txs p rows ledger room all covered t here)).after (get_or slots a 0)
    (sym (said_there v slots txs p rows ledger room all (get_or slots a 0) a (sym (stands_at slots up (get_or slots a 0) a l refl)))))

-- ---- by what it reads alone

-- words that agree where a place reads say the accounts that it declares alike
said_alike : (v : Version) (slots : List ℕ) (txs : List (Option Transaction)) (p : ℕ) (f g : ℕ → ℕ) → Rises slots → ((x : ℕ) → reads_word slots txs p x ≡ true → f x ≡ g x) → (id : ℕ) → declares (declared_at txs p) id ≡ true → accounts_by v slots f id ≡ accounts_by v slots g id
said_alike v slots txs p f g up h id d = said_same v slots f g id (λ a e. let s = slot_there slots id a e in (
  h (2 * a) (word_there (λ b. true) slots up (2 * a) a id (record { stands = s; one_of = inl refl }) (declared_at txs p) d),
  h (2 * a + 1) (word_there (λ b. true) slots up (2 * a + 1) a id (record { stands = s; one_of = inr refl }) (declared_at txs p) d),
))

pub alike : (v : Version) (slots : List ℕ) (txs : List (Option Transaction)) (p : ℕ) (f g : ℕ → ℕ) → Rises slots → ((x : ℕ) → reads_word slots txs p x ≡ true → f x ≡ g x) → DoesSame v (get_or txs p None) (accounts_by v slots f) (accounts_by v slots g)
alike v slots txs p f g up h = does_same v (get_or txs p None) (accounts_by v slots f) (accounts_by v slots g)
    (λ t here id d. said_alike v slots txs p f g up h id (subst (λ (o : Option Transaction). declares (declared_by o) id ≡ true) (sym here) d))

pub local : (v : Version) (slots : List ℕ) (txs : List (Option Transaction)) (p : ℕ) (f g : ℕ → ℕ) → Rises slots → ((x : ℕ) → reads_word slots txs p x ≡ true → f x ≡ g x) → (x : ℕ) → writes_word slots txs p x ≡ true
    → word_by slots (accounts_after v (get_or txs p None) (accounts_by v slots f)) x ≡ word_by slots (accounts_after v (get_or txs p None) (accounts_by v slots g)) x
local v slots txs p f g up h x w = word_same slots (accounts_after v (get_or txs p None) (accounts_by v slots f)) (accounts_after v (get_or txs p None) (accounts_by v slots g)) x (λ a l e. (alike v slots txs p f g up h).after (get_or slots a 0)
    (said_alike v slots txs p f g up h (get_or slots a 0) (declares_written (declared_at txs p) (get_or slots a 0) (written_id slots up txs p x a l e w))))

few_statuses : (s : Status) → number_of s < 7
few_statuses outcome.Ok = omega arith
few_statuses outcome.Malformed = omega arith
few_statuses outcome.Undeclared = omega arith
few_statuses outcome.Unknown = omega arith
few_statuses outcome.Stale = omega arith
few_statuses outcome.Guard = omega arith
few_statuses outcome.Funds = omega arith

pub is_folded : (plan : PlanValue) (ledger : Ledger) → IsPlan plan → CanRunOn plan ledger → IsFolded (scene_of plan ledger)
is_folded plan ledger h r = record {
  kept = λ p x n. kept plan.version plan.ids plan.txs p ledger.rows h.ids_ascend r.is_ledger x n;
  changed = λ p x w. changed plan.version plan.ids plan.txs p ledger.rows h.ids_ascend r.is_ledger r.has_room (all_there plan ledger r) h.covered x;
  local = λ p f g same x w. local plan.version plan.ids plan.txs p f g h.ids_ascend same x w;
  statuses = λ p f g same. ap number_of (alike plan.version plan.ids plan.txs p f g h.ids_ascend same).status;
  moves = λ p f g same. (alike plan.version plan.ids plan.txs p f g h.ids_ascend same).moved;
  seven = λ p f. few_statuses (status_on plan.version (tx_at plan p) (accounts_by plan.version plan.ids f));
}
